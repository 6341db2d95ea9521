-- A violation of a log is explained by what the searches of the code find before it.
use Rattle.std.proofs.Common.{◌≡◌, ℕ, ◌+◌, ◌<◌, ◌==◌, false, Option, Some, None, MatchOption, Result, Ok, Err, IfOk, ◌∷◌, ◌++◌, length, take, drop, All, get_or, refl, sym, ap, subst, ◌∙◌, arith}
use Rattle.std.specs.Prelude.{find}
use Rattle.std.specs.Option.{option_and_then}
use Rattle.bsan_ids.specs.declared.numbers.Tag.{Tag}
use Rattle.perm_table.specs.declared.Perm.{Perm}
use Rattle.eager_tree.specs.declared.violation.Violation.{Violation}
use Rattle.eager_tree.specs.declared.violation.Violation.TheVariants.{Stranger, Freed, OutOfRange}
use Rattle.history.specs.declared.entry.Entry.{Entry}
use Rattle.history.specs.declared.entry.Reply.{Reply}
use Rattle.history.specs.declared.entry.Verdict.{Verdict}
use Rattle.history.specs.declared.entry.Verdict.TheVariants.{Violated}
use Rattle.history.specs.declared.log.AllocLog.{AllocLog}
use Rattle.history.specs.Histories.{IsHistory, is_make_step}
use Rattle.history.specs.Objects.{Made, unmade}
use Rattle.history.specs.Records.{violates}
use Rattle.explain.specs.declared.explained.Explained.{Explained}
use Rattle.explain.specs.Explanations.{AreCauses, IsChanger, IsExplainedBy, IsFreer, IsMaker, IsMaking, IsTold, perm_in}
use Rattle.explain.specs.Replays.{frees, grown_in}
use Rattle.explain.specs.Searches.{IsFoundFor, perm_at}
use Rattle.explain.proofs.Advancing.{StandsOpen}
use Rattle.explain.proofs.Stepping.{IsQuiet, object_at, opens_at, reply_at}
use Rattle.explain.proofs.Telling.{IsIn, Tells, tells, named_node, named_perm}
use Rattle.explain.proofs.Causing.{IsStamp, TagsIn, tags_at, maker_told, freer_told, freed_told, making_told}
use Rattle.explain.proofs.Changing.{split_at}

pub if_ok_map : {A E : Type 0} (r : Result A E) (P Q : A → Type 0) → ((x : A) → P x → Q x) → IfOk r P → IfOk r Q
if_ok_map (Ok x) P Q f h = f x h
if_ok_map (Err e) P Q f h = tt

pub quiet_before : (log : AllocLog) (at : ℕ) → IsHistory log.number.0 log.entries → at < length log.entries → All (λ e. violates e ≡ false) (take at log.entries) → IsQuiet log.number.0 log.entries at
quiet_before log at history lt first = record { history = history; inside = omega arith; quiet = first }

module _ (log : AllocLog) (at : ℕ) (lt : at < length log.entries) (q : IsQuiet log.number.0 log.entries at) where
  told_at : (v : Entry) (w : Violation) → get_or log.entries at v ≡ v → v.reply.verdict ≡ Violated w → Tells (object_at log.number.0 log.entries at).made w
  told_at v w here is =
      let e : Entry = get_or log.entries at v in
      let verdict : e.reply.verdict ≡ Violated w = ap (λ (x : Entry). x.reply.verdict) here ∙ is in
      tells (object_at log.number.0 log.entries at) e.request e.stamp w
      (sym (ap (λ (r : Reply). r.verdict) (reply_at (unmade log.number.0) log.entries at v lt q.history.replies)) ∙ verdict)

  -- the node that is named was made by an entry, and has the state that is named
  record IsKnown (x : Tag) (offset : ℕ) (perm : Perm) : Type 0 where
    stamp : IsStamp log.entries at x.0
    perm_is : perm_at log x offset at ≡ Some perm

  known_in : (made : Option Made) (x : Tag) (offset : ℕ) (perm : Perm) → (object_at log.number.0 log.entries at).made ≡ made → StandsOpen made → TagsIn (IsStamp log.entries at) (grown_in made) → MatchOption made ⊥ (λ m. IsIn m.tree.nodes x offset perm) → IsKnown x offset perm
  known_in None x offset perm is opened tags there = absurd there
  known_in (Some m) x offset perm is opened tags there = record {
    stamp = named_node m.tree.nodes x offset perm (IsStamp log.entries at) tags there;
    perm_is = ap (λ (o : Option Made). option_and_then (λ (n : Made). perm_in n.tree x offset) o) is ∙ named_perm m.tree opened.tree x offset perm there;
  }

  known : (v : Entry) (x : Tag) (offset : ℕ) (perm : Perm) → MatchOption (object_at log.number.0 log.entries at).made ⊥ (λ m. IsIn m.tree.nodes x offset perm) → IsKnown x offset perm
  known v x offset perm there =
      known_in (object_at log.number.0 log.entries at).made x offset perm refl (opens_at log.number.0 log.entries at q v at (omega arith)) (tags_at log.number.0 log.entries at q v at (omega arith)) there

  -- the state that a violation names is the node's
  pub denied_perm : (v : Entry) (x : Tag) (offset : ℕ) (perm : Perm) (w : Violation) → get_or log.entries at v ≡ v → v.reply.verdict ≡ Violated w → (Tells (object_at log.number.0 log.entries at).made w → MatchOption (object_at log.number.0 log.entries at).made ⊥ (λ m. IsIn m.tree.nodes x offset perm)) → perm_at log x offset at ≡ Some perm
  denied_perm v x offset perm w here is named = (known v x offset perm (named (told_at v w here is))).perm_is

  changer_told : (told : Option Entry) (x : Tag) (offset : ℕ) (perm : Perm) → perm_at log x offset at ≡ Some perm → MatchOption told (perm_at log x offset at ≡ None) (IsChanger log.number.0 (take at log.entries) x offset) → IsTold told (IsChanger log.number.0 (take at log.entries) x offset)
  changer_told None x offset perm is none = let never : Some perm ≡ None = sym is ∙ none in cc
  changer_told (Some e) x offset perm is h = h

  -- what the code finds for a node
  node_causes : (v : Entry) (x : Tag) (offset : ℕ) (perm : Perm) (maker changer : Option Entry) → MatchOption (object_at log.number.0 log.entries at).made ⊥ (λ m. IsIn m.tree.nodes x offset perm)
      → maker ≡ find (λ e. e.stamp.0 == x.0) (take at log.entries) → MatchOption changer (perm_at log x offset at ≡ None) (IsChanger log.number.0 (take at log.entries) x offset)
      → IsTold maker (IsMaker (take at log.entries) x) × IsTold changer (IsChanger log.number.0 (take at log.entries) x offset)
  node_causes v x offset perm maker changer there found last =
      let k = known v x offset perm there in (
        subst (λ (o : Option Entry). IsTold o (IsMaker (take at log.entries) x)) (sym found) (maker_told log.number.0 log.entries at q v x k.stamp),
        changer_told changer x offset perm k.perm_is last,
      )

  explained_by : (v : Entry) (maker changer : Option Entry) → get_or log.entries at v ≡ v → AreCauses log.number.0 (take at log.entries) v.reply.verdict maker changer → IsExplainedBy log (record { violation = v; maker = maker; changer = changer })
  explained_by v maker changer here causes = record {
    before = take at log.entries;
    later = drop (at + 1) log.entries;
    place = split_at log.entries at v lt ∙ ap (λ (y : Entry). take at log.entries ++ y ∷ drop (at + 1) log.entries) here;
    first = q.quiet;
    causes = causes;
  }

  -- a violation that names a node and a byte
  pub explained_found : (v : Entry) (x : Tag) (offset : ℕ) (perm : Perm) (w : Violation) (found : Explained) → get_or log.entries at v ≡ v → v.reply.verdict ≡ Violated w
      → (Tells (object_at log.number.0 log.entries at).made w → MatchOption (object_at log.number.0 log.entries at).made ⊥ (λ m. IsIn m.tree.nodes x offset perm))
      → (IsTold found.maker (IsMaker (take at log.entries) x) × IsTold found.changer (IsChanger log.number.0 (take at log.entries) x offset) → AreCauses log.number.0 (take at log.entries) (Violated w) found.maker found.changer)
      → IsFoundFor log at x offset found → IsExplainedBy log found
  explained_found v x offset perm w found here is named causes f =
      subst (λ (y : Entry). IsExplainedBy log (record { violation = y; maker = found.maker; changer = found.changer })) (sym (f.violation v ∙ here))
      (explained_by v found.maker found.changer here
      (subst (λ (u : Verdict). AreCauses log.number.0 (take at log.entries) u found.maker found.changer) (sym is)
      (causes (node_causes v x offset perm found.maker found.changer (named (told_at v w here is)) f.maker f.changer))))

  made_or : (made : Option Made) (P : Made → Type 0) → MatchOption made ⊥ P → (m : Made) × (made ≡ Some m) × P m
  made_or None P h = absurd h
  made_or (Some m) P h = (m, refl, h)

  pub explained_freed : (v : Entry) (changer : Option Entry) → get_or log.entries at v ≡ v → v.reply.verdict ≡ Violated Freed → changer ≡ find frees (take at log.entries) → IsExplainedBy log (record { violation = v; maker = None; changer = changer })
  explained_freed v changer here is found =
      let m = made_or (object_at log.number.0 log.entries at).made (λ m. m.memory.live ≡ false) (told_at v Freed here is) in
      explained_by v None changer here
      (subst (λ (w : Verdict). AreCauses log.number.0 (take at log.entries) w None changer) (sym is) (
        refl,
        subst (λ (o : Option Entry). IsTold o (IsFreer (take at log.entries))) (sym found)
            (freer_told log.number.0 log.entries at q v (freed_told log.number.0 log.entries at q v m.0 m.1 m.2)),
      ))

  pub explained_range : (v : Entry) (maker : Option Entry) → get_or log.entries at v ≡ v → v.reply.verdict ≡ Violated OutOfRange → maker ≡ find is_make_step (take at log.entries) → IsExplainedBy log (record { violation = v; maker = maker; changer = None })
  explained_range v maker here is found =
      let m = made_or (object_at log.number.0 log.entries at).made (λ m. Unit {0}) (told_at v OutOfRange here is) in
      explained_by v maker None here
      (subst (λ (w : Verdict). AreCauses log.number.0 (take at log.entries) w maker None) (sym is)
      (subst (λ (o : Option Entry). IsTold o (IsMaking (take at log.entries))) (sym found) (making_told log.number.0 log.entries at q v m.0 m.1), refl))

  pub explained_stranger : (v : Entry) → get_or log.entries at v ≡ v → v.reply.verdict ≡ Violated Stranger → IsExplainedBy log (record { violation = v; maker = None; changer = None })
  explained_stranger v here is =
      explained_by v None None here (subst (λ (w : Verdict). AreCauses log.number.0 (take at log.entries) w None None) (sym is) (refl, refl))
