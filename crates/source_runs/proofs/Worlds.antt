-- The words of all threads and allocations of a run are of their types, so that each reply fits.
use Rattle.std.proofs.Common.{◌≡◌, ℕ, zero, suc, ◌^◌, ◌<◌, ◌≤◌, ◌⊎◌, inl, inr, List, [], ◌∷◌, Option, Some, None, Bool, true, false, if◌then◌else◌, refl, sym, ap, ◌∙◌, subst, arith}
use Rattle.std.specs.Prelude.{slice_get, ◌==◌, codes}
use Rattle.std.proofs.lemmas.Bool.{true≢false}
use Rattle.std.proofs.lemmas.Bool.Decides.{nat_tests}
use Rattle.bsan_ids.specs.declared.numbers.AllocNo.{AllocNo}
use Rattle.bsan_ids.specs.declared.numbers.Limits.{Limits}
use Rattle.bsan_ids.specs.declared.numbers.Prov.{Prov}
use Rattle.bsan_ids.specs.declared.numbers.ThreadNo.{ThreadNo}
use Rattle.history.specs.Histories.{HasBytes}
use Rattle.history.specs.declared.ask.Ask.{Ask}
use Rattle.history.specs.declared.ask.Ask.TheVariants as ask
use Rattle.history.specs.declared.entry.Entry.{Entry}
use Rattle.history.specs.declared.entry.Plain.{Plain}
use Rattle.history.specs.declared.entry.Plain.TheVariants as plain
use Rattle.history.specs.declared.entry.Reply.{Reply}
use Rattle.history.specs.declared.entry.Request.{Request}
use Rattle.history.specs.declared.entry.Request.TheVariants as request
use Rattle.history.specs.declared.entry.Verdict.TheVariants as verdict
use Rattle.history.specs.Objects.{answer}
use Rattle.ir_ast.specs.Programs.{IsProgram}
use Rattle.ir_ast.specs.Tokens.{Each}
use Rattle.ir_ast.specs.declared.hosts.HostTable.{HostTable}
use Rattle.ir_ast.specs.declared.program.Function.{Function}
use Rattle.ir_ast.specs.declared.program.Param.{Param}
use Rattle.ir_ast.specs.declared.program.Program.{Program}
use Rattle.ir_ast.specs.declared.types.Ty.{Ty}
use Rattle.ir_rules.specs.declared.rule.Rule.TheVariants.{NoMain}
use Rattle.ir_rules.specs.Rules.{IsAccepted, function_named}
use Rattle.ir_rules.specs.Rules.Broken.{no_main}
use Rattle.runs.specs.Interleaving.{World, first_world, world_after, HasReturned, Allowed, Replies, Event, Interleaves, last_world}
use Rattle.runs.specs.Machine.{Settles, TurnsTo}
use Rattle.runs.specs.ReplayLaw.{record_of, FitsAlways}
use Rattle.runs.proofs.ObjectLaws.{objects_make_alone}
use Rattle.runs.proofs.ReplayRight.{replay_is_right}
use Rattle.ir_ast.specs.HostAnswers.{Allows, MayAnswer}
use Rattle.ir_ast.specs.declared.hosts.HostEntry.{HostEntry}
use Rattle.ir_ast.specs.declared.hosts.HostRule.{HostRule}
use Rattle.ir_ast.specs.declared.hosts.HostRule.TheVariants.{Min, Max, Popcount, ByteSwap, Any}
use Rattle.std.proofs.lemmas.Nat.{ones_le_self}
use Rattle.runs.specs.Objects.{objects}
use Rattle.runs.specs.Parts.{Answers, IsOnNumber, names, child_of, spawned_by, is_child}
use Rattle.source_runs.proofs.JoinsAccepted.{accepted_programs_join}
use Rattle.source_sem.specs.Starting.{setting_of, main_of, main_start, ArgsFit}
use Rattle.source_sem.specs.Records.{allowed}
use Rattle.source_sem.specs.Joining.{StartsNoMain, JoinLaw, ThreadStands}
use Rattle.thread_parts.specs.Words.{number_in}
use Rattle.thread_parts.specs.Fits.{ReplyFits, JoinFits, ValueFits}
use Rattle.source_sem.specs.Source.{Setting, Source, frames_type, source, source_ask, source_turn, source_answer, source_child, source_fits}
use Rattle.source_sem.proofs.JoinSteps.{join_law}
use Rattle.source_runs.specs.Invariant.{ResultFits, SourceFits, PlainFits, Told, WordLaw}
use Rattle.source_runs.specs.Allocations.{ObjectFits, IsOfAllocation, IsMake}
use Rattle.source_runs.specs.Worlds.{RepliesAlwaysFit, ReplaysLeaveRightRecords}
use Rattle.source_sem.proofs.Accepting.{program_typed}
use Rattle.source_runs.proofs.Bytes.{allocation_law, swapped_word}
use Rattle.source_runs.proofs.Erasing.{right_records_erase}
use Rattle.source_sem.proofs.Deciding.{function_found}
use Rattle.source_runs.proofs.Keeping.{word_law, fits_for_more}

-- host functions that are handed words of 64 bits answer such words
abbrev HostWords : Allowed → Type 0
HostWords A = (n first second answer : ℕ) → first < 2 ^ 64 → second < 2 ^ 64 → A.host n first second answer → answer < 2 ^ 64

rule_words : (rule : HostRule) (first second answer : ℕ) → first < 2 ^ 64 → second < 2 ^ 64 → Allows rule first second answer → answer < 2 ^ 64
rule_words Min first second answer one two is = omega (arith, is, one)
rule_words Max first second answer one two is = omega (arith, is, one, two)
rule_words Popcount first second answer one two is = let most = ones_le_self first in omega (arith, is, one, most)
rule_words ByteSwap first second answer one two is = subst (λ n. n < 2 ^ 64) (sym is) (swapped_word first)
rule_words Any first second answer one two is = is

entry_words : (h : Option HostEntry) (first second answer : ℕ) → first < 2 ^ 64 → second < 2 ^ 64 → MayAnswer h first second answer → answer < 2 ^ 64
entry_words None first second answer one two is = absurd is
entry_words (Some h) first second answer one two is = rule_words h.rule first second answer one two is

-- c is 0, or a started thread that runs function k
abbrev pub Runs : (ℕ → Option Source) → (ℕ → ℕ) → ℕ → ℕ → Type 0
Runs threads kinds k c = (c ≡ 0) ⊎ ((s : Source) × (threads c ≡ Some s) × (kinds c ≡ k) × (c < 2 ^ 32))

runs_small : (threads : ℕ → Option Source) (kinds : ℕ → ℕ) (k c : ℕ) → Runs threads kinds k c → c < 2 ^ 32
runs_small threads kinds k c (inl is) = omega (arith, is)
runs_small threads kinds k c (inr r) = r.3

some_same : {A : Type 0} {a b : A} → Some a ≡ Some b → a ≡ b
some_same h = cc

none_some : {A B : Type 0} {a : A} → None ≡ Some a → B
none_some h = cc

same_number : (a b : ℕ) → (a == b) ≡ true → a ≡ b
same_number a b is = grind (arith, nat_tests)

number_same : (a : ℕ) → (a == a) ≡ true
number_same a = grind (arith, nat_tests)

pub record ThreadFits (x : Setting) (threads : ℕ → Option Source) (kinds : ℕ → ℕ) (k : ℕ) (s : Source) : Type 0 where
  pub code : Function
  pub is_code : slice_get x.program.functions k ≡ Some code
  pub words : SourceFits x.program (Runs threads kinds) code.result.ty s
  pub stands : ThreadStands x.program s

pub record WorldFits (x : Setting) (w : World (source x) objects) : Type 0 where
  pub kinds : ℕ → ℕ
  pub threads : (c : ℕ) (s : Source) → w.threads c ≡ Some s → ThreadFits x w.threads kinds (kinds c) s
  pub allocs : (a : ℕ) → ObjectFits a (w.objects a)

abbrev pub NoSpawn : Request → Type 0
NoSpawn (request.Spawn k) = ⊥
NoSpawn other = Unit {0}

-- the entry starts no thread, or the one that was asked for, which hadn't started
pub record Child (x : Setting) (w : World (source x) objects) (e : Entry) (now : Source) : Type 0 where
  pub function : ℕ
  pub number : ℕ
  pub asked : source_ask x now ≡ ask.Spawn function
  pub is_spawn : e.request ≡ request.Spawn function
  pub child : child_of e ≡ Some number
  pub told : number_in e.reply.plain ≡ number
  pub fresh : w.threads number ≡ None
  pub above : 0 < number
  pub short : number < 2 ^ 32

pub record NoChild (e : Entry) : Type 0 where
  pub none : NoSpawn e.request
  pub child : child_of e ≡ None

pub record Facts (x : Setting) (w : World (source x) objects) (e : Entry) (now : Source) : Type 0 where
  pub fits : source_fits x now e
  pub suits : PlainFits e.reply.plain
  pub piece : HasBytes e.request
  pub child : NoChild e ⊎ Child x w e now

no_spawn : (e : Entry) (r : Request) → e.request ≡ r → NoSpawn r → spawned_by r e.reply.plain ≡ None → NoChild e
no_spawn e r is none child = record { none = subst NoSpawn (sym is) none; child = ap (λ q. spawned_by q e.reply.plain) is ∙ child }

-- a request on a number
pub record OnNumber (x : Setting) (w : World (source x) objects) (e : Entry) (r : Request) : Type 0 where
  pub alloc : AllocNo
  pub named : e.alloc ≡ Some alloc
  pub reply : e.reply ≡ (answer (w.objects alloc.0) e.request e.stamp).reply
  pub of : IsOfAllocation r
  pub no_make : IsMake r → ⊥
  pub no_spawn : NoSpawn r
  pub no_child : spawned_by r e.reply.plain ≡ None

module _ (x : Setting) (A : Allowed) (w : World (source x) objects) (e : Entry) where
  on_number : (r : Request) → IsOnNumber r → Replies (source x) objects A w e r → OnNumber x w e r
  on_number (request.Load at ty prov) on h = record { alloc = h.0; named = h.1; reply = h.2; of = tt; no_make = λ m. m; no_spawn = tt; no_child = refl }
  on_number (request.Store at ty v c prov) on h = record { alloc = h.0; named = h.1; reply = h.2; of = tt; no_make = λ m. m; no_spawn = tt; no_child = refl }
  on_number (request.Modify at w o v prov) on h = record { alloc = h.0; named = h.1; reply = h.2; of = tt; no_make = λ m. m; no_spawn = tt; no_child = refl }
  on_number (request.CmpXchg at w a v prov) on h = record { alloc = h.0; named = h.1; reply = h.2; of = tt; no_make = λ m. m; no_spawn = tt; no_child = refl }
  on_number (request.CopyOut at n prov) on h = record { alloc = h.0; named = h.1; reply = h.2; of = tt; no_make = λ m. m; no_spawn = tt; no_child = refl }
  on_number (request.CopyIn at piece prov) on h = record { alloc = h.0; named = h.1; reply = h.2; of = tt; no_make = λ m. m; no_spawn = tt; no_child = refl }
  on_number (request.Free at stack prov) on h = record { alloc = h.0; named = h.1; reply = h.2; of = tt; no_make = λ m. m; no_spawn = tt; no_child = refl }
  on_number (request.Retag at n kind guard prov) on h = record { alloc = h.0; named = h.1; reply = h.2; of = tt; no_make = λ m. m; no_spawn = tt; no_child = refl }
  on_number (request.EndProtector tag) on h = record { alloc = h.0; named = h.1; reply = h.2; of = tt; no_make = λ m. m; no_spawn = tt; no_child = refl }
  on_number (request.Make size place) on h = absurd on
  on_number (request.Print v) on h = absurd on
  on_number (request.Host n a b) on h = absurd on
  on_number (request.Spawn f) on h = absurd on
  on_number (request.Join c) on h = absurd on

module _ (x : Setting) where
  -- a thread that is started isn't thread 0
  child_above : (w : World (source x) objects) (e : Entry) (now : Source) → NoChild e ⊎ Child x w e now → StartsNoMain e
  child_above w e now (inl none) c is = none_some (sym none.child ∙ is)
  child_above w e now (inr one) c is = subst (λ n. 0 < n) (some_same (sym one.child ∙ is)) one.above

module _ (x : Setting) (hosts : HostTable) (A : Allowed) (program : IsProgram x.program) (ok : IsAccepted x.program hosts) (bytes : Each (λ b. b < 256) x.input) (less : A.allocs < 2 ^ 32) (host_words : HostWords A) where
  law : (threads : ℕ → Option Source) (kinds : ℕ → ℕ) → WordLaw x (Runs threads kinds)
  law threads kinds = word_law x (Runs threads kinds) (λ k. inl refl) (runs_small threads kinds) bytes (program_typed x.program hosts program ok)

  joins : JoinLaw x
  joins = join_law x (accepted_programs_join x.program hosts program ok)

  turns_fit : (threads : ℕ → Option Source) (kinds : ℕ → ℕ) (k n : ℕ) (s t : Source) → TurnsTo (source x) n s t → ThreadFits x threads kinds k s → ThreadFits x threads kinds k t
  turns_fit threads kinds k zero s t h f = subst (λ z. ThreadFits x threads kinds k z) h f
  turns_fit threads kinds k (suc n) s t h f =
      turns_fit threads kinds k n (source_turn x s) t h.1 (record { code = f.code; is_code = f.is_code; words = (law threads kinds).turn f.code.result.ty s f.words; stands = joins.turn s f.stands h.0 })

  -- what the world gives fits ----------------------------------------------------------

  module _ (w : World (source x) objects) (i : WorldFits x w) (e : Entry) (k : ℕ) (now : Source) (f : ThreadFits x w.threads i.kinds k now) (replies : Replies (source x) objects A w e e.request) where
    given : (r : Request) → e.request ≡ r → Replies (source x) objects A w e r
    given r is = subst (λ z. Replies (source x) objects A w e z) is replies

    fits_as : (r : Request) → e.request ≡ r → ReplyFits (frames_type x now.frames) e r → source_fits x now e
    fits_as r is h = subst (λ z. ReplyFits (frames_type x now.frames) e z) (sym is) h

    plain_as : (q : Reply) → e.reply ≡ q → PlainFits q.plain → PlainFits e.reply.plain
    plain_as q is h = subst (λ (z : Reply). PlainFits z.plain) (sym is) h

    -- the joined thread has returned a word of the type that is asked for
    joined : (c : ThreadNo) → source_ask x now ≡ ask.Join c → (v : ℕ) (p : Option Prov) → HasReturned (source x) (w.threads c.0) v p → (u : Option Ty) → frames_type x now.frames ≡ u
        → JoinFits u (record { plain = plain.Value v; carried = p; verdict = verdict.Clean }) (plain.Value v)
    joined c asked v p ended None is = tt
    joined c asked v p ended (Some u) is =
        let j = (law w.threads i.kinds).joins f.code.result.ty now c u f.words asked is in
        by_runs j.0 j.1 j.2
      where
        by_runs : (m : ℕ) → Runs w.threads i.kinds m c.0 → ((g : Function) → slice_get x.program.functions m ≡ Some g → g.result.ty ≡ Some u) → ValueFits u (record { value = v; prov = p })
        by_runs m (inl zero_is) typed = let some = (joins.asks now c f.stands asked).1 in absurd (omega (arith, some, zero_is))
        by_runs m (inr r) typed =
            let t = turns_fit w.threads i.kinds (i.kinds c.0) ended.settles.0 ended.before ended.now ended.settles.1 (i.threads c.0 ended.before ended.started) in
            let fits = (law w.threads i.kinds).returns t.code.result.ty ended.now v p t.words ended.returned in
            subst (λ z. ResultFits z (record { value = v; prov = p })) (typed t.code (subst (λ n. slice_get x.program.functions n ≡ Some t.code) r.2 t.is_code)) fits

    by_ask : (a : Ask) → source_ask x now ≡ a → Answers a e → Facts x w e now
    by_ask ask.Turn asked h = absurd h
    by_ask (ask.Ended why) asked h = absurd h
    by_ask (ask.Make size place) asked h =
        let r : Request = request.Make size place in
        let g = given r h in
        let most : g.0.0 ≤ A.allocs = g.3 in
        let fit = allocation_law.replies g.0 (w.objects g.0.0) e (frames_type x now.frames) (i.allocs g.0.0) (λ m. omega (arith, most, less)) (subst IsOfAllocation (sym h) tt) g.1 g.5 in
        record { fits = fit.0; suits = fit.1; piece = subst HasBytes (sym h) tt; child = inl (no_spawn e r h tt refl) }
    by_ask (ask.At b r) asked h =
        let o = on_number x A w e r h.2 (given r h.0) in
        let fit = allocation_law.replies o.alloc (w.objects o.alloc.0) e (frames_type x now.frames) (i.allocs o.alloc.0) (λ m. absurd (o.no_make (subst IsMake h.0 m))) (subst IsOfAllocation (sym h.0) o.of) o.named o.reply in
        record {
          fits = fit.0;
          suits = fit.1;
          piece = subst HasBytes (sym h.0) ((law w.threads i.kinds).pieces f.code.result.ty now b r f.words asked);
          child = inl (no_spawn e r h.0 o.no_spawn o.no_child);
        }
    by_ask (ask.Print v) asked h =
        let r : Request = request.Print v in
        let q : e.reply ≡ record { plain = plain.Done; carried = None; verdict = verdict.Clean } = given r h.0 in
        record {
          fits = fits_as r h.0 (subst (λ (z : Reply). ReplyFits None (record e { reply = z }) r) (sym q) tt);
          suits = plain_as _ q tt;
          piece = subst HasBytes (sym h.0) tt;
          child = inl (no_spawn e r h.0 tt refl);
        }
    by_ask (ask.Host n a b) asked h =
        let r : Request = request.Host n a b in
        let g = given r h.0 in
        let words = (law w.threads i.kinds).hosts f.code.result.ty now n a b f.words asked in
        let word : g.0 < 2 ^ 64 = host_words n a b g.0 words.0 words.1 g.1 in
        record {
          fits = fits_as r h.0 (subst (λ (z : Reply). ReplyFits None (record e { reply = z }) r) (sym g.2) word);
          suits = plain_as _ g.2 tt;
          piece = subst HasBytes (sym h.0) tt;
          child = inl (no_spawn e r h.0 tt refl);
        }
    by_ask (ask.Spawn m) asked h =
        let r : Request = request.Spawn m in
        let g = given r h.0 in
        let c : ThreadNo = g.0 in
        let most : c.0 ≤ 1023 = g.2 in
        let some : 0 < c.0 = g.1 in
        let short : c.0 < 2 ^ 32 = omega (arith, most) in
        record {
          fits = fits_as r h.0 (subst (λ (z : Reply). ReplyFits None (record e { reply = z }) r) (sym g.4) short);
          suits = plain_as _ g.4 tt;
          piece = subst HasBytes (sym h.0) tt;
          child = inr (record {
            function = m;
            number = c.0;
            asked = asked;
            is_spawn = h.0;
            child = ap (λ z. spawned_by z e.reply.plain) h.0 ∙ ap (λ (z : Reply). spawned_by r z.plain) g.4;
            told = ap (λ (z : Reply). number_in z.plain) g.4;
            fresh = g.3;
            above = some;
            short = short;
          });
        }
    by_ask (ask.Join c) asked h =
        let r : Request = request.Join c in
        let g = given r h.0 in
        record {
          fits = fits_as r h.0 (subst (λ (z : Reply). ReplyFits (frames_type x now.frames) (record e { reply = z }) r) (sym g.3) (joined c asked g.0 g.1 g.2 (frames_type x now.frames) refl, λ t. t));
          suits = plain_as _ g.3 tt;
          piece = subst HasBytes (sym h.0) tt;
          child = inl (no_spawn e r h.0 tt refl);
        }

  facts : (w : World (source x) objects) (i : WorldFits x w) (e : Entry) (v : Event (source x) objects A w e) → ThreadFits x w.threads i.kinds (i.kinds e.thread.0) v.now × Facts x w e v.now
  facts w i e v =
      let f = turns_fit w.threads i.kinds (i.kinds e.thread.0) v.settles.0 v.before v.now v.settles.1 (i.threads e.thread.0 v.before v.started) in
      (f, by_ask w i e (i.kinds e.thread.0) v.now f v.replies (source_ask x v.now) refl v.asks)

  -- the next world ---------------------------------------------------------------------

  module _ (w : World (source x) objects) (i : WorldFits x w) (e : Entry) (v : Event (source x) objects A w e) (kinds : ℕ → ℕ)
      (agree : (c : ℕ) → is_child (child_of e) c ≡ false → kinds c ≡ i.kinds c) (fresh : (c : ℕ) → is_child (child_of e) c ≡ true → w.threads c ≡ None)
      (f : ThreadFits x w.threads i.kinds (i.kinds e.thread.0) v.now) (known : Facts x w e v.now) where
    abbrev next : World (source x) objects
    next = world_after (source x) objects w v.now e

    more : (k c : ℕ) → Runs w.threads i.kinds k c → Runs next.threads kinds k c
    more k c (inl zero_is) = inl zero_is
    more k c (inr r) = by_test (e.thread.0 == c) (is_child (child_of e) c) refl
      where
        by_test : (b d : Bool) → is_child (child_of e) c ≡ d → (c ≡ 0) ⊎ ((s : Source) × ((if b then Some (source_answer x v.now e.reply) else (if d then Some (source_child x v.now) else w.threads c)) ≡ Some s) × (kinds c ≡ k) × (c < 2 ^ 32))
        by_test b true is = none_some (sym (fresh c is) ∙ r.1)
        by_test true false is = inr (source_answer x v.now e.reply, refl, agree c is ∙ r.2, r.3)
        by_test false false is = inr (r.0, r.1, agree c is ∙ r.2, r.3)

    fit_more : (last : Option Ty) (s : Source) → SourceFits x.program (Runs w.threads i.kinds) last s → SourceFits x.program (Runs next.threads kinds) last s
    fit_more last s fits = fits_for_more x.program (Runs w.threads i.kinds) (Runs next.threads kinds) last s more fits

    module _ (told : Told (Runs next.threads kinds) e.request e.reply.plain) (child_fits : (c : ℕ) → is_child (child_of e) c ≡ true → ThreadFits x next.threads kinds (kinds c) (source_child x v.now)) where
      threads_fit : (c : ℕ) (s : Source) → next.threads c ≡ Some s → ThreadFits x next.threads kinds (kinds c) s
      threads_fit c s at = by_test (e.thread.0 == c) (is_child (child_of e) c) refl refl at
        where
          by_test : (b d : Bool) → (e.thread.0 == c) ≡ b → is_child (child_of e) c ≡ d → (if b then Some (source_answer x v.now e.reply) else (if d then Some (source_child x v.now) else w.threads c)) ≡ Some s → ThreadFits x next.threads kinds (kinds c) s
          by_test true true here is at = none_some (sym (subst (λ n. w.threads n ≡ None) (sym (same_number e.thread.0 c here)) (fresh c is)) ∙ v.started)
          by_test true false here is at =
              let k : i.kinds e.thread.0 ≡ kinds c = ap i.kinds (same_number e.thread.0 c here) ∙ sym (agree c is) in
              let words = (law next.threads kinds).after f.code.result.ty v.now e (fit_more f.code.result.ty v.now f.words) v.asks known.fits known.suits told in
              let after : ThreadFits x next.threads kinds (kinds c) (source_answer x v.now e.reply) = record {
                code = f.code;
                is_code = subst (λ n. slice_get x.program.functions n ≡ Some f.code) k f.is_code;
                words = words;
                stands = joins.after v.now e f.stands v.asks known.fits (child_above x w e v.now known.child);
              } in
              subst (λ z. ThreadFits x next.threads kinds (kinds c) z) (some_same at) after
          by_test false true here is at = subst (λ z. ThreadFits x next.threads kinds (kinds c) z) (some_same at) (child_fits c is)
          by_test false false here is at =
              let old = i.threads c s at in
              record { code = old.code; is_code = subst (λ n. slice_get x.program.functions n ≡ Some old.code) (sym (agree c is)) old.is_code; words = fit_more old.code.result.ty s old.words; stands = old.stands }

      allocs_fit : (a : ℕ) → ObjectFits a (next.objects a)
      allocs_fit a = by_test (names e.alloc a)
        where
          by_test : (b : Bool) → ObjectFits a (if b then objects.next (w.objects a) e.request e.stamp.0 else w.objects a)
          by_test true = allocation_law.next a (w.objects a) e.request e.stamp.0 (i.allocs a) known.piece
          by_test false = i.allocs a

      next_world : WorldFits x next
      next_world = record { kinds = kinds; threads = threads_fit; allocs = allocs_fit }

  told_none : (K : ℕ → ℕ → Type 0) (r : Request) (p : Plain) → NoSpawn r → Told K r p
  told_none K (request.Spawn k) p none = absurd none
  told_none K (request.Make size place) p none = tt
  told_none K (request.Load at ty prov) p none = tt
  told_none K (request.Store at ty value c prov) p none = tt
  told_none K (request.Modify at w o value prov) p none = tt
  told_none K (request.CmpXchg at w a value prov) p none = tt
  told_none K (request.CopyOut at n prov) p none = tt
  told_none K (request.CopyIn at piece prov) p none = tt
  told_none K (request.Free at stack prov) p none = tt
  told_none K (request.Retag at n kind guard prov) p none = tt
  told_none K (request.EndProtector tag) p none = tt
  told_none K (request.Print value) p none = tt
  told_none K (request.Host n a b) p none = tt
  told_none K (request.Join c) p none = tt

  no_child_true : {B : Type 0} (o : Option ℕ) (c : ℕ) → o ≡ None → is_child o c ≡ true → B
  no_child_true o c none is = absurd (true≢false (sym (subst (λ z. is_child z c ≡ true) none is)))

  world_next : (w : World (source x) objects) (i : WorldFits x w) (e : Entry) (v : Event (source x) objects A w e) → WorldFits x (world_after (source x) objects w v.now e)
  world_next w i e v = let all = facts w i e v in by_child all.0 all.1 all.1.child
    where
      by_child : ThreadFits x w.threads i.kinds (i.kinds e.thread.0) v.now → (known : Facts x w e v.now) → NoChild e ⊎ Child x w e v.now → WorldFits x (world_after (source x) objects w v.now e)
      by_child f known (inl none) =
          next_world w i e v i.kinds (λ c is. refl) (λ c is. no_child_true (child_of e) c none.child is) f known (told_none (Runs (world_after (source x) objects w v.now e).threads i.kinds) e.request e.reply.plain none.none) (λ c is. no_child_true (child_of e) c none.child is)
      by_child f known (inr n) =
          let kinds : ℕ → ℕ = λ c. if n.number == c then n.function else i.kinds c in
          let is_it : (c : ℕ) → is_child (child_of e) c ≡ true → n.number ≡ c = λ c is. same_number n.number c (subst (λ z. is_child z c ≡ true) n.child is) in
          let here : (c : ℕ) → n.number ≡ c → kinds c ≡ n.function = λ c is. ap (λ b. if b then n.function else i.kinds c) (subst (λ z. (n.number == z) ≡ true) is (number_same n.number)) in
          let agree : (c : ℕ) → is_child (child_of e) c ≡ false → kinds c ≡ i.kinds c = λ c is. ap (λ b. if b then n.function else i.kinds c) (subst (λ z. is_child z c ≡ false) n.child is) in
          let fresh : (c : ℕ) → is_child (child_of e) c ≡ true → w.threads c ≡ None = λ c is. subst (λ z. w.threads z ≡ None) (is_it c is) n.fresh in
          let after : World (source x) objects = world_after (source x) objects w v.now e in
          let there : (b d : Bool) → d ≡ true → (s : Source) × ((if b then Some (source_answer x v.now e.reply) else (if d then Some (source_child x v.now) else w.threads n.number)) ≡ Some s) = λ b d is. started b d is in
          let is_child_it : is_child (child_of e) n.number ≡ true = subst (λ z. is_child z n.number ≡ true) (sym n.child) (number_same n.number) in
          let t = there (e.thread.0 == n.number) (is_child (child_of e) n.number) is_child_it in
          let runs : Runs after.threads kinds n.function n.number = inr (t.0, t.1, here n.number refl, n.short) in
          let told : Told (Runs after.threads kinds) e.request e.reply.plain = subst (λ r. Told (Runs after.threads kinds) r e.reply.plain) (sym n.is_spawn) (subst (λ m. Runs after.threads kinds n.function m) (sym n.told) runs) in
          let child = (law after.threads kinds).child f.code.result.ty v.now n.function (fit_more w i e v kinds agree fresh f known f.code.result.ty v.now f.words) n.asked in
          let first : SourceFits x.program (Runs after.threads kinds) child.function.result.ty (source_child x v.now) =
          subst (SourceFits x.program (Runs after.threads kinds) child.function.result.ty) (sym child.is) ((law after.threads kinds).start n.function child.function child.args child.code child.fits) in
          next_world w i e v kinds agree fresh f known told
          (λ c is. record { code = child.function; is_code = subst (λ k. slice_get x.program.functions k ≡ Some child.function) (sym (here c (is_it c is))) child.code; words = first; stands = joins.child v.now })
        where
          started : (b d : Bool) → d ≡ true → (s : Source) × ((if b then Some (source_answer x v.now e.reply) else (if d then Some (source_child x v.now) else w.threads n.number)) ≡ Some s)
          started true d is = (source_answer x v.now e.reply, refl)
          started false true is = (source_child x v.now, refl)
          started false false is = absurd (true≢false (sym is))

  last_fits : (w : World (source x) objects) (es : List Entry) (run : Interleaves (source x) objects A w es) → WorldFits x w → WorldFits x (last_world (source x) objects A w es run)
  last_fits w [] run i = i
  last_fits w (e ∷ es) run i = last_fits (world_after (source x) objects w run.0.now e) es run.1 (world_next w i e run.0)

  -- the first world ----------------------------------------------------------------------

  pub record Main : Type 0 where
    pub code : Function
    pub is_code : slice_get x.program.functions (main_of x.program) ≡ Some code
    pub params : code.params ≡ []

  main_fits : Main
  main_fits = by_named (function_named x.program.functions (codes "main")) refl
    where
      by_params : (g : Function) → function_named x.program.functions (codes "main") ≡ Some g → (ps : List Param) → g.params ≡ ps → Main
      by_params g named [] none = record { code = g; is_code = function_found x.program.functions (codes "main") g named; params = none }
      by_params g named (p ∷ ps) some = absurd (ok NoMain x.program.«end» (no_main (λ has. some_none p ps (sym some ∙ ap (λ (z : Function). z.params) (some_same (sym named ∙ has.1)) ∙ has.2))))
        where
          some_none : (y : Param) (ys : List Param) → y ∷ ys ≡ [] → ⊥
          some_none y ys h = cc

      by_named : (o : Option Function) → function_named x.program.functions (codes "main") ≡ o → Main
      by_named (Some g) named = by_params g named g.params refl
      by_named None named = absurd (ok NoMain x.program.«end» (no_main (λ has. none_some (sym named ∙ has.1))))

  abbrev first_kinds : ℕ → ℕ
  first_kinds = λ c. main_of x.program

  abbrev first_threads : ℕ → Option Source
  first_threads = λ t. if 0 == t then Some (main_start x) else None

  first_fits : WorldFits x (first_world (source x) objects (main_start x))
  first_fits = record { kinds = first_kinds; threads = λ c s at. by_test (0 == c) c s at; allocs = allocation_law.first }
    where
      main_thread : (c : ℕ) → ThreadFits x first_threads first_kinds (first_kinds c) (main_start x)
      main_thread c = record {
        code = main_fits.code;
        is_code = main_fits.is_code;
        words = (law first_threads first_kinds).start (main_of x.program) main_fits.code [] main_fits.is_code (subst (λ ps. ArgsFit ps []) (sym main_fits.params) tt);
        stands = joins.start (main_of x.program) [];
      }

      by_test : (b : Bool) (c : ℕ) (s : Source) → (if b then Some (main_start x) else None) ≡ Some s → ThreadFits x first_threads first_kinds (first_kinds c) s
      by_test true c s at = subst (λ z. ThreadFits x first_threads first_kinds (first_kinds c) z) (some_same at) (main_thread c)
      by_test false c s at = none_some at

  always : FitsAlways (source x) objects A (main_start x)
  always es run e v = (facts (last_world (source x) objects A (first_world (source x) objects (main_start x)) es run) (last_fits (first_world (source x) objects (main_start x)) es run first_fits) e v).1.fits

  -- what a thread asks to write is of bytes
  bytes_asked : (es : List Entry) (run : Interleaves (source x) objects A (first_world (source x) objects (main_start x)) es) (t : ℕ) (s now : Source)
      → (last_world (source x) objects A (first_world (source x) objects (main_start x)) es run).threads t ≡ Some s → Settles (source x) s now → (b : AllocNo) (r : Request) → source_ask x now ≡ ask.At b r → HasBytes r
  bytes_asked es run t s now at settles b r asked =
      let w : World (source x) objects = last_world (source x) objects A (first_world (source x) objects (main_start x)) es run in
      let i : WorldFits x w = last_fits (first_world (source x) objects (main_start x)) es run first_fits in
      let f = turns_fit w.threads i.kinds (i.kinds t) settles.0 s now settles.1 (i.threads t s at) in
      (law w.threads i.kinds).pieces f.code.result.ty now b r f.words asked

host_words_of : (limits : Limits) (hosts : HostTable) → HostWords (allowed limits hosts)
host_words_of limits hosts n first second answer one two is = entry_words (slice_get hosts.entries n) first second answer one two is

pub replies_always_fit : RepliesAlwaysFit
replies_always_fit x limits hosts program ok bytes less =
    always x hosts (allowed limits hosts) program ok bytes less (host_words_of limits hosts)

-- in every run of an accepted program, what a thread asks to write is of bytes
pub pieces_are_bytes : (x : Setting) (limits : Limits) (hosts : HostTable) → IsProgram x.program → IsAccepted x.program hosts → Each (λ b. b < 256) x.input → limits.allocs < 2 ^ 32
    → (es : List Entry) (run : Interleaves (source x) objects (allowed limits hosts) (first_world (source x) objects (main_start x)) es) (t : ℕ) (s now : Source)
    → (last_world (source x) objects (allowed limits hosts) (first_world (source x) objects (main_start x)) es run).threads t ≡ Some s → Settles (source x) s now → (b : AllocNo) (r : Request) → source_ask x now ≡ ask.At b r → HasBytes r
pieces_are_bytes x limits hosts program ok bytes less = bytes_asked x hosts (allowed limits hosts) program ok bytes less (host_words_of limits hosts)

-- an accepted program has its main
pub main_there : (program : Program) (hosts : HostTable) → IsProgram program → IsAccepted program hosts → (g : Function) × (slice_get program.functions (main_of program) ≡ Some g)
main_there program hosts accepts ok =
    let limits : Limits = record { steps = 0; turns = 0; allocs = 0 } in
    let main = main_fits (setting_of program [] hosts) hosts (allowed limits hosts) accepts ok tt (omega arith) (host_words_of limits hosts) in
    (main.code, main.is_code)

pub replays_leave_right_records : ReplaysLeaveRightRecords
replays_leave_right_records program input hosts limits schedule last accepts ok bytes less replay =
    let x : Setting = setting_of program input hosts in
    right_records_erase program input hosts limits (record_of (source x) objects limits last)
    (replay_is_right (source x) objects (allowed limits hosts) limits schedule (main_of program) (main_start x) last refl objects_make_alone (replies_always_fit x limits hosts accepts ok bytes less) replay)
