-- What a right record says of its allocation logs is that they are legal histories.
use Rattle.std.proofs.Common.{◌≡◌, ℕ, zero, suc, ◌+◌, ◌≤◌, Bool, true, false, cond, List, [], ◌∷◌, map, refl, sym, ◌∙◌, ap, subst, inl, inr, arith}
use Rattle.std.specs.Prelude.{Some, None, is_some, IsTrue, count_by}
use Rattle.std.specs.List.{AllByRecursion}
use Rattle.std.specs.List.Sorted.{IsStrictlyIncreasing}
use Rattle.std.specs.declared.option.Option.{Option}
use Rattle.std.proofs.lemmas.Bool.{true≢false, eqb-true}
use Rattle.std.proofs.lemmas.List.Elements.{All-from_recursion}
use Rattle.std.proofs.lemmas.List.Sums.{sum_by-cons}
use native.Mathlib.Numerals.{unary_clauses}
use Rattle.bsan_ids.specs.declared.numbers.AllocNo.{AllocNo}
use Rattle.bsan_ids.specs.declared.numbers.Tag.{Tag}
use Rattle.history.specs.declared.ask.Ask.{Ask}
use Rattle.history.specs.declared.ask.Ask.TheVariants as ask
use Rattle.history.specs.declared.entry.Entry.{Entry}
use Rattle.history.specs.declared.entry.Request.{Request}
use Rattle.history.specs.declared.entry.Request.TheVariants as request
use Rattle.history.specs.declared.trap.Trap.{Trap}
use Rattle.history.specs.Histories.{fits, Replies, is_make}
use Rattle.history.specs.Memory.{trap_in}
use Rattle.history.specs.Objects.{Object, Made, data_answer, data_unless, retag_answer, end_answer, answer, Reborrow, reborrow}
use Rattle.history.specs.declared.log.ThreadLog.{ThreadLog}
use Rattle.runs.specs.Interleaving.{Legal, MakesUnmade}
use Rattle.runs.specs.Machine.{TurnsWithin}
use Rattle.runs.specs.Merge.{entries_of}
use Rattle.runs.specs.Objects.{objects}
use Rattle.runs.specs.Parts.{Has, names, child_of, Answers}
use Rattle.runs.specs.Right.{history_of}
use Rattle.runs.specs.Stamps.{RisesFrom}
use Rattle.runs.specs.Threads.{Feeds, StartsAs}
use Rattle.runs.proofs.Differing.{in_part}
use Rattle.runs.proofs.Merges.{in_own_thread}
use Rattle.source_sem.specs.Source.{Setting, Source, source, source_ask}
use Rattle.source_sem.specs.Requests.{TopFits}
use Rattle.source_sem.proofs.RequestLaws.{requests_fit}
use Rattle.source_sem.specs.Starting.{main_of}
use Rattle.source_runs.specs.Histories.{HistoriesAreLegal}
use Rattle.source_runs.proofs.OwnLimits.{log_with}

-- stamps ------------------------------------------------------------------------

strictly : (n : ℕ) (es : List Entry) → RisesFrom n es → IsStrictlyIncreasing (map (λ (e : Entry). e.stamp.0) es)
strictly n [] r k lt = absurd (omega arith)
strictly n (e ∷ []) r k lt = absurd (omega arith)
strictly n (e ∷ f ∷ es) r zero lt = r.1.0
strictly n (e ∷ f ∷ es) r (suc k) lt = simp unary_clauses (simp unary_clauses at (strictly e.stamp.0 (f ∷ es) r.1 k (omega arith)))

-- names -------------------------------------------------------------------------

all_has : (P : Entry → Type 0) (es : List Entry) → ((e : Entry) → Has es e → P e) → AllByRecursion P es
all_has P [] h = tt
all_has P (e ∷ es) h = (h e (inl refl), all_has P es (λ x g. h x (inr g)))

number_named : (o : Option AllocNo) (a : ℕ) → names o a ≡ true → o ≡ Some (record { 0 = a })
number_named None a is = absurd (true≢false (sym is))
number_named (Some b) a is = ap (λ (n : ℕ). Some (record { 0 = n })) (eqb-true b.0 a is)

-- requests ------------------------------------------------------------------------

some_none : {B : Type 0} (o : Option AllocNo) (b : AllocNo) → o ≡ Some b → o ≡ None → B
some_none o b is none = cc

module _ (x : Setting) where
  asked_fits : (s : Source) (a : Ask) (e : Entry) (b : AllocNo) → TopFits x s.frames → source_ask x s ≡ a → Answers a e → e.alloc ≡ Some b → fits e.request ≡ true
  asked_fits s ask.Turn e b top is h at = absurd h
  asked_fits s (ask.Ended o) e b top is h at = absurd h
  asked_fits s (ask.Make size place) e b top is h at = subst (λ r. fits r ≡ true) (sym h) ((requests_fit x).makes s size place top is)
  asked_fits s (ask.At c r) e b top is h at = subst (λ q. fits q ≡ true) (sym h.0) ((requests_fit x).asks s c r top is)
  asked_fits s (ask.Print v) e b top is h at = some_none e.alloc b at h.1
  asked_fits s (ask.Host n p q) e b top is h at = some_none e.alloc b at h.1
  asked_fits s (ask.Spawn f) e b top is h at = some_none e.alloc b at h.1
  asked_fits s (ask.Join c) e b top is h at = some_none e.alloc b at h.1

module _ (x : Setting) (turns : ℕ) (starts : ℕ → Source) where
  turned_fits : (n : ℕ) (s t : Source) → TurnsWithin (source x) turns n s t → TopFits x s.frames → TopFits x t.frames
  turned_fits zero s t h top = subst (λ (z : Source). TopFits x z.frames) h top
  turned_fits (suc n) s t h top = turned_fits n ((source x).turn s) t h.2 ((requests_fit x).turn s top)

  fed_fits : (s last : Source) (es : List Entry) (e : Entry) (b : AllocNo) → Feeds (source x) turns starts s es last → TopFits x s.frames → Has es e → e.alloc ≡ Some b → fits e.request ≡ true
  fed_fits s last [] e b f top h at = absurd h
  fed_fits s last (y ∷ es) e b f top (inl same) at =
      let now = turned_fits f.0.settles.0 s f.0.now f.0.settles.1 top in
      subst (λ (z : Entry). fits z.request ≡ true) same (asked_fits x f.0.now (source_ask x f.0.now) y b now refl f.0.asks (ap (λ (z : Entry). z.alloc) same ∙ at))
  fed_fits s last (y ∷ es) e b f top (inr h) at =
      let now = turned_fits f.0.settles.0 s f.0.now f.0.settles.1 top in
      fed_fits ((source x).after f.0.now y) last es e b f.1 ((requests_fit x).after f.0.now y now f.0.asks f.0.fits) h at

  child_fits : (s last : Source) (es : List Entry) (e : Entry) (c : ℕ) → Feeds (source x) turns starts s es last → Has es e → child_of e ≡ Some c → TopFits x (starts c).frames
  child_fits s last [] e c f h is = absurd h
  child_fits s last (y ∷ es) e c f (inl same) is =
      let first : StartsAs (source x) starts (Some c) ((source x).child f.0.now) = subst (λ o. StartsAs (source x) starts o ((source x).child f.0.now)) (ap child_of same ∙ is) f.0.child in
      subst (λ (z : Source). TopFits x z.frames) (sym first) ((requests_fit x).child f.0.now)
  child_fits s last (y ∷ es) e c f (inr h) is = child_fits ((source x).after f.0.now y) last es e c f.1 h is

-- made once -------------------------------------------------------------------------

abbrev IsMade : Object → Type 0
IsMade o = is_some o.made ≡ true

unless_made : (o : Object) (m : Made) (r : Request) (t : Option Trap) → IsMade o → IsMade (data_unless o m r t).object
unless_made o m r (Some t) h = h
unless_made o m r None h = refl

data_made : (o : Object) (m : Option Made) (r : Request) → IsMade o → IsMade (data_answer o m r).object
data_made o None r h = h
data_made o (Some m) r h = unless_made o m r (trap_in m.memory r) h

retag_made : (o : Object) (m : Option Made) (r : Reborrow) (stamp : ℕ) → IsMade o → IsMade (retag_answer o m r stamp).object
retag_made o None r stamp h = h
retag_made o (Some m) r stamp h = refl

end_made : (o : Object) (m : Option Made) (tag : Tag) → IsMade o → IsMade (end_answer o m tag).object
end_made o None tag h = h
end_made o (Some m) tag h = refl

stays_made : (o : Object) (r : Request) (stamp : ℕ) → IsMade o → IsMade (answer o r (record { 0 = stamp })).object
stays_made o (request.Make size place) stamp h = refl
stays_made o (request.Retag at len kind guard prov) stamp h = retag_made o o.made (reborrow at len kind guard prov) stamp h
stays_made o (request.EndProtector tag) stamp h = end_made o o.made tag h
stays_made o (request.Load at ty prov) stamp h = data_made o o.made (request.Load at ty prov) h
stays_made o (request.Store at ty value carried prov) stamp h = data_made o o.made (request.Store at ty value carried prov) h
stays_made o (request.Modify at width op value prov) stamp h = data_made o o.made (request.Modify at width op value prov) h
stays_made o (request.CmpXchg at width expected value prov) stamp h = data_made o o.made (request.CmpXchg at width expected value prov) h
stays_made o (request.CopyOut at len prov) stamp h = data_made o o.made (request.CopyOut at len prov) h
stays_made o (request.CopyIn at piece prov) stamp h = data_made o o.made (request.CopyIn at piece prov) h
stays_made o (request.Free at stack prov) stamp h = data_made o o.made (request.Free at stack prov) h
stays_made o (request.Print value) stamp h = data_made o o.made (request.Print value) h
stays_made o (request.Host n a b) stamp h = data_made o o.made (request.Host n a b) h
stays_made o (request.Spawn f) stamp h = data_made o o.made (request.Spawn f) h
stays_made o (request.Join c) stamp h = data_made o o.made (request.Join c) h

abbrev one_if : Bool → ℕ
one_if b = cond b 1 0

abbrev makes_in : List Entry → ℕ
makes_in es = count_by (λ (e : Entry). is_make e.request) es

makes_cons : (e : Entry) (es : List Entry) → makes_in (e ∷ es) ≡ one_if (is_make e.request) + makes_in es
makes_cons e es = sum_by-cons (λ (z : Entry). one_if (is_make z.request)) e es

none_more : (o : Object) (es : List Entry) → IsMade o → Legal objects o es → makes_in es ≡ 0
none_more o [] made legal = refl
none_more o (e ∷ es) made legal =
    let first = none_of e.request legal.0 in
    let rest = none_more (answer o e.request (record { 0 = e.stamp.0 })).object es (stays_made o e.request e.stamp.0 made) legal.2 in
    let all = makes_cons e es in
    omega (arith, first, rest, all)
  where
    none_of : (r : Request) → MakesUnmade objects o r → one_if (is_make r) ≡ 0
    none_of (request.Make size place) h = absurd (true≢false (sym made ∙ h))
    none_of _ h = refl

made_by_make : (o : Object) (r : Request) (stamp : ℕ) → is_make r ≡ true → IsMade (answer o r (record { 0 = stamp })).object
made_by_make o (request.Make size place) stamp is = refl
made_by_make o _ stamp is = absurd (true≢false (sym is))

at_most_one : (o : Object) (es : List Entry) → Legal objects o es → makes_in es ≤ 1
at_most_one o [] legal = omega arith
at_most_one o (e ∷ es) legal = by_make (is_make e.request) refl (at_most_one (answer o e.request (record { 0 = e.stamp.0 })).object es legal.2)
  where
    by_make : (b : Bool) → is_make e.request ≡ b → makes_in es ≤ 1 → makes_in (e ∷ es) ≤ 1
    by_make true is more =
        let all = makes_cons e es ∙ ap (λ b. one_if b + makes_in es) is in
        let rest = none_more (answer o e.request (record { 0 = e.stamp.0 })).object es (made_by_make o e.request e.stamp.0 is) legal.2 in
        omega (arith, all, rest)
    by_make false is more = let all = makes_cons e es ∙ ap (λ b. one_if b + makes_in es) is in omega (arith, all, more)

same_replies : (o : Object) (es : List Entry) → Legal objects o es → Replies o es
same_replies o [] legal = tt
same_replies o (e ∷ es) legal = (legal.1, same_replies (answer o e.request e.stamp).object es legal.2)

-- all of it ---------------------------------------------------------------------------

pub histories_are_legal : HistoriesAreLegal
histories_are_legal x limits hosts kept r a above le = record {
  rising = strictly 0 (history_of kept.allocs a) (r.histories.stamps a);
  named = All-from_recursion (λ (e : Entry). e.alloc ≡ Some (record { 0 = a })) (history_of kept.allocs a) (all_has (λ (e : Entry). e.alloc ≡ Some (record { 0 = a })) (history_of kept.allocs a) (λ e h. number_named e.alloc a (place e h).0));
  fitting = All-from_recursion (λ (e : Entry). IsTrue (fits e.request)) (history_of kept.allocs a) (all_has (λ (e : Entry). IsTrue (fits e.request)) (history_of kept.allocs a) fit);
  once = at_most_one (objects.unmade a) (history_of kept.allocs a) (r.histories.legal a);
  replies = same_replies (objects.unmade a) (history_of kept.allocs a) (r.histories.legal a);
}
  where
    place : (e : Entry) → Has (history_of kept.allocs a) e → (names e.alloc a ≡ true) × Has (entries_of kept.threads e.thread.0) e
    place e h = flipped (in_part a (entries_of kept.threads e.thread.0) e (subst (λ l. Has l e) (r.histories.parts a e.thread.0 above le) (in_own_thread (history_of kept.allocs a) e h)))
      where
        flipped : Has (entries_of kept.threads e.thread.0) e × (names e.alloc a ≡ true) → (names e.alloc a ≡ true) × Has (entries_of kept.threads e.thread.0) e
        flipped p = (p.1, p.0)

    first : (log : ThreadLog) → Has kept.threads log → TopFits x (r.runs.starts log.number.0).frames
    first log g = elim (r.threads.spawned log g) [
      | inl zero_is ↦ subst (λ n. TopFits x (r.runs.starts n).frames) (sym zero_is) (subst (λ (s : Source). TopFits x s.frames) (sym r.runs.first) ((requests_fit x).start (main_of x.program) []))
      | inr one ↦ (
          let l = log_with kept.threads one.parent.0 one.spawn one.stands in
          let run = r.runs.runs l.0 l.1 in
          child_fits x limits.turns r.runs.starts (r.runs.starts l.0.number.0) run.last l.0.entries one.spawn log.number.0 run.feeds l.2 one.answers)
    ]

    fit : (e : Entry) → Has (history_of kept.allocs a) e → IsTrue (fits e.request)
    fit e h =
        let p = place e h in
        let l = log_with kept.threads e.thread.0 e p.1 in
        let run = r.runs.runs l.0 l.1 in
        fed_fits x limits.turns r.runs.starts (r.runs.starts l.0.number.0) run.last l.0.entries e (record { 0 = a }) run.feeds (first l.0 l.1) l.2 (number_named e.alloc a p.0)
