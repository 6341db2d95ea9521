-- Sums over the logs that were run.
use Rattle.std.proofs.Common.{◌≡◌, ◌≢◌, ℕ, zero, suc, ◌+◌, ◌<◌, ◌≤◌, List, [], ◌∷◌, refl, sym, ◌∙◌, ap, inl, inr, arith, sum_by}
use Rattle.std.specs.Prelude.{Option, Some, None, slice_get, slice_set}
use Rattle.std.proofs.lemmas.List.Sums.{sum_by-cons, sum_by-append}
use Rattle.history.specs.declared.entry.Entry.{Entry}
use Rattle.history.specs.declared.log.ThreadLog.{ThreadLog}
use Rattle.runs.specs.Merge.{all_entries}
use Rattle.runs.specs.Parts.{Has, child_of}
use Rattle.runs.specs.Right.{HasThreads, starts_thread}
use Rattle.runs.specs.Tree.{children_of, started_by}
use Rattle.runs.proofs.Counting.{one_if}
use Rattle.runs.proofs.LogLists.{weigh_children}
use Rattle.runs.proofs.MergeLaws.{at_most_tells}
use Rattle.runs.proofs.Tracking.{some_inj}
use Rattle.runs.proofs.Weights.{equals, equals_cases, sum_flat, sum_same}
use Rattle.runs.proofs.WholeParts.{starts_weigh}
use Rattle.record_file.specs.declared.reached.Standing.{Standing}
use Rattle.record_file.specs.Feeding.{starts_of}
use Rattle.record_file.specs.Reaching.{ran, left, one_left}
use Rattle.record_file.proofs.Marking.{threads_count}

pub ran_less : (w : ThreadLog → ℕ) (logs : List ThreadLog) (ss : List (Option Standing)) → sum_by w (ran logs ss) ≤ sum_by w logs
ran_less w [] ss = let none : sum_by w (ran [] ss) ≡ 0 = refl in omega (arith, none)
ran_less w (l ∷ ls) [] = let none : sum_by w (ran (l ∷ ls) []) ≡ 0 = refl in omega (arith, none)
ran_less w (l ∷ ls) (None ∷ ss) = let more = ran_less w ls ss in omega (arith, more, sum_by-cons w l ls)
ran_less w (l ∷ ls) (Some a ∷ ss) = let more = ran_less w ls ss in omega (arith, more, sum_by-cons w l ls, sum_by-cons w l (ran ls ss))

nothing : {X : Type 0} (x : X) → None ≡ Some x → ⊥
nothing x is = cc

pub ran_set : (w : ThreadLog → ℕ) (logs : List ThreadLog) (ss : List (Option Standing)) (i : ℕ) (log : ThreadLog) (a : Standing) → slice_get logs i ≡ Some log → slice_get ss i ≡ Some None
    → sum_by w (ran logs (slice_set ss i (Some a))) ≡ sum_by w (ran logs ss) + w log
ran_set w [] ss i log a at is = absurd (nothing log at)
ran_set w (l ∷ ls) [] i log a at is = absurd (nothing None is)
ran_set w (l ∷ ls) (None ∷ ss) zero log a at is =
    let same = ap w (some_inj at) in omega (arith, same, sum_by-cons w l (ran ls ss))
ran_set w (l ∷ ls) (Some b ∷ ss) zero log a at is = absurd (nothing b (sym (some_inj is)))
ran_set w (l ∷ ls) (None ∷ ss) (suc i) log a at is = ran_set w ls ss i log a at is
ran_set w (l ∷ ls) (Some b ∷ ss) (suc i) log a at is =
    let more = ran_set w ls ss i log a at is in omega (arith, more, sum_by-cons w l (ran ls ss), sum_by-cons w l (ran ls (slice_set ss i (Some a))))

pub left_less : (ss : List (Option Standing)) (i : ℕ) (a : Standing) → slice_get ss i ≡ Some None → left (slice_set ss i (Some a)) < left ss
left_less [] i a is = absurd (nothing None is)
left_less (None ∷ ss) zero a is =
    let waits : one_left None ≡ 1 = refl in
    let stands : one_left (Some a) ≡ 0 = refl in
    omega (arith, waits, stands, sum_by-cons one_left None ss, sum_by-cons one_left (Some a) ss)
left_less (Some b ∷ ss) zero a is = absurd (nothing b (sym (some_inj is)))
left_less (s ∷ ss) (suc i) a is =
    let more = left_less ss i a is in omega (arith, more, sum_by-cons one_left s ss, sum_by-cons one_left s (slice_set ss i (Some a)))

-- a log that was run, and weighs something
pub record SomeRan (w : ThreadLog → ℕ) (logs : List ThreadLog) (ss : List (Option Standing)) : Type 0 where
  pub place : ℕ
  pub log : ThreadLog
  pub standing : Standing
  pub there : slice_get logs place ≡ Some log
  pub was : slice_get ss place ≡ Some (Some standing)
  pub weighs : 1 ≤ w log

some_later : (w : ThreadLog → ℕ) (l : ThreadLog) (ls : List ThreadLog) (s : Option Standing) (ss : List (Option Standing)) → SomeRan w ls ss → SomeRan w (l ∷ ls) (s ∷ ss)
some_later w l ls s ss r = record { place = suc r.place; log = r.log; standing = r.standing; there = r.there; was = r.was; weighs = r.weighs }

pub some_ran : (w : ThreadLog → ℕ) (logs : List ThreadLog) (ss : List (Option Standing)) → 1 ≤ sum_by w (ran logs ss) → SomeRan w logs ss
some_ran w [] ss le = let none : sum_by w (ran [] ss) ≡ 0 = refl in absurd (omega (arith, le, none))
some_ran w (l ∷ ls) [] le = let none : sum_by w (ran (l ∷ ls) []) ≡ 0 = refl in absurd (omega (arith, le, none))
some_ran w (l ∷ ls) (None ∷ ss) le = some_later w l ls None ss (some_ran w ls ss le)
some_ran w (l ∷ ls) (Some a ∷ ss) le = elim (at_most_tells 1 (w l)) [
  | inl hit ↦ record { place = 0; log = l; standing = a; there = refl; was = refl; weighs = hit.1 }
  | inr miss ↦ (let less = miss.1 in some_later w l ls (Some a) ss (some_ran w ls ss (omega (arith, le, less, sum_by-cons w l (ran ls ss)))))
]

pub ran_weighs : (w : ThreadLog → ℕ) (logs : List ThreadLog) (ss : List (Option Standing)) (i : ℕ) (log : ThreadLog) (a : Standing) → slice_get logs i ≡ Some log → slice_get ss i ≡ Some (Some a)
    → w log ≤ sum_by w (ran logs ss)
ran_weighs w [] ss i log a at is = absurd (nothing log at)
ran_weighs w (l ∷ ls) [] i log a at is = absurd (nothing (Some a) is)
ran_weighs w (l ∷ ls) (None ∷ ss) zero log a at is = absurd (nothing a (some_inj is))
ran_weighs w (l ∷ ls) (Some b ∷ ss) zero log a at is = let same = ap w (some_inj at) in omega (arith, same, sum_by-cons w l (ran ls ss))
ran_weighs w (l ∷ ls) (None ∷ ss) (suc i) log a at is = ran_weighs w ls ss i log a at is
ran_weighs w (l ∷ ls) (Some b ∷ ss) (suc i) log a at is = let more = ran_weighs w ls ss i log a at is in omega (arith, more, sum_by-cons w l (ran ls ss))

-- an entry that starts a thread of this number
some_starts : (n : ℕ) (o : Option ℕ) → 1 ≤ sum_by (equals n) (started_by o) → o ≡ Some n
some_starts n None le = let nothing : sum_by (equals n) (started_by None) ≡ 0 = refl in absurd (omega (arith, le, nothing))
some_starts n (Some c) le = elim (equals_cases n c) [
  | inl hit ↦ ap Some hit.0
  | inr miss ↦ (let none = miss.1 in let nothing : sum_by (equals n) [] ≡ 0 = refl in absurd (omega (arith, le, none, nothing, sum_by-cons (equals n) c [])))
]

pub some_entry : (n : ℕ) (es : List Entry) → 1 ≤ sum_by (equals n) (starts_of es) → (e : Entry) × Has es e × (child_of e ≡ Some n)
some_entry n [] le = let nothing : sum_by (equals n) (starts_of []) ≡ 0 = refl in absurd (omega (arith, le, nothing))
some_entry n (e ∷ es) le = elim (at_most_tells 1 (sum_by (equals n) (started_by (child_of e)))) [
  | inl hit ↦ (e, inl refl, some_starts n (child_of e) hit.1)
  | inr miss ↦ (
      let less = miss.1 in
      let r = some_entry n es (omega (arith, le, less, sum_by-append (equals n) (started_by (child_of e)) (starts_of es))) in
      (r.0, inr r.1, r.2))
]

starts_itself : (n : ℕ) → 1 ≤ sum_by (equals n) (started_by (Some n))
starts_itself n = elim (equals_cases n n) [
  | inl hit ↦ (let one = hit.1 in let nothing : sum_by (equals n) [] ≡ 0 = refl in omega (arith, one, nothing, sum_by-cons (equals n) n []))
  | inr miss ↦ absurd (miss.0 refl)
]

pub entry_counts : (n : ℕ) (es : List Entry) (e : Entry) → Has es e → child_of e ≡ Some n → 1 ≤ sum_by (equals n) (starts_of es)
entry_counts n [] e h is = absurd h
entry_counts n (y ∷ es) e (inl same) is =
    let one = starts_itself n in
    let at : sum_by (equals n) (started_by (child_of y)) ≡ sum_by (equals n) (started_by (Some n)) = ap (λ o. sum_by (equals n) (started_by o)) (ap child_of same ∙ is) in
    omega (arith, one, at, sum_by-append (equals n) (started_by (child_of y)) (starts_of es))
entry_counts n (y ∷ es) e (inr h) is =
    let more = entry_counts n es e h is in omega (arith, more, sum_by-append (equals n) (started_by (child_of y)) (starts_of es))

-- all logs start a thread that has a log once, thread 0 aside
pub children_once : (main : ℕ) (logs : List ThreadLog) → HasThreads main logs → (log : ThreadLog) → Has logs log → log.number.0 ≢ 0 → sum_by (λ (l : ThreadLog). sum_by (equals log.number.0) (children_of l)) logs ≡ 1
children_once main logs h log there other =
    let n = log.number.0 in
    sym (sum_flat (equals n) children_of logs)
    ∙ sym (weigh_children (equals n) logs)
    ∙ sym (sum_same (one_if (starts_thread n)) (λ (e : Entry). sum_by (equals n) (started_by (child_of e))) (starts_weigh n) (all_entries logs))
    ∙ threads_count main logs h log there other
