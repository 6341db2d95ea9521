-- What follows from the rule for all desks at once.
use Rattle.std.proofs.Common.{◌≡◌, ℕ, zero, suc, ◌+◌, ◌%◌, ◌^◌, ◌<◌, ◌≤◌, true, cond, List, sum_by, slice_index, Option, refl, sym, ap, ◌∙◌, subst, arith, mod-eq_of_lt}
use mathlib.Core.Logic.{dite}
use native.Mathlib.Decide.{ℕ_discrete}
use Rattle.atomic_table.specs.Table.{State}
use Rattle.history.specs.declared.entry.Entry.{Entry}
use Rattle.turn_lock.specs.declared.view.View.{View}
use Rattle.turn_lock.specs.Weights.{sum_up_to, equals, stamp_weight, alloc_weight, thread_weight, name_weight, out_weight}
use Rattle.turn_lock.specs.Rule.{RuleHolds, IsSpentOrLive, gone, there}
use Rattle.turn_lock.specs.Laws.{IsOnOneDesk, DesksDiffer, NoDrawWraps}
use Rattle.turn_lock.proofs.Sums.{sum_at, sum_two, sum_each}
use Rattle.turn_lock.proofs.Numbers.{equals_same, equals_other, sum_up_to_once, sum_up_to_zero}
use Rattle.turn_lock.proofs.Bounds.{clock_bound, alloc_bound, thread_bound}

-- where all numbers of one kind are those from 1 to the word, none stands twice
on_one_desk : (weight : (ℕ → ℕ) → View → ℕ) (views : List View) (word : ℕ) → ((h : ℕ → ℕ) → sum_by (weight h) views ≡ sum_up_to h word) → IsOnOneDesk weight views
on_one_desk weight views word counted = record {
  once = λ i v e n. let a = counted (equals n) in omega (arith, sum_at (weight (equals n)) views i v e, sum_up_to_once n word);
  apart = λ i j v u apart e d n stands. let a = counted (equals n) in omega (arith, sum_two (weight (equals n)) views i j v u apart e d, sum_up_to_once n word);
}

-- a name that is out was drawn there
outs_drawn : {slots clock last : ℕ} {calls : (Entry → ℕ) → ℕ} (h : ℕ → ℕ) (v : View) → IsSpentOrLive slots clock last calls v → out_weight h v ≤ thread_weight h v
outs_drawn h v (gone e) = subst (λ (u : View). out_weight h u ≤ thread_weight h u) (sym e) (omega arith)
outs_drawn h v (there _ fits) = let a = fits.names h in omega arith

next_number : (n : ℕ) → n < 2 ^ 63 → (n + 1) % 2 ^ 64 ≡ n + 1
next_number n lt = let small : n + 1 < 2 ^ 64 = omega arith in mod-eq_of_lt small

module _ {X : Type 0} {number : X → ℕ} {entries : X → List Entry} (s : State (Option X) View) (rule : RuleHolds number entries s) where
  outs_once : (n : ℕ) → sum_by (out_weight (equals n)) s.views ≤ sum_up_to (equals n) (slice_index s.words 2)
  outs_once n =
      let a = rule.threads (equals n) in
      let b : sum_by (out_weight (equals n)) s.views ≤ sum_by (thread_weight (equals n)) s.views = sum_each _ _ s.views (λ i v e. outs_drawn (equals n) v (rule.each i v e)) in
      omega arith

  first_once : sum_by (name_weight (equals 0)) s.views ≤ 1
  first_once = let a = rule.names (equals 0) in let b = outs_once 0 in let c = sum_up_to_zero (slice_index s.words 2) in let d = equals_same 0 in omega arith

  named_once : (n : ℕ) → sum_by (name_weight (equals n)) s.views ≤ 1
  named_once n = dite (ℕ_discrete 0 n) (λ e. subst (λ m. sum_by (name_weight (equals m)) s.views ≤ 1) e first_once)
      (λ other. let a = rule.names (equals n) in let b = outs_once n in let c = sum_up_to_once n (slice_index s.words 2) in let d = equals_other n 0 other in omega arith)

  named : (v : View) → v.live ≡ true → (n : ℕ) → v.name ≡ n → name_weight (equals n) v ≡ 1
  named v live n is_named = ap (λ b. cond b (equals n v.name) 0) live ∙ (ap (equals n) is_named ∙ equals_same n)

  pub desks_differ : DesksDiffer s.views
  desks_differ = record {
    names = λ i j v u apart e d live live' same.
        let a = named v live u.name same in
        let b = named u live' u.name refl in
        absurd (omega (arith, sum_two (name_weight (equals u.name)) s.views i j v u apart e d, named_once u.name));
    stamps = on_one_desk stamp_weight s.views (slice_index s.words 0) rule.stamps;
    allocs = on_one_desk alloc_weight s.views (slice_index s.words 1) rule.allocs;
    threads = on_one_desk thread_weight s.views (slice_index s.words 2) rule.threads;
  }

  next : (k : ℕ) → k < 3 → (slice_index s.words k + 1) % 2 ^ 64 ≡ slice_index s.words k + 1
  next zero lt = let a = clock_bound s rule in next_number (slice_index s.words 0) (omega arith)
  next (suc zero) lt = let a = alloc_bound s rule in next_number (slice_index s.words 1) (omega arith)
  next (suc (suc zero)) lt = let a = thread_bound s rule in next_number (slice_index s.words 2) (omega arith)
  next (suc (suc (suc k))) lt = absurd (omega arith)

  pub no_draw_wraps : NoDrawWraps s.words
  no_draw_wraps = record { stamps = clock_bound s rule; allocs = alloc_bound s rule; threads = thread_bound s rule; next = next }
