-- A turn that is marked as waited for keeps the rule.
use Rattle.std.proofs.Common.{◌≡◌, ℕ, ◌<◌, ◌≢◌, List, length, set, slice_index, Option, refl, sym, ap, ◌∙◌, arith, length-set, get_or-set_other, get_or-set_same}
use mathlib.Core.Logic.{dite}
use native.Mathlib.Decide.{ℕ_discrete}
use Rattle.atomic_table.specs.Table.{State}
use Rattle.history.specs.declared.entry.Entry.{Entry}
use Rattle.turn_lock.specs.declared.view.View.{View}
use Rattle.turn_lock.specs.Weights.{sum_up_to}
use Rattle.turn_lock.specs.Places.{place}
use Rattle.turn_lock.specs.Rule.{RuleHolds}
use Rattle.turn_lock.proofs.Places.{past_counts, inside_table, place_once}
use Rattle.turn_lock.proofs.Keeps.{keeps as keeps_rule, history_later, view_later}

module _ {X : Type 0} {number : X → ℕ} {entries : X → List Entry} (s : State (Option X) View) (kept : RuleHolds number entries s) where
  -- the desk that holds the turn holds it still, and no view changes
  pub marks_turn : (k : ℕ) → k < length s.homes → slice_index s.words (place k) ≡ 1 → RuleHolds number entries record { words = set s.words (place k) 2; homes = s.homes; views = s.views }
  marks_turn k inside held =
      let words : List ℕ = set s.words (place k) 2 in
      let wide = kept.wide in
      let other : (j : ℕ) → j ≢ place k → slice_index words j ≡ slice_index s.words j = λ j apart. get_or-set_other s.words (place k) j 2 0 apart in
      let marked : slice_index words (place k) ≡ 2 = get_or-set_same s.words (place k) 2 0 (let p = inside_table k (length s.homes) inside in omega arith) in
      let zero_word : slice_index words 0 ≡ slice_index s.words 0 = other 0 (let p = past_counts k in λ e. omega arith) in
      let one_word : slice_index words 1 ≡ slice_index s.words 1 = other 1 (let p = past_counts k in λ e. omega arith) in
      let two_word : slice_index words 2 ≡ slice_index s.words 2 = other 2 (let p = past_counts k in λ e. omega arith) in
      keeps_rule s kept words s.homes s.views (λ f. 0) (λ f. 0) (λ f. refl)
      (length-set s.words (place k) 2) refl
      (λ h. let a = ap (sum_up_to h) zero_word in omega arith) (λ h. let a = ap (sum_up_to h) one_word in omega arith) (λ h. let a = ap (sum_up_to h) two_word in omega arith)
      (λ h. refl) kept.told
      (λ j lt. dite (ℕ_discrete j k)
      (λ e. let b : slice_index words (place j) ≡ 2 = ap (λ i. slice_index words (place i)) e ∙ marked in let c : slice_index s.words (place j) ≡ 1 = ap (λ i. slice_index s.words (place i)) e ∙ held in omega arith)
      (λ apart. let b = other (place j) (λ e. apart (place_once j k e)) in omega arith))
      (λ j lt. dite (ℕ_discrete j k) (λ e. let b : slice_index words (place j) ≡ 2 = ap (λ i. slice_index words (place i)) e ∙ marked in omega arith)
      (λ apart. let b = other (place j) (λ e. apart (place_once j k e)) in let c = kept.turn_words j lt in omega arith))
      (λ j lt zero_is. dite (ℕ_discrete j k) (λ e. let b : slice_index words (place j) ≡ 2 = ap (λ i. slice_index words (place i)) e ∙ marked in absurd (omega arith))
      (λ apart. let b = other (place j) (λ e. apart (place_once j k e)) in let q = kept.home j lt (sym b ∙ zero_is) in
      record { value = q.value; there = q.there; numbered = q.numbered; history = history_later (omega arith) (λ h. refl) q.history }))
      (λ j u e. view_later (omega arith) (omega arith) (λ t _ h. refl) (kept.each j u e))
