-- Logs whose numbers rise, found by their numbers.
use Rattle.std.proofs.Common.{◌≡◌, ℕ, zero, suc, ◌<◌, ◌≤◌, true, false, List, [], ◌∷◌, ◌∙◌, ap, inl, inr, arith, length, get_or, nat_lt}
use Rattle.std.specs.Prelude.{Some, slice_get}
use Rattle.std.specs.List.Sorted.{IsPartitionPoint, IsPartitionedBy}
use Rattle.std.proofs.lemmas.Bool.Decides.{nat_tests}
use Rattle.std.proofs.lemmas.Option.{slice_get_within, slice_get-get_or, get_or_from_slice_get}
use Rattle.bsan_ids.specs.declared.numbers.ThreadNo.{ThreadNo}
use Rattle.history.specs.declared.log.ThreadLog.{ThreadLog}
use Rattle.runs.specs.Parts.{Has}
use Rattle.runs.specs.Right.{NumbersRiseFrom}
use Rattle.runs.proofs.MergeLaws.{at_most_tells}
use Rattle.runs.proofs.RightErases.{number_above}
use Rattle.record_file.proofs.Marking.{has_at, place_of, one_place}

-- no later number is lower
pub never_lower : (n : ℕ) (logs : List ThreadLog) → NumbersRiseFrom n logs → (i j : ℕ) (d : ThreadLog) → i ≤ j → j < length logs → (get_or logs i d).number.0 ≤ (get_or logs j d).number.0
never_lower n [] r i j d le less = absurd (omega (arith, less))
never_lower n (l ∷ ls) r zero zero d le less = omega arith
never_lower n (l ∷ ls) r zero (suc j) d le less =
    let above = number_above (suc l.number.0) ls (get_or ls j d) r.1 (has_at ls j (get_or ls j d) (slice_get-get_or ls j d (omega (arith, less)))) in omega (arith, above)
never_lower n (l ∷ ls) r (suc i) zero d le less = absurd (omega (arith, le))
never_lower n (l ∷ ls) r (suc i) (suc j) d le less = never_lower (suc l.number.0) ls r.1 i j d (omega (arith, le)) (omega (arith, less))

pub partitioned : (logs : List ThreadLog) (number : ThreadNo) → NumbersRiseFrom 0 logs → IsPartitionedBy (λ (l : ThreadLog). nat_lt l.number.0 number.0) logs
partitioned logs number rise i j d le less test = let low = never_lower 0 logs rise i j d le less in lower (get_or logs i d).number.0 (get_or logs j d).number.0 number.0 low test
  where
    lower : (a b n : ℕ) → a ≤ b → nat_lt b n ≡ true → nat_lt a n ≡ true
    lower a b n le test = grind (arith, nat_tests)

-- a log with the number stands where the lower ones end
pub at_point : (logs : List ThreadLog) (number : ThreadNo) (at : ℕ) → NumbersRiseFrom 0 logs → IsPartitionPoint (λ (l : ThreadLog). nat_lt l.number.0 number.0 ≡ true) (λ (l : ThreadLog). nat_lt l.number.0 number.0 ≡ false) logs at
    → (log : ThreadLog) → Has logs log → log.number ≡ number → slice_get logs at ≡ Some log
at_point logs number at rise point log there named = elim (at_most_tells at p.0) [
  | inl up ↦
      let le = up.1 in
      let low = never_lower 0 logs rise at p.0 log le less in
      let high = higher (get_or logs at log).number.0 number.0 (point.1 at log (omega arith) (omega (arith, le, less))) in
      let is = ap (λ (l : ThreadLog). l.number.0) here in
      let same : (get_or logs at log).number.0 ≡ log.number.0 = omega (arith, low, high, is, same_number) in
      let one : at ≡ p.0 = one_place 0 logs rise at p.0 (get_or logs at log) log (slice_get-get_or logs at log (omega (arith, le, less))) p.1 same in
      ap (slice_get logs) one ∙ p.1
  | inr down ↦
      let test = point.0 p.0 log (omega arith) down.1 in
      let is = ap (λ (l : ThreadLog). l.number.0) here in
      absurd (lower (get_or logs p.0 log).number.0 number.0 test (is ∙ same_number))
]
  where
    p : (i : ℕ) × (slice_get logs i ≡ Some log)
    p = place_of logs log there

    less : p.0 < length logs
    less = slice_get_within logs p.0 log p.1

    here : get_or logs p.0 log ≡ log
    here = get_or_from_slice_get logs p.0 log log p.1

    same_number : log.number.0 ≡ number.0
    same_number = ap (λ (n : ThreadNo). n.0) named

    higher : (a n : ℕ) → nat_lt a n ≡ false → n ≤ a
    higher a n test = grind (arith, nat_tests)

    lower : (a n : ℕ) → nat_lt a n ≡ true → a ≡ n → ⊥
    lower a n test same = grind (arith, nat_tests)
