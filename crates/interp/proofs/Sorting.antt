-- Logs in the order of their numbers, which differ.
use Rattle.std.proofs.Common.{◌≡◌, ℕ, suc, ◌<◌, ◌≤◌, false, List, [], ◌∷◌, length, refl, subst, inl, inr, arith, nat_eq, get_or}
use Rattle.std.specs.Prelude.{IsPermutation}
use Rattle.std.specs.List.{IsDistinct, AllByRecursion}
use Rattle.std.specs.List.Sorted.{IsNonDecreasingBy}
use Rattle.std.proofs.lemmas.Bool.Decides.{nat_tests}
use Rattle.std.proofs.lemmas.Map.Keys.{IsDistinct-IsPermutation}
use Rattle.std.proofs.lemmas.List.Sorted.{IsPermutation-map}
use Rattle.history.specs.declared.log.ThreadLog.{ThreadLog}
use Rattle.runs.specs.Parts.{Has}
use Rattle.runs.specs.Right.{NumbersRiseFrom}
use Rattle.runs.specs.Tree.{numbers_of}
use Rattle.interp.specs.Wholes.{number_of_log}

below_next : (a b : ℕ) → a ≤ b → nat_eq a b ≡ false → a < b
below_next a b le ne = grind (arith, nat_tests)

eq_flips : (a b : ℕ) → nat_eq a b ≡ nat_eq b a
eq_flips a b = grind (arith, nat_tests)

above_all : (l : ThreadLog) (ls : List ThreadLog) → ((k : ℕ) (d : ThreadLog) → k < length ls → number_of_log l ≤ number_of_log (get_or ls k d)) → AllByRecursion (λ m. nat_eq l.number.0 m ≡ false) (numbers_of ls) → (m : ThreadLog) → Has ls m → l.number.0 < m.number.0
above_all l [] low apart m h = absurd h
above_all l (x ∷ xs) low apart m (inl same) = subst (λ (z : ThreadLog). l.number.0 < z.number.0) same (below_next l.number.0 x.number.0 (low 0 x (omega arith)) apart.0)
above_all l (x ∷ xs) low apart m (inr h) = above_all l xs (λ k d lt. low (suc k) d (omega (arith, lt))) apart.1 m h

rise_from : (n : ℕ) (ls : List ThreadLog) → IsNonDecreasingBy number_of_log ls → IsDistinct nat_eq (numbers_of ls) → ((l : ThreadLog) → Has ls l → n ≤ l.number.0) → NumbersRiseFrom n ls
unfolding IsDistinct
rise_from n [] up d low = tt
rise_from n (l ∷ ls) up d low = (
  low l (inl refl),
  rise_from (suc l.number.0) ls (λ i j e le lt. up (suc i) (suc j) e (omega (arith, le)) (omega (arith, lt))) d.1
      (λ m h. (let above = above_all l ls (λ k e lt. up 0 (suc k) e (omega arith) (omega (arith, lt))) d.0 m h in omega (arith, above))),
)

pub sorted_rise : (logs ls : List ThreadLog) → IsPermutation logs ls → IsNonDecreasingBy number_of_log ls → IsDistinct nat_eq (numbers_of logs) → NumbersRiseFrom 0 ls
sorted_rise logs ls p up d = rise_from 0 ls up (IsDistinct-IsPermutation nat_eq eq_flips (numbers_of logs) (numbers_of ls) (IsPermutation-map number_of_log logs ls p) d) (λ l h. omega arith)
