-- The numbers from k on, weighed; and lists of different numbers.
use Rattle.std.proofs.Common.{◌≡◌, ◌≢◌, ℕ, zero, suc, ◌+◌, ◌-◌, ◌<◌, ◌≤◌, false, cond, List, [], ◌∷◌, ◌++◌, refl, sym, ◌∙◌, ap, inl, inr, arith, length, sum_by, nat_eq, nat_le}
use Rattle.std.specs.Prelude.{IsPermutation}
use Rattle.std.specs.List.{AllByRecursion, IsDistinct}
use Rattle.std.proofs.lemmas.Bool.Decides.{eqb_tells, nat_tests}
use Rattle.std.proofs.lemmas.List.Sums.{sum_by-cons}
use Rattle.std.proofs.lemmas.List.Sorted.{IsPermutation-sym}
use Rattle.runs.specs.Right.{counting_from}
use Rattle.runs.proofs.FiberLists.{Drawn, drawn_moved}
use Rattle.runs.proofs.MergeLaws.{at_most_tells}
use Rattle.runs.proofs.Weights.{equals, equals_cases, equals_same, equals_other, weights_tell_numbers}

pub length_counting : (k n : ℕ) → length (counting_from k n) ≡ n
length_counting k zero = refl
length_counting k (suc n) = ap suc (length_counting (k + 1) n)

counting_low : (s k n : ℕ) → s < k → sum_by (equals s) (counting_from k n) ≡ 0
counting_low s k zero less = refl
counting_low s k (suc n) less =
    let none = equals_other s k (λ same. omega (arith, same, less)) in
    let more = counting_low s (k + 1) n (omega (arith, less)) in
    omega (arith, none, more, sum_by-cons (equals s) k (counting_from (k + 1) n))

pub counting_once : (s k n : ℕ) → sum_by (equals s) (counting_from k n) ≤ 1
counting_once s k zero = omega arith
counting_once s k (suc n) = elim (equals_cases s k) [
  | inl hit ↦
      let same = hit.0 in
      let one = hit.1 in
      let none = counting_low s (k + 1) n (omega (arith, same)) in
      omega (arith, one, none, sum_by-cons (equals s) k (counting_from (k + 1) n))
  | inr miss ↦
      let none = miss.1 in
      let more = counting_once s (k + 1) n in
      omega (arith, none, more, sum_by-cons (equals s) k (counting_from (k + 1) n))
]

pub counting_zero : (k n : ℕ) → 0 < k → sum_by (equals 0) (counting_from k n) ≡ 0
counting_zero k n above = counting_low 0 k n above

-- none is above the last
pub counting_high : (s k n : ℕ) → k + n ≤ s → sum_by (equals s) (counting_from k n) ≡ 0
counting_high s k zero less = refl
counting_high s k (suc n) less =
    let none = equals_other s k (λ same. omega (arith, same, less)) in
    let more = counting_high s (k + 1) n (omega (arith, less)) in
    omega (arith, none, more, sum_by-cons (equals s) k (counting_from (k + 1) n))

pub counting_split : (k a d : ℕ) → counting_from k (a + d) ≡ counting_from k a ++ counting_from (k + a) d
counting_split k zero d = let left : 0 + d ≡ d = omega arith in let right : k ≡ k + 0 = omega arith in ap (counting_from k) left ∙ ap (λ m. counting_from m d) right
counting_split k (suc a) d =
    let left : suc a + d ≡ suc (a + d) = omega arith in
    let right : (k + 1) + a ≡ k + suc a = omega arith in
    ap (counting_from k) left ∙ ap (λ l. k ∷ l) (counting_split (k + 1) a d ∙ ap (λ m. counting_from (k + 1) a ++ counting_from m d) right)

-- a weight of the numbers up to the limit, and one of those above it
abbrev pub up_to : ℕ → (ℕ → ℕ) → ℕ → ℕ
up_to limit h s = cond (nat_le s limit) (h s) 0

abbrev pub above : ℕ → (ℕ → ℕ) → ℕ → ℕ
above limit h s = cond (nat_le s limit) 0 (h s)

pub low_up_to : (limit s : ℕ) (h : ℕ → ℕ) → s ≤ limit → up_to limit h s ≡ h s
low_up_to limit s h le = elim (at_most_tells s limit) [ inl hit ↦ ap (λ b. cond b (h s) 0) hit.0 | inr miss ↦ (let more = miss.1 in absurd (omega (arith, le, more))) ]

pub low_above : (limit s : ℕ) (h : ℕ → ℕ) → s ≤ limit → above limit h s ≡ 0
low_above limit s h le = elim (at_most_tells s limit) [ inl hit ↦ ap (λ b. cond b 0 (h s)) hit.0 | inr miss ↦ (let more = miss.1 in absurd (omega (arith, le, more))) ]

pub high_up_to : (limit s : ℕ) (h : ℕ → ℕ) → limit < s → up_to limit h s ≡ 0
high_up_to limit s h less = elim (at_most_tells s limit) [ inl hit ↦ (let le = hit.1 in absurd (omega (arith, le, less))) | inr miss ↦ ap (λ b. cond b (h s) 0) miss.0 ]

pub high_above : (limit s : ℕ) (h : ℕ → ℕ) → limit < s → above limit h s ≡ h s
high_above limit s h less = elim (at_most_tells s limit) [ inl hit ↦ (let le = hit.1 in absurd (omega (arith, le, less))) | inr miss ↦ ap (λ b. cond b 0 (h s)) miss.0 ]

abbrev pub one : ℕ → ℕ
one n = 1

pub counting_up_to : (limit k n : ℕ) → k + n ≤ limit + 1 → sum_by (up_to limit one) (counting_from k n) ≡ n
counting_up_to limit k zero le = refl
counting_up_to limit k (suc n) le =
    let here = low_up_to limit k one (omega (arith, le)) in
    let more = counting_up_to limit (k + 1) n (omega (arith, le)) in
    omega (arith, here, more, sum_by-cons (up_to limit one) k (counting_from (k + 1) n))

pub counting_beyond : (limit k n : ℕ) → limit < k → sum_by (up_to limit one) (counting_from k n) ≡ 0
counting_beyond limit k zero less = refl
counting_beyond limit k (suc n) less =
    let here = high_up_to limit k one less in
    let more = counting_beyond limit (k + 1) n (omega (arith, less)) in
    omega (arith, here, more, sum_by-cons (up_to limit one) k (counting_from (k + 1) n))

pub counting_not_above : (limit k n : ℕ) (h : ℕ → ℕ) → k + n ≤ limit + 1 → sum_by (above limit h) (counting_from k n) ≡ 0
counting_not_above limit k zero h le = refl
counting_not_above limit k (suc n) h le =
    let here = low_above limit k h (omega (arith, le)) in
    let more = counting_not_above limit (k + 1) n h (omega (arith, le)) in
    omega (arith, here, more, sum_by-cons (above limit h) k (counting_from (k + 1) n))

pub counting_above : (limit k n : ℕ) (h : ℕ → ℕ) → limit < k → sum_by (above limit h) (counting_from k n) ≡ sum_by h (counting_from k n)
counting_above limit k zero h less = refl
counting_above limit k (suc n) h less =
    let here = high_above limit k h less in
    let more = counting_above limit (k + 1) n h (omega (arith, less)) in
    omega (arith, here, more, sum_by-cons (above limit h) k (counting_from (k + 1) n), sum_by-cons h k (counting_from (k + 1) n))

-- n is cut at the limit
pub record Cut (limit n : ℕ) : Type 0 where
  pub low : ℕ
  pub high : ℕ
  pub sum : n ≡ low + high
  pub within : low ≤ limit
  pub full : 0 < high → low ≡ limit

pub cut : (limit n : ℕ) → Cut limit n
cut limit n = elim (at_most_tells n limit) [
  | inl hit ↦ record { low = n; high = 0; sum = omega arith; within = hit.1; full = λ some. absurd (omega (arith, some)) }
  | inr miss ↦ (let less = miss.1 in record { low = limit; high = n - limit; sum = omega (arith, less); within = omega arith; full = λ some. refl })
]

-- different numbers ----------------------------------------------------------------

counted_within : (k n m : ℕ) → k + n ≤ m + 1 → AllByRecursion (λ x. x ≤ m) (counting_from k n)
counted_within k zero m h = tt
counted_within k (suc n) m h = (omega (arith, h), counted_within (k + 1) n m (omega (arith, h)))

other : (p q : ℕ) → p < q → nat_eq p q ≡ false
other p q less = grind (arith, nat_tests)

counted_above : (x k n : ℕ) → x < k → AllByRecursion (λ y. nat_eq x y ≡ false) (counting_from k n)
counted_above x k zero h = tt
counted_above x k (suc n) h = (other x k h, counted_above x (k + 1) n (omega (arith, h)))

counted_differ : (k n : ℕ) → IsDistinct nat_eq (counting_from k n)
unfolding IsDistinct
counted_differ k zero = tt
counted_differ k (suc n) = (counted_above k (k + 1) n (omega arith), counted_differ (k + 1) n)

apart_front : (x : ℕ) (xs ys : List ℕ) → AllByRecursion (λ y. nat_eq x y ≡ false) (xs ++ ys) → AllByRecursion (λ y. nat_eq x y ≡ false) xs
apart_front x [] ys h = tt
apart_front x (z ∷ zs) ys h = (h.0, apart_front x zs ys h.1)

below_front : (n : ℕ) (xs ys : List ℕ) → AllByRecursion (λ y. y ≤ n) (xs ++ ys) → AllByRecursion (λ y. y ≤ n) xs
below_front n [] ys h = tt
below_front n (z ∷ zs) ys h = (h.0, below_front n zs ys h.1)

distinct_front : (xs ys : List ℕ) → IsDistinct nat_eq (xs ++ ys) → IsDistinct nat_eq xs
unfolding IsDistinct
distinct_front [] ys d = tt
distinct_front (x ∷ xs) ys d = (apart_front x xs ys d.0, distinct_front xs ys d.1)

-- of numbers that are those from 1 to n, some
pub some_drawn : (n : ℕ) (xs ys : List ℕ) → ((h : ℕ → ℕ) → sum_by h (xs ++ ys) ≡ sum_by h (counting_from 1 n)) → Drawn n xs
some_drawn n xs ys weighs =
    let perm : IsPermutation (xs ++ ys) (counting_from 1 n) = weights_tell_numbers (xs ++ ys) (counting_from 1 n) weighs in
    let all : Drawn n (xs ++ ys) = drawn_moved n (counting_from 1 n) (xs ++ ys) (IsPermutation-sym (xs ++ ys) (counting_from 1 n) perm) (counted_within 1 n n (omega arith), counted_differ 1 n) in
    (below_front n xs ys all.0, distinct_front xs ys all.1)

-- numbers of which none stands twice
apart_once : (x : ℕ) (xs : List ℕ) → sum_by (equals x) xs ≡ 0 → AllByRecursion (λ y. nat_eq x y ≡ false) xs
apart_once x [] none = tt
apart_once x (y ∷ ys) none = elim (equals_cases x y) [
  | inl hit ↦ (let one_is = hit.1 in absurd (omega (arith, none, one_is, sum_by-cons (equals x) y ys)))
  | inr miss ↦ (different x y (λ same. miss.0 (sym same)), apart_once x ys (omega (arith, none, sum_by-cons (equals x) y ys)))
]
  where
    different : (p q : ℕ) → p ≢ q → nat_eq p q ≡ false
    different p q ne = elim (eqb_tells p q) [ inl hit ↦ absurd (ne hit.1) | inr miss ↦ miss.0 ]

pub once_differ : (xs : List ℕ) → ((k : ℕ) → sum_by (equals k) xs ≤ 1) → IsDistinct nat_eq xs
unfolding IsDistinct
once_differ [] once = tt
once_differ (x ∷ xs) once =
    let o = once x in
    let same = equals_same x in (
      apart_once x xs (omega (arith, o, same, sum_by-cons (equals x) x xs)),
      once_differ xs (λ k. (let m = once k in omega (arith, m, sum_by-cons (equals k) x xs))),
    )
