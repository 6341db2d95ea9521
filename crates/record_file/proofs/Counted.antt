-- Numbers that are counted from one on.
use Rattle.std.proofs.Common.{◌≡◌, ◌↔◌, ℕ, zero, suc, ◌+◌, ◌<◌, ◌≤◌, false, List, [], ◌∷◌, refl, sym, ◌∙◌, ap, subst, inl, inr, arith, length, sum_by, get_or, nat_eq, All}
use Rattle.std.specs.Prelude.{IsPermutation, slice_index}
use Rattle.std.specs.List.{IsDistinct}
use Rattle.std.specs.List.Sorted.{IsNonDecreasing, IsStrictlyIncreasing}
use Rattle.std.proofs.lemmas.Bool.Decides.{eqb_tells}
use Rattle.std.proofs.lemmas.List.Sums.{sum_by-cons}
use Rattle.std.proofs.lemmas.List.Sorted.{All-permutation, IsPermutation-sym, length_permutation, sum_by-IsPermutation}
use Rattle.std.proofs.lemmas.Map.Keys.{IsDistinct-IsPermutation, IsDistinct-from_apart, IsStrictlyIncreasing-from_distinct, below_from_sorted, sorted_from_strictly_increasing}
use Rattle.runs.specs.Right.{counting_from}
use Rattle.runs.proofs.MergeLaws.{at_most_tells}
use Rattle.runs.proofs.Weights.{equals, equals_cases, equals_same, equals_other}
use Rattle.runs.proofs.Countings.{counting_once}

-- the number at each place
pub counted_at : (k n i : ℕ) → i < n → slice_index (counting_from k n) i ≡ k + i
counted_at k zero i less = absurd (omega (arith, less))
counted_at k (suc n) zero less = omega arith
counted_at k (suc n) (suc i) less = let more = counted_at (k + 1) n i (omega (arith, less)) in omega (arith, more)

pub counts_on : (xs : List ℕ) (k : ℕ) → ((i : ℕ) → i < length xs → slice_index xs i ≡ k + i) → xs ≡ counting_from k (length xs)
counts_on [] k at = refl
counts_on (x ∷ xs) k at =
    let first : x ≡ k = let a = at 0 (omega arith) in omega (arith, a) in
    let rest = counts_on xs (k + 1) (λ i less. (let a = at (suc i) (omega (arith, less)) in omega (arith, a))) in
    ap (λ y. y ∷ xs) first ∙ ap (λ ys. k ∷ ys) rest

-- numbers that don't fall, from n on
abbrev pub Low : ℕ → List ℕ → Type 0
Low n [] = Unit {0}
Low n (x ∷ xs) = (n ≤ x) × Low x xs

pub low_sorted : (xs : List ℕ) (n : ℕ) → IsNonDecreasing xs → ((x : ℕ) (ys : List ℕ) → xs ≡ x ∷ ys → n ≤ x) → Low n xs
low_sorted [] n up above = tt
low_sorted (x ∷ xs) n up above = (
  above x xs refl,
  low_sorted xs x (λ i j d le less. up (suc i) (suc j) d (omega (arith, le)) (omega (arith, less))) (λ y ys is. first y ys is),
)
  where
    first : (y : ℕ) (ys : List ℕ) → xs ≡ y ∷ ys → x ≤ y
    first y ys is = let some : 1 < length (x ∷ xs) = subst (λ zs. 1 < length (x ∷ zs)) (sym is) (omega arith) in
        subst (λ zs. x ≤ get_or zs 0 0) is (up 0 1 0 (omega arith) some)

-- above the first all numbers are none of those below
none_below : (s n : ℕ) (xs : List ℕ) → Low n xs → s < n → sum_by (equals s) xs ≡ 0
none_below s n [] low less = refl
none_below s n (x ∷ xs) low less =
    let b = low.0 in
    let none = equals_other s x (λ same. omega (arith, same, b, less)) in
    let more = none_below s x xs low.1 (omega (arith, b, less)) in
    omega (arith, none, more, sum_by-cons (equals s) x xs)

low_next : (k : ℕ) (xs : List ℕ) → Low k xs → sum_by (equals k) xs ≡ 0 → Low (k + 1) xs
low_next k [] low none = tt
low_next k (x ∷ xs) low none = (
  elim (equals_cases k x) [
    | inl hit ↦ (let one = hit.1 in absurd (omega (arith, none, one, sum_by-cons (equals k) x xs)))
    | inr miss ↦ (let b = low.0 in let apart = miss.0 in omega (arith, b, apart))
  ],
  low.1,
)

-- numbers that don't fall and are those from k on are these in this order
pub sorted_counts : (k n : ℕ) (ys : List ℕ) → Low k ys → ((h : ℕ → ℕ) → sum_by h ys ≡ sum_by h (counting_from k n)) → ys ≡ counting_from k n
sorted_counts k zero [] low weigh = refl
sorted_counts k zero (y ∷ ys) low weigh = let w = weigh (λ _. 1) in absurd (omega (arith, w, sum_by-cons (λ (_ : ℕ). 1) y ys))
sorted_counts k (suc n) [] low weigh = let w = weigh (λ _. 1) in absurd (omega (arith, w, sum_by-cons (λ (_ : ℕ). 1) k (counting_from (k + 1) n)))
sorted_counts k (suc n) (y ∷ ys) low weigh = elim (equals_cases k y) [
  | inl hit ↦
      let same = hit.0 in
      let one = hit.1 in
      let w = weigh (equals k) in
      let once = counting_once k k (suc n) in
      let none : sum_by (equals k) ys ≡ 0 = omega (arith, w, once, one, sum_by-cons (equals k) y ys) in
      let up : Low (k + 1) ys = low_next k ys (subst (λ m. Low m ys) same low.1) none in
      let rest = sorted_counts (k + 1) n ys up (λ h. (let v = weigh h in let at : h y ≡ h k = ap h same in omega (arith, v, at, sum_by-cons h y ys, sum_by-cons h k (counting_from (k + 1) n)))) in
      ap (λ z. z ∷ ys) same ∙ ap (λ zs. k ∷ zs) rest
  | inr miss ↦
      let b = low.0 in
      let apart = miss.0 in
      let none = none_below k y (y ∷ ys) (omega arith, low.1) (omega (arith, b, apart)) in
      let w = weigh (equals k) in
      let one = equals_same k in
      absurd (omega (arith, none, w, one, sum_by-cons (equals k) k (counting_from (k + 1) n)))
]

counting_below : (s k n : ℕ) → s < k → sum_by (equals s) (counting_from k n) ≡ 0
counting_below s k zero less = refl
counting_below s k (suc n) less =
    let none = equals_other s k (λ same. omega (arith, same, less)) in
    let more = counting_below s (k + 1) n (omega (arith, less)) in
    omega (arith, none, more, sum_by-cons (equals s) k (counting_from (k + 1) n))

-- sorted numbers are those from one on exactly where the unsorted are, in some order
pub follow_iff : (xs ys : List ℕ) (k : ℕ) → IsPermutation xs ys → IsNonDecreasing ys → (ys ≡ counting_from k (length ys)) ↔ IsPermutation xs (counting_from k (length xs))
follow_iff xs ys k perm up = (
  λ is. subst (λ l. IsPermutation xs l) (is ∙ ap (counting_from k) len) perm,
  λ p. (
      let weigh : (h : ℕ → ℕ) → sum_by h ys ≡ sum_by h (counting_from k (length xs)) = λ h. sum_by-IsPermutation h xs ys perm ∙ sym (sum_by-IsPermutation h xs (counting_from k (length xs)) p) in
      sorted_counts k (length xs) ys (low_sorted ys k up (first weigh)) weigh ∙ ap (counting_from k) (sym len)),
)
  where
    len : length ys ≡ length xs
    len = length_permutation xs ys perm

    first : ((h : ℕ → ℕ) → sum_by h ys ≡ sum_by h (counting_from k (length xs))) → (y : ℕ) (zs : List ℕ) → ys ≡ y ∷ zs → k ≤ y
    first weigh y zs is = elim (at_most_tells k y) [
      | inl low ↦ low.1
      | inr high ↦ (
          let none = counting_below y k (length xs) high.1 in
          let w = weigh (equals y) in
          let one = equals_same y in
          let at : sum_by (equals y) ys ≡ sum_by (equals y) (y ∷ zs) = ap (sum_by (equals y)) is in
          absurd (omega (arith, none, w, one, at, sum_by-cons (equals y) y zs)))
    ]

flips : (x y : ℕ) → nat_eq x y ≡ nat_eq y x
flips x y = elim (eqb_tells x y) [
  | inl hit ↦ elim (eqb_tells y x) [ inl too ↦ hit.0 ∙ sym too.0 | inr miss ↦ absurd (miss.1 (sym hit.1)) ]
  | inr miss ↦ elim (eqb_tells y x) [ inl hit ↦ absurd (miss.1 (sym hit.1)) | inr too ↦ miss.0 ∙ sym too.0 ]
]

rising_differ : (ys : List ℕ) → IsStrictlyIncreasing ys → IsDistinct nat_eq ys
rising_differ ys up = IsDistinct-from_apart nat_eq ys (λ i j d less within. other (get_or ys i d) (get_or ys j d) (below_from_sorted ys i j d (sorted_from_strictly_increasing ys up) less within))
  where
    other : (a b : ℕ) → a < b → nat_eq a b ≡ false
    other a b less = elim (eqb_tells a b) [ inl hit ↦ (let same = hit.1 in absurd (omega (arith, same, less))) | inr miss ↦ miss.0 ]

-- sorted numbers rise exactly where they differ
pub differ_iff : (xs ys : List ℕ) (most : ℕ) → IsPermutation xs ys → IsNonDecreasing ys
    → (All (λ n. n ≤ most) ys × IsStrictlyIncreasing ys) ↔ (All (λ n. n ≤ most) xs × IsDistinct nat_eq xs)
differ_iff xs ys most perm up =
    let back = IsPermutation-sym xs ys perm in (
      λ h. (All-permutation (λ n. n ≤ most) ys xs back h.0, IsDistinct-IsPermutation nat_eq flips ys xs back (rising_differ ys h.1)),
      λ h. (All-permutation (λ n. n ≤ most) xs ys perm h.0, IsStrictlyIncreasing-from_distinct ys up (IsDistinct-IsPermutation nat_eq flips xs ys perm h.1)),
    )
