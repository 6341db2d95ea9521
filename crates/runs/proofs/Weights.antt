-- What the weights of lists tell: the same elements, and, where stamps rise, the same list.
use Rattle.std.proofs.Common.{◌≡◌, ◌≢◌, ℕ, ◌<◌, ◌≤◌, ◌⊎◌, cond, List, [], ◌∷◌, ◌++◌, refl, sym, ◌∙◌, ap, subst, inl, inr, ⊎_elim, arith, map, length, sum_by}
use Rattle.std.specs.Prelude.{◌==◌, IsPermutation}
use Rattle.std.specs.List.{flat_map}
use native.Mathlib.Decide.{ℕ_discrete}
use base.Stored.{Gv, gnil, gnum, gcons}
use Rattle.std.proofs.lemmas.Bool.Decides.{eqb_tells}
use Rattle.std.proofs.lemmas.List.Sums.{sum_by-cons, sum_by-append}
use Rattle.std.proofs.lemmas.List.Sorted.{IsPermutation-refl, IsPermutation-sym, IsPermutation-trans, IsPermutation-cons, IsPermutation-middle}
use Rattle.history.specs.declared.entry.Entry.{Entry}
use Rattle.history.specs.contracts.entry.Entry.{the_row}
use Rattle.runs.specs.Stamps.{RisesFrom}
use Rattle.runs.specs.Theorem.{WeightsTellNumbers}

-- 1 for this number
abbrev pub equals : ℕ → ℕ → ℕ
equals n m = cond (m == n) 1 0

pub equals_cases : (n m : ℕ) → ((m ≡ n) × (equals n m ≡ 1)) ⊎ ((m ≢ n) × (equals n m ≡ 0))
equals_cases n m = elim (eqb_tells m n) [ inl hit ↦ inl (hit.1, ap (λ b. cond b 1 0) hit.0) | inr miss ↦ inr (miss.1, ap (λ b. cond b 1 0) miss.0) ]

pub equals_same : (n : ℕ) → equals n n ≡ 1
equals_same n = elim (equals_cases n n) [ inl hit ↦ hit.1 | inr miss ↦ absurd (miss.0 refl) ]

pub equals_other : (n m : ℕ) → m ≢ n → equals n m ≡ 0
equals_other n m apart = elim (equals_cases n m) [ inl hit ↦ absurd (apart hit.0) | inr miss ↦ miss.1 ]

-- sums ---------------------------------------------------------------------------

module _ {X Y : Type 0} where
  pub sum_flat : (h : Y → ℕ) (f : X → List Y) (xs : List X) → sum_by h (flat_map f xs) ≡ sum_by (λ x. sum_by h (f x)) xs
  sum_flat h f [] = refl
  sum_flat h f (x ∷ xs) = let more = sum_flat h f xs in omega (arith, more, sum_by-append h (f x) (flat_map f xs), sum_by-cons (λ z. sum_by h (f z)) x xs)

  pub sum_map : (h : Y → ℕ) (g : X → Y) (xs : List X) → sum_by h (map g xs) ≡ sum_by (λ x. h (g x)) xs
  sum_map h g [] = refl
  sum_map h g (x ∷ xs) = let more = sum_map h g xs in omega (arith, more, sum_by-cons h (g x) (map g xs), sum_by-cons (λ z. h (g z)) x xs)

module _ {X : Type 0} where
  pub sum_same : (h k : X → ℕ) → ((x : X) → h x ≡ k x) → (xs : List X) → sum_by h xs ≡ sum_by k xs
  sum_same h k same [] = refl
  sum_same h k same (x ∷ xs) = let more = sum_same h k same xs in let one = same x in omega (arith, more, one, sum_by-cons h x xs, sum_by-cons k x xs)

  pub sum_ones : (xs : List X) → sum_by (λ x. 1) xs ≡ length xs
  sum_ones [] = refl
  sum_ones (x ∷ xs) = let more = sum_ones xs in omega (arith, more, sum_by-cons (λ (z : X). 1) x xs)

-- elements that are told apart ---------------------------------------------------------

module _ {X : Type 0} (same : (x y : X) → Dec (x ≡ y)) where
  abbrev hit : {P : Type 0} → Dec P → ℕ
  hit (yes p) = 1
  hit (no p) = 0

  -- 1 for this element
  abbrev spot : X → X → ℕ
  spot x y = hit (same x y)

  spot_here : (x : X) → spot x x ≡ 1
  spot_here x = go (same x x)
    where
      go : (d : Dec (x ≡ x)) → hit d ≡ 1
      go (yes p) = refl
      go (no p) = absurd (p refl)

  spot_cases : (x y : X) → (x ≡ y) ⊎ (spot x y ≡ 0)
  spot_cases x y = go (same x y)
    where
      go : (d : Dec (x ≡ y)) → (x ≡ y) ⊎ (hit d ≡ 0)
      go (yes p) = inl p
      go (no p) = inr refl

  found : (x : X) (ys : List X) → 1 ≤ sum_by (spot x) ys → (us : List X) × (vs : List X) × (ys ≡ us ++ x ∷ vs)
  found x [] le = absurd (omega (arith, le))
  found x (y ∷ ys) le = ⊎_elim (λ (e : x ≡ y). ([], ys, ap (λ z. z ∷ ys) (sym e)))
      (λ (away : spot x y ≡ 0). (let r = found x ys (omega (arith, le, away, sum_by-cons (spot x) y ys)) in (y ∷ r.0, r.1, ap (λ l. y ∷ l) r.2)))
      (spot_cases x y)

  pub alike_permute : (xs ys : List X) → ((h : X → ℕ) → sum_by h xs ≡ sum_by h ys) → IsPermutation xs ys
  alike_permute [] [] weighs = IsPermutation-refl []
  alike_permute [] (y ∷ ys) weighs = let a = weighs (λ _. 1) in absurd (omega (arith, a, sum_by-cons (λ (_ : X). 1) y ys))
  alike_permute (x ∷ xs) ys weighs =
      let one = spot_here x in
      let a = weighs (spot x) in
      let r = found x ys (omega (arith, one, a, sum_by-cons (spot x) x xs)) in
      let rest : IsPermutation xs (r.0 ++ r.1) = alike_permute xs (r.0 ++ r.1)
      (λ h. (let b = weighs h ∙ ap (sum_by h) r.2 in omega (arith, b, sum_by-cons h x xs, sum_by-append h r.0 (x ∷ r.1), sum_by-cons h x r.1, sum_by-append h r.0 r.1))) in
      let first : IsPermutation (x ∷ xs) (x ∷ (r.0 ++ r.1)) = IsPermutation-cons x xs (r.0 ++ r.1) rest in
      subst (λ l. IsPermutation (x ∷ xs) l) (sym r.2)
      (IsPermutation-trans (x ∷ xs) (x ∷ (r.0 ++ r.1)) (r.0 ++ x ∷ r.1) first (IsPermutation-sym (r.0 ++ x ∷ r.1) (x ∷ (r.0 ++ r.1)) (IsPermutation-middle r.0 x r.1)))

pub weights_tell_numbers : WeightsTellNumbers
weights_tell_numbers = alike_permute ℕ_discrete

-- Equality of entries is decided: each value of a type of the code is coded as a tree of numbers.

tree_same : (a b : Gv) → Dec (a ≡ b)
tree_same gnil gnil = yes refl
tree_same gnil (gnum n) = no (λ e. cc)
tree_same gnil (gcons a b) = no (λ e. cc)
tree_same (gnum n) gnil = no (λ e. cc)
tree_same (gnum n) (gnum m) = numbers (ℕ_discrete n m)
  where
    numbers : Dec (n ≡ m) → Dec (gnum n ≡ gnum m)
    numbers (yes e) = yes (ap gnum e)
    numbers (no ne) = no (λ e. ne cc)
tree_same (gnum n) (gcons a b) = no (λ e. cc)
tree_same (gcons a b) gnil = no (λ e. cc)
tree_same (gcons a b) (gnum n) = no (λ e. cc)
tree_same (gcons a b) (gcons c d) = both (tree_same a c) (tree_same b d)
  where
    both : Dec (a ≡ c) → Dec (b ≡ d) → Dec (gcons a b ≡ gcons c d)
    both (yes e) (yes f) = yes (λ i. gcons (e i) (f i))
    both (yes e) (no ne) = no (λ p. ne cc)
    both (no ne) f = no (λ p. ne cc)

entry_same : (x y : Entry) → Dec (x ≡ y)
entry_same x y = decide (tree_same (the_row.coded.code x) (the_row.coded.code y))
  where
    decide : Dec (the_row.coded.code x ≡ the_row.coded.code y) → Dec (x ≡ y)
    decide (yes e) = yes (the_row.coded.inj x y e)
    decide (no ne) = no (λ p. ne (ap the_row.coded.code p))

abbrev spot_of : Entry → Entry → ℕ
spot_of = spot entry_same

-- an entry that stands in a list that rises is later
later : (x : Entry) (low : ℕ) (ys : List Entry) → RisesFrom low ys → 1 ≤ sum_by (spot_of x) ys → low < x.stamp.0
later x low [] r counted = absurd (omega (arith, counted))
later x low (y ∷ ys) r counted = ⊎_elim (λ (e : x ≡ y). subst (λ (z : Entry). low < z.stamp.0) (sym e) r.0)
    (λ (away : spot_of x y ≡ 0).
    let more = later x y.stamp.0 ys r.1 (omega (arith, counted, away, sum_by-cons (spot_of x) y ys)) in
    let less = r.0 in omega (arith, more, less))
    (spot_cases entry_same x y)

-- entries whose stamps rise are told by their weights
pub same_entries : (n k : ℕ) (xs ys : List Entry) → RisesFrom n xs → RisesFrom k ys → ((h : Entry → ℕ) → sum_by h xs ≡ sum_by h ys) → xs ≡ ys
same_entries n k [] [] r q weighs = refl
same_entries n k [] (y ∷ ys) r q weighs = let a = weighs (λ _. 1) in absurd (omega (arith, a, sum_by-cons (λ (_ : Entry). 1) y ys))
same_entries n k (x ∷ xs) [] r q weighs = let a = weighs (λ _. 1) in absurd (omega (arith, a, sum_by-cons (λ (_ : Entry). 1) x xs))
same_entries n k (x ∷ xs) (y ∷ ys) r q weighs = ⊎_elim
    (λ (e : x ≡ y).
    let rest : xs ≡ ys = same_entries x.stamp.0 y.stamp.0 xs ys r.1 q.1 (λ h. (let a = weighs h in let b : h x ≡ h y = ap h e in omega (arith, a, b, sum_by-cons h x xs, sum_by-cons h y ys))) in
    λ i. e i ∷ rest i)
    (λ (apart : spot_of x y ≡ 0).
    let one = spot_here entry_same x in
    let a = weighs (spot_of x) in
    let up : y.stamp.0 < x.stamp.0 = later x y.stamp.0 ys q.1 (omega (arith, one, a, apart, sum_by-cons (spot_of x) x xs, sum_by-cons (spot_of x) y ys)) in
    let other : spot_of y x ≡ 0 = ⊎_elim (λ (e : y ≡ x). absurd (let f : y.stamp.0 ≡ x.stamp.0 = ap (λ (z : Entry). z.stamp.0) e in omega (arith, f, up))) (λ z. z) (spot_cases entry_same y x) in
    let two = spot_here entry_same y in
    let b = weighs (spot_of y) in
    let down : x.stamp.0 < y.stamp.0 = later y x.stamp.0 xs r.1 (omega (arith, two, b, other, sum_by-cons (spot_of y) x xs, sum_by-cons (spot_of y) y ys)) in
    absurd (omega (arith, up, down)))
    (spot_cases entry_same x y)
