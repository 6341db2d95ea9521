-- Two rising lists that weigh the same in every way are one list. Equality of entries is decidable, since each value of a Rust type is coded as a tree of numbers.
use Rattle.std.proofs.Common.{◌≡◌, ℕ, suc, ◌<◌, ◌≤◌, ◌⊎◌, List, [], ◌∷◌, All, AllPairs, sum_by, refl, sym, ap, subst, inl, inr, ⊎_elim, arith}
use native.Mathlib.Decide.{ℕ_discrete}
use base.Stored.{Gv, gnil, gnum, gcons}
use Rattle.std.proofs.lemmas.List.Sums.{sum_by-cons}
use Rattle.std.proofs.lemmas.List.Elements.{All-head, All-tail}
use Rattle.history.specs.declared.entry.Entry.{Entry}
use Rattle.history.specs.contracts.entry.Entry.{the_row}
use Rattle.history.specs.Merge.{stamp_of}
use Rattle.turn_lock.specs.Laws.{WeightsTellHistories}

module _ {X : Type 0} (stamp : X → ℕ) (same : (x y : X) → Dec (x ≡ y)) where
  abbrev hit : {P : Type 0} → Dec P → ℕ
  hit (yes p) = 1
  hit (no p) = 0

  abbrev Climbs : List X → Type 0
  Climbs xs = AllPairs (λ x y. stamp x < stamp y) xs

  -- 1 for this element
  abbrev spot : X → X → ℕ
  spot x y = hit (same x y)

  spot_here : (x : X) → spot x x ≡ 1
  spot_here x = go (same x x)
    where
      go : (d : Dec (x ≡ x)) → hit d ≡ 1
      go (yes p) = refl
      go (no p) = absurd (p refl)

  spot_cases : (x y : X) → (x ≡ y) ⊎ (spot x y ≡ 0)
  spot_cases x y = go (same x y)
    where
      go : (d : Dec (x ≡ y)) → (x ≡ y) ⊎ (hit d ≡ 0)
      go (yes p) = inl p
      go (no p) = inr refl

  -- an element that stands in a list whose elements are later is later
  later : (x : X) (low : ℕ) (ys : List X) → All (λ y. low < stamp y) ys → 1 ≤ sum_by (spot x) ys → low < stamp x
  later x low [] h counted = absurd (omega arith)
  later x low (y ∷ ys) h counted =
      let both = sum_by-cons (spot x) y ys in
      ⊎_elim (λ (e : x ≡ y). subst (λ z. low < stamp z) (sym e) (All-head (λ z. low < stamp z) y ys h))
      (λ away. later x low ys (All-tail (λ z. low < stamp z) y ys h) (omega arith)) (spot_cases x y)

  heads : (x : X) (xs : List X) → Climbs (x ∷ xs) → All (λ y. stamp x < stamp y) xs
  heads x xs r k d lt = r 0 (suc k) d (omega arith) (omega arith)

  tails : (x : X) (xs : List X) → Climbs (x ∷ xs) → Climbs xs
  tails x xs r i j d lt inside = r (suc i) (suc j) d (omega arith) (omega arith)

  pub same_lists : (xs ys : List X) → Climbs xs → Climbs ys → ((h : X → ℕ) → sum_by h xs ≡ sum_by h ys) → xs ≡ ys
  same_lists [] [] r q weighs = refl
  same_lists [] (y ∷ ys) r q weighs = let a = weighs (λ _. 1) in absurd (omega (arith, sum_by-cons (λ (_ : X). 1) y ys))
  same_lists (x ∷ xs) [] r q weighs = let a = weighs (λ _. 1) in absurd (omega (arith, sum_by-cons (λ (_ : X). 1) x xs))
  same_lists (x ∷ xs) (y ∷ ys) r q weighs = ⊎_elim
      (λ (e : x ≡ y).
      let rest : xs ≡ ys = same_lists xs ys (tails x xs r) (tails y ys q)
      (λ h. let a = weighs h in let b : h x ≡ h y = ap h e in omega (arith, sum_by-cons h x xs, sum_by-cons h y ys)) in
      λ i. e i ∷ rest i)
      (λ (apart : spot x y ≡ 0).
      let one = spot_here x in
      let a = weighs (spot x) in
      let up : stamp y < stamp x = later x (stamp y) ys (heads y ys q) (omega (arith, sum_by-cons (spot x) x xs, sum_by-cons (spot x) y ys)) in
      let other : spot y x ≡ 0 = ⊎_elim (λ (e : y ≡ x). absurd (let f : stamp y ≡ stamp x = ap stamp e in omega arith)) (λ z. z) (spot_cases y x) in
      let two = spot_here y in
      let b = weighs (spot y) in
      let down : stamp x < stamp y = later y (stamp x) xs (heads x xs r) (omega (arith, sum_by-cons (spot y) x xs, sum_by-cons (spot y) y ys)) in
      absurd (omega arith))
      (spot_cases x y)

tree_same : (a b : Gv) → Dec (a ≡ b)
tree_same gnil gnil = yes refl
tree_same gnil (gnum n) = no (λ e. cc)
tree_same gnil (gcons a b) = no (λ e. cc)
tree_same (gnum n) gnil = no (λ e. cc)
tree_same (gnum n) (gnum m) = numbers (ℕ_discrete n m)
  where
    numbers : Dec (n ≡ m) → Dec (gnum n ≡ gnum m)
    numbers (yes e) = yes (ap gnum e)
    numbers (no ne) = no (λ e. ne cc)
tree_same (gnum n) (gcons a b) = no (λ e. cc)
tree_same (gcons a b) gnil = no (λ e. cc)
tree_same (gcons a b) (gnum n) = no (λ e. cc)
tree_same (gcons a b) (gcons c d) = both (tree_same a c) (tree_same b d)
  where
    both : Dec (a ≡ c) → Dec (b ≡ d) → Dec (gcons a b ≡ gcons c d)
    both (yes e) (yes f) = yes (λ i. gcons (e i) (f i))
    both (yes e) (no ne) = no (λ p. ne cc)
    both (no ne) f = no (λ p. ne cc)

entry_same : (x y : Entry) → Dec (x ≡ y)
entry_same x y = decide (tree_same (the_row.coded.code x) (the_row.coded.code y))
  where
    decide : Dec (the_row.coded.code x ≡ the_row.coded.code y) → Dec (x ≡ y)
    decide (yes e) = yes (the_row.coded.inj x y e)
    decide (no ne) = no (λ p. ne (ap the_row.coded.code p))

pub weights_tell_histories : WeightsTellHistories
weights_tell_histories = same_lists stamp_of entry_same
