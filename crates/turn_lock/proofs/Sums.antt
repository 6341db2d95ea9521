-- Sums over a list of which one element changes.
use Rattle.std.proofs.Common.{◌≡◌, ℕ, zero, suc, ◌+◌, ◌≤◌, ◌≢◌, List, [], ◌∷◌, ◌++◌, set, sum_by, sym, refl, ap, arith}
use mathlib.Core.Option.{some, some-injective, some-ne-none}
use lib.ListN.{get_elem?}
use Rattle.std.proofs.lemmas.List.Sums.{sum_by-cons, sum_by_push}

module _ {X : Type 0} where
  pub sum_set : (f : X → ℕ) (xs : List X) (i : ℕ) (v w : X) → get_elem? xs i ≡ some v → sum_by f (set xs i w) + f v ≡ sum_by f xs + f w
  sum_set f [] i v w e = absurd (some-ne-none v (sym e))
  sum_set f (x ∷ xs) zero v w e = let same : f x ≡ f v = ap f (some-injective x v e) in omega (arith, sum_by-cons f w xs, sum_by-cons f x xs)
  sum_set f (x ∷ xs) (suc i) v w e = let rest = sum_set f xs i v w e in omega (arith, sum_by-cons f x (set xs i w), sum_by-cons f x xs)

  pub sum_at : (f : X → ℕ) (xs : List X) (i : ℕ) (v : X) → get_elem? xs i ≡ some v → f v ≤ sum_by f xs
  sum_at f [] i v e = absurd (some-ne-none v (sym e))
  sum_at f (x ∷ xs) zero v e = let same : f x ≡ f v = ap f (some-injective x v e) in omega (arith, sum_by-cons f x xs)
  sum_at f (x ∷ xs) (suc i) v e = let rest = sum_at f xs i v e in omega (arith, sum_by-cons f x xs)

  pub sum_two : (f : X → ℕ) (xs : List X) (i j : ℕ) (v u : X) → i ≢ j → get_elem? xs i ≡ some v → get_elem? xs j ≡ some u → f v + f u ≤ sum_by f xs
  sum_two f [] i j v u apart e d = absurd (some-ne-none v (sym e))
  sum_two f (x ∷ xs) zero zero v u apart e d = absurd (apart refl)
  sum_two f (x ∷ xs) zero (suc j) v u apart e d = let same : f x ≡ f v = ap f (some-injective x v e) in let rest = sum_at f xs j u d in omega (arith, sum_by-cons f x xs)
  sum_two f (x ∷ xs) (suc i) zero v u apart e d = let same : f x ≡ f u = ap f (some-injective x u d) in let rest = sum_at f xs i v e in omega (arith, sum_by-cons f x xs)
  sum_two f (x ∷ xs) (suc i) (suc j) v u apart e d = let rest = sum_two f xs i j v u (λ p. apart (ap suc p)) e d in omega (arith, sum_by-cons f x xs)

  pub sum_each : (f g : X → ℕ) (xs : List X) → ((i : ℕ) (v : X) → get_elem? xs i ≡ some v → f v ≤ g v) → sum_by f xs ≤ sum_by g xs
  sum_each f g [] h = omega arith
  sum_each f g (x ∷ xs) h = let first = h 0 x refl in let rest = sum_each f g xs (λ i v e. h (suc i) v e) in omega (arith, sum_by-cons f x xs, sum_by-cons g x xs)

  pub sum_none : (f : X → ℕ) (xs : List X) → ((i : ℕ) (v : X) → get_elem? xs i ≡ some v → f v ≡ 0) → sum_by f xs ≡ 0
  sum_none f [] h = refl
  sum_none f (x ∷ xs) h = let first = h 0 x refl in let rest = sum_none f xs (λ i v e. h (suc i) v e) in omega (arith, sum_by-cons f x xs)

  pub sum_plus : (f g : X → ℕ) (xs : List X) → sum_by (λ x. f x + g x) xs ≡ sum_by f xs + sum_by g xs
  sum_plus f g [] = refl
  sum_plus f g (x ∷ xs) = let rest = sum_plus f g xs in omega (arith, sum_by-cons f x xs, sum_by-cons g x xs, sum_by-cons (λ x. f x + g x) x xs)

  pub sum_alike : (f g : X → ℕ) (xs : List X) → ((x : X) → f x ≡ g x) → sum_by f xs ≡ sum_by g xs
  sum_alike f g [] h = refl
  sum_alike f g (x ∷ xs) h = let first = h x in let rest = sum_alike f g xs h in omega (arith, sum_by-cons f x xs, sum_by-cons g x xs)

  -- the views after a step, by what each way of weighing loses and gains
  abbrev pub Moves : List X → List X → ((X → ℕ) → ℕ) → ((X → ℕ) → ℕ) → Type 0
  Moves before after lost gained = (f : X → ℕ) → sum_by f after + lost f ≡ sum_by f before + gained f

  pub moves_set : (xs : List X) (i : ℕ) (v w : X) → get_elem? xs i ≡ some v → Moves xs (set xs i w) (λ f. f v) (λ f. f w)
  moves_set xs i v w e f = sum_set f xs i v w e

  pub moves_split : (xs : List X) (i : ℕ) (v w u : X) → get_elem? xs i ≡ some v → Moves xs (set xs i w ++ u ∷ []) (λ f. f v) (λ f. f w + f u)
  moves_split xs i v w u e f = let a = sum_set f xs i v w e in omega (arith, sum_by_push f (set xs i w) u)

  pub moves_join : (xs : List X) (i : ℕ) (v w : X) (j : ℕ) (u z : X) → get_elem? xs i ≡ some v → get_elem? (set xs i w) j ≡ some u → Moves xs (set (set xs i w) j z) (λ f. f v + f u) (λ f. f w + f z)
  moves_join xs i v w j u z e d f = let a = sum_set f xs i v w e in let b = sum_set f (set xs i w) j u z d in omega arith
