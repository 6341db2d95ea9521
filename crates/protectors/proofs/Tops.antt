-- The last of a list's items, and a view of each of them.
use Rattle.std.proofs.Common.{◌≡◌, ℕ, zero, suc, ◌+◌, ◌-◌, ◌<◌, List, [], ◌∷◌, ◌++◌, length, take, set, get_or, length-append, refl, ap, ◌∙◌, arith}
use Rattle.std.specs.Prelude.{map}
use Rattle.bsan_ids.specs.declared.numbers.Prov.{Prov}
use Rattle.protectors.specs.Lists.{top_of, below_top}

-- an item is changed to one of the same view
pub map-set_kept : {A B : Type 0} (f : A → B) (xs : List A) (i : ℕ) (old new : A) → i < length xs → old ≡ get_or xs i old → f new ≡ f old → map f (set xs i new) ≡ map f xs
map-set_kept f [] i old new lt read e = absurd (omega arith)
map-set_kept f (x ∷ xs) zero old new lt read e = ap (λ z. z ∷ map f xs) (e ∙ ap f read)
map-set_kept f (x ∷ xs) (suc i) old new lt read e = ap (λ zs. f x ∷ zs) (map-set_kept f xs i old new (omega arith) read e)

-- the last item is changed to one of a longer view
pub map-set_top : {A : Type 0} (f : A → List Prov) (xs : List A) (i : ℕ) (old new : A) (p : Prov) → i + 1 ≡ length xs → old ≡ get_or xs i old → f new ≡ f old ++ p ∷ [] → map f (set xs i new) ≡ take i (map f xs) ++ (get_or (map f xs) i [] ++ p ∷ []) ∷ []
map-set_top f [] i old new p e read grown = absurd (omega arith)
map-set_top f (x ∷ []) zero old new p e read grown = ap (λ z. z ∷ []) (grown ∙ ap (λ z. f z ++ p ∷ []) read)
map-set_top f (x ∷ y ∷ xs) zero old new p e read grown = absurd (omega arith)
map-set_top f (x ∷ xs) (suc i) old new p e read grown = ap (λ zs. f x ∷ zs) (map-set_top f xs i old new p (omega arith) read grown)

-- of a list with one more at its end, that is on top, and the others are below
pub top_of-append : (below : List (List Prov)) (top : List Prov) → top_of (below ++ top ∷ []) ≡ top
top_of-append below top = at_end below (length (below ++ top ∷ []) - 1) (omega (arith, length-append below (top ∷ [])))
  where
    at_end : (below : List (List Prov)) (i : ℕ) → i ≡ length below → get_or (below ++ top ∷ []) i [] ≡ top
    at_end [] zero e = refl
    at_end [] (suc i) e = absurd (omega arith)
    at_end (list ∷ below) zero e = absurd (omega arith)
    at_end (list ∷ below) (suc i) e = at_end below i (omega arith)

pub below_top-append : (below : List (List Prov)) (top : List Prov) → below_top (below ++ top ∷ []) ≡ below
below_top-append below top = front below (length (below ++ top ∷ []) - 1) (omega (arith, length-append below (top ∷ [])))
  where
    front : (below : List (List Prov)) (i : ℕ) → i ≡ length below → take i (below ++ top ∷ []) ≡ below
    front [] zero e = refl
    front [] (suc i) e = absurd (omega arith)
    front (list ∷ below) zero e = absurd (omega arith)
    front (list ∷ below) (suc i) e = ap (λ lists. list ∷ lists) (front below i (omega arith))
