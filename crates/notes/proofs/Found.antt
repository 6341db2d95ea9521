-- The first that passes a test, of items and of what they stand for.
use Rattle.std.proofs.Common.{◌≡◌, Bool, true, false, List, [], ◌∷◌, Option, Some, None, Bor, cond, find, map, refl}
use Rattle.std.specs.Option.{option_copied, option_map}

chosen : {A B : Type 0} (f : A → B) (b : Bool) (x : A) (o : Option A) (q : Option B) → option_map f o ≡ q
    → option_map f (cond b (Some x) o) ≡ cond b (Some (f x)) q
chosen f true x o q is = refl
chosen f false x o q is = is

pub find_mapped : {A B : Type 0} (f : A → B) (p : B → Bool) (xs : List A) → option_map f (find (λ x. p (f x)) xs) ≡ find p (map f xs)
find_mapped f p [] = refl
find_mapped f p (x ∷ xs) = chosen f (p (f x)) x (find (λ y. p (f y)) xs) (find p (map f xs)) (find_mapped f p xs)

pub of_copied : {A B : Type 0} (f : A → B) (r : Option (Bor A)) → option_map (λ x. f x.now) r ≡ option_map f (option_copied r)
of_copied f None = refl
of_copied f (Some x) = refl
