-- What holds of each element of a list.
use Rattle.std.proofs.Common.{◌≡◌, ℕ, zero, suc, inl, inr, List, [], ◌∷◌, ◌++◌, map, refl, sym, subst, arith}
use Rattle.std.specs.Prelude.{Some, slice_get, Contains}
use Rattle.std.specs.List.{flat_map}
use Rattle.std.proofs.lemmas.List.Elements.{Contains-append_right}
use Rattle.ir_ast.specs.Tokens.{Each}
use Rattle.runs.specs.Parts.{Has}

pub in_contains : {A : Type 0} (a : A) (xs : List A) → Has xs a → Contains xs a
in_contains a [] h = absurd h
in_contains a (x ∷ xs) (inl is) = subst (λ z. Contains (z ∷ xs) a) (sym is) (0, omega arith, refl)
in_contains a (x ∷ xs) (inr h) = Contains-append_right (x ∷ []) xs a (in_contains a xs h)

pub contains_at : {A : Type 0} (xs : List A) (k : ℕ) (x : A) → slice_get xs k ≡ Some x → Contains xs x
contains_at [] k x is = cc
contains_at (y ∷ ys) zero x is = let same : y ≡ x = cc in subst (λ z. Contains (z ∷ ys) x) (sym same) (0, omega arith, refl)
contains_at (y ∷ ys) (suc k) x is = Contains-append_right (y ∷ []) ys x (contains_at ys k x is)

pub each_at : {A : Type 0} (P : A → Type 0) (xs : List A) (k : ℕ) (x : A) → Each P xs → slice_get xs k ≡ Some x → P x
each_at P [] k x all is = cc
each_at P (y ∷ ys) zero x all is = let same : y ≡ x = cc in subst P same all.0
each_at P (y ∷ ys) (suc k) x all is = each_at P ys k x all.1 is

pub each_from : {A : Type 0} (P : A → Type 0) (xs : List A) → ((a : A) → Has xs a → P a) → Each P xs
each_from P [] f = tt
each_from P (x ∷ xs) f = (f x (inl refl), each_from P xs (λ a i. f a (inr i)))

pub each_left : {A : Type 0} (P : A → Type 0) (xs ys : List A) → Each P (xs ++ ys) → Each P xs
each_left P [] ys all = tt
each_left P (x ∷ xs) ys all = (all.0, each_left P xs ys all.1)

pub each_right : {A : Type 0} (P : A → Type 0) (xs ys : List A) → Each P (xs ++ ys) → Each P ys
each_right P [] ys all = all
each_right P (x ∷ xs) ys all = each_right P xs ys all.1

pub each_flat : {A B : Type 0} (P : B → Type 0) (f : A → List B) (xs : List A) → Each P (flat_map f xs) → Each (λ x. Each P (f x)) xs
each_flat P f [] all = tt
each_flat P f (x ∷ xs) all = (each_left P (f x) (flat_map f xs) all, each_flat P f xs (each_right P (f x) (flat_map f xs) all))

pub each_map : {A B : Type 0} (P : B → Type 0) (f : A → B) (xs : List A) → Each P (map f xs) → Each (λ x. P (f x)) xs
each_map P f [] all = tt
each_map P f (x ∷ xs) all = (all.0, each_map P f xs all.1)

pub each_all : {A : Type 0} (P Q : A → Type 0) → ((x : A) → P x → Q x) → (xs : List A) → Each P xs → Each Q xs
each_all P Q f [] all = tt
each_all P Q f (x ∷ xs) all = (f x all.0, each_all P Q f xs all.1)

pub each_both : {A : Type 0} (P Q : A → Type 0) (xs : List A) → Each P xs → Each Q xs → Each (λ x. P x × Q x) xs
each_both P Q [] one two = tt
each_both P Q (x ∷ xs) one two = ((one.0, two.0), each_both P Q xs one.1 two.1)
