-- A text that grows by one piece after another.
use Rattle.std.proofs.Common.{◌≡◌, ℕ, ◌+◌, ◌<◌, List, [], ◌∷◌, ◌++◌, length, get_or, take, ap, sym, ◌∙◌, append_assoc}
use Rattle.std.specs.List.{flat_map}
use Rattle.std.proofs.lemmas.List.{flat_map_more, take_more}

-- by a, and then by r
pub grown : (t0 t1 t a r : List ℕ) → t1 ≡ t0 ++ a → t ≡ t1 ++ r → t ≡ t0 ++ (a ++ r)
grown t0 t1 t a r first rest = rest ∙ ap (λ (x : List ℕ). x ++ r) first ∙ append_assoc t0 a r

-- by a piece that is b
pub grown_by : (t0 t1 a b : List ℕ) → t1 ≡ t0 ++ a → a ≡ b → t1 ≡ t0 ++ b
grown_by t0 t1 a b by is = by ∙ ap (λ (x : List ℕ). t0 ++ x) is

-- by the piece of the next item
pub grown_by_item : {A : Type 0} (f : A → List ℕ) (xs : List A) (i : ℕ) (x : A) (t0 t1 t : List ℕ) → i < length xs → x ≡ get_or xs i x
    → t1 ≡ t0 ++ flat_map f (take i xs) → t ≡ t1 ++ f x → t ≡ t0 ++ flat_map f (take (i + 1) xs)
grown_by_item {A} f xs i x t0 t1 t low at before by =
    by ∙ ap (λ (u : List ℕ). u ++ f x) before ∙ flat_map_more f t0 (take i xs) x
    ∙ ap (λ (ys : List A). t0 ++ flat_map f ys) (ap (λ (y : A). take i xs ++ y ∷ []) at ∙ sym (take_more xs i x low))
