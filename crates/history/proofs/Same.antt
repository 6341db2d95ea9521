-- Lists of the same items.
use Rattle.std.proofs.Common.{◌≡◌, ℕ, suc, ◌<◌, Some, List, [], ◌∷◌, length, slice_get, refl, arith, inl, inr, ap, ◌∙◌, sym}
use Rattle.std.specs.Prelude.{◌+◌}
use Rattle.std.proofs.lemmas.Bool.{cases_lt}

-- the items below a number are the same
abbrev pub AgreeBelow : {A : Type 0} → ℕ → List A → List A → Type 0
AgreeBelow n xs ys = (k : ℕ) → k < n → slice_get xs k ≡ slice_get ys k

pub same_items : {A : Type 0} (xs ys : List A) → length xs ≡ length ys → AgreeBelow (length xs) xs ys → xs ≡ ys
same_items [] [] long h = refl
same_items [] (y ∷ ys) long h = absurd (omega (arith, long))
same_items (x ∷ xs) [] long h = absurd (omega (arith, long))
same_items (x ∷ xs) (y ∷ ys) long h =
    let first : Some x ≡ Some y = h 0 (omega arith) in
    let rest : xs ≡ ys = same_items xs ys (omega (arith, long)) (λ k lt. h (suc k) (omega (arith, lt))) in
    cc

pub agree_more : {A : Type 0} (n : ℕ) (xs ys : List A) → AgreeBelow n xs ys → slice_get xs n ≡ slice_get ys n → AgreeBelow (n + 1) xs ys
agree_more n xs ys h at k lt = elim (cases_lt k n) [
  | inl below ↦ h k below
  | inr above ↦ let same : k ≡ n = omega (arith, lt, above) in ap (slice_get xs) same ∙ at ∙ ap (slice_get ys) (sym same)
]
