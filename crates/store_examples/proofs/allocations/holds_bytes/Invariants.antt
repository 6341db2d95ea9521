use Rattle.std.proofs.Common.{◌≡◌, ℕ, suc, ◌<◌, Some, List, [], ◌∷◌, slice_get, refl, arith, inl, inr, ap, subst, ◌∙◌, sym}
use Rattle.std.specs.Prelude.{◌+◌}
use Rattle.std.proofs.lemmas.Bool.{cases_lt}
use Rattle.ir_ast.specs.Tokens.{Each}
use Rattle.store_examples.proofs.allocations.holds_bytes.Given as goal

-- P holds of the items below a place
abbrev pub HoldsBelow : {A : Type 0} → (A → Type 0) → ℕ → List A → Type 0
HoldsBelow P n xs = (k : ℕ) (x : _) → k < n → slice_get xs k ≡ Some x → P x

pub each_by_place : {A : Type 0} (P : A → Type 0) (xs : List A) → ((k : ℕ) (x : A) → slice_get xs k ≡ Some x → P x) → Each P xs
each_by_place P [] h = tt
each_by_place P (x ∷ xs) h = (h 0 x refl, each_by_place P xs (λ k y is. h (suc k) y is))

same_item : {A : Type 0} {x y : A} → Some x ≡ Some y → x ≡ y
same_item h = cc

pub holds_more : {A : Type 0} (P : A → Type 0) (n : ℕ) (xs : List A) (x : A) → HoldsBelow P n xs → slice_get xs n ≡ Some x → P x → HoldsBelow P (n + 1) xs
holds_more P n xs x h at here k y lt is = elim (cases_lt k n) [
  | inl below ↦ h k y below is
  | inr above ↦ let same : k ≡ n = omega (arith, lt, above) in subst P (same_item (sym at ∙ ap (slice_get xs) (sym same) ∙ is)) here
]

abbrev pub invariant-loop-at : goal.invariant-loop-at
invariant-loop-at l = HoldsBelow (λ b. b.0 < 256) l.at l.piece
