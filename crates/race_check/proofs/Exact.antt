-- Keys are told apart by their order, and by what they are made of.
use Rattle.std.proofs.Common.{◌≡◌, ◌≢◌, ℕ, Bool, true, false, refl, sym, ap, subst, ◌∙◌, arith, inl, inr}
use Rattle.std.specs.Prelude.{◌⊎◌, Option, Some, None}
use Rattle.std.specs.declared.cmp.Ordering.{Ordering}
use Rattle.std.specs.declared.cmp.Ordering.TheVariants.{Less, Equal, Greater}
use Rattle.std.specs.Ordering.{is_eq, nat_cmp, ordering_then}
use Rattle.std.proofs.lemmas.Bool.Decides.{nat_tests}
use Rattle.race_check.specs.declared.key.Key.{Key}
use Rattle.race_check.specs.declared.key.Key.TheVariants.{Thread, Start, Place}
use Rattle.race_check.specs.Clocks.{key_cmp}

nat_exact : (x y : ℕ) → is_eq (nat_cmp x y) ≡ true → x ≡ y
nat_exact x y h = grind (arith, nat_tests)

both_exact : (o p : Ordering) → is_eq (ordering_then o p) ≡ true → (is_eq o ≡ true) × (is_eq p ≡ true)
both_exact Less p h = absurd cc
both_exact Equal p h = (refl, h)
both_exact Greater p h = absurd cc

pub exact : (a b : Key) → is_eq (key_cmp a b) ≡ true → a ≡ b
exact (Thread s) (Thread t) h = ap (λ (n : ℕ). Thread (record { 0 = n })) (nat_exact s.0 t.0 h)
exact (Thread s) (Start t) h = absurd cc
exact (Thread s) (Place n at) h = absurd cc
exact (Start s) (Thread t) h = absurd cc
exact (Start s) (Start t) h = ap (λ (n : ℕ). Start (record { 0 = n })) (nat_exact s.0 t.0 h)
exact (Start s) (Place n at) h = absurd cc
exact (Place m from) (Thread t) h = absurd cc
exact (Place m from) (Start t) h = absurd cc
exact (Place m from) (Place n at) h =
    let both = both_exact (nat_cmp m.0 n.0) (nat_cmp from at) h in
    ap (λ (x : ℕ). Place (record { 0 = x }) from) (nat_exact m.0 n.0 both.0) ∙ ap (λ (x : ℕ). Place n x) (nat_exact from at both.1)

by_test : (b : Bool) → (b ≡ true → ⊥) → b ≡ false
by_test true h = absurd (h refl)
by_test false h = refl

pub apart : (a b : Key) → b ≢ a → is_eq (key_cmp a b) ≡ false
apart a b ne = by_test (is_eq (key_cmp a b)) (λ h. ne (sym (exact a b h)))

same_number : (x : ℕ) → is_eq (nat_cmp x x) ≡ true
same_number x = grind (arith, nat_tests)

then_same : (o p : Ordering) → is_eq o ≡ true → is_eq p ≡ true → is_eq (ordering_then o p) ≡ true
then_same Less p h g = absurd cc
then_same Equal p h g = g
then_same Greater p h g = absurd cc

itself : (a : Key) → is_eq (key_cmp a a) ≡ true
itself (Thread t) = same_number t.0
itself (Start t) = same_number t.0
itself (Place n at) = then_same (nat_cmp n.0 n.0) (nat_cmp at at) (same_number n.0) (same_number at)

pub key_or : (a b : Key) → (a ≡ b) ⊎ (a ≡ b → ⊥)
key_or a b = by_case (is_eq (key_cmp a b)) refl
  where
    by_case : (x : Bool) → is_eq (key_cmp a b) ≡ x → (a ≡ b) ⊎ (a ≡ b → ⊥)
    by_case true h = inl (exact a b h)
    by_case false h = inr (λ e. let at : is_eq (key_cmp a b) ≡ true = subst (λ (k : Key). is_eq (key_cmp a k) ≡ true) e (itself a) in absurd cc)

pub option_key_or : (o : Option Key) (k : Key) → (o ≡ Some k) ⊎ (o ≡ Some k → ⊥)
option_key_or None k = inr (λ e. absurd cc)
option_key_or (Some j) k = by_case (key_or j k)
  where
    by_case : (j ≡ k) ⊎ (j ≡ k → ⊥) → (Some j ≡ Some k) ⊎ (Some j ≡ Some k → ⊥)
    by_case (inl h) = inl (ap (λ (x : Key). Some x) h)
    by_case (inr h) = inr (λ e. h (cc))
