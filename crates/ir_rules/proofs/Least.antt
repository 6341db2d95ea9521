-- The first of the faults so far.
use Rattle.std.proofs.Common.{◌≡◌, ◌⊎◌, inl, inr, Bool, true, false, cond, Option, Some, None, refl, ap, ◌∙◌, arith}
use Rattle.std.proofs.lemmas.Bool.{cases_lt}
use Rattle.ir_rules.specs.declared.rule.Fault.{Fault}
use Rattle.ir_rules.specs.Least.{rank, is_before, lesser, NotAfter, IsLeast}

after-trans : (x y z : Fault) → NotAfter x y → NotAfter y z → NotAfter x z
after-trans x y z (inl a) (inl b) = inl (omega (arith, a, b))
after-trans x y z (inl a) (inr b) = inl (omega (arith, a, b.0))
after-trans x y z (inr a) (inl b) = inl (omega (arith, a.0, b))
after-trans x y z (inr a) (inr b) = inr (a.0 ∙ b.0, omega (arith, a.1, b.1))

pub same-after : (x y : Fault) → x ≡ y → NotAfter x y
same-after x y e = inr (ap (λ (z : Fault). z.at) e, let r : rank x.rule ≡ rank y.rule = ap (λ (z : Fault). rank z.rule) e in omega (arith, r))

before-yes : (x y : Fault) → is_before x y ≡ true → NotAfter x y
before-yes x y e = elim (cases_lt x.at y.at) [
  | inl lt ↦ inl lt
  | inr ge ↦ grind (arith, e, ge)
]

before-no : (x y : Fault) → is_before x y ≡ false → NotAfter y x
before-no x y e = elim (cases_lt y.at x.at) [
  | inl lt ↦ inl lt
  | inr ge ↦ grind (arith, e, ge)
]

least-pick : (S T : Fault → Type 0) (x y : Fault) (b : Bool) → is_before y x ≡ b → IsLeast S (Some x) → IsLeast T (Some y) → IsLeast (λ z. S z ⊎ T z) (cond b (Some y) (Some x))
least-pick S T x y true e s t = (
  inr t.0,
  λ z h. elim h [
    | inl k ↦ after-trans y x z (before-yes y x e) (s.1 z k)
    | inr k ↦ t.1 z k
  ],
)
least-pick S T x y false e s t = (
  inl s.0,
  λ z h. elim h [
    | inl k ↦ s.1 z k
    | inr k ↦ after-trans x y z (before-no y x e) (t.1 z k)
  ],
)

pub least-or : (S T : Fault → Type 0) (a b : Option Fault) → IsLeast S a → IsLeast T b → IsLeast (λ z. S z ⊎ T z) (lesser a b)
least-or S T None None s t = λ z h. elim h [ inl k ↦ s z k | inr k ↦ t z k ]
least-or S T None (Some y) s t = (inr t.0, λ z h. elim h [ inl k ↦ absurd (s z k) | inr k ↦ t.1 z k ])
least-or S T (Some x) None s t = (inl s.0, λ z h. elim h [ inl k ↦ s.1 z k | inr k ↦ absurd (t z k) ])
least-or S T (Some x) (Some y) s t = least-pick S T x y (is_before y x) refl s t

-- the same faults, said in another way
pub least-same : (S T : Fault → Type 0) (a : Option Fault) → ((x : Fault) → S x → T x) → ((x : Fault) → T x → S x) → IsLeast S a → IsLeast T a
least-same S T None to back s = λ z h. s z (back z h)
least-same S T (Some x) to back s = (to x s.0, λ z h. s.1 z (back z h))

same-some : (x y : Fault) → (let o : Option Fault = Some x in o) ≡ Some y → x ≡ y
same-some x y e = cc

pub least-one : (o : Option Fault) → IsLeast (λ x. o ≡ Some x) o
least-one None = λ x e. absurd cc
least-one (Some y) = (refl, λ x e. same-after y x (same-some y x e))
