-- The first of the faults of a list.
use Rattle.std.proofs.Common.{◌≡◌, ◌⊎◌, inl, inr, List, [], ◌∷◌, ◌++◌, Option, Some, None, refl, ap, subst, arith}
use Rattle.std.specs.Prelude.{Contains}
use Rattle.ir_rules.specs.declared.rule.Fault.{Fault}
use Rattle.ir_rules.specs.Least.{rank, lesser, NotAfter, IsLeast}
use Rattle.ir_rules.proofs.Least.{least-or, least-same}
use Rattle.ir_rules.proofs.Any.{here, further, none_in, head_of}
use Rattle.ir_assigned.specs.Graph.{listed}

abbrev pub In : {A : Type 0} → List A → A → Type 0
In [] u = ⊥
In (v ∷ vs) u = (v ≡ u) ⊎ In vs u

pub in_cases : {A : Type 0} (xs ys : List A) (x : A) → In (xs ++ ys) x → In xs x ⊎ In ys x
in_cases [] ys x h = inr h
in_cases (a ∷ xs) ys x (inl e) = inl (inl e)
in_cases (a ∷ xs) ys x (inr h) = elim (in_cases xs ys x h) [ inl k ↦ inl (inr k) | inr k ↦ inr k ]

pub in_left : {A : Type 0} (xs ys : List A) (x : A) → In xs x → In (xs ++ ys) x
in_left [] ys x h = absurd h
in_left (a ∷ xs) ys x (inl e) = inl e
in_left (a ∷ xs) ys x (inr h) = inr (in_left xs ys x h)

pub in_right : {A : Type 0} (xs ys : List A) (x : A) → In ys x → In (xs ++ ys) x
in_right [] ys x h = h
in_right (a ∷ xs) ys x h = inr (in_right xs ys x h)

in_both : {A : Type 0} (xs ys : List A) (x : A) → In xs x ⊎ In ys x → In (xs ++ ys) x
in_both xs ys x (inl h) = in_left xs ys x h
in_both xs ys x (inr h) = in_right xs ys x h

same_after : (x y : Fault) → x ≡ y → NotAfter x y
same_after x y e = inr (ap (λ (z : Fault). z.at) e, let r : rank x.rule ≡ rank y.rule = ap (λ (z : Fault). rank z.rule) e in omega (arith, r))

least_listed : (o : Option Fault) → IsLeast (In (listed o)) o
least_listed None = λ x h. absurd h
least_listed (Some y) = (inl refl, λ x h. elim h [ inl e ↦ same_after y x e | inr k ↦ absurd k ])

-- one fault more at the list's end
pub least_more : (xs : List Fault) (o best : Option Fault) → IsLeast (In xs) best → IsLeast (In (xs ++ listed o)) (lesser best o)
least_more xs o best l = least-same (λ x. In xs x ⊎ In (listed o) x) (In (xs ++ listed o)) (lesser best o) (in_both xs (listed o)) (in_cases xs (listed o))
    (least-or (In xs) (In (listed o)) best o l (least_listed o))

-- ---- elements of a list, one by one
pub contains_in : {A : Type 0} (xs : List A) (x : A) → Contains xs x → In xs x
contains_in [] x h = absurd (none_in x h)
contains_in (y ∷ xs) x h = elim (head_of y x xs h) [ inl e ↦ inl e | inr more ↦ inr (contains_in xs x more) ]

pub in_contains : {A : Type 0} (xs : List A) (x : A) → In xs x → Contains xs x
in_contains [] x h = absurd h
in_contains (y ∷ xs) x (inl e) = subst (Contains (y ∷ xs)) e (here y xs)
in_contains (y ∷ xs) x (inr h) = further y x xs (in_contains xs x h)
