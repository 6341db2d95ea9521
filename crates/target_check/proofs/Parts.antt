-- Lists of which each item, or each two neighbours, meet a condition, from an item on.
use Rattle.std.proofs.Common.{◌≡◌, ℕ, suc, ◌+◌, ◌<◌, Bool, true, false, List, [], ◌∷◌, ◌++◌, length, drop, get_or, Option, Some, None, refl, sym, ap, subst, ◌∙◌, arith}
use Rattle.std.specs.Prelude.{◌↔◌, ◌&&◌, nat_lt, IsTrue}
use Rattle.std.specs.List.{list_all}
use Rattle.std.proofs.lemmas.List.Folds.{list_all-append}
use Rattle.std.proofs.lemmas.Bool.{ltb-true, lt-ltb}
use Rattle.std.proofs.Math.Seq.{drop-cons, drop-length}
use Rattle.ir_ast.specs.Tokens.{Each}
use Rattle.target_code.specs.declared.line.Line.{Line}
use Rattle.target_code.specs.Formed.{EachTwo}

pub all_joined : (p : ℕ → Bool) (xs ys : List ℕ) → list_all p (xs ++ ys) ≡ (list_all p xs && list_all p ys)
all_joined p xs ys = list_all-append p xs ys

-- ---- numbers below a bound, by test and as a fact

pub all_below : (n : ℕ) (xs : List ℕ) → list_all (λ x. nat_lt x n) xs ≡ true → Each (λ x. x < n) xs
all_below n [] h = tt
all_below n (x ∷ xs) h = by_test (nat_lt x n) (list_all (λ y. nat_lt y n) xs) (λ e. ltb-true x n e) (λ e. all_below n xs e) h
  where
    by_test : (a b : Bool) → (a ≡ true → x < n) → (b ≡ true → Each (λ y. y < n) xs) → (a && b) ≡ true → (x < n) × Each (λ y. y < n) xs
    by_test true true f g e = (f refl, g refl)
    by_test true false f g e = absurd cc
    by_test false b f g e = absurd cc

pub below_all : (n : ℕ) (xs : List ℕ) → Each (λ x. x < n) xs → list_all (λ x. nat_lt x n) xs ≡ true
below_all n [] h = refl
below_all n (x ∷ xs) h = rw (lt-ltb x n h.0, below_all n xs h.1) refl

-- ---- each item

cut : {A : Type 0} (xs : List A) (i : ℕ) (x : A) → i < length xs → x ≡ get_or xs i x → drop i xs ≡ x ∷ drop (i + 1) xs
cut {A = A} xs i x lt is =
    let next : suc i ≡ i + 1 = omega arith in
    drop-cons xs i x lt ∙ ap (λ (z : A). z ∷ drop (suc i) xs) (sym is) ∙ ap (λ (k : ℕ). x ∷ drop k xs) next

pub each_next : {A : Type 0} (P : A → Type 0) (xs : List A) (i : ℕ) (x : A) → i < length xs → x ≡ get_or xs i x → P x → (Each P (drop i xs) ↔ Each P xs) → (Each P (drop (i + 1) xs) ↔ Each P xs)
each_next {A = A} P xs i x lt is px so_far =
    let here : Each P (x ∷ drop (i + 1) xs) ↔ Each P xs = subst (λ (z : List A). Each P z ↔ Each P xs) (cut xs i x lt is) so_far in
    (λ h. here.0 (px, h), λ h. (here.1 h).1)

pub each_no : {A : Type 0} (P : A → Type 0) (xs : List A) (i : ℕ) (x : A) → i < length xs → x ≡ get_or xs i x → (P x → ⊥) → (Each P (drop i xs) ↔ Each P xs) → (IsTrue false ↔ Each P xs)
each_no {A = A} P xs i x lt is not so_far =
    let here : Each P (x ∷ drop (i + 1) xs) ↔ Each P xs = subst (λ (z : List A). Each P z ↔ Each P xs) (cut xs i x lt is) so_far in
    (λ h. absurd cc, λ h. absurd (not (here.1 h).0))

pub each_end : {A : Type 0} (P : A → Type 0) (xs : List A) (i : ℕ) → i ≡ length xs → (Each P (drop i xs) ↔ Each P xs) → (IsTrue true ↔ Each P xs)
each_end {A = A} P xs i e so_far =
    let none : drop i xs ≡ [] = ap (λ (k : ℕ). drop k xs) e ∙ drop-length xs in
    (λ h. so_far.0 (subst (λ (z : List A). Each P z) (sym none) tt), λ h. refl)

-- ---- each two neighbours

pub two_next : (P : Option Line → Option Line → Type 0) (b : Option Line) (ls : List Line) (i : ℕ) (l : Line) → i < length ls → l ≡ get_or ls i l → P b (Some l)
    → (EachTwo P b (drop i ls) ↔ EachTwo P None ls) → (EachTwo P (Some l) (drop (i + 1) ls) ↔ EachTwo P None ls)
two_next P b ls i l lt is fits so_far =
    let here : EachTwo P b (l ∷ drop (i + 1) ls) ↔ EachTwo P None ls = subst (λ (z : List Line). EachTwo P b z ↔ EachTwo P None ls) (cut ls i l lt is) so_far in
    (λ h. here.0 (fits, h), λ h. (here.1 h).1)

pub two_no : (P : Option Line → Option Line → Type 0) (b : Option Line) (ls : List Line) (i : ℕ) (l : Line) → i < length ls → l ≡ get_or ls i l → (P b (Some l) → ⊥)
    → (EachTwo P b (drop i ls) ↔ EachTwo P None ls) → (IsTrue false ↔ EachTwo P None ls)
two_no P b ls i l lt is not so_far =
    let here : EachTwo P b (l ∷ drop (i + 1) ls) ↔ EachTwo P None ls = subst (λ (z : List Line). EachTwo P b z ↔ EachTwo P None ls) (cut ls i l lt is) so_far in
    (λ h. absurd cc, λ h. absurd (not (here.1 h).0))

pub two_end : (P : Option Line → Option Line → Type 0) (b : Option Line) (ls : List Line) (i : ℕ) (r : Bool) → i ≡ length ls → (IsTrue r ↔ P b None)
    → (EachTwo P b (drop i ls) ↔ EachTwo P None ls) → (IsTrue r ↔ EachTwo P None ls)
two_end P b ls i r e test so_far =
    let none : drop i ls ≡ [] = ap (λ (k : ℕ). drop k ls) e ∙ drop-length ls in
    let here : EachTwo P b [] ↔ EachTwo P None ls = subst (λ (z : List Line). EachTwo P b z ↔ EachTwo P None ls) none so_far in
    (λ h. here.0 (test.0 h), λ h. test.1 (here.1 h))

pub ruleset each_steps = (each_next, each_no, each_end)

pub ruleset two_steps = (two_next, two_no, two_end)

pub ruleset slots_steps = (all_below, below_all)
