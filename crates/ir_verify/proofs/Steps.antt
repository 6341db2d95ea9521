-- Steps of loops over lists.
use Rattle.std.proofs.Common.{◌≡◌, ℕ, zero, suc, ◌+◌, ◌<◌, ◌≤◌, true, false, cond, List, [], ◌∷◌, ◌++◌, length, map, take, drop, get_or, refl, sym, ap, ◌∙◌, arith, drop-cons}
use Rattle.std.proofs.lemmas.List.{map-append, length-map}
use Rattle.std.proofs.lemmas.Bool.{false_from_ne_true}
use Rattle.ir_ast.specs.declared.types.Ty.{Ty}
use Rattle.ir_ast.specs.declared.program.Param.{Param}
use Rattle.ir_ast.specs.declared.program.TypedVal.{TypedVal}
use Rattle.ir_rules.specs.Rules.{param_types, arg_types}
use Rattle.ir_rules.specs.Walk.{same_ty}
use Rattle.ir_rules.specs.Checks.{takes, is_host_type, all_host_types}
use Rattle.ir_rules.proofs.Agree.{types_decide}
use Rattle.ir_rules.proofs.Any.{taken-next}

-- a list that gets one item for each item of another
pub mapped-next : {A B C : Type 0} (g : B → C) (f : A → C) (ys more : List B) (xs : List A) (i : ℕ) (d : A) (y : B) → i < length xs → map g ys ≡ map f (take i xs) → more ≡ ys ++ y ∷ [] → g y ≡ f (get_or xs i d)
    → map g more ≡ map f (take (i + 1) xs)
mapped-next g f ys more xs i d y lt so_far is one =
    ap (map g) is ∙ map-append g ys (y ∷ []) ∙ ap (λ (z : List _). z ++ g y ∷ []) so_far ∙ ap (λ (z : _). map f (take i xs) ++ z ∷ []) one
    ∙ sym (ap (map f) (taken-next xs i d lt) ∙ map-append f (take i xs) (get_or xs i d ∷ []))

-- ---- arguments and parameters
drop_here : {A : Type 0} (xs : List A) (i : ℕ) (d : A) → i < length xs → drop i xs ≡ get_or xs i d ∷ drop (i + 1) xs
drop_here xs i d lt = drop-cons xs i d lt ∙ (let next : suc i ≡ i + 1 = omega arith in ap (λ (n : ℕ). get_or xs i d ∷ drop n xs) next)

drop_past : {A : Type 0} (xs : List A) (i : ℕ) → length xs ≤ i → drop i xs ≡ []
drop_past [] zero le = refl
drop_past [] (suc i) le = refl
drop_past (x ∷ xs) zero le = absurd (omega (arith, le))
drop_past (x ∷ xs) (suc i) le = drop_past xs i (omega (arith, le))

pub hosts_here : (args : List TypedVal) (i : ℕ) (d : TypedVal) → i < length args → all_host_types (drop i args) ≡ cond (is_host_type (get_or args i d).ty) (all_host_types (drop (i + 1) args)) false
hosts_here args i d lt = ap all_host_types (drop_here args i d lt)

pub hosts_past : (args : List TypedVal) (i : ℕ) → length args ≤ i → all_host_types (drop i args) ≡ true
hosts_past args i le = ap all_host_types (drop_past args i le)

pub takes_here : (ps : List Param) (args : List TypedVal) (i : ℕ) (p : Param) (a : TypedVal) → i < length ps → i < length args
    → takes (drop i ps) (drop i args) ≡ cond (same_ty (get_or ps i p).ty (get_or args i a).ty) (takes (drop (i + 1) ps) (drop (i + 1) args)) false
takes_here ps args i p a lt lt' = ap (λ (z : List Param). takes z (drop i args)) (drop_here ps i p lt) ∙ ap (takes (get_or ps i p ∷ drop (i + 1) ps)) (drop_here args i a lt')

pub takes_past : (ps : List Param) (args : List TypedVal) (i : ℕ) → length ps ≤ i → length args ≤ i → takes (drop i ps) (drop i args) ≡ true
takes_past ps args i le le' = ap (λ (z : List Param). takes z (drop i args)) (drop_past ps i le) ∙ ap (takes []) (drop_past args i le')

pub takes_not : (ps : List Param) (args : List TypedVal) → (length ps ≡ length args → ⊥) → takes ps args ≡ false
takes_not ps args n = false_from_ne_true (takes ps args) (λ e. n (sym (length-map ps (λ (p : Param). p.ty)) ∙ ap (λ (z : List Ty). length z) ((types_decide (param_types ps) (arg_types args)).0 e) ∙ length-map args (λ (a : TypedVal). a.ty)))
