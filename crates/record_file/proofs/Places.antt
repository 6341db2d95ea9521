-- The place of a function's name.
use Rattle.std.proofs.Common.{◌≡◌, ℕ, zero, suc, ◌+◌, ◌<◌, ◌≤◌, Bool, true, false, List, [], ◌∷◌, length, drop, get_or, refl, subst, if◌then◌else◌, arith, ap, ◌∙◌}
use Rattle.std.specs.Str.{bytes_eq}
use Rattle.ir_ast.specs.Numbers.{function_place}
use Rattle.ir_ast.specs.declared.program.Function.{Function}

cut : (fs : List Function) (i : ℕ) (f : Function) → i < length fs → f ≡ get_or fs i f → drop i fs ≡ f ∷ drop (i + 1) fs
cut [] i f lt is = absurd (omega (arith, lt))
cut (g ∷ fs) zero f lt is = ap (λ z. z ∷ fs) (let e : f ≡ g = is in cc)
cut (g ∷ fs) (suc i) f lt is =
    cut fs i f (omega (arith, lt)) is ∙ ap (λ n. f ∷ drop n (g ∷ fs)) (let e : suc (i + 1) ≡ suc i + 1 = omega arith in e)

drop_all : (fs : List Function) (i : ℕ) → length fs ≤ i → drop i fs ≡ []
drop_all [] zero le = refl
drop_all [] (suc i) le = refl
drop_all (f ∷ fs) zero le = absurd (omega (arith, le))
drop_all (f ∷ fs) (suc i) le = drop_all fs i (omega (arith, le))

here_by : (b : Bool) (m i n : ℕ) → b ≡ true → i + (if b then 0 else suc m) ≡ n → i ≡ n
here_by true m i n e h = omega (arith, h)
here_by false m i n e h = absurd cc

next_by : (b : Bool) (m i n : ℕ) → b ≡ false → i + (if b then 0 else suc m) ≡ n → (i + 1) + m ≡ n
next_by true m i n e h = absurd cc
next_by false m i n e h = omega (arith, h)

pub place_here : (fs : List Function) (i : ℕ) (f : Function) (name : List ℕ) (n : ℕ) → i < length fs → f ≡ get_or fs i f → bytes_eq f.name.name name ≡ true → i + function_place (drop i fs) name ≡ n → i ≡ n
place_here fs i f name n lt is e so_far =
    here_by (bytes_eq f.name.name name) (function_place (drop (i + 1) fs) name) i n e (subst (λ (z : List Function). i + function_place z name ≡ n) (cut fs i f lt is) so_far)

pub place_next : (fs : List Function) (i : ℕ) (f : Function) (name : List ℕ) (n : ℕ) → i < length fs → f ≡ get_or fs i f → bytes_eq f.name.name name ≡ false → i + function_place (drop i fs) name ≡ n → (i + 1) + function_place (drop (i + 1) fs) name ≡ n
place_next fs i f name n lt is e so_far =
    next_by (bytes_eq f.name.name name) (function_place (drop (i + 1) fs) name) i n e (subst (λ (z : List Function). i + function_place z name ≡ n) (cut fs i f lt is) so_far)

pub place_past : (fs : List Function) (i : ℕ) (name : List ℕ) (n : ℕ) → i + function_place (drop i fs) name ≡ n → i ≡ length fs → length fs ≡ n
place_past fs i name n so_far e =
    let le : length fs ≤ i = omega (arith, e) in
    let end : i + 0 ≡ n = subst (λ (z : List Function). i + function_place z name ≡ n) (drop_all fs i le) so_far in
    omega (arith, e, end)

pub ruleset place_steps = (place_here, place_next, place_past)
