-- Parameters that get their values one after the other, and rows that are filled.
use Rattle.std.proofs.Common.{◌≡◌, ℕ, zero, suc, ◌+◌, ◌<◌, ◌≤◌, List, [], ◌∷◌, ◌++◌, length, take, drop, get_or, Option, Some, None, refl, sym, ap, ◌∙◌, subst, arith}
use Rattle.std.specs.Prelude.{slice_get}
use Rattle.std.proofs.lemmas.List.{take_more}
use Rattle.history.specs.declared.ask.Arg.{Arg}
use Rattle.ir_ast.specs.declared.program.Param.{Param}
use Rattle.ir_ast.specs.declared.program.TypedVal.{TypedVal}
use Rattle.source_sem.specs.Env.{Env, arg_of, args_of, bind, with_value}
use Rattle.thread_parts.specs.Words.{blank, arg_at}
use Rattle.source_machine.specs.Binding.{handed_to}
use Rattle.source_machine.proofs.Places.{cut}

bound_one : (p : Param) (ps : List Param) (xs : List Arg) (at : ℕ) (env : Env) → bind (p ∷ ps) (drop at xs) env ≡ bind ps (drop (at + 1) xs) (with_value p.reg.name (handed_to p (slice_get xs at)) env)
bound_one p ps [] zero env = refl
bound_one p ps [] (suc at) env =
    let next : suc (at + 1) ≡ suc at + 1 = omega arith in
    ap (λ (k : ℕ). bind ps (drop k []) (with_value p.reg.name blank env)) next
bound_one p ps (x ∷ xs) zero env = refl
bound_one p ps (x ∷ xs) (suc at) env =
    let next : suc at + 1 ≡ suc (at + 1) = omega arith in
    bound_one p ps xs at env ∙ ap (λ (k : ℕ). bind ps (drop k (x ∷ xs)) (with_value p.reg.name (handed_to p (slice_get xs at)) env)) (sym next)

pub bound_more : (ps : List Param) (i : ℕ) (p : Param) (xs : List Arg) (env all : Env) → i < length ps → p ≡ get_or ps i p → bind (drop i ps) (drop i xs) env ≡ all
    → bind (drop (i + 1) ps) (drop (i + 1) xs) (with_value p.reg.name (handed_to p (slice_get xs i)) env) ≡ all
bound_more ps i p xs env all lt is so_far = sym (bound_one p (drop (i + 1) ps) xs i env) ∙ subst (λ (z : List Param). bind z (drop i xs) env ≡ all) (cut ps i p lt is) so_far

drop_all : {A : Type 0} (xs : List A) (i : ℕ) → length xs ≤ i → drop i xs ≡ []
drop_all [] zero le = refl
drop_all [] (suc i) le = refl
drop_all (x ∷ xs) zero le = absurd (omega (arith, le))
drop_all (x ∷ xs) (suc i) le = drop_all xs i (omega (arith, le))

pub bound_all : (ps : List Param) (i : ℕ) (xs : List Arg) (env all : Env) → i ≡ length ps → bind (drop i ps) (drop i xs) env ≡ all → env ≡ all
bound_all ps i xs env all e so_far = subst (λ (z : List Param). bind z (drop i xs) env ≡ all) (drop_all ps i (omega (arith, e))) so_far

pub ruleset bind_steps = (bound_more, bound_all)

-- rows

row_push : (env : Env) (vs : List TypedVal) (v : TypedVal) → args_of env (vs ++ v ∷ []) ≡ args_of env vs ++ arg_of env v ∷ []
row_push env [] v = refl
row_push env (u ∷ vs) v = ap (λ (z : List Arg). arg_of env u ∷ z) (row_push env vs v)

take_cut : (xs : List TypedVal) (k : ℕ) (x : TypedVal) → k < length xs → x ≡ get_or xs k x → take (k + 1) xs ≡ take k xs ++ x ∷ []
take_cut [] k x lt is = absurd (omega (arith, lt))
take_cut (y ∷ xs) zero x lt is = ap (λ (z : TypedVal). z ∷ []) (sym is)
take_cut (y ∷ xs) (suc k) x lt is =
    let next : suc k + 1 ≡ suc (k + 1) = omega arith in
    ap (λ (m : ℕ). take m (y ∷ xs)) next ∙ ap (λ (z : List TypedVal). y ∷ z) (take_cut xs k x (omega (arith, lt)) is)

pub row_more : (env : Env) (vs : List TypedVal) (i : ℕ) (v : TypedVal) → i < length vs → v ≡ get_or vs i v → args_of env (take i vs) ++ arg_of env v ∷ [] ≡ args_of env (take (i + 1) vs)
row_more env vs i v lt is = sym (ap (λ (z : List TypedVal). args_of env z) (take_cut vs i v lt is) ∙ row_push env (take i vs) v)

pub ruleset row_steps = (row_more)
