-- Silent lines don't read which lines are left.
use Rattle.std.proofs.Common.{◌≡◌, ℕ, suc, ◌+◌, List, [], ◌∷◌, length, drop, arith, Option, Some, None, Bool, true, false, not, refl, sym, ap, ◌∙◌, subst}
use Rattle.std.specs.Option.{option_map_or}
use Rattle.std.specs.Prelude.{option_map}
use Rattle.ir_ast.specs.Arithmetic.{Worked, word, div_zero, shift_too_far, worked}
use Rattle.ir_ast.specs.Words.{bits}
use Rattle.thread_parts.specs.Parts.{worked_part, makes_step}
use Rattle.thread_parts.specs.Owned.{release_ask}
use Rattle.target_code.specs.declared.line.Line.{Line}
use Rattle.target_code.specs.declared.line.Line.TheVariants as line
use Rattle.thread_machine.specs.Views.{FitsRow, entered}
use Rattle.thread_machine.specs.Thread.{Thread, at_lines, passed, with_value, unless_step, silent, run, cross_by, cross}
use Rattle.thread_parts.specs.Rooms.{has_none}

abbrev with_rest : List Line → Option Thread → Option Thread
with_rest r o = option_map (λ u. at_lines u r) o

passed_rest : (b : Bool) (t : Thread) (r : List Line) → passed b (at_lines t r) ≡ with_rest r (passed b t)
passed_rest true t r = refl
passed_rest false t r = refl

step_rest : (b : Bool) (t : Thread) (to from : ℕ) (r : List Line) → unless_step b (at_lines t r) to from ≡ with_rest r (unless_step b t to from)
step_rest true t to from r = refl
step_rest false t to from r = refl

worked_rest : (z : Worked) (t : Thread) (s : ℕ) (r : List Line) → with_value (worked_part z) (at_lines t r) s ≡ with_rest r (with_value (worked_part z) t s)
worked_rest (word m) t s r = refl
worked_rest div_zero t s r = refl
worked_rest shift_too_far t s r = refl

silent_rest : (input : List ℕ) (l : Line) (t : Thread) (r : List Line) → silent input l (at_lines t r) ≡ with_rest r (silent input l t)
silent_rest input (line.Retag to kd guard s h n) t r = step_rest (makes_step true n) t to h r
silent_rest input (line.RetagResult kd n) t r = passed_rest (not (makes_step true n)) t r
silent_rest input (line.Binary s o w a b) t r = worked_rest (worked o (bits w) _ _) t s r
silent_rest input (line.CheckCopy d dh s sh v) t r = passed_rest _ t r
silent_rest input line.PopFrame t r = passed_rest (has_none (release_ask t.top.owned)) t r
silent_rest input other t r = refl

pub run_rest : (input : List ℕ) (ls : List Line) (t : Thread) (r : List Line) → run input ls (at_lines t r) ≡ run input ls t
run_rest input [] t r = refl
run_rest input (l ∷ ls) t r =
    ap (λ z. option_map_or (run input ls) z (at_lines t (l ∷ ls))) (silent_rest input l t r) ∙ by_next (silent input l t) (run_rest input ls)
  where
    by_next : (o : Option Thread) → ((u : Thread) (q : List Line) → run input ls (at_lines u q) ≡ run input ls u) → option_map_or (run input ls) (with_rest r o) (at_lines t (l ∷ ls)) ≡ option_map_or (run input ls) o (at_lines t (l ∷ ls))
    by_next None more = refl
    by_next (Some u) more = more u r

same_lines : (t : Thread) (r : List Line) → t.top.rest ≡ r → at_lines t r ≡ t
same_lines t r e = ap (at_lines t) (sym e)

-- after a silent line
pub ran_on : (input : List ℕ) (l : Line) (ls : List Line) (t u : Thread) → t.top.rest ≡ l ∷ ls → silent input l t ≡ Some u → run input t.top.rest t ≡ run input ls (at_lines u ls)
ran_on input l ls t u e s =
    ap (λ z. run input z t) e ∙ ap (λ z. option_map_or (run input ls) z (at_lines t (l ∷ ls))) s ∙ sym (run_rest input ls u ls)

-- in front of another line, or at the end
pub ran_out : (input : List ℕ) (l : Line) (ls : List Line) (t : Thread) → t.top.rest ≡ l ∷ ls → silent input l t ≡ None → run input t.top.rest t ≡ t
ran_out input l ls t e s = ap (λ z. run input z t) e ∙ ap (λ z. option_map_or (run input ls) z (at_lines t (l ∷ ls))) s ∙ same_lines t (l ∷ ls) e

pub ran_empty : (input : List ℕ) (t : Thread) → t.top.rest ≡ [] → run input t.top.rest t ≡ t
ran_empty input t e = ap (λ z. run input z t) e ∙ same_lines t [] e

-- a silent line leaves the lines
rest_kept : (input : List ℕ) (l : Line) (t u : Thread) → silent input l t ≡ Some u → u.top.rest ≡ t.top.rest
rest_kept input l t u e = ap (λ z. z.top.rest) (same (sym e ∙ silent_rest input l t t.top.rest ∙ ap (with_rest t.top.rest) e))
  where
    same : Some u ≡ Some (at_lines u t.top.rest) → u ≡ at_lines u t.top.rest
    same e = cc

pub passed_on : (input : List ℕ) (l : Line) (t u : Thread) → t.top.rest ≡ l ∷ drop 1 t.top.rest → silent input l t ≡ Some u → run input (drop 1 u.top.rest) (at_lines u (drop 1 u.top.rest)) ≡ run input t.top.rest t
passed_on input l t u e s =
    ap (λ z. run input (drop 1 z) (at_lines u (drop 1 z))) (rest_kept input l t u s) ∙ sym (ran_on input l (drop 1 t.top.rest) t u e s)

pub passed_shorter : (input : List ℕ) (l : Line) (t u : Thread) → t.top.rest ≡ l ∷ drop 1 t.top.rest → silent input l t ≡ Some u → length (drop 1 u.top.rest) + 1 ≡ length t.top.rest
passed_shorter input l t u e s = ap (λ z. length (drop 1 z) + 1) (rest_kept input l t u s) ∙ one_more (length (drop 1 t.top.rest)) ∙ sym (ap length e)
  where
    one_more : (n : ℕ) → n + 1 ≡ suc n
    one_more n = omega arith

pub fits_tail : (w : ℕ) (ls : List Line) → FitsRow w ls → FitsRow w (drop 1 ls)
fits_tail w [] f = f
fits_tail w (l ∷ ls) f = f.1

pub passed_fits : (input : List ℕ) (w : ℕ) (l : Line) (t u : Thread) → silent input l t ≡ Some u → FitsRow w t.top.rest → FitsRow w (drop 1 u.top.rest)
passed_fits input w l t u s f = subst (λ (z : List Line). FitsRow w (drop 1 z)) (sym (rest_kept input l t u s)) (fits_tail w t.top.rest f)

pub stopped_at : (input : List ℕ) (l : Line) (t : Thread) → t.top.rest ≡ l ∷ drop 1 t.top.rest → silent input l t ≡ None → run input t.top.rest t ≡ t
stopped_at input l t e s = ran_out input l (drop 1 t.top.rest) t e s

-- a `turn` line is passed
pub crossed_on : (input : List ℕ) (n : ℕ) (t : Thread) → t.top.rest ≡ line.Turn n ∷ drop 1 t.top.rest → run input (drop 1 t.top.rest) (entered t n) ≡ cross input t
crossed_on input n t e =
    let u : Thread = record t { begun = false; top = record t.top { site = n } } in
    run_rest input (drop 1 t.top.rest) u (drop 1 t.top.rest) ∙ sym (ap (λ z. cross_by input z t) e)
