-- A thread begins.
use Rattle.std.proofs.Common.{◌≡◌, ℕ, List, [], ◌∷◌, ◌++◌, drop, Option, Some, None, true, refl, sym, ap, ◌∙◌}
use Rattle.std.specs.Prelude.{slice_get}
use Rattle.thread_parts.specs.Copies.{untouched}
use Rattle.target_code.specs.declared.line.Line.{Line}
use Rattle.target_code.specs.declared.line.Line.TheVariants as line
use Rattle.target_code.specs.declared.line.Target.{Target}
use Rattle.target_code.specs.declared.line.TargetFunction.{TargetFunction}
use Rattle.thread_machine.specs.Thread.{Row, Thread, empty_row, go_on, cross, block_at, first_lines, frame_at, thread_start, lines_child, thread_child}
use Rattle.thread_machine.specs.Views.{FitsRow, FitsFunction, FitsTarget, first_thread, setting}
use Rattle.thread_machine.proofs.Running.{run_rest}
use Rattle.thread_machine.proofs.Jumping.{each_at, fits_block}

fits_both : (w : ℕ) (xs ys : List Line) → FitsRow w xs → FitsRow w ys → FitsRow w (xs ++ ys)
fits_both w [] ys f g = g
fits_both w (l ∷ xs) ys f g = (f.0, fits_both w xs ys f.1 g)

fits_entry : (w : ℕ) (o : Option TargetFunction) → ((g : TargetFunction) → o ≡ Some g → FitsFunction w g) → FitsRow w (block_at o 0) → FitsRow w (first_lines o)
fits_entry w None h b = tt
fits_entry w (Some g) h b = fits_both w g.entry (block_at (Some g) 0) (h g refl).0 b

pub fits_first : (w : ℕ) (t : Target) (k : ℕ) → FitsTarget w t → FitsRow w (first_lines (slice_get t.functions k))
fits_first w t k h = fits_entry w (slice_get t.functions k) (λ g e. each_at (FitsFunction w) t.functions k g e h) (fits_block w t k 0 h)

pub started : (t : Target) (input : List ℕ) (k : ℕ) (row : Row)
    → go_on input (first_lines (slice_get t.functions k)) (first_thread t k row) ≡ thread_start (setting t input) k row
started t input k row =
    let u : Thread = record { top = frame_at k (slice_get t.functions k) row; callers = []; row = empty_row; loaded = None; stored = None; copying = untouched; begun = true; count = 0; over = None } in
    ap (cross input) (run_rest input (first_lines (slice_get t.functions k)) u (first_lines (slice_get t.functions k)))

-- no spawn
abbrev pub IsOther : Line → Type 0
IsOther (line.Spawn s k) = ⊥
IsOther l = Unit {0}

-- the child that a spawn starts
pub child_at : (t : Target) (input : List ℕ) (u : Thread) (s k : ℕ) → u.top.rest ≡ line.Spawn s k ∷ drop 1 u.top.rest → thread_start (setting t input) k u.row ≡ thread_child (setting t input) u
child_at t input u s k e = sym (ap (lines_child (setting t input) u) e)

pub child_else : (t : Target) (input : List ℕ) (u : Thread) (l : Line) → u.top.rest ≡ l ∷ drop 1 u.top.rest → IsOther l → thread_start (setting t input) 0 empty_row ≡ thread_child (setting t input) u
child_else t input u l e h = other l h ∙ sym (ap (lines_child (setting t input) u) e)
  where
    other : (l : Line) → IsOther l → thread_start (setting t input) 0 empty_row ≡ lines_child (setting t input) u (l ∷ drop 1 u.top.rest)
    other (line.Spawn s k) h = absurd h
    other l h = refl

pub child_end : (t : Target) (input : List ℕ) (u : Thread) → u.top.rest ≡ [] → thread_start (setting t input) 0 empty_row ≡ thread_child (setting t input) u
child_end t input u e = sym (ap (lines_child (setting t input) u) e)
