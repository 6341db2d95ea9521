-- A new frame.
use Rattle.std.proofs.Common.{◌≡◌, ℕ, ◌++◌, replicate, Option, Some, None, refl}
use Rattle.std.specs.Prelude.{slice_get}
use Rattle.thread_parts.specs.Words.{blank}
use Rattle.thread_parts.specs.Owned.{nothing_owned}
use Rattle.target_code.specs.declared.line.Target.{Target}
use Rattle.target_code.specs.declared.line.TargetFunction.{TargetFunction}
use Rattle.thread_machine.specs.Thread.{Row, block_at, turn_number, frame_at, first_lines}
use Rattle.thread_machine.specs.Views.{entry_of, slots_of, begun_frame}

-- the parts of a function, where it is there
parts_of : (k : ℕ) (row : Row) (o : Option TargetFunction) → record (frame_at k o row) { rest = first_lines o } ≡ record { function = k; site = turn_number (block_at o 0); rest = entry_of o ++ block_at o 0; words = replicate (slots_of o) 0; shadows = replicate (slots_of o) None; handed = row; result = blank; given = blank; owned = nothing_owned }
parts_of k row None = refl
parts_of k row (Some f) = refl

pub frame_is : (t : Target) (k : ℕ) (row : Row)
    → begun_frame t k row
    ≡ record { function = k; site = turn_number (block_at (slice_get t.functions k) 0); rest = entry_of (slice_get t.functions k) ++ block_at (slice_get t.functions k) 0; words = replicate (slots_of (slice_get t.functions k)) 0; shadows = replicate (slots_of (slice_get t.functions k)) None; handed = row; result = blank; given = blank; owned = nothing_owned }
frame_is t k row = parts_of k row (slice_get t.functions k)
