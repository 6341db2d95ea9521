-- Notes on threads that trapped, or that reached a limit.
use Rattle.std.specs.Prelude.{ℕ, Bool, true, false, not, ◌&&◌, Option, Some, None, List, [], ◌∷◌, ◌++◌, find, is_some, codes, if◌then◌else◌}
use Rattle.std.specs.Fmt.{decimal}
use Rattle.history.specs.Merge.{stamp_of}
use Rattle.history.specs.Restriction.{number_of}
use Rattle.history.specs.Histories.{is_make_step}
use Rattle.history.specs.declared.entry.Entry.{Entry}
use Rattle.history.specs.declared.entry.Plain.{Plain}
use Rattle.history.specs.declared.entry.Plain.TheVariants as plain
use Rattle.history.specs.declared.entry.Request.{Request}
use Rattle.history.specs.declared.entry.Request.TheVariants.{Make, Free}
use Rattle.history.specs.declared.log.End.{End}
use Rattle.history.specs.declared.log.End.TheVariants.{Trapped, StepLimit, TurnLimit}
use Rattle.history.specs.declared.log.ThreadLog.{ThreadLog}
use Rattle.history.specs.declared.record.RunRecord.{RunRecord}
use Rattle.history.specs.declared.trap.Trap.{Trap}
use Rattle.history.specs.declared.trap.Trap.TheVariants as trap
use Rattle.report.specs.End.{end_line}
use Rattle.report.specs.Violation.{is_operation, what_text}
use Rattle.notes.specs.Causes.{freed_note}
use Rattle.notes.specs.Made.{steps_on}
use Rattle.notes.specs.Sources.{Listing, heading, instruction, note, note_label, help_line}

abbrev pub trap_help : Trap → List ℕ
trap_help trap.DivZero = codes "the divisor is 0; test it before the division"
trap_help trap.ShiftTooFar = codes "a shift is by fewer bits than its type has; test the distance before the shift"
trap_help trap.NoAllocation = codes "no allocation was made there; the pointer is null or made from other bytes, or it was moved in front of the first allocation"
trap_help trap.OutOfBounds = codes "not all of these bytes lie in the allocation; an offset just below 4294967296 is one in front of the next allocation"
trap_help trap.Freed = codes "the allocation was freed before; use it before the free, or free it later"
trap_help trap.BadFree = codes "only a pointer to the first byte of what `malloc` made is freed; what `alloca` made ends with its function"
trap_help trap.BadSize = codes "an allocation has one byte at least, and not too many; ask for another size"
trap_help (trap.AllocLimit drawn) = codes "the run made as many allocations as it may; free doesn't lower their number, and the option --allocs sets another limit"
trap_help (trap.ThreadLimit drawn) = codes "the run started as many threads as it may; let fewer threads do the work"
trap_help trap.DepthLimit = codes "too many calls stand one inside the other; end the recursion earlier, or make it a loop"
trap_help trap.Unreachable = codes "the program says that this instruction is never reached; see which branch leads to it"

-- of the ends that have a note
abbrev pub ending_help : End → List ℕ
ending_help (Trapped trap) = trap_help trap
ending_help (StepLimit stamp) = codes "see whether this loop ends; the option --steps sets another limit"
ending_help TurnLimit = codes "see whether this loop ends, or waits for a thread that the schedule leaves out; the option --turns sets another limit"
ending_help _ = []

abbrev pub is_trap : Plain → Bool
is_trap (plain.Trapped trap) = true
is_trap _ = false

-- the step was refused, by a trap
abbrev pub is_refused : Entry → Bool
is_refused step = is_trap step.reply.plain

abbrev pub is_free : Request → Bool
is_free (Free at stack prov) = true
is_free _ = false

-- the step made its allocation
abbrev pub is_making : Entry → Bool
is_making step = is_make_step step && not (is_refused step)

-- the step freed its allocation
abbrev pub is_freeing : Entry → Bool
is_freeing step = is_free step.request && not (is_refused step)

abbrev pub made_size : Request → ℕ
made_size (Make size place) = size
made_size _ = 0

-- allocation N, of SIZE bytes, was made
abbrev pub sized_phrase : Entry → List ℕ
sized_phrase step = codes "allocation " ++ (decimal (number_of step.alloc)
    ++ (codes ", of " ++ (decimal (made_size step.request) ++ codes " bytes, was made")))

abbrev pub sized_note : Listing → Option Entry → List ℕ
sized_note l None = []
sized_note l (Some step) = note l (sized_phrase step) step

-- step S on allocation N was refused: WHAT
abbrev pub refused_start : Entry → List ℕ
refused_start step = codes "step " ++ (decimal (stamp_of step)
    ++ (codes " on allocation " ++ (decimal (number_of step.alloc) ++ codes " was refused: ")))

abbrev pub refused_line : Entry → List ℕ
refused_line step = refused_start step ++ (what_text true step ++ 10 ∷ [])

-- the step asks an operation of an allocation
abbrev pub is_describable : Entry → Bool
is_describable step = is_operation step.request && is_some step.alloc

abbrev pub asked_note : Listing → Entry → List ℕ
asked_note l step = if is_describable step then note_label l.source ++ refused_line step else []

-- where the allocation was made, and where it was freed
abbrev pub life_notes : Listing → List Entry → List ℕ
life_notes l steps = sized_note l (find is_making steps) ++ freed_note l (find is_freeing steps)

-- what was refused, and where its allocation was made and freed
abbrev pub refused_notes : Listing → RunRecord → Option Entry → List ℕ
refused_notes l kept None = []
refused_notes l kept (Some step) = asked_note l step ++ life_notes l (steps_on kept.allocs step.alloc)

-- the report's line of the thread's end, with the excerpt of its instruction; the step that was refused, with the making and the free of its
-- allocation; and a sentence of help
abbrev pub ended_note : Listing → RunRecord → ThreadLog → List ℕ
ended_note l kept log = heading l.source (end_line log) ++ (instruction l log.last
    ++ (refused_notes l kept (find is_refused log.entries) ++ help_line l.source (ending_help log.end)))

abbrev pub note_at_end : End → Listing → RunRecord → ThreadLog → List ℕ
note_at_end (Trapped trap) l kept log = ended_note l kept log
note_at_end (StepLimit stamp) l kept log = ended_note l kept log
note_at_end TurnLimit l kept log = ended_note l kept log
note_at_end _ l kept log = []

-- on a thread that trapped or reached a limit
abbrev pub trap_note : Listing → RunRecord → ThreadLog → List ℕ
trap_note l kept log = note_at_end log.end l kept log
