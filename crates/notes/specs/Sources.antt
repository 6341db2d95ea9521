-- The text that notes show, and a note of one step.
use Rattle.std.specs.Prelude.{ℕ, Bool, Option, Some, None, List, [], ◌∷◌, ◌++◌, codes, slice_get}
use Rattle.std.specs.Fmt.{decimal}
use Rattle.excerpt.specs.Lines.{from_in_line}
use Rattle.excerpt.specs.Shown.{excerpt}
use Rattle.history.specs.Merge.{stamp_of}
use Rattle.history.specs.declared.entry.Entry.{Entry}
use Rattle.history.specs.declared.log.ThreadLog.{ThreadLog}
use Rattle.ir_ast.specs.declared.program.Function.{Function}
use Rattle.notes.specs.Colours.{painted}
use Rattle.notes.specs.Entries.{entered, entry_place}
use Rattle.notes.specs.declared.colours.Colour.TheVariants.{Red, Green, Cyan}

-- a text, its name, and whether notes on it are in colours
pub record Source : Type 0 where
  pub name : List ℕ
  pub text : List ℕ
  pub colours : Bool

-- a program's text, the places of the program's instructions in the order of their numbers, its functions, and the threads of a run
pub record Listing : Type 0 where
  pub source : Source
  pub places : List ℕ
  pub functions : List Function
  pub threads : List ThreadLog

abbrev pub excerpt_at : Source → Option ℕ → List ℕ
excerpt_at s None = []
excerpt_at s (Some at) = excerpt s.name s.text at

-- the excerpt of the instruction of a number, where there is one
abbrev pub instruction : Listing → ℕ → List ℕ
instruction l number = excerpt_at l.source (slice_get l.places number)

-- what notes begin with: the line of what was found
abbrev pub heading : Source → List ℕ → List ℕ
heading s line = painted s.colours Red (from_in_line line 0) ++ 10 ∷ []

abbrev pub note_label : Source → List ℕ
note_label s = painted s.colours Green (codes "note: ")

abbrev pub help_label : Source → List ℕ
help_label s = painted s.colours Cyan (codes "help: ")

-- the function at whose entry a step is a borrow, if it is one
abbrev pub entered_by : Listing → Entry → Option Function
entered_by l step = entered l.functions (slice_get l.places step.site) step

abbrev pub place_in : Listing → Entry → Option Function → Option ℕ
place_in l step None = slice_get l.places step.site
place_in l step (Some f) = Some (entry_place l.threads f step)

-- the excerpt of what a step stands for: of the parameter that is borrowed at a function's entry, and else of the instruction
abbrev pub shown : Listing → Entry → List ℕ
shown l step = excerpt_at l.source (place_in l step (entered_by l step))

abbrev pub whereabouts : Option Function → List ℕ
whereabouts None = codes " here"
whereabouts (Some f) = codes " at the entry of @" ++ f.name.name

-- by thread T, step S
abbrev pub by_line : Entry → List ℕ
by_line step = codes " by thread " ++ (decimal step.thread.0 ++ (codes ", step " ++ (decimal (stamp_of step) ++ 10 ∷ [])))

-- WHAT here by thread T, step S; or WHAT at the entry of @f by thread T, step S
abbrev pub step_line : Listing → List ℕ → Entry → List ℕ
step_line l what step = what ++ (whereabouts (entered_by l step) ++ by_line step)

-- note: WHAT here by thread T, step S; and the excerpt of what the step stands for
abbrev pub note : Listing → List ℕ → Entry → List ℕ
note l what step = note_label l.source ++ (step_line l what step ++ shown l step)

-- help: HELP, and an empty line
abbrev pub help_line : Source → List ℕ → List ℕ
help_line s help = help_label s ++ (help ++ 10 ∷ 10 ∷ [])
