-- What contracts see of a running thread: its definition's state, and for how much more there is memory.
use Rattle.std.specs.Prelude.{ℕ, ◌<◌, ◌≤◌, ◌≡◌, List, [], ◌∷◌, Option, None, Some, IfSome, Result, Ok, Err, Bool, true, false, get_or, drop, slice_get}
use Rattle.ir_ast.specs.Tokens.{Each}
use Rattle.target_code.specs.declared.line.Line.{Line}
use Rattle.target_code.specs.declared.line.Line.TheVariants as line
use Rattle.target_code.specs.declared.line.TargetFunction.{TargetFunction}
use Rattle.target_code.specs.declared.line.Target.{Target}
use Rattle.history.specs.declared.ask.Ask.{Ask}
use Rattle.history.specs.declared.ask.Ask.TheVariants as ask
use Rattle.history.specs.declared.ask.MachineEnd.{MachineEnd}
use Rattle.history.specs.declared.entry.Plain.{Plain}
use Rattle.history.specs.declared.entry.Plain.TheVariants as plain
use Rattle.history.specs.declared.trap.Trap.TheVariants as trap
use Rattle.history.specs.Pieces.{Byte}
use Rattle.word_ops.specs.declared.WordTrap.{WordTrap}
use Rattle.word_ops.specs.declared.WordTrap.TheVariants.{DivZero, ShiftTooFar}
use Rattle.thread_parts.specs.Words.{plain_arg}
use Rattle.thread_parts.specs.Parts.{Part, Gives, Fails, makes_step}
use Rattle.thread_parts.specs.Copies.{Progress, untouched}
use Rattle.thread_parts.specs.Owned.{nothing_owned}
use Rattle.thread_machine.specs.Thread.{TargetSetting, Row, empty_row, TargetFrame, Thread, at_lines, first_lines, frame_at}

-- ---- what there is memory for

-- a row, and how many arguments fit
pub record WideRow : Type 0 where
  pub row : Row
  pub width : ℕ

-- how far a copy has come, and whether a piece fits
pub record RoomyCopy : Type 0 where
  pub progress : Progress
  pub has_room : Bool

-- how much more fits into a thread without memory: callers, what the newest frame owns, and a piece of a copy
pub record Room : Type 0 where
  pub callers : ℕ
  pub children : ℕ
  pub protectors : ℕ
  pub stack : ℕ
  pub piece : Bool

-- a thread, how many arguments fit into its row, and its room
pub record WideThread : Type 0 where
  pub thread : Thread
  pub width : ℕ
  pub room : Room

-- a machine: code and input, its thread, and whether there is memory for its next part
pub record MachineView : Type 0 where
  pub setting : TargetSetting
  pub thread : Thread
  pub prepared : Bool

abbrev pub setting : Target → List ℕ → TargetSetting
setting t input = record { target = t; input = input }

-- ---- rows

-- the list's items from a place on are the default
abbrev pub BlankFrom : {A : Type 0} → ℕ → A → List A → Type 0
BlankFrom n d l = (j : ℕ) → n ≤ j → get_or l j d ≡ d

-- the place in the row that a line writes
abbrev pub row_index : Line → Option ℕ
row_index (line.Arg i v) = Some i
row_index (line.ShadowArg i from) = Some i
row_index other = None

-- the lines write into a row of this width
abbrev pub FitsRow : ℕ → List Line → Type 0
FitsRow width lines = Each (λ l. IfSome (row_index l) (λ i. i < width)) lines

abbrev pub FitsBlocks : ℕ → List (List Line) → Type 0
FitsBlocks width blocks = Each (FitsRow width) blocks

abbrev pub FitsFunction : ℕ → TargetFunction → Type 0
FitsFunction width f = FitsRow width f.entry × FitsBlocks width f.blocks

abbrev pub FitsTarget : ℕ → Target → Type 0
FitsTarget width t = Each (FitsFunction width) t.functions

abbrev pub CallersFit : ℕ → List TargetFrame → Type 0
CallersFit width frames = Each (λ f. FitsRow width f.rest) frames

-- ---- words

-- what an operation on two words does in an instruction
abbrev pub part_of : Result ℕ WordTrap → Part
part_of (Ok n) = Gives (Some (plain_arg n))
part_of (Err DivZero) = Fails trap.DivZero
part_of (Err ShiftTooFar) = Fails trap.ShiftTooFar

-- the piece that was read and not yet written
abbrev pub half_of : Bool → Option (List Byte) → Option (List Byte)
half_of false piece = None
half_of true piece = piece

-- ---- kinds of lines

-- the line writes no word into a slot but by a binary operation or a step
abbrev pub IsWordless : Line → Type 0
IsWordless (line.Param s i) = ⊥
IsWordless (line.Const s ty n) = ⊥
IsWordless (line.Move s from) = ⊥
IsWordless (line.Gep s p v) = ⊥
IsWordless (line.Compare s c ty a b) = ⊥
IsWordless (line.Select s ty c a b) = ⊥
IsWordless (line.Cast s o from v to) = ⊥
IsWordless (line.PtrToInt s p) = ⊥
IsWordless (line.Input s v) = ⊥
IsWordless (line.TakeArg s i) = ⊥
IsWordless (line.CallResult s) = ⊥
IsWordless other = Unit {0}

-- the line writes no provenance into a shadow slot but by a step
abbrev pub IsShadowless : Line → Type 0
IsShadowless (line.ShadowParam h i) = ⊥
IsShadowless (line.ShadowMove h from) = ⊥
IsShadowless (line.Loaded h) = ⊥
IsShadowless (line.Retag to kind guard p h n) = makes_step true n ≡ true
IsShadowless (line.ShadowSelect h c a b) = ⊥
IsShadowless (line.TakeShadowArg h i) = ⊥
IsShadowless (line.ShadowCallResult h) = ⊥
IsShadowless other = Unit {0}

-- no check
abbrev pub IsPlainLine : Line → Type 0
IsPlainLine (line.CheckRead s h n) = ⊥
IsPlainLine (line.CheckWrite s h n) = ⊥
IsPlainLine (line.CheckFree s h) = ⊥
IsPlainLine (line.CheckCopy d dh s sh v) = ⊥
IsPlainLine other = Unit {0}

-- ---- a thread after small steps

-- the thread after the line that is next
abbrev pub skipped : Thread → Thread
skipped t = at_lines t (drop 1 t.top.rest)

-- the thread after the `turn` line of an instruction
abbrev pub entered : Thread → ℕ → Thread
entered t n = record (skipped t) { begun = false; top = record (skipped t).top { site = n } }

abbrev pub entry_of : Option TargetFunction → List Line
entry_of None = []
entry_of (Some f) = f.entry

abbrev pub slots_of : Option TargetFunction → ℕ
slots_of None = 0
slots_of (Some f) = f.slots

-- a new frame, in front of its function's first line
abbrev pub begun_frame : Target → ℕ → Row → TargetFrame
begun_frame t k row = record (frame_at k (slice_get t.functions k) row) { rest = first_lines (slice_get t.functions k) }

-- a new thread, in front of its function's first line
abbrev pub first_thread : Target → ℕ → Row → Thread
first_thread t k row = record { top = begun_frame t k row; callers = []; row = empty_row; loaded = None; stored = None; copying = untouched; begun = true; count = 0; over = None }

-- the thread in a new frame, which is handed the row
abbrev pub called : Thread → TargetFrame → Thread
called t f = record t { top = record f { handed = t.row; owned = nothing_owned }; callers = record t.top { rest = drop 1 t.top.rest } ∷ t.callers; row = empty_row; begun = true }

-- ---- asks

-- a thread is to be started
abbrev pub IsSpawn : Ask → Type 0
IsSpawn (ask.Spawn k) = Unit {0}
IsSpawn other = ⊥

-- how a thread has ended that asks this, if it has
abbrev pub ended_by : Ask → Option MachineEnd
ended_by (ask.Ended e) = Some e
ended_by other = None

-- ---- replies

abbrev pub IsMade : Plain → Type 0
IsMade (plain.Made a) = Unit {0}
IsMade other = ⊥

abbrev pub IsSpawned : Plain → Type 0
IsSpawned (plain.Spawned c) = Unit {0}
IsSpawned other = ⊥

-- a reply has the number of an allocation or of a thread where the first of these lines wants one
abbrev pub HasNumber : List Line → Plain → Type 0
HasNumber (line.Make s h place size ∷ ls) p = IsMade p
HasNumber (line.Spawn s k ∷ ls) p = IsSpawned p
HasNumber other p = Unit {0}
