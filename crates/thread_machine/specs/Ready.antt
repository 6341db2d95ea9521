-- A machine that has the memory for its next part.
use Rattle.std.specs.Prelude.{ℕ, ◌+◌, ◌^◌, ◌<◌, ◌≤◌, ◌≡◌, List, ◌∷◌, Option, None, Some, true}
use Rattle.ir_ast.specs.declared.types.Place.{Place}
use Rattle.ir_ast.specs.declared.types.Place.TheVariants.{Stack, Heap}
use Rattle.perm_table.specs.declared.Guard.{Guard}
use Rattle.perm_table.specs.declared.Guard.TheVariants.{Free}
use Rattle.target_code.specs.declared.line.Line.{Line}
use Rattle.target_code.specs.declared.line.Line.TheVariants as line
use Rattle.target_code.specs.declared.line.Target.{Target}
use Rattle.thread_machine.specs.declared.calls.Spare.{Spare}
use Rattle.thread_machine.specs.Thread.{empty_row}
use Rattle.thread_machine.specs.Views.{WideThread, Room, FitsRow, FitsTarget, CallersFit, begun_frame}

-- a frame was made for a call of this function, and a row for the caller
abbrev pub HasSpare : Target → ℕ → ℕ → Option Spare → Type 0
HasSpare target width k None = ⊥
HasSpare target width k (Some s) = (s.frame ≡ begun_frame target k s.frame.handed) × (s.row ≡ record { row = empty_row; width = width })

abbrev pub HasStack : Place → Room → Type 0
HasStack Heap room = Unit {0}
HasStack Stack room = 1 ≤ room.stack

abbrev pub HasProtector : Guard → Room → Type 0
HasProtector Free room = Unit {0}
HasProtector other room = 1 ≤ room.protectors

-- there is room for the part that the first of these lines is
abbrev pub HasRoom : Room → List Line → Type 0
HasRoom room (line.Call k ∷ ls) = 1 ≤ room.callers
HasRoom room (line.Make s h place size ∷ ls) = HasStack place room
HasRoom room (line.Retag to kind guard p h n ∷ ls) = HasProtector guard room
HasRoom room (line.Spawn s k ∷ ls) = 1 ≤ room.children
HasRoom room (line.CheckCopy d dh s sh v ∷ ls) = room.piece ≡ true
HasRoom room other = Unit {0}

-- where the first of these lines is a call, all was made for it
abbrev pub CallReady : Target → ℕ → Option Spare → List Line → Type 0
CallReady target width spare (line.Call k ∷ ls) = HasSpare target width k spare
CallReady target width spare other = Unit {0}

-- the thread has the memory for its next part, and its count can rise
pub record IsReady (target : Target) (s : WideThread) (spare : Option Spare) : Type 0 where
  pub room : HasRoom s.room s.thread.top.rest
  pub call : CallReady target s.width spare s.thread.top.rest
  pub count : s.thread.count + 1 < 2 ^ 64

-- the lines of the code and of the frames write into rows of this width
pub record IsWide (target : Target) (s : WideThread) : Type 0 where
  pub code : FitsTarget s.width target
  pub top : FitsRow s.width s.thread.top.rest
  pub callers : CallersFit s.width s.thread.callers
