-- What is ready for a frame before it goes on.
use Rattle.std.specs.Prelude.{◌≡◌, Bool, true, ℕ, ◌+◌, ◌^◌, ◌<◌, ◌≤◌, List, [], ◌∷◌, length, Option, Some, None, vec_capacity, vec_len}
use Rattle.std.specs.Global.{Vec}
use Rattle.std.specs.Option.{option_copied}
use Rattle.ir_ast.specs.declared.program.Goal.{Goal}
use Rattle.ir_ast.specs.declared.program.Inst.{Inst}
use Rattle.ir_ast.specs.declared.program.Jump.{Jump}
use Rattle.ir_ast.specs.declared.program.Jump.TheVariants as jump
use Rattle.source_sem.specs.Env.{Env, operand}
use Rattle.thread_parts.specs.Parts as parts
use Rattle.thread_parts.specs.Rooms.{HasRoom}
use Rattle.source_sem.specs.Source as sem
use Rattle.source_machine.specs.declared.ahead.Lookahead.{Lookahead}
use Rattle.source_machine.specs.declared.frame.Frame.{Frame}
use Rattle.source_machine.specs.Positions.{IsWithinLimit, params_of}
use Rattle.history.specs.Pieces.{Byte}
use Rattle.source_machine.specs.Fits.{HasPieceRoom}
use Rattle.source_machine.specs.Frames.{frame_in}

-- what the frame's next instruction does, unless that is its terminator
abbrev pub part_by : sem.Setting → sem.Frame → ℕ → List Inst → Option parts.Part
part_by x f depth [] = None
part_by x f depth (i ∷ rest) = Some (sem.op_part x f.function depth f.env i.op)

abbrev pub part_at : sem.Setting → sem.Frame → ℕ → Option parts.Part
part_at x f depth = part_by x f depth f.insts

-- where the frame goes, if its next instruction is a jump
abbrev pub goal_by : Env → List Inst → Jump → Option Goal
goal_by env [] (jump.Br goal) = Some goal
goal_by env [] (jump.CondBr v first second) = Some (parts.chosen (operand env v).value first second)
goal_by env is j = None

abbrev pub goal_at : sem.Frame → Option Goal
goal_at f = goal_by f.env f.insts f.term

-- a call has the frame of its function, and a copy has room for a piece
abbrev pub IsPartReady : sem.Setting → Option parts.Part → Option (List Byte) → Option Frame → Type 0
IsPartReady x (Some (parts.Calls k xs ty attr)) piece None = ⊥
IsPartReady x (Some (parts.Calls k xs ty attr)) piece (Some f) = frame_in f ≡ sem.new_frame x k xs
IsPartReady x (Some (parts.Copies d s n)) piece callee = HasPieceRoom piece
IsPartReady x part piece callee = Unit {0}

-- a copy has room for a piece
abbrev pub HasCopyRoom : Option parts.Part → Option (List Byte) → Type 0
HasCopyRoom (Some (parts.Copies d s n)) piece = HasPieceRoom piece
HasCopyRoom part piece = Unit {0}

-- a jump has its block with the values of its parameters
pub record IsGoalReady (x : sem.Setting) (f : sem.Frame) (room : ℕ) (goal : Goal) (a : Lookahead) : Type 0 where
  pub enters : sem.in_block f (option_copied a.block) a.number a.row.items ≡ sem.goto x f goal
  pub fits : length (params_of (option_copied a.block)) ≤ room
  pub stands : IsWithinLimit a.number (option_copied a.block)

abbrev pub IsJumpReady : sem.Setting → sem.Frame → ℕ → Option Goal → Lookahead → Type 0
IsJumpReady x f room None a = Unit {0}
IsJumpReady x f room (Some goal) a = IsGoalReady x f room goal a

-- the newest frame, one of so many, can go on without memory
pub record IsRoomy (x : sem.Setting) (depth : ℕ) (f : Frame) (a : Lookahead) : Type 0 where
  pub registers : 1 ≤ f.registers.room
  pub owned : HasRoom f.owned
  pub part : IsPartReady x (part_at x (frame_in f) depth) f.piece a.callee
  pub jump : IsJumpReady x (frame_in f) f.registers.room (goal_at (frame_in f)) a

abbrev pub IsTopRoomy : sem.Setting → ℕ → Option Frame → Lookahead → Type 0
IsTopRoomy x depth None a = Unit {0}
IsTopRoomy x depth (Some f) a = IsRoomy x depth f a

-- a thread can go on without memory
pub record IsReady (x : sem.Setting) (top : Option Frame) (callers : Vec Frame) (a : Lookahead) (started : Vec ℕ) (count : ℕ) : Type 0 where
  pub roomy : IsTopRoomy x (vec_len callers + 1) top a
  pub calls : vec_len callers < vec_capacity callers
  pub starts : vec_len started < vec_capacity started
  pub counts : count + 1 < 2 ^ 64

-- where a thread has prepared, it can go on without memory; provenance is kept
pub record IsKept (x : sem.Setting) (top : Option Frame) (callers : Vec Frame) (a : Lookahead) (started : Vec ℕ) (count : ℕ) (prepared : Bool) : Type 0 where
  pub tracked : x.tracked ≡ true
  pub ready : prepared ≡ true → IsReady x top callers a started count
