-- What a join asks of an accepted program: handles that are defined by spawns alone and assigned on every path; and the invariant of a frame.
use Rattle.std.specs.Prelude.{◌≡◌, ◌<◌, ◌^◌, ◌⊎◌, ℕ, List, [], ◌∷◌, ◌++◌, map, Option, Some, Bool, true, false, if◌then◌else◌, slice_get}
use Rattle.std.specs.List.{flat_map}
use Rattle.std.specs.Str.{bytes_eq}
use Rattle.ir_ast.specs.declared.program.Block.{Block}
use Rattle.ir_ast.specs.declared.program.Function.{Function}
use Rattle.ir_ast.specs.declared.program.Inst.{Inst}
use Rattle.ir_ast.specs.declared.program.Jump.{Jump}
use Rattle.ir_ast.specs.declared.program.Jump.TheVariants as jump
use Rattle.ir_ast.specs.declared.program.Named.{Named}
use Rattle.ir_ast.specs.declared.program.Op.{Op}
use Rattle.ir_ast.specs.declared.program.Op.TheVariants as op
use Rattle.ir_ast.specs.declared.program.Param.{Param}
use Rattle.ir_ast.specs.declared.types.Ty.{Ty}
use Rattle.ir_ast.specs.Shapes.{Defines}
use Rattle.ir_ast.specs.Tokens.{Each}
use Rattle.ir_rules.specs.declared.rule.Wanted.{Wanted}
use Rattle.ir_rules.specs.declared.rule.Wanted.TheVariants.{AValue, AHandle}
use Rattle.ir_rules.specs.Occurrences.{Holds as Held, Use, Event, param_event, inst_events, function_events}
use Rattle.ir_rules.specs.Occurrences.Holds.{value, handle}
use Rattle.ir_rules.specs.Occurrences.Event.{defines, uses}
use Rattle.ir_rules.specs.Paths.{Avoids, IsPath, IsUnassigned}
use Rattle.ir_rules.specs.Rules.{held}
use Rattle.source_sem.specs.Env.{Env, value_in}
use Rattle.ir_ast.specs.declared.program.Program.{Program}
use Rattle.history.specs.declared.ask.Arg.{Arg}
use Rattle.history.specs.declared.entry.Entry.{Entry}
use Rattle.bsan_ids.specs.declared.numbers.ThreadNo.{ThreadNo}
use Rattle.history.specs.declared.ask.Ask.TheVariants as ask
use Rattle.runs.specs.Parts.{Has, Answers, child_of}
use Rattle.thread_parts.specs.Owned.{Owned}
use Rattle.source_sem.specs.Plain.{IsWaiting}
use Rattle.source_sem.specs.Source.{Setting, Source, Frame, Doing, Ready, Entering, Copying, Waiting, Retagging, Leaving, source_start, source_child, source_ask, source_turn, source_answer, source_fits}

-- an event agrees with the function's registers: each holds what its definition says, and what its use wants
abbrev pub IsWanted : Option Held → Wanted → Type 0
IsWanted h (AValue ty) = h ≡ Some (value ty)
IsWanted h AHandle = (f : List ℕ) × (h ≡ Some (handle f))

abbrev pub IsHeld : Function → Event → Type 0
IsHeld g (defines d h) = held (function_events g) d.name ≡ Some h
IsHeld g (uses u) = IsWanted (held (function_events g) u.reg.name) u.wanted

-- what joins need of a function of an accepted program: each register holds one thing, a handle is assigned on every path to
-- a use of it, and the first block takes nothing
pub record JoinsFit (g : Function) : Type 0 where
  pub events : Each (IsHeld g) (function_events g)
  pub assigned : (u : Use) → u.wanted ≡ AHandle → IsUnassigned g u → ⊥
  pub first : (block : Block) → slice_get g.blocks 0 ≡ Some block → block.params ≡ []

-- instruction i stands in block b, after `done`
pub record StandsAt (g : Function) (b : ℕ) (block : Block) (done : List Inst) (i : Inst) (rest : List Inst) : Type 0 where
  pub is_block : slice_get g.blocks b ≡ Some block
  pub insts : block.insts ≡ done ++ i ∷ rest

-- some path comes to the instruction after `done` in block b without a definition of the register
pub record IsUnassignedAfter (g : Function) (b : ℕ) (block : Block) (done : List Inst) (r : List ℕ) : Type 0 where
  pub at_entry : Avoids r (map param_event g.params)
  pub path : List ℕ
  pub is_path : IsPath g r (b ∷ path)
  pub params : Avoids r (map param_event block.params)
  pub before : Avoids r (flat_map inst_events done)

abbrev pub IsSpawnOp : Op → Type 0
IsSpawnOp (op.Spawn function args) = Unit {0}
IsSpawnOp other = ⊥

abbrev pub is_bound : Env → List ℕ → Bool
is_bound [] r = false
is_bound (e ∷ env) r = if bytes_eq e.0 r then true else is_bound env r

-- the registers of a frame after `done` in block b: one without a value is unassigned on a path, a handle with a value is a child
pub record HasHandles (g : Function) (b : ℕ) (block : Block) (done : List Inst) (env : Env) (started : List ℕ) : Type 0 where
  pub missed : (r : List ℕ) → is_bound env r ≡ false → IsUnassignedAfter g b block done r
  pub children : (r f : List ℕ) → held (function_events g) r ≡ Some (handle f) → is_bound env r ≡ true → Has started (value_in env r).value

-- the invariant of a thread -----------------------------------------------------

pub record FunctionJoins (g : Function) : Type 0 where
  pub begins : Block
  pub begins_is : slice_get g.blocks 0 ≡ Some begins
  pub joins : JoinsFit g
  pub dests : (b : ℕ) (block : Block) (done rest : List Inst) (i : Inst) (n : Named) → StandsAt g b block done i rest → i.dest ≡ Some n → Defines i.op

abbrev pub JoinsAccepted : Program → Type 0
JoinsAccepted P = (k : ℕ) (g : Function) → slice_get P.functions k ≡ Some g → FunctionJoins g

-- a frame of function k whose block goes on with these instructions, after `done`
pub record Site (P : Program) (k : ℕ) : Type 0 where
  pub code : Function
  pub is_code : slice_get P.functions k ≡ Some code
  pub b : ℕ
  pub block : Block
  pub is_block : slice_get code.blocks b ≡ Some block

pub record Placed (P : Program) (started : List ℕ) (k : ℕ) (at : Site P k) (env : Env) (o : Owned) (done left : List Inst) (j : Jump) : Type 0 where
  pub insts : at.block.insts ≡ done ++ left
  pub term : j ≡ at.block.term.jump
  pub holds : HasHandles at.code at.b at.block done env started
  pub owned : (c : ℕ) → Has o.children c → Has started c

abbrev pub Somewhere : Program → List ℕ → ℕ → List Inst → Jump → Env → Owned → Type 0
Somewhere P started k is j env o = (at : Site P k) × (done : List Inst) × Placed P started k at env o done is j

pub record Enters (P : Program) (started : List ℕ) (k : ℕ) (is : List Inst) (j : Jump) (env : Env) (o : Owned) (ps : List Param) : Type 0 where
  pub at : Site P k
  pub done : List Inst
  pub placed : Placed P started k at env o done is j
  pub params : Each (IsHeld at.code) (map param_event ps)

-- the instruction that waits for its result, with no value yet
pub record Waits (P : Program) (started : List ℕ) (k : ℕ) (is : List Inst) (j : Jump) (env : Env) (o : Owned) (dest : Option Named) (ty : Option Ty) : Type 0 where
  pub at : Site P k
  pub done : List Inst
  pub i : Inst
  pub placed : Placed P started k at env o done (i ∷ is) j
  pub dest_is : i.dest ≡ dest
  pub no_spawn : IsSpawnOp i.op → ⊥
  pub gives : (n : Named) → dest ≡ Some n → (t : Ty) × (ty ≡ Some t)

-- the instruction that has its result and retags it
pub record Retagged (P : Program) (started : List ℕ) (k : ℕ) (is : List Inst) (j : Jump) (env : Env) (o : Owned) (dest : Option Named) : Type 0 where
  pub at : Site P k
  pub done : List Inst
  pub i : Inst
  pub placed : Placed P started k at env o (done ++ i ∷ []) is j
  pub stands : StandsAt at.code at.b at.block done i is
  pub dest_is : i.dest ≡ dest
  pub no_spawn : IsSpawnOp i.op → ⊥

abbrev pub DoingStands : Program → List ℕ → ℕ → List Inst → Jump → Env → Owned → Doing → Type 0
DoingStands P started k is j env o Ready = Somewhere P started k is j env o
DoingStands P started k is j env o (Entering ps) = Enters P started k is j env o ps
DoingStands P started k is j env o (Copying pr) = Somewhere P started k is j env o
DoingStands P started k is j env o (Waiting dest ty attr) = Waits P started k is j env o dest ty
DoingStands P started k is j env o (Retagging dest v a) = Retagged P started k is j env o dest
DoingStands P started k is j env o (Leaving v) = (c : ℕ) → Has o.children c → Has started c

-- a frame that stands nowhere ends in Unreachable
pub record IsLost (is : List Inst) (j : Jump) (d : Doing) : Type 0 where
  pub insts : is ≡ []
  pub term : j ≡ jump.Unreachable
  pub doing : d ≡ Ready

abbrev pub CallersStand : Program → List ℕ → List Frame → Type 0
CallersStand P started [] = Unit {0}
CallersStand P started (f ∷ fs) = DoingStands P started f.function f.insts f.term f.env f.owned f.doing × IsWaiting f.doing × CallersStand P started fs

abbrev pub FramesStand : Program → List ℕ → List Frame → Type 0
FramesStand P started [] = Unit {0}
FramesStand P started (f ∷ fs) = (IsLost f.insts f.term f.doing ⊎ DoingStands P started f.function f.insts f.term f.env f.owned f.doing) × CallersStand P started fs

pub record ThreadStands (P : Program) (s : Source) : Type 0 where
  pub frames : FramesStand P s.started s.frames
  pub kids : (c : ℕ) → Has s.started c → (0 < c) × (c < 2 ^ 32)

-- the thread that the entry starts, if it starts one, isn't thread 0
abbrev pub StartsNoMain : Entry → Type 0
StartsNoMain e = (c : ℕ) → child_of e ≡ Some c → 0 < c

-- in every state that a thread of an accepted program can reach, a join asks for one of its children
pub record JoinLaw (x : Setting) : Type 0 where
  pub start : (k : ℕ) (args : List Arg) → ThreadStands x.program (source_start x k args)
  pub child : (s : Source) → ThreadStands x.program (source_child x s)
  pub turn : (s : Source) → ThreadStands x.program s → source_ask x s ≡ ask.Turn → ThreadStands x.program (source_turn x s)
  pub after : (s : Source) (e : Entry) → ThreadStands x.program s → Answers (source_ask x s) e → source_fits x s e → StartsNoMain e → ThreadStands x.program (source_answer x s e.reply)
  pub asks : (s : Source) (c : ThreadNo) → ThreadStands x.program s → source_ask x s ≡ ask.Join c → Has s.started c.0 × (0 < c.0)
