-- Words of their types: in registers, in what a frame waits for, and in what a thread returns.
use Rattle.std.specs.Prelude.{◌≡◌, ℕ, ◌<◌, ◌^◌, Bool, true, List, [], ◌∷◌, Option, Some, None, slice_get}
use Rattle.history.specs.Histories.{HasBytes}
use Rattle.history.specs.declared.ask.Arg.{Arg}
use Rattle.history.specs.declared.ask.Ask.TheVariants as ask
use Rattle.history.specs.declared.ask.MachineEnd.{MachineEnd}
use Rattle.history.specs.declared.ask.MachineEnd.TheVariants as end
use Rattle.history.specs.declared.entry.Entry.{Entry}
use Rattle.history.specs.declared.entry.Plain.{Plain}
use Rattle.history.specs.declared.entry.Plain.TheVariants as plain
use Rattle.history.specs.Pieces.{Byte}
use Rattle.history.specs.declared.entry.Request.{Request}
use Rattle.history.specs.declared.entry.Request.TheVariants as request
use Rattle.bsan_ids.specs.declared.numbers.AllocNo.{AllocNo}
use Rattle.bsan_ids.specs.declared.numbers.Prov.{Prov}
use Rattle.bsan_ids.specs.declared.numbers.ThreadNo.{ThreadNo}
use Rattle.ir_ast.specs.Programs.{IsProgram}
use Rattle.ir_ast.specs.Tokens.{Each}
use Rattle.ir_ast.specs.declared.hosts.HostTable.{HostTable}
use Rattle.ir_ast.specs.declared.program.Function.{Function}
use Rattle.ir_ast.specs.declared.program.Inst.{Inst}
use Rattle.ir_ast.specs.declared.program.Param.{Param}
use Rattle.ir_ast.specs.declared.program.Program.{Program}
use Rattle.ir_ast.specs.declared.types.Ty.{Ty}
use Rattle.ir_ast.specs.declared.types.Ty.TheVariants.{Ptr}
use Rattle.ir_rules.specs.Occurrences.{Holds, or_none, function_events}
use Rattle.ir_rules.specs.Occurrences.Holds.{value, handle}
use Rattle.ir_rules.specs.Rules.{IsAccepted, held}
use Rattle.runs.specs.Parts.{Answers}
use Rattle.thread_parts.specs.Words.{blank, number_in}
use Rattle.source_sem.specs.Env.{Env, value_in}
use Rattle.ir_ast.specs.Numbers.{function_place}
use Rattle.thread_parts.specs.Fits.{ValueFits}
use Rattle.source_sem.specs.Source.{Setting, Source, Frame, Doing, Ready, Entering, Copying, Waiting, Retagging, Leaving, frames_type, source_start, source_child, source_ask, source_turn, source_answer, source_fits}
use Rattle.source_sem.specs.Starting.{ArgsFit}
use Rattle.source_sem.specs.Typing.{HasType, DestHolds, InstTyped, JumpTyped}

-- Below, `K k c` says which threads run which functions: c is 0, or it is the number of a thread that runs function k.

-- a word of the type, with a provenance only where it is a pointer; or the number of a thread of this function
abbrev pub HoldsFit : Program → (ℕ → ℕ → Type 0) → Holds → Arg → Type 0
HoldsFit p K (value ty) v = ValueFits ty v
HoldsFit p K (handle name) v = K (function_place p.functions name) v.value

-- each register holds what its first definition says; one without a value reads as 0, which every type has
abbrev pub EnvFits : Program → (ℕ → ℕ → Type 0) → Function → Env → Type 0
EnvFits p K g env = (r : List ℕ) (h : Holds) → held (function_events g) r ≡ Some h → HoldsFit p K h (value_in env r)

-- a value of a result's type, and nothing where there is no result
abbrev pub ResultFits : Option Ty → Arg → Type 0
ResultFits None v = v ≡ blank
ResultFits (Some ty) v = ValueFits ty v

abbrev pub AreBytes : List Byte → Type 0
AreBytes = Each (λ b. b.0 < 256)

abbrev pub HalfFits : Option (List Byte) → Type 0
HalfFits None = Unit {0}
HalfFits (Some piece) = AreBytes piece

abbrev pub Enters : Function → Param → Type 0
Enters g p = HasType g p.reg.name Ptr

-- what a frame has in hand; one that leaves has no instruction left
abbrev pub DoingFits : Function → List Inst → Doing → Type 0
DoingFits g is Ready = Unit {0}
DoingFits g is (Entering ps) = Each (Enters g) ps
DoingFits g is (Copying pr) = HalfFits pr.half
DoingFits g is (Waiting dest ty attr) = DestHolds g dest (or_none ty)
DoingFits g is (Retagging dest v a) = (v.value < 2 ^ 64) × DestHolds g dest (or_none (Some Ptr))
DoingFits g is (Leaving v) = (is ≡ []) × ResultFits g.result.ty v

pub record FrameFits (p : Program) (K : ℕ → ℕ → Type 0) (g : Function) (f : Frame) : Type 0 where
  pub code : slice_get p.functions f.function ≡ Some g
  pub insts : Each (InstTyped p g) f.insts
  pub term : JumpTyped g f.term
  pub env : EnvFits p K g f.env
  pub doing : DoingFits g f.insts f.doing

-- the frame waits for a result of this type
abbrev pub Awaits : Doing → Option Ty → Type 0
Awaits (Waiting dest ty attr) result = ty ≡ result
Awaits other result = ⊥

-- the frames below one of which the function has this result; the thread's function has the result `last`
abbrev pub CallersFit : Program → (ℕ → ℕ → Type 0) → Option Ty → Option Ty → List Frame → Type 0
CallersFit p K last result [] = result ≡ last
CallersFit p K last result (f ∷ fs) = (g : Function) × FrameFits p K g f × Awaits f.doing result × CallersFit p K last g.result.ty fs

abbrev pub EndFits : Option Ty → MachineEnd → Type 0
EndFits last (end.Returned word prov) = ResultFits last (record { value = word; prov = prov })
EndFits last (end.Trapped t) = Unit {0}

abbrev pub FramesFit : Program → (ℕ → ℕ → Type 0) → Option Ty → List Frame → MachineEnd → Type 0
FramesFit p K last [] over = EndFits last over
FramesFit p K last (f ∷ fs) over = (g : Function) × FrameFits p K g f × CallersFit p K last g.result.ty fs

-- every word of the thread is one of its type, and it returns one of this type
abbrev pub SourceFits : Program → (ℕ → ℕ → Type 0) → Option Ty → Source → Type 0
SourceFits p K last s = FramesFit p K last s.frames s.over

-- the reply's number fits into an address, and its piece is one of bytes
abbrev pub PlainFits : Plain → Type 0
PlainFits (plain.Made a) = a.0 < 2 ^ 32
PlainFits (plain.Copied piece) = AreBytes piece
PlainFits other = Unit {0}

-- the frame's function, and its registers
abbrev pub RegistersFit : Program → (ℕ → ℕ → Type 0) → Frame → Type 0
RegistersFit p K f = (g : Function) × (slice_get p.functions f.function ≡ Some g) × EnvFits p K g f.env

-- a started child runs its function
abbrev pub Told : (ℕ → ℕ → Type 0) → Request → Plain → Type 0
Told K (request.Spawn k) p = K k (number_in p)
Told K other p = Unit {0}

-- who is joined for a value of a type runs a function with this result
abbrev pub JoinsTyped : Program → (ℕ → ℕ → Type 0) → Option Ty → ℕ → Type 0
JoinsTyped p K ty c = (k : ℕ) × K k c × ((g : Function) → slice_get p.functions k ≡ Some g → g.result.ty ≡ ty)

-- the first state of a thread that runs function k, with arguments that fit its parameters
pub record StartsWell (x : Setting) (k : ℕ) (s : Source) : Type 0 where
  pub function : Function
  pub code : slice_get x.program.functions k ≡ Some function
  pub args : List Arg
  pub fits : ArgsFit function.params args
  pub is : s ≡ source_start x k args

-- in every state that a thread can reach, words are of their types
pub record WordLaw (x : Setting) (K : ℕ → ℕ → Type 0) : Type 0 where
  pub start : (k : ℕ) (g : Function) (args : List Arg) → slice_get x.program.functions k ≡ Some g → ArgsFit g.params args → SourceFits x.program K g.result.ty (source_start x k args)
  pub turn : (last : Option Ty) (s : Source) → SourceFits x.program K last s → SourceFits x.program K last (source_turn x s)
  pub after : (last : Option Ty) (s : Source) (e : Entry) → SourceFits x.program K last s → Answers (source_ask x s) e → source_fits x s e → PlainFits e.reply.plain → Told K e.request e.reply.plain → SourceFits x.program K last (source_answer x s e.reply)
  pub child : (last : Option Ty) (s : Source) (k : ℕ) → SourceFits x.program K last s → source_ask x s ≡ ask.Spawn k → StartsWell x k (source_child x s)
  pub registers : (last : Option Ty) (s : Source) → SourceFits x.program K last s → Each (RegistersFit x.program K) s.frames
  pub returns : (last : Option Ty) (s : Source) (word : ℕ) (prov : Option Prov) → SourceFits x.program K last s → source_ask x s ≡ ask.Ended (end.Returned word prov) → ResultFits last (record { value = word; prov = prov })
  pub joins : (last : Option Ty) (s : Source) (c : ThreadNo) (ty : Ty) → SourceFits x.program K last s → source_ask x s ≡ ask.Join c → frames_type x s.frames ≡ Some ty → JoinsTyped x.program K (Some ty) c.0
  pub pieces : (last : Option Ty) (s : Source) (a : AllocNo) (r : Request) → SourceFits x.program K last s → source_ask x s ≡ ask.At a r → HasBytes r
  pub hosts : (last : Option Ty) (s : Source) (n a b : ℕ) → SourceFits x.program K last s → source_ask x s ≡ ask.Host n a b → (a < 2 ^ 64) × (b < 2 ^ 64)

-- thread 0 counts as a thread of each function, since a handle without a value reads as 0; and numbers of threads have 32 bits
pub record AreNumbers (K : ℕ → ℕ → Type 0) : Type 0 where
  pub main : (k : ℕ) → K k 0
  pub short : (k c : ℕ) → K k c → c < 2 ^ 32

-- which threads run which functions, by a test
abbrev pub Passes : (ℕ → ℕ → Bool) → ℕ → ℕ → Type 0
Passes runs k c = runs k c ≡ true

-- so it is in an accepted program whose input is one of bytes, whatever is said of which threads run which functions
abbrev pub AcceptedProgramsKeepWords : Type 0
AcceptedProgramsKeepWords =
    (x : Setting) (hosts : HostTable) (runs : ℕ → ℕ → Bool) → IsProgram x.program → IsAccepted x.program hosts → Each (λ b. b < 256) x.input → AreNumbers (Passes runs) → WordLaw x (Passes runs)

-- and words stay of their types where more threads are said to run functions
abbrev pub WordsFitForMore : Type 0
WordsFitForMore =
    (p : Program) (runs more : ℕ → ℕ → Bool) (last : Option Ty) (s : Source) → ((k c : ℕ) → runs k c ≡ true → more k c ≡ true) → SourceFits p (Passes runs) last s → SourceFits p (Passes more) last s
