-- A thread over target code simulates a thread over the text.
use Rattle.std.specs.Prelude.{◌≡◌, ℕ, ◌+◌, ◌%◌, ◌^◌, List, [], ◌∷◌, Option, Some, None, true, false, length, get_or, slice_get}
use Rattle.bsan_ids.specs.declared.numbers.Prov.{Prov}
use Rattle.history.specs.declared.ask.Arg.{Arg}
use Rattle.history.specs.declared.ask.Ask.{Ask}
use Rattle.ir_ast.specs.Tokens.{Each}
use Rattle.ir_ast.specs.declared.hosts.HostEntry.{HostEntry}
use Rattle.ir_ast.specs.declared.types.Attr.{Attr}
use Rattle.ir_ast.specs.declared.types.Ty.{Ty}
use Rattle.ir_ast.specs.declared.types.Ty.TheVariants.{Ptr}
use Rattle.ir_ast.specs.declared.program.Function.{Function}
use Rattle.ir_ast.specs.declared.program.Inst.{Inst}
use Rattle.ir_ast.specs.declared.program.Jump.{Jump}
use Rattle.ir_ast.specs.declared.program.Named.{Named}
use Rattle.ir_ast.specs.declared.program.Op.{Op}
use Rattle.ir_ast.specs.declared.program.Op.TheVariants as op
use Rattle.ir_ast.specs.declared.program.Param.{Param}
use Rattle.ir_ast.specs.declared.program.Program.{Program}
use Rattle.source_sem.specs.Env.{Env, value_in, operand}
use Rattle.thread_parts.specs.Words.{blank}
use Rattle.thread_parts.specs.Copies.{Progress, untouched, copy_done}
use Rattle.thread_parts.specs.Owned.{Owned, release_ask}
use Rattle.thread_parts.specs.Parts.{makes_step}
use Rattle.source_sem.specs.Source.{Setting, Source, Frame, Doing, Ready, Entering, Copying, Waiting, Retagging, Leaving, to_retag}
use Rattle.source_sem.specs.Typing.{HasType}
use Rattle.target_code.specs.declared.line.Line.{Line}
use Rattle.target_code.specs.declared.line.Line.TheVariants as line
use Rattle.instrument.specs.Translation.{Scope, scope_of, slot_of_dest, op_lines, body_lines, result_lines, retag_lines, entry_retags, translation}
use Rattle.ir_ast.specs.Numbers.{place, host_names}
use Rattle.instrument.specs.Known.{HasRegister}
use Rattle.thread_machine.specs.Thread.{TargetSetting, Row, TargetFrame, Thread, go_on}
use Rattle.instr_sound.specs.Fits.{InstFits, JumpFits, ParamFits}

-- the program with its input and its hosts, and its translation with that input
abbrev pub source_setting : Program → List HostEntry → List ℕ → Setting
source_setting p hosts input = record { program = p; input = input; hosts = host_names hosts; tracked = true }

abbrev pub target_setting : Program → List HostEntry → List ℕ → TargetSetting
target_setting p hosts input = record { target = translation hosts p; input = input }

-- the slots hold the registers; only a register of a pointer has a provenance
pub record SlotsHold (x : Scope) (g : Function) (env : Env) (words : List ℕ) (shadows : List (Option Prov)) : Type 0 where
  pub words_are : (r : List ℕ) → get_or words (place x.registers r) 0 ≡ (value_in env r).value
  pub provs_are : (r : List ℕ) → get_or shadows (place x.registers r) None ≡ (value_in env r).prov
  pub bare : (r : List ℕ) → (HasType g r Ptr → ⊥) → (value_in env r).prov ≡ None
  pub words_wide : length words ≡ length x.registers
  pub provs_wide : length shadows ≡ length x.registers

-- what of the target thread the source thread doesn't determine
pub record Hidden : Type 0 where
  pub rest : List Line
  pub words : List ℕ
  pub shadows : List (Option Prov)
  pub handed : Row
  pub given : Arg
  pub callers : List TargetFrame
  pub row : Row
  pub loaded : Option Prov
  pub stored : Option Prov
  pub params : List Param

abbrev pub progress_of : Doing → Progress
progress_of (Copying pr) = pr
progress_of other = untouched

abbrev pub result_of : Doing → Arg
result_of (Leaving v) = v
result_of other = blank

-- the target thread before its lines are run
abbrev pub image : ℕ → ℕ → Owned → Doing → ℕ → Hidden → Thread
image k n o d count h = record {
  top = record { function = k; site = n; rest = h.rest; words = h.words; shadows = h.shadows; handed = h.handed; result = result_of d; given = h.given; owned = o };
  callers = h.callers;
  row = h.row;
  loaded = h.loaded;
  stored = h.stored;
  copying = progress_of d;
  begun = true;
  count = count;
  over = None;
}

-- the lines from an instruction on
abbrev pub rest_lines : Scope → ℕ → List Inst → Jump → List Line
rest_lines x n is j = line.Turn n ∷ body_lines x n is j

abbrev pub copying_lines : Scope → ℕ → List Inst → Jump → List Line
copying_lines x n [] j = []
copying_lines x n (i ∷ is) j = op_lines x i.op (slot_of_dest x i.dest) (rest_lines x (n + 1) is j)

-- the lines that are still to be run
abbrev pub lines_for : Scope → ℕ → List Inst → Jump → List Param → Doing → List Line
lines_for x n is j ps Ready = rest_lines x n is j
lines_for x n is j ps (Entering qs) = entry_retags x ps (rest_lines x n is j)
lines_for x n is j ps (Copying pr) = copying_lines x n is j
lines_for x n is j ps (Waiting dest ty attr) = []
lines_for x n is j ps (Retagging dest v a) = retag_lines (slot_of_dest x dest) (Some a) (rest_lines x (n + 1) is j)
lines_for x n is j ps (Leaving v) = line.PopFrame ∷ line.Return ∷ []

-- an operation that copies at least one byte
abbrev pub CopiesSome : Env → Op → Type 0
CopiesSome env (op.Copy d s v) = copy_done ((operand env v).value % 2 ^ 64) untouched ≡ false
CopiesSome env other = ⊥

abbrev pub IsCopying : Env → List Inst → Type 0
IsCopying env [] = ⊥
IsCopying env (i ∷ is) = CopiesSome env i.op

-- what holds beside the lines
abbrev pub Beside : Scope → Function → List Inst → Env → Owned → Hidden → Doing → Type 0
Beside x g is env o h Ready = Unit {0}
Beside x g is env o h (Entering []) = ⊥
Beside x g is env o h (Entering (q ∷ qs)) = (to_retag true h.params ≡ q ∷ qs) × Each (ParamFits x g) h.params
Beside x g is env o h (Copying pr) = IsCopying env is
Beside x g is env o h (Waiting dest ty attr) = ⊥
Beside x g is env o h (Retagging None v a) = (h.given ≡ v) × (makes_step true a.size ≡ true)
Beside x g is env o h (Retagging (Some r) v a) = (value_in env r.name ≡ v) × (makes_step true a.size ≡ true) × HasType g r.name Ptr × HasRegister x r
Beside x g is env o h (Leaving v) = (a : Ask) × (release_ask o ≡ Some a)

-- a result may go to this register
abbrev pub MayTake : Scope → Function → Option Named → Option Ty → Type 0
MayTake x g None ty = Unit {0}
MayTake x g (Some r) None = ⊥
MayTake x g (Some r) (Some ty) = HasType g r.name ty × HasRegister x r

-- the newest frame
pub record TopSimulates (p : Program) (hosts : List HostEntry) (g : Function) (f : Frame) (h : Hidden) : Type 0 where
  pub known : slice_get p.functions f.function ≡ Some g
  pub holds : SlotsHold (scope_of p.functions hosts g) g f.env h.words h.shadows
  pub insts_fit : Each (InstFits p (scope_of p.functions hosts g) g) f.insts
  pub term_fits : JumpFits (scope_of p.functions hosts g) g f.term
  pub beside : Beside (scope_of p.functions hosts g) g f.insts f.env f.owned h f.doing

abbrev pub waiting_frame : Scope → Frame → Option Named → Option Ty → Option Attr → List ℕ → List (Option Prov) → Row → Arg → TargetFrame
waiting_frame x f dest ty attr words shadows handed given = record {
  function = f.function;
  site = f.number;
  rest = result_lines (slot_of_dest x dest) ty attr (rest_lines x (f.number + 1) f.insts f.term);
  words = words;
  shadows = shadows;
  handed = handed;
  result = blank;
  given = given;
  owned = f.owned;
}

-- a caller, which waits for a result
pub record CallerWaits (p : Program) (hosts : List HostEntry) (f : Frame) (t : TargetFrame) (dest : Option Named) (ty : Option Ty) (attr : Option Attr) : Type 0 where
  pub code : Function
  pub words : List ℕ
  pub shadows : List (Option Prov)
  pub handed : Row
  pub given : Arg
  pub known : slice_get p.functions f.function ≡ Some code
  pub holds : SlotsHold (scope_of p.functions hosts code) code f.env words shadows
  pub insts_fit : Each (InstFits p (scope_of p.functions hosts code) code) f.insts
  pub term_fits : JumpFits (scope_of p.functions hosts code) code f.term
  pub takes : MayTake (scope_of p.functions hosts code) code dest ty
  pub is : t ≡ waiting_frame (scope_of p.functions hosts code) f dest ty attr words shadows handed given

abbrev pub CallerSimulates : Program → List HostEntry → Frame → TargetFrame → Doing → Type 0
CallerSimulates p hosts f t (Waiting dest ty attr) = CallerWaits p hosts f t dest ty attr
CallerSimulates p hosts f t other = ⊥

abbrev pub CallersSimulate : Program → List HostEntry → List Frame → List TargetFrame → Type 0
CallersSimulate p hosts [] [] = Unit {0}
CallersSimulate p hosts [] (t ∷ ts) = ⊥
CallersSimulate p hosts (f ∷ fs) [] = ⊥
CallersSimulate p hosts (f ∷ fs) (t ∷ ts) = CallerSimulates p hosts f t f.doing × CallersSimulate p hosts fs ts

-- a thread with frames
pub record Going (p : Program) (hosts : List HostEntry) (input : List ℕ) (f : Frame) (fs : List Frame) (count : ℕ) (t : Thread) : Type 0 where
  pub code : Function
  pub hidden : Hidden
  pub top : TopSimulates p hosts code f hidden
  pub callers : CallersSimulate p hosts fs hidden.callers
  pub is : t ≡ go_on input (lines_for (scope_of p.functions hosts code) f.number f.insts f.term hidden.params f.doing) (image f.function f.number f.owned f.doing count hidden)

-- a thread that has ended
pub record IsOver (s : Source) (t : Thread) : Type 0 where
  pub over : t.over ≡ Some s.over
  pub site : t.top.site ≡ s.last
  pub count : t.count ≡ s.count

abbrev pub SimulatesBy : Program → List HostEntry → List ℕ → Source → Thread → List Frame → Type 0
SimulatesBy p hosts input s t [] = IsOver s t
SimulatesBy p hosts input s t (f ∷ fs) = Going p hosts input f fs s.count t

-- the target thread simulates the source thread
abbrev pub Simulates : Program → List HostEntry → List ℕ → Source → Thread → Type 0
Simulates p hosts input s t = SimulatesBy p hosts input s t s.frames
