-- Which states of the plain thread stand for a state of the source thread.
use Rattle.std.specs.Prelude.{◌≡◌, ℕ, ◌+◌, false, true, List, [], ◌∷◌, Option, Some, None}
use Rattle.history.specs.declared.ask.Arg.{Arg}
use Rattle.history.specs.Pieces.{Byte}
use Rattle.ir_ast.specs.declared.types.Attr.{Attr}
use Rattle.ir_ast.specs.declared.program.Inst.{Inst}
use Rattle.ir_ast.specs.declared.program.Jump.{Jump}
use Rattle.ir_ast.specs.declared.program.Jump.TheVariants as jump
use Rattle.history.specs.declared.ask.Ask.{Ask}
use Rattle.history.specs.declared.ask.Ask.TheVariants as ask
use Rattle.history.specs.Replies.{trap_of}
use Rattle.thread_parts.specs.Words.{plain_arg}
use Rattle.runs.specs.Erasure.{without_fragments, erased_end, erased_request, Follows, StepsAlike, is_left_out}
use Rattle.source_sem.specs.Env.{Env, value_in}
use Rattle.ir_ast.specs.declared.program.Param.{Param}
use Rattle.thread_parts.specs.Owned.{release_ask, Made, Owned}
use Rattle.thread_parts.specs.Parts.{Part, Step, Access, Gives, Fails, Steps, Retags, Copies, Calls, Joins, Accesses, Spawns, Stores}
use Rattle.thread_parts.specs.Copies.{Progress}
use Rattle.history.specs.declared.entry.Entry.{Entry}
use Rattle.history.specs.declared.ask.MachineEnd.{MachineEnd}
use Rattle.runs.specs.Parts.{Answers}
use Rattle.runs.specs.Machine.{Settles}
use Rattle.source_sem.specs.Source.{source, source_start, plain_setting, Setting, Source, Frame, Doing, Ready, Entering, Copying, Waiting, Retagging, Leaving, return_to, returned_value}

abbrev pub erased_arg : Arg → Arg
erased_arg a = plain_arg a.value

abbrev pub erased_args : List Arg → List Arg
erased_args [] = []
erased_args (a ∷ as_) = erased_arg a ∷ erased_args as_

-- the registers of the plain thread have the same words, and no provenance
abbrev pub Reads : Env → Env → Type 0
Reads env bare = (r : List ℕ) → value_in bare r ≡ erased_arg (value_in env r)

abbrev pub erased_half : Option (List Byte) → Option (List Byte)
erased_half None = None
erased_half (Some piece) = Some (without_fragments piece)

abbrev pub erased_progress : Progress → Progress
erased_progress p = record { pieces = p.pieces; half = erased_half p.half }

abbrev pub erased_made : Made → Made
erased_made m = record { number = m.number; prov = None }

abbrev pub erased_stack : List Made → List Made
erased_stack [] = []
erased_stack (m ∷ ms) = erased_made m ∷ erased_stack ms

abbrev pub erased_owned : Owned → Owned
erased_owned o = record { children = o.children; protectors = []; stack = erased_stack o.stack }

-- what is asked, without provenance
abbrev pub erased_ask : Ask → Ask
erased_ask (ask.At a r) = ask.At a (erased_request r)
erased_ask (ask.Ended e) = ask.Ended (erased_end e)
erased_ask other = other

abbrev pub erased_access : Access → Access
erased_access (Stores ty v) = Stores ty (erased_arg v)
erased_access other = other

abbrev pub erased_step : Step → Step
erased_step (Accesses p a) = Accesses (erased_arg p) (erased_access a)
erased_step (Spawns k xs) = Spawns k (erased_args xs)
erased_step other = other

abbrev pub erased_option : Option Arg → Option Arg
erased_option None = None
erased_option (Some a) = Some (erased_arg a)

-- what the instruction does in the plain thread: a retag copies its pointer
abbrev pub plain_part : Part → Part
plain_part (Gives v) = Gives (erased_option v)
plain_part (Fails t) = Fails t
plain_part (Steps s) = Steps (erased_step s)
plain_part (Retags p kind n) = Gives (Some (erased_arg p))
plain_part (Copies d s n) = Copies (erased_arg d) (erased_arg s) n
plain_part (Calls k xs ty attr) = Calls k (erased_args xs) ty attr
plain_part (Joins c ty attr) = Joins c ty attr

-- the frame in the plain thread; a result that is still to be retagged is there, and the next instruction begins
abbrev pub plain_doing : Doing → Doing
plain_doing (Copying p) = Copying (erased_progress p)
plain_doing (Waiting dest ty attr) = Waiting dest ty attr
plain_doing (Leaving v) = Leaving (erased_arg v)
plain_doing other = Ready

abbrev pub plain_number : ℕ → Doing → ℕ
plain_number n (Retagging dest v a) = n + 1
plain_number n other = n

abbrev pub plain_frame : Frame → Env → Doing → Frame
plain_frame f bare d = record {
  function = f.function;
  insts = f.insts;
  term = f.term;
  number = plain_number f.number f.doing;
  env = bare;
  owned = erased_owned f.owned;
  doing = d;
}

-- a caller in both threads
pub record CallerMirrors (f g : Frame) : Type 0 where
  pub bare : Env
  pub reads : Reads f.env bare
  pub is : g ≡ plain_frame f bare (plain_doing f.doing)

abbrev pub IsWaiting : Doing → Type 0
IsWaiting (Waiting dest ty attr) = Unit {0}
IsWaiting other = ⊥

abbrev pub CallersMirror : List Frame → List Frame → Type 0
CallersMirror [] [] = Unit {0}
CallersMirror (f ∷ fs) (g ∷ gs) = IsWaiting f.doing × CallerMirrors f g × CallersMirror fs gs
CallersMirror fs gs = ⊥

-- what of the thread isn't frames; counts of instructions are no part of it
abbrev pub plain_rest : Source → ℕ → List Frame → Source
plain_rest s count fs = record { frames = fs; over = erased_end s.over; last = s.last; count = count; started = s.started }

-- a ret of which a part is done may still be before its first part in the plain thread
abbrev pub LeavesAs : List Inst → Jump → Env → Arg → Doing → Type 0
LeavesAs is j bare v (Leaving w) = w ≡ erased_arg v
LeavesAs [] (jump.Ret u at) bare v Ready = returned_value bare u ≡ erased_arg v
LeavesAs is j bare v d = ⊥

-- a ret with protector ends alone has returned in the plain thread
abbrev pub LeavingMirrors : Source → Frame → Env → List Frame → Arg → List ℕ → List Made → ℕ → Source → Type 0
LeavingMirrors s f bare gs v [] [] count p = p ≡ return_to false (plain_rest s count []) f gs (erased_arg v)
LeavingMirrors s f bare gs v cs ms count p = (d : Doing) × LeavesAs f.insts f.term bare v d × (p ≡ plain_rest s count (plain_frame f bare d ∷ gs))

abbrev pub TopMirrors : Source → Frame → Env → List Frame → Doing → ℕ → Source → Type 0
TopMirrors s f bare gs (Leaving v) count p = LeavingMirrors s f bare gs v f.owned.children f.owned.stack count p
TopMirrors s f bare gs d count p = p ≡ plain_rest s count (plain_frame f bare (plain_doing d) ∷ gs)

abbrev pub HasAttr : Option Attr → Type 0
HasAttr (Some a) = Unit {0}
HasAttr None = ⊥

abbrev pub AllAttrs : List Param → Type 0
AllAttrs [] = Unit {0}
AllAttrs (p ∷ ps) = HasAttr p.attr × AllAttrs ps

-- a result that waits for its retag is in its register, what is entered has attributes, and who leaves has something to give up
abbrev pub IsBeside : Env → Owned → Doing → Type 0
IsBeside bare o (Retagging (Some r) v a) = value_in bare r.name ≡ erased_arg v
IsBeside bare o (Entering []) = ⊥
IsBeside bare o (Entering (p ∷ ps)) = AllAttrs (p ∷ ps)
IsBeside bare o (Leaving v) = release_ask o ≡ None → ⊥
IsBeside bare o other = Unit {0}

-- the newest frame, and the frames below it
pub record FramesMirror (s : Source) (f : Frame) (fs : List Frame) (p : Source) : Type 0 where
  pub bare : Env
  pub below : List Frame
  pub count : ℕ
  pub reads : Reads f.env bare
  pub callers : CallersMirror fs below
  pub beside : IsBeside bare f.owned f.doing
  pub top : TopMirrors s f bare below f.doing count p

abbrev pub MirrorsBy : Source → List Frame → Source → Type 0
MirrorsBy s [] p = (count : ℕ) × (p ≡ plain_rest s count [])
MirrorsBy s (f ∷ fs) p = FramesMirror s f fs p

abbrev pub Mirrors : Source → Source → Type 0
Mirrors s p = MirrorsBy s s.frames p

-- the plain thread mirrors the source thread: the machine's part of an erasure
pub record ThreadErases (x : Setting) : Type 0 where
  pub start : (k : ℕ) (args : List Arg) → Mirrors (source_start x k args) (source_start (plain_setting x) k (erased_args args))
  pub turn : (s p : Source) → Mirrors s p → (source x).ask s ≡ ask.Turn → Follows (source x) (source (plain_setting x)) Mirrors ((source x).turn s) p
  pub left_out : (s p : Source) (e : Entry) → Mirrors s p → Answers ((source x).ask s) e → is_left_out e.request ≡ true → trap_of e.reply.plain ≡ None → Follows (source x) (source (plain_setting x)) Mirrors ((source x).after s e) p
  pub kept : (s p : Source) (e : Entry) → Mirrors s p → Answers ((source x).ask s) e → is_left_out e.request ≡ false → StepsAlike (source x) (source (plain_setting x)) Mirrors s p e
  pub ended : (s p : Source) (why : MachineEnd) → Mirrors s p → (source x).ask s ≡ ask.Ended why → (q : Source) × Settles (source (plain_setting x)) p q × ((source (plain_setting x)).ask q ≡ ask.Ended (erased_end why))
