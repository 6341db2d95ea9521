-- Calls push and returns pop the same frames on both sides.
use Rattle.std.proofs.Common.{◌≡◌, ℕ, zero, suc, ◌+◌, List, [], ◌∷◌, length, get_or, set, replicate, Option, Some, None, Bool, true, false, if◌then◌else◌, refl, sym, ap, ◌∙◌, subst}
use Rattle.std.specs.Prelude.{slice_get}
use Rattle.std.proofs.lemmas.List.{length-replicate}
use Rattle.bsan_ids.specs.declared.numbers.Prov.{Prov}
use Rattle.history.specs.declared.ask.Arg.{Arg}
use Rattle.history.specs.declared.ask.MachineEnd.TheVariants as end
use Rattle.perm_table.specs.declared.Guard.TheVariants.{Free}
use Rattle.ir_ast.specs.Tokens.{Each}
use Rattle.ir_ast.specs.Shapes.{IsParam, FitsAttr}
use Rattle.ir_ast.specs.declared.hosts.HostEntry.{HostEntry}
use Rattle.ir_ast.specs.declared.types.Attr.{Attr}
use Rattle.ir_ast.specs.declared.types.Ty.{Ty}
use Rattle.ir_ast.specs.declared.types.Ty.TheVariants.{Int, Ptr}
use Rattle.ir_ast.specs.declared.types.Width.{Width}
use Rattle.ir_ast.specs.declared.program.Block.{Block}
use Rattle.ir_ast.specs.declared.program.Function.{Function}
use Rattle.ir_ast.specs.declared.program.Inst.{Inst}
use Rattle.ir_ast.specs.declared.program.Jump.{Jump}
use Rattle.ir_ast.specs.declared.program.Named.{Named}
use Rattle.ir_ast.specs.declared.program.Op.TheVariants as op
use Rattle.ir_ast.specs.declared.program.Param.{Param}
use Rattle.ir_ast.specs.declared.program.Program.{Program}
use Rattle.ir_ast.specs.declared.program.TypedVal.{TypedVal}
use Rattle.ir_rules.specs.Rules.{param_types, arg_types}
use Rattle.source_sem.specs.Env.{Env, value_in, args_of, bind, with_value}
use Rattle.thread_parts.specs.Words.{blank}
use Rattle.thread_parts.specs.Copies.{untouched}
use Rattle.thread_parts.specs.Owned.{Owned, nothing_owned}
use Rattle.thread_parts.specs.Parts.{makes_step}
use Rattle.source_sem.specs.Source.{Source, Frame, Doing, Ready, Waiting, Retagging, to_retag, entering, first_insts, first_term, frame_of, result_step, resumed_by, resumed, return_to}
use Rattle.ir_ast.specs.Numbers.{number_of_function, function_place, place, function_names}
use Rattle.source_sem.proofs.Writes.{value_in-with_value}
use Rattle.source_sem.specs.Typing.{HasType, InstTyped, ParamTyped, FunctionTyped, BlockTyped}
use Rattle.source_sem.proofs.Every.{each_all, each_both}
use Rattle.target_code.specs.declared.line.Line.{Line}
use Rattle.target_code.specs.declared.line.Line.TheVariants as line
use Rattle.instrument.specs.Translation.{Scope, scope_of, slot, slot_of_dest, arg_lines, op_lines, param_lines, entry_retags, retag_lines, result_lines, translation}
use Rattle.ir_ast.specs.Attributes.{attr_of_call}
use Rattle.instrument.specs.Known.{HasRegister, HasInst, HasBlock}
use Rattle.instrument.proofs.Ends.{each_got}
use Rattle.thread_machine.specs.Thread.{Row, empty_row, TargetFrame, Thread, at_lines, run, go_on, cross, block_at, turn_number, frame_at, first_lines, call_by, return_by, thread_turn}
use Rattle.instr_sound.specs.Fits.{InstFits, JumpFits, ParamKnown, IsPointerAttr, ParamFits, FunctionFits, ProgramFits}
use Rattle.instr_sound.specs.Simulation.{SlotsHold, Hidden, image, rest_lines, Beside, MayTake, waiting_frame, CallerWaits, CallerSimulates, CallersSimulate, Going, SimulatesBy, source_setting, target_setting}
use Rattle.instr_sound.proofs.Slots.{bytes_eq_same, holds_ptr, holds_word}
use Rattle.instr_sound.proofs.Places.{There, there, function_at, code_at, first_at}
use Rattle.instr_sound.proofs.Rows.{Gives, args_give, args_row, fill_words, fill_shadows, filled, run_args, run_params, not_ptr}
use Rattle.instr_sound.proofs.Lines.{retag_stops, retag_passes, result_stops, result_passes, shadow_again, RetagsLeft, retags}

-- a new frame's slots
blank_at : {A : Type 0} (d : A) (n i : ℕ) → get_or (replicate n d) i d ≡ d
blank_at d zero i = refl
blank_at d (suc n) zero = refl
blank_at d (suc n) (suc i) = blank_at d n i

pub holds_blank : (x : Scope) (g : Function) → SlotsHold x g [] (replicate (length x.registers) 0) (replicate (length x.registers) None)
holds_blank x g = record {
  words_are = λ r. blank_at 0 (length x.registers) (place x.registers r);
  provs_are = λ r. blank_at None (length x.registers) (place x.registers r);
  bare = λ r never. refl;
  words_wide = length-replicate (length x.registers) 0;
  provs_wide = length-replicate (length x.registers) None;
}

pub int_not_ptr : (g : Function) (r : List ℕ) (w : Width) → HasType g r (Int w) → HasType g r Ptr → ⊥
int_not_ptr g r w h = not_ptr g r (Int w) h no_int
  where
    no_int : Int w ≡ Ptr → ⊥
    no_int e = cc

-- what is known of a block
pub record BlockFits (p : Program) (x : Scope) (g : Function) (b : Block) : Type 0 where
  pub params : Each (ParamKnown x g) b.params
  pub insts : Each (InstFits p x g) b.insts
  pub term : JumpFits x g b.term.jump

pub block_fits : (p : Program) (hosts : List HostEntry) (g : Function) (m : ℕ) (b : Block) → FunctionFits p hosts g → slice_get g.blocks m ≡ Some b → BlockFits p (scope_of p.functions hosts g) g b
block_fits p hosts g m b fits e =
    let x = scope_of p.functions hosts g in
    let typed = each_got (BlockTyped p g) g.blocks m b e fits.typed.blocks in
    let known = each_got (HasBlock x) g.blocks m b e fits.known.blocks in
    record {
      params = each_both (ParamTyped g) (λ (q : Param). HasRegister x q.reg) b.params typed.params known.params;
      insts = each_both (InstTyped p g) (HasInst x) b.insts typed.insts known.insts;
      term = (typed.term, known.jump);
    }

pointer_attr : (version : ℕ) (q : Param) → IsParam version q → IsPointerAttr q.ty q.attr
pointer_attr version q fit = by_attr q.attr fit
  where
    by_attr : (a : Option Attr) → FitsAttr version (Some q.ty) a → IsPointerAttr q.ty a
    by_attr None e = tt
    by_attr (Some a) e = same e.0
      where
        same : Some q.ty ≡ Some Ptr → q.ty ≡ Ptr
        same e = cc

pub params_fit : (p : Program) (hosts : List HostEntry) (g : Function) → FunctionFits p hosts g → Each (ParamFits (scope_of p.functions hosts g) g) g.params
params_fit p hosts g fits =
    let x = scope_of p.functions hosts g in
    each_both (ParamKnown x g) (λ (q : Param). IsPointerAttr q.ty q.attr) g.params (each_both (ParamTyped g) (λ (q : Param). HasRegister x q.reg) g.params fits.typed.params fits.known.params)
    (each_all (IsParam p.version) (λ (q : Param). IsPointerAttr q.ty q.attr) (pointer_attr p.version) g.params fits.typed.attributes)

-- a function begins: its parameters are read from the row, and its first retag or instruction is reached
module _ (p : Program) (hosts : List HostEntry) (input : List ℕ) (k : ℕ) (g : Function) (fits : FunctionFits p hosts g) (known : slice_get p.functions k ≡ Some g) (passed : Row) (vs : List Arg) (gives : Gives passed 0 g.params vs) (loaded stored : Option Prov) (callers : List TargetFrame) (count : ℕ) where
  abbrev x : Scope
  x = scope_of p.functions hosts g

  abbrev base : ℕ
  base = number_of_function 0 p.functions k

  first_there : There g.blocks 0
  first_there = there g.blocks 0 fits.known.some_block

  -- the frame after its parameters
  abbrev entered : Block → Doing → Frame
  entered b d = record { function = k; insts = b.insts; term = b.term.jump; number = base; env = bind g.params vs []; owned = nothing_owned; doing = d }

  frame_is : (b : Block) → slice_get g.blocks 0 ≡ Some b → frame_of (source_setting p hosts input) k (slice_get p.functions k) vs ≡ entered b (entering (to_retag true g.params))
  frame_is b e =
      ap (λ z. frame_of (source_setting p hosts input) k z vs) known
      ∙ ap (λ z. let f : Frame = record { function = k; insts = first_insts z; term = first_term z; number = base; env = bind g.params vs []; owned = nothing_owned; doing = entering (to_retag true g.params) } in f) e

  abbrev inside : Hidden
  inside = record {
    rest = [];
    words = fill_words passed x 0 g.params (replicate (length x.registers) 0);
    shadows = fill_shadows passed x 0 g.params (replicate (length x.registers) None);
    handed = passed;
    given = blank;
    callers = callers;
    row = empty_row;
    loaded = loaded;
    stored = stored;
    params = g.params;
  }

  abbrev start : TargetFrame → Thread
  start f = record { top = f; callers = callers; row = empty_row; loaded = loaded; stored = stored; copying = untouched; begun = true; count = count; over = None }

  abbrev first_frame : TargetFrame
  first_frame = record { function = k; site = base; rest = []; words = replicate (length x.registers) 0; shadows = replicate (length x.registers) None; handed = passed; result = blank; given = blank; owned = nothing_owned }

  abbrev started : Thread
  started = go_on input (first_lines (slice_get (translation hosts p).functions k)) (start (frame_at k (slice_get (translation hosts p).functions k) passed))

  module _ (b : Block) (is_first : slice_get g.blocks 0 ≡ Some b) where
    abbrev rest : List Line
    rest = rest_lines x base b.insts b.term.jump

    site_is : frame_at k (slice_get (translation hosts p).functions k) passed ≡ first_frame
    site_is =
        ap (λ z. frame_at k z passed) (function_at p hosts k g known)
        ∙ ap (λ z. let f : TargetFrame = record { function = k; site = turn_number z; rest = []; words = replicate (length x.registers) 0; shadows = replicate (length x.registers) None; handed = passed; result = blank; given = blank; owned = nothing_owned } in f)
        (sym (ap (λ z. block_at z 0) (function_at p hosts k g known)) ∙ code_at p hosts k g 0 b known is_first)

    to_retags : started ≡ go_on input (entry_retags x g.params rest) (image k base nothing_owned Ready count inside)
    to_retags =
        ap (λ z. go_on input z (start (frame_at k (slice_get (translation hosts p).functions k) passed))) (first_at p hosts k g b known is_first)
        ∙ ap (λ z. go_on input (line.PushFrame ∷ param_lines x 0 g.params (entry_retags x g.params rest)) (start z)) site_is
        ∙ ap (cross input) (run_params input x 0 g.params (entry_retags x g.params rest) (start first_frame))

    held : SlotsHold x g (bind g.params vs []) inside.words inside.shadows
    held =
        filled x g passed 0 g.params vs [] (replicate (length x.registers) 0) (replicate (length x.registers) None) (holds_blank x g) (each_all (ParamFits x g) (ParamKnown x g) (λ q f. f.0) g.params (params_fit p hosts g fits)) gives

    block : BlockFits p x g b
    block = block_fits p hosts g 0 b fits is_first

    by_retags : (qs : List Param) → to_retag true g.params ≡ qs → (fs : List Frame) → CallersSimulate p hosts fs callers → Going p hosts input (entered b (entering qs)) fs count started
    by_retags [] e fs waits = record {
      code = g;
      hidden = inside;
      top = record { known = known; holds = held; insts_fit = block.insts; term_fits = block.term; beside = tt };
      callers = waits;
      is = to_retags ∙ ap (cross input) (subst (λ l. RetagsLeft input x g g.params l rest (image k base nothing_owned Ready count inside)) e (retags input x g rest (image k base nothing_owned Ready count inside) g.params (params_fit p hosts g fits)));
    }
    by_retags (q ∷ qs) e fs waits = record {
      code = g;
      hidden = inside;
      top = record { known = known; holds = held; insts_fit = block.insts; term_fits = block.term; beside = (e, params_fit p hosts g fits) };
      callers = waits;
      is = to_retags;
    }

  pub begins : (fs : List Frame) → CallersSimulate p hosts fs callers → Going p hosts input (frame_of (source_setting p hosts input) k (slice_get p.functions k) vs) fs count started
  begins fs waits =
      let b = first_there in
      subst (λ f. Going p hosts input f fs count started) (sym (frame_is b.item b.is)) (by_retags b.item b.is (to_retag true g.params) refl fs waits)

-- a call
module _ (p : Program) (hosts : List HostEntry) (input : List ℕ) (all_fit : ProgramFits p hosts) (g : Function) (k n : ℕ) (tm : Jump) (env : Env) (o : Owned) (h : Hidden) (count : ℕ) (fs : List Frame) (known : slice_get p.functions k ≡ Some g) (holds : SlotsHold (scope_of p.functions hosts g) g env h.words h.shadows) (term_fits : JumpFits (scope_of p.functions hosts g) g tm) (waits : CallersSimulate p hosts fs h.callers) where
  abbrev xc : Scope
  xc = scope_of p.functions hosts g

  abbrev pub calling : Option Named → Option Ty → Option Attr → List Inst → Frame
  calling dest ty attr is = record { function = k; insts = is; term = tm; number = n; env = env; owned = o; doing = Waiting dest ty attr }

  abbrev called : List Line → Thread
  called ls = record (at_lines (image k n o Ready count h) (line.Turn n ∷ ls)) { begun = false }

  pub call_turns : (dest : Option Named) (ty : Option Ty) (name : Named) (args : List TypedVal) (is : List Inst) (callee : Function) → slice_get p.functions (function_place p.functions name.name) ≡ Some callee → param_types callee.params ≡ arg_types args → MayTake xc g dest ty → Each (InstFits p xc g) is
      → Going p hosts input (frame_of (source_setting p hosts input) (function_place p.functions name.name) (slice_get p.functions (function_place p.functions name.name)) (args_of env args)) (calling dest ty (attr_of_call p.functions name.name) is ∷ fs) (count + 1)
      (thread_turn (target_setting p hosts input) (run input (op_lines xc (op.Call ty name args) (slot_of_dest xc dest) (rest_lines xc (n + 1) is tm)) (called (op_lines xc (op.Call ty name args) (slot_of_dest xc dest) (rest_lines xc (n + 1) is tm)))))
  call_turns dest ty name args is callee found types takes fit =
      let k' = function_place p.functions name.name in
      let attr = attr_of_call p.functions name.name in
      let more = rest_lines xc (n + 1) is tm in
      let ls : ℕ → Option Attr → List Line = λ f a. line.Call f ∷ result_lines (slot_of_dest xc dest) ty a more in
      let old = arg_lines xc 0 args (ls (place (function_names p.functions) name.name) (attr_of_call p.functions name.name)) in
      let row = args_row (called old).top xc 0 args h.row in
      let caller = waiting_frame xc (calling dest ty attr is) dest ty attr h.words h.shadows h.handed h.given in
      let wait : CallerWaits p hosts (calling dest ty attr is) caller dest ty attr = record {
        code = g;
        words = h.words;
        shadows = h.shadows;
        handed = h.handed;
        given = h.given;
        known = known;
        holds = holds;
        insts_fit = fit;
        term_fits = term_fits;
        takes = takes;
        is = refl;
      } in
      let new = begins p hosts input k' callee (all_fit k' callee found) found row (args_of env args) (args_give xc g env (called old).top holds 0 args callee.params h.row types) h.loaded h.stored (caller ∷ h.callers) (count + 1) (calling dest ty attr is ∷ fs) (wait, waits) in
      let moved = run_args input xc 0 args (ls (place (function_names p.functions) name.name) (attr_of_call p.functions name.name)) (called old) in
      let t : Thread = record (called old) { row = row } in
      let e = ap (thread_turn (target_setting p hosts input)) moved in
      subst (λ T. Going p hosts input (frame_of (source_setting p hosts input) k' (slice_get p.functions k') (args_of env args)) (calling dest ty attr is ∷ fs) (count + 1) T) (sym e) new

-- a result comes to a frame: by a return, or by a join
module _ (p : Program) (hosts : List HostEntry) (input : List ℕ) (row : Row) (loaded stored : Option Prov) (count : ℕ) (v : Arg) where
  abbrev back : TargetFrame → List TargetFrame → Thread
  back f ts = record { top = record f { given = v }; callers = ts; row = row; loaded = loaded; stored = stored; copying = untouched; begun = true; count = count; over = None }

  abbrev hid : List ℕ → List (Option Prov) → Row → List TargetFrame → Hidden
  hid words shadows handed ts = record { rest = []; words = words; shadows = shadows; handed = handed; given = v; callers = ts; row = row; loaded = loaded; stored = stored; params = [] }

  module _ (f : Frame) (fs : List Frame) (ts : List TargetFrame) (g : Function) (words : List ℕ) (shadows : List (Option Prov)) (handed : Row) (known : slice_get p.functions f.function ≡ Some g) (holds : SlotsHold (scope_of p.functions hosts g) g f.env words shadows) (insts_fit : Each (InstFits p (scope_of p.functions hosts g) g) f.insts) (term_fits : JumpFits (scope_of p.functions hosts g) g f.term) (waits : CallersSimulate p hosts fs ts) (begun : Bool) where
    abbrev xr : Scope
    xr = scope_of p.functions hosts g

    abbrev rest_of : List Line
    rest_of = rest_lines xr (f.number + 1) f.insts f.term

    abbrev woken : List ℕ → List (Option Prov) → List Line → Thread
    woken ws ss ls = record {
      top = record { function = f.function; site = f.number; rest = ls; words = ws; shadows = ss; handed = handed; result = blank; given = v; owned = f.owned };
      callers = ts;
      row = row;
      loaded = loaded;
      stored = stored;
      copying = untouched;
      begun = begun;
      count = count;
      over = None;
    }

    -- the next instruction
    resumes : (env : Env) (ws : List ℕ) (ss : List (Option Prov)) (ls : List Line) → SlotsHold xr g env ws ss → Going p hosts input (record f { number = f.number + 1; env = env; doing = Ready }) fs count (go_on input rest_of (woken ws ss ls))
    resumes env ws ss ls held = record {
      code = g;
      hidden = hid ws ss handed ts;
      top = record { known = known; holds = held; insts_fit = insts_fit; term_fits = term_fits; beside = tt };
      callers = waits;
      is = refl;
    }

    -- the result's retag
    retags_result : (env : Env) (ws : List ℕ) (ss : List (Option Prov)) (ls : List Line) (dest : Option Named) (y : Arg) (a : Attr) → SlotsHold xr g env ws ss → Beside xr g f.insts env f.owned (hid ws ss handed ts) (Retagging dest y a) → Going p hosts input (record f { env = env; doing = Retagging dest y a }) fs count (go_on input (retag_lines (slot_of_dest xr dest) (Some a) rest_of) (woken ws ss ls))
    retags_result env ws ss ls None y a held b = record {
      code = g;
      hidden = hid ws ss handed ts;
      top = record { known = known; holds = held; insts_fit = insts_fit; term_fits = term_fits; beside = b };
      callers = waits;
      is = ap (cross input) (result_stops input a.kind a.size rest_of (woken ws ss ls) b.1)
          ∙ sym (ap (cross input) (result_stops input a.kind a.size rest_of (image f.function f.number f.owned (Retagging None y a) count (hid ws ss handed ts)) b.1));
    }
    retags_result env ws ss ls (Some r) y a held b = record {
      code = g;
      hidden = hid ws ss handed ts;
      top = record { known = known; holds = held; insts_fit = insts_fit; term_fits = term_fits; beside = b };
      callers = waits;
      is = ap (cross input) (retag_stops input (slot xr r) a.kind Free (slot xr r) (slot xr r) a.size rest_of (woken ws ss ls) b.1)
          ∙ sym (ap (cross input) (retag_stops input (slot xr r) a.kind Free (slot xr r) (slot xr r) a.size rest_of (image f.function f.number f.owned (Retagging (Some r) y a) count (hid ws ss handed ts)) b.1));
    }

    -- a dropped pointer
    drops : (b : Bool) (a : Attr) (ls : List Line) → makes_step true a.size ≡ b → Going p hosts input (resumed_by f None (Some Ptr) (if b then Some a else None) v) fs count (go_on input (line.RetagResult a.kind a.size ∷ rest_of) (woken words shadows ls))
    drops false a ls e =
        subst (λ T. Going p hosts input (record f { number = f.number + 1; doing = Ready }) fs count T) (ap (cross input) (sym (result_passes input a.kind a.size rest_of (woken words shadows ls) e))) (resumes f.env words shadows ls holds)
    drops true a ls e = retags_result f.env words shadows ls None v a holds (refl, e)

    -- a pointer in a register
    keeps : (b : Bool) (r : Named) (a : Attr) (ls : List Line) → HasType g r.name Ptr → HasRegister xr r → makes_step true a.size ≡ b
        → Going p hosts input (resumed_by f (Some r) (Some Ptr) (if b then Some a else None) v) fs count (go_on input (line.CallResult (slot xr r) ∷ line.ShadowCallResult (slot xr r) ∷ line.Retag (slot xr r) a.kind Free (slot xr r) (slot xr r) a.size ∷ rest_of) (woken words shadows ls))
    keeps false r a ls ty here e =
        let ws = set words (slot xr r) v.value in
        let ss = set shadows (slot xr r) v.prov in
        let passed = retag_passes input (slot xr r) a.kind Free (slot xr r) (slot xr r) a.size rest_of (woken ws ss ls) e ∙ ap (run input rest_of) (shadow_again (woken ws ss ls) (slot xr r)) in
        subst (λ T. Going p hosts input (record f { number = f.number + 1; env = with_value r.name v f.env; doing = Ready }) fs count T) (ap (cross input) (sym passed)) (resumes (with_value r.name v f.env) ws ss ls (holds_ptr xr g f.env words shadows holds r.name v ty here))
    keeps true r a ls ty here e =
        let ws = set words (slot xr r) v.value in
        let ss = set shadows (slot xr r) v.prov in
        retags_result (with_value r.name v f.env) ws ss ls (Some r) v a (holds_ptr xr g f.env words shadows holds r.name v ty here) (value_in-with_value f.env r.name v r.name ∙ ap (λ b. if b then v else value_in f.env r.name) (bytes_eq_same r.name), e, ty, here)

    pub wakes : (dest : Option Named) (ty : Option Ty) (attr : Option Attr) (ls : List Line) → MayTake xr g dest ty → Going p hosts input (resumed_by f dest ty (result_step true ty attr) v) fs count (go_on input (result_lines (slot_of_dest xr dest) ty attr rest_of) (woken words shadows ls))
    wakes None None attr ls takes = resumes f.env words shadows ls holds
    wakes (Some r) None attr ls takes = absurd takes
    wakes None (Some (Int w)) attr ls takes = resumes f.env words shadows ls holds
    wakes None (Some Ptr) None ls takes = resumes f.env words shadows ls holds
    wakes None (Some Ptr) (Some a) ls takes = drops (makes_step true a.size) a ls refl
    wakes (Some r) (Some (Int w)) attr ls takes =
        resumes (with_value r.name (record { value = v.value; prov = None }) f.env) (set words (slot xr r) v.value) shadows ls (holds_word xr g f.env words shadows holds r.name (record { value = v.value; prov = None }) (int_not_ptr g r.name w takes.0) takes.1 refl)
    wakes (Some r) (Some Ptr) None ls takes =
        resumes (with_value r.name v f.env) (set words (slot xr r) v.value) (set shadows (slot xr r) v.prov) ls (holds_ptr xr g f.env words shadows holds r.name v takes.0 takes.1)
    wakes (Some r) (Some Ptr) (Some a) ls takes = keeps (makes_step true a.size) r a ls takes.0 takes.1 refl

  wakes_by : (f : Frame) (fs : List Frame) (t : TargetFrame) (ts : List TargetFrame) (d : Doing) → CallerSimulates p hosts f t d → CallersSimulate p hosts fs ts → Going p hosts input (resumed true f d v) fs count (go_on input t.rest (back t ts))
  wakes_by f fs t ts (Waiting dest ty attr) c cs =
      let x = scope_of p.functions hosts c.code in
      let lines = result_lines (slot_of_dest x dest) ty attr (rest_lines x (f.number + 1) f.insts f.term) in
      subst (λ z. Going p hosts input (resumed true f (Waiting dest ty attr) v) fs count (go_on input z.rest (back z ts))) (sym c.is) (wakes f fs ts c.code c.words c.shadows c.handed c.known c.holds c.insts_fit c.term_fits cs true dest ty attr lines c.takes)
  wakes_by f fs t ts other c cs = absurd c

  -- the return of the newest frame
  pub returns : (s : Source) (last : Frame) (fs : List Frame) (ts : List TargetFrame) (tp : TargetFrame) (begun : Bool) → s.count ≡ count → tp.result ≡ v → tp.site ≡ last.number → CallersSimulate p hosts fs ts
      → SimulatesBy p hosts input (return_to true s last fs v) (return_by input (record { top = tp; callers = ts; row = row; loaded = loaded; stored = stored; copying = untouched; begun = begun; count = count; over = None }) ts) (return_to true s last fs v).frames
  returns s last [] [] tp begun ec er es cs = record {
    over = ap (λ z. Some (end.Returned z.value z.prov)) er;
    site = es;
    count = sym ec;
  }
  returns s last [] (t ∷ ts) tp begun ec er es cs = absurd cs
  returns s last (f ∷ fs) [] tp begun ec er es cs = absurd cs
  returns s last (f ∷ fs) (t ∷ ts) tp begun ec er es cs =
      subst (λ c. Going p hosts input (resumed true f f.doing v) fs c (return_by input (record { top = tp; callers = t ∷ ts; row = row; loaded = loaded; stored = stored; copying = untouched; begun = begun; count = count; over = None }) (t ∷ ts))) (sym ec)
      (subst (λ T. Going p hosts input (resumed true f f.doing v) fs count T) (ap (λ z. go_on input t.rest (record { top = record t { given = z }; callers = ts; row = row; loaded = loaded; stored = stored; copying = untouched; begun = true; count = count; over = None })) (sym er)) (wakes_by f fs t ts f.doing cs.0 cs.1))
