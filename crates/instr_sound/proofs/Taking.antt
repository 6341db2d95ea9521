-- Each answer is taken in the same way on both sides.
use Rattle.std.proofs.Common.{◌≡◌, ℕ, suc, ◌+◌, ◌*◌, ◌%◌, ◌^◌, List, [], ◌∷◌, ◌++◌, length, get_or, set, Option, Some, None, Bool, true, false, if◌then◌else◌, refl, sym, ap, ◌∙◌, subst}
use Rattle.std.specs.Prelude.{slice_get, nat_lt}
use Rattle.history.specs.declared.ask.Arg.{Arg}
use Rattle.history.specs.declared.ask.Ask.{Ask}
use Rattle.history.specs.declared.ask.Ask.TheVariants as ask
use Rattle.history.specs.declared.entry.Reply.{Reply}
use Rattle.perm_table.specs.declared.Guard.TheVariants.{Free}
use Rattle.perm_table.specs.declared.RetagKind.{RetagKind}
use Rattle.perm_table.specs.declared.RetagKind.TheVariants as kind
use Rattle.ir_ast.specs.Arithmetic.{Worked, word, div_zero, shift_too_far, worked}
use Rattle.ir_ast.specs.Tokens.{Each}
use Rattle.ir_ast.specs.declared.hosts.HostEntry.{HostEntry}
use Rattle.ir_ast.specs.declared.types.Attr.{Attr}
use Rattle.ir_ast.specs.declared.types.Place.{Place}
use Rattle.ir_ast.specs.declared.types.Ty.{Ty}
use Rattle.ir_ast.specs.declared.types.Ty.TheVariants.{Int, Ptr}
use Rattle.ir_ast.specs.declared.program.Function.{Function}
use Rattle.ir_ast.specs.declared.program.Inst.{Inst}
use Rattle.ir_ast.specs.declared.program.Jump.{Jump}
use Rattle.ir_ast.specs.declared.program.Jump.TheVariants as jump
use Rattle.ir_ast.specs.declared.program.Named.{Named}
use Rattle.ir_ast.specs.declared.program.Op.{Op}
use Rattle.ir_ast.specs.declared.program.Op.TheVariants as op
use Rattle.ir_ast.specs.declared.program.Param.{Param}
use Rattle.ir_ast.specs.declared.program.Program.{Program}
use Rattle.ir_ast.specs.declared.program.TypedVal.{TypedVal}
use Rattle.ir_ast.specs.declared.program.Val.{Val}
use Rattle.ir_ast.specs.declared.program.Val.TheVariants.{Reg, Num}
use Rattle.ir_rules.specs.Occurrences.Holds.{value, handle}
use Rattle.ir_rules.specs.Occurrences.{function_events}
use Rattle.ir_rules.specs.Rules.{held}
use Rattle.source_sem.specs.Env.{Env, value_in, operand, with_value}
use Rattle.thread_parts.specs.Words.{plain_arg, prov_at, number_in}
use Rattle.ir_ast.specs.Words.{bits}
use Rattle.thread_parts.specs.Parts.{part_ask, copy_by, worked_part, make_by, makes_step, retag_part, call_part}
use Rattle.thread_parts.specs.Copies.{Progress, untouched, copy_after, copy_done}
use Rattle.thread_parts.specs.Owned.{Owned, release_ask, released, protect, with_stack}
use Rattle.bsan_ids.specs.Lists.{without}
use Rattle.source_sem.specs.Source.{Setting, Source, Frame, Doing, Ready, Entering, Copying, Waiting, Retagging, Leaving, to_retag, entering, handle_attr, op_part, release_or, term_ask, ready_ask, doing_ask, returned_value, leave, leave_on, copied, copy_on, resumed_by, result_step, part_answer, term_answer, ready_answer, copying_part, copying_answer, doing_answer, is_ready, counted, counted_if}
use Rattle.source_sem.specs.Typing.{HasType}
use Rattle.target_code.specs.declared.line.Line.{Line}
use Rattle.target_code.specs.declared.line.Line.TheVariants as line
use Rattle.instrument.specs.Translation.{Scope, scope_of, slot, slot_of_dest, operand_of, shadow_of, arg_lines, op_lines, ret_lines, jump_lines, result_lines, retag_lines, entry_retags, attr_of_join, function_number}
use Rattle.ir_ast.specs.Attributes.{guard_of}
use Rattle.instrument.specs.Known.{HasRegister}
use Rattle.thread_machine.specs.Thread.{TargetFrame, Thread, empty_row, word_at, word_of, shadow_at, at_lines, set_owned, set_shadow, set_result, run, go_on, cross, counted as target_counted, copy_by as target_copy, pop_by, lines_answer}
use Rattle.instr_sound.specs.Fits.{InstFits, JumpFits, ParamFits, ProgramFits}
use Rattle.instr_sound.specs.Simulation.{SlotsHold, Hidden, image, rest_lines, copying_lines, lines_for, CopiesSome, IsCopying, Beside, MayTake, CallersSimulate, Going, SimulatesBy, source_setting}
use Rattle.instr_sound.specs.Tie.{IsStep}
use Rattle.instr_sound.proofs.Slots.{holds_ptr, holds_word, holds_prov, holds_ptr_at}
use Rattle.instr_sound.proofs.Places.{join_attr_same}
use Rattle.instr_sound.proofs.Rows.{operand_word, operand_prov, run_args}
use Rattle.instr_sound.proofs.Lines.{retag_stops, result_stops, copy_stops, pop_stops, run_ret, result_prov, result_after, RetagsLeft, retags}
use Rattle.instr_sound.proofs.Frames.{int_not_ptr, wakes, returns}
use Rattle.instr_sound.proofs.Asking.{same_arg}
use Rattle.instr_sound.proofs.Turns.{join_takes}

-- the answered thread, where the answer is no trap
abbrev pub stepped : List ℕ → Thread → Reply → Thread
stepped input t r = lines_answer input (target_counted t) (target_counted t).top.rest r

-- a retag at an entry keeps a protector
entry_answer : (input : List ℕ) (t : Thread) (kd : RetagKind) (to s h m : ℕ) (ls : List Line) (r : Reply) → lines_answer input t (line.Retag to kd (guard_of kd) s h m ∷ ls) r ≡ go_on input ls (set_owned (set_shadow t to r.carried) (protect r.plain r.carried t.top.owned))
entry_answer input t kind.Mut to s h m ls r = refl
entry_answer input t kind.Cell to s h m ls r = refl
entry_answer input t kind.Shr to s h m ls r = refl
entry_answer input t kind.Boxed to s h m ls r = refl
entry_answer input t kind.ShrCell to s h m ls r = refl

handle_not_ptr : (g : Function) (r f : List ℕ) → held (function_events g) r ≡ Some (handle f) → HasType g r Ptr → ⊥
handle_not_ptr g r f a b = no_way (sym a ∙ b)
  where
    no_way : Some (handle f) ≡ Some (value Ptr) → ⊥
    no_way e = cc

-- what asks for a step
make_is_made : (b : Bool) (place : Place) (m : ℕ) → IsStep (part_ask (make_by b place m)) → b ≡ false
make_is_made true place m e = absurd e
make_is_made false place m e = refl

retag_is_made : (b : Bool) (v : Arg) (kd : RetagKind) (m : ℕ) → IsStep (part_ask (retag_part b v kd m)) → b ≡ true
retag_is_made true v kd m e = refl
retag_is_made false v kd m e = absurd e

copy_is_made : (b : Bool) (d s : Arg) (m : ℕ) → IsStep (part_ask (copy_by b d s m)) → b ≡ false
copy_is_made true d s m e = absurd e
copy_is_made false d s m e = refl

no_call : (b : Bool) (m : ℕ) (vs : List Arg) (ty : Option Ty) (a : Option Attr) → IsStep (part_ask (call_part b m vs ty a)) → ⊥
no_call true m vs ty a e = e
no_call false m vs ty a e = e

no_work : (z : Worked) → IsStep (part_ask (worked_part z)) → ⊥
no_work (word m) e = e
no_work div_zero e = e
no_work shift_too_far e = e

some_left : (a : Option Ask) → IsStep (release_or a ask.Turn) → (b : Ask) × (a ≡ Some b)
some_left None e = absurd e
some_left (Some b) e = (b, refl)

module _ (p : Program) (hosts : List HostEntry) (input : List ℕ) (all_fit : ProgramFits p hosts) (g : Function) (k n : ℕ) (tm : Jump) (env : Env) (o : Owned) (h : Hidden) (S : Source) (fs : List Frame) (known : slice_get p.functions k ≡ Some g) (holds : SlotsHold (scope_of p.functions hosts g) g env h.words h.shadows) (term_fits : JumpFits (scope_of p.functions hosts g) g tm) (waits : CallersSimulate p hosts fs h.callers) (r : Reply) where
  abbrev x : Scope
  x = scope_of p.functions hosts g

  abbrev xs : Setting
  xs = source_setting p hosts input

  abbrev fr : List Inst → Doing → Frame
  fr is d = record { function = k; insts = is; term = tm; number = n; env = env; owned = o; doing = d }

  abbrev next : List Inst → List Line
  next is = rest_lines x (n + 1) is tm

  abbrev opened : List Line → Thread
  opened ls = record (at_lines (image k n o Ready S.count h) (line.Turn n ∷ ls)) { begun = false }

  abbrev counted_source : Source
  counted_source = counted S

  abbrev top : TargetFrame
  top = (image k n o Ready S.count h).top

  abbrev Ok : Source → Thread → Type 0
  Ok s T = SimulatesBy p hosts input s T s.frames

  abbrev answered : Op → Option ℕ → List Inst → Thread
  answered q to is = stepped input (run input (op_lines x q to (next is)) (opened (op_lines x q to (next is)))) r

  abbrev taken : Op → Option Named → List Inst → List Inst → Source
  taken q dest all is = part_answer xs counted_source (fr all Ready) fs is dest (op_part xs k (suc (length fs)) env q) r

  -- the frame after the instruction, with these registers and what is owned
  goes_on : (h' : Hidden) (is : List Inst) (env' : Env) (o' : Owned) (count : ℕ) (T : Thread) → h'.callers ≡ h.callers → Each (InstFits p x g) is → SlotsHold x g env' h'.words h'.shadows → T ≡ go_on input (next is) (image k (n + 1) o' Ready count h') → Going p hosts input (record { function = k; insts = is; term = tm; number = n + 1; env = env'; owned = o'; doing = Ready }) fs count T
  goes_on h' is env' o' count T ec fit held e = record {
    code = g;
    hidden = h';
    top = record { known = known; holds = held; insts_fit = fit; term_fits = term_fits; beside = tt };
    callers = subst (CallersSimulate p hosts fs) (sym ec) waits;
    is = e;
  }

  make_answers : (b : Bool) (all is : List Inst) (d : Named) (place : Place) (v : Val) (m : ℕ) → b ≡ false → HasType g d.name Ptr → HasRegister x d → Each (InstFits p x g) is → Ok (part_answer xs counted_source (fr all Ready) fs is (Some d) (make_by b place m) r) (answered (op.Make place v) (Some (slot x d)) is)
  make_answers true all is d place v m e ty here fit = absurd cc
  make_answers false all is d place v m e ty here fit =
      let y : Arg = record { value = number_in r.plain * 2 ^ 32; prov = r.carried } in
      goes_on (record h { words = set h.words (slot x d) y.value; shadows = set h.shadows (slot x d) y.prov }) is (with_value d.name y env) (with_stack place (record { number = record { 0 = number_in r.plain }; prov = r.carried }) o) (S.count + 1) _ refl fit (holds_ptr x g env h.words h.shadows holds d.name y ty here) refl

  load_answers : (ty : Ty) (all is : List Inst) (d a : Named) → HasType g d.name ty → HasRegister x d → Each (InstFits p x g) is → Ok (taken (op.Load ty a) (Some d) all is) (answered (op.Load ty a) (Some (slot x d)) is)
  load_answers (Int w) all is d a ty here fit =
      let y : Arg = record { value = number_in r.plain; prov = None } in
      goes_on (record h { words = set h.words (slot x d) y.value }) is (with_value d.name y env) o (S.count + 1) _ refl fit (holds_word x g env h.words h.shadows holds d.name y (int_not_ptr g d.name w ty) here refl) refl
  load_answers Ptr all is d a ty here fit =
      let y : Arg = record { value = number_in r.plain; prov = r.carried } in
      goes_on (record h { words = set h.words (slot x d) y.value; shadows = set h.shadows (slot x d) y.prov; loaded = r.carried }) is (with_value d.name y env) o (S.count + 1) _ refl fit (holds_ptr x g env h.words h.shadows holds d.name y ty here) refl

  store_answers : (ty : Ty) (all is : List Inst) (v : Val) (a : Named) → Each (InstFits p x g) is → Ok (taken (op.Store ty v a) None all is) (answered (op.Store ty v a) None is)
  store_answers (Int w) all is v a fit = goes_on h is env o (S.count + 1) _ refl fit holds refl
  store_answers Ptr all is v a fit = goes_on (record h { stored = shadow_at top (shadow_of x v) }) is env o (S.count + 1) _ refl fit holds refl

  -- an old value, or a host's word
  word_answers : (all is : List Inst) (d : Named) (T : Thread) → (HasType g d.name Ptr → ⊥) → HasRegister x d → Each (InstFits p x g) is → T ≡ go_on input (next is) (image k (n + 1) o Ready (S.count + 1) (record h { words = set h.words (slot x d) (number_in r.plain) }))
      → Going p hosts input (record { function = k; insts = is; term = tm; number = n + 1; env = with_value d.name (plain_arg (number_in r.plain)) env; owned = o; doing = Ready }) fs (S.count + 1) T
  word_answers all is d T never here fit e =
      let y = plain_arg (number_in r.plain) in
      goes_on (record h { words = set h.words (slot x d) y.value }) is (with_value d.name y env) o (S.count + 1) T refl fit (holds_word x g env h.words h.shadows holds d.name y never here refl) e

  host_answers : (ty : Ty) (all is : List Inst) (d f : Named) (args : List TypedVal) → HasType g d.name ty → HasRegister x d → Each (InstFits p x g) is → Ok (taken (op.Host ty f args) (Some d) all is) (answered (op.Host ty f args) (Some (slot x d)) is)
  host_answers (Int w) all is d f args ty here fit = word_answers all is d _ (int_not_ptr g d.name w ty) here fit refl
  host_answers Ptr all is d f args ty here fit =
      let y = plain_arg (number_in r.plain) in
      goes_on (record h { words = set h.words (slot x d) y.value; shadows = set h.shadows (slot x d) y.prov }) is (with_value d.name y env) o (S.count + 1) _ refl fit (holds_ptr x g env h.words h.shadows holds d.name y ty here) refl

  retag_answers : (b : Bool) (all is : List Inst) (d : Named) (kd : RetagKind) (a : Named) (m : ℕ) → makes_step true m ≡ b → b ≡ true → HasType g d.name Ptr → HasRegister x d → Each (InstFits p x g) is → Ok (part_answer xs counted_source (fr all Ready) fs is (Some d) (retag_part b (value_in env a.name) kd m) r) (answered (op.Retag kd a m) (Some (slot x d)) is)
  retag_answers false all is d kd a m e t ty here fit = absurd cc
  retag_answers true all is d kd a m e t ty here fit =
      let y : Arg = record { value = (value_in env a.name).value; prov = r.carried } in
      let w = word_at top (slot x a) in
      goes_on (record h { words = set h.words (slot x d) w; shadows = set h.shadows (slot x d) r.carried }) is (with_value d.name y env) o (S.count + 1) _ refl fit (holds_ptr_at x g env h.words h.shadows holds d.name ty here w r.carried y (holds.words_are a.name) refl)
      (ap (λ z. stepped input z r) (retag_stops input (slot x d) kd Free (slot x a) (slot x a) m (line.Move (slot x d) (slot x a) ∷ next is) (opened (op_lines x (op.Retag kd a m) (Some (slot x d)) (next is))) e))

  spawn_answers : (all is : List Inst) (d f : Named) (args : List TypedVal) → held (function_events g) d.name ≡ Some (handle f.name) → HasRegister x d → Each (InstFits p x g) is → Ok (taken (op.Spawn f args) (Some d) all is) (answered (op.Spawn f args) (Some (slot x d)) is)
  spawn_answers all is d f args ty here fit =
      let y : Arg = record { value = number_in r.plain; prov = None } in
      let ls = line.Spawn (slot x d) (function_number x f) ∷ next is in
      goes_on (record h { words = set h.words (slot x d) y.value; row = empty_row }) is (with_value d.name y env) (record o { children = o.children ++ number_in r.plain ∷ [] }) (S.count + 1) _ refl fit (holds_word x g env h.words h.shadows holds d.name y (handle_not_ptr g d.name f.name ty) here refl)
      (ap (λ z. stepped input z r) (run_args input x 0 args ls (opened (arg_lines x 0 args ls))))

  abbrev given : Arg
  given = record { value = number_in r.plain; prov = r.carried }

  abbrev left : ℕ → Owned
  left c = record o { children = without c o.children }

  join_answers : (ty : Option Ty) (dest : Option Named) (all is : List Inst) (ty_at : ℕ) (j : Named) → MayTake x g dest ty → Each (InstFits p x g) is → Ok (taken (op.Join ty ty_at j) dest all is) (answered (op.Join ty ty_at j) (slot_of_dest x dest) is)
  join_answers ty dest all is ty_at j takes fit =
      let attr = handle_attr p.functions k j.name in
      let old = attr_of_join x j in
      let f : ℕ → Frame = λ c. record { function = k; insts = is; term = tm; number = n; env = env; owned = left c; doing = Ready } in
      let ls : Option Attr → List Line = λ a. line.Join (slot x j) ∷ result_lines (slot_of_dest x dest) ty a (next is) in
      let T : ℕ → Option Attr → Option Attr → Thread = λ c a b. go_on input (result_lines (slot_of_dest x dest) ty a (next is)) (record (opened (ls b)) { count = S.count + 1; top = record top { rest = ls b; given = given; owned = left c } }) in
      let c = word_at top (slot x j) % 2 ^ 32 in
      let woken : Going p hosts input (resumed_by (f c) dest ty (result_step true ty attr) given) fs (S.count + 1) (T c attr old) =
      wakes p hosts input h.row h.loaded h.stored (S.count + 1) given (f c) fs h.callers g h.words h.shadows h.handed known holds fit term_fits waits false dest ty attr (ls old) takes in
      subst (λ z. Going p hosts input (resumed_by (f (z % 2 ^ 32)) dest ty (result_step true ty attr) given) fs (S.count + 1) (T c old old)) (holds.words_are j.name)
      (subst (λ z. Going p hosts input (resumed_by (f c) dest ty (result_step true ty attr) given) fs (S.count + 1) (T c z old)) (sym (join_attr_same p.functions hosts k g j known)) woken)

  -- a copy goes on or is done
  abbrev copy_lines : Named → Named → Val → List Inst → List Line
  copy_lines d s v is = op_lines x (op.Copy d s v) None (next is)

  word_is : (v : Val) → word_of top (operand_of x v) ≡ (operand env v).value
  word_is v = operand_word x g env top holds v

  module _ (d s : Named) (v : Val) (at : ℕ) (dest : Option Named) (is : List Inst) (fit : InstFits p x g (record { dest = dest; at = at; op = op.Copy d s v })) (more : Each (InstFits p x g) is) where
    abbrev copy_inst : List Inst
    copy_inst = record { dest = dest; at = at; op = op.Copy d s v } ∷ is

    abbrev wide : ℕ
    wide = (operand env v).value % 2 ^ 64

    copies_by : (b : Bool) (doing : Doing) (c : ℕ) (pr : Progress) (whole partly : Thread) → copy_done wide untouched ≡ false → whole ≡ go_on input (next is) (image k (n + 1) o Ready c h) → partly ≡ go_on input (copy_lines d s v is) (image k n o (Copying pr) c h)
        → Ok (copy_on (record S { count = c }) (fr copy_inst doing) fs is pr b) (if b then whole else partly)
    copies_by true doing c pr whole partly some ends goes = goes_on h is env o c whole refl more holds ends
    copies_by false doing c pr whole partly some ends goes = record {
      code = g;
      hidden = h;
      top = record { known = known; holds = holds; insts_fit = (fit, more); term_fits = term_fits; beside = some };
      callers = waits;
      is = goes;
    }

    target_by : (b : Bool) (t : Thread) (pr : Progress) → target_copy input t (next is) pr b ≡ (if b then go_on input (next is) (record t { copying = untouched }) else record t { copying = pr; begun = true })
    target_by true t pr = refl
    target_by false t pr = refl

    -- the copy's lines stop where it has bytes
    stops : (t : Thread) → t.top.words ≡ h.words → copy_done wide untouched ≡ false → run input (copy_lines d s v is) t ≡ at_lines t (copy_lines d s v is)
    stops t e some =
        copy_stops input (slot x d) (slot x d) (slot x s) (slot x s) (operand_of x v) (line.Copy (slot x d) (slot x s) (operand_of x v) ∷ next is) t (ap (λ z. copy_done (z % 2 ^ 64) untouched) (same_word v t.top e ∙ word_is v) ∙ some)
      where
        same_word : (v : Val) (f : TargetFrame) → f.words ≡ h.words → word_of f (operand_of x v) ≡ word_of top (operand_of x v)
        same_word (Reg q) f e = ap (λ l. get_or l (slot x q) 0) e
        same_word (Num m) f e = refl

    -- the answer that a thread takes at the copy's lines
    copied_at : (doing : Doing) (c : ℕ) (pr : Progress) (t : Thread) → t.top.words ≡ h.words → copy_done wide untouched ≡ false → go_on input (next is) (record t { copying = untouched }) ≡ go_on input (next is) (image k (n + 1) o Ready c h) → record t { copying = pr; begun = true } ≡ at_lines (image k n o (Copying pr) c h) (copy_lines d s v is)
        → Ok (copied (record S { count = c }) (fr copy_inst doing) fs is wide pr) (target_copy input t (next is) pr (copy_done (word_of top (operand_of x v) % 2 ^ 64) pr))
    copied_at doing c pr t ew some ends goes =
        subst (λ z. Ok (copied (record S { count = c }) (fr copy_inst doing) fs is wide pr) (target_copy input t (next is) pr (copy_done (z % 2 ^ 64) pr))) (sym (word_is v))
        (subst (λ T. Ok (copied (record S { count = c }) (fr copy_inst doing) fs is wide pr) T) (sym (target_by (copy_done wide pr) t pr))
        (copies_by (copy_done wide pr) doing c pr (go_on input (next is) (record t { copying = untouched })) (record t { copying = pr; begun = true }) some ends (goes ∙ sym (ap (cross input) (stops (image k n o (Copying pr) c h) refl some)))))

    copy_answers : (b : Bool) → copy_done wide untouched ≡ b → b ≡ false → Ok (part_answer xs counted_source (fr copy_inst Ready) fs is dest (copy_by b (value_in env d.name) (value_in env s.name) wide) r) (answered (op.Copy d s v) None is)
    copy_answers true e t = absurd cc
    copy_answers false e t =
        subst (λ T. Ok (copied counted_source (fr copy_inst Ready) fs is wide (copy_after untouched r.plain)) T) (sym (ap (λ z. stepped input z r) (stops (opened (copy_lines d s v is)) refl e)))
        (copied_at Ready (S.count + 1) (copy_after untouched r.plain) (record (at_lines (opened (copy_lines d s v is)) (copy_lines d s v is)) { count = S.count + 1 }) refl e refl refl)

    copying_answers : (b : Bool) (pr : Progress) → copy_done wide untouched ≡ b → b ≡ false → Ok (copying_part S (fr copy_inst (Copying pr)) fs is (copy_by b (value_in env d.name) (value_in env s.name) wide) pr r) (stepped input (go_on input (copy_lines d s v is) (image k n o (Copying pr) S.count h)) r)
    copying_answers true pr e t = absurd cc
    copying_answers false pr e t =
        subst (λ T. Ok (copied S (fr copy_inst (Copying pr)) fs is wide (copy_after pr r.plain)) T) (sym (ap (λ z. stepped input (cross input z) r) (stops (image k n o (Copying pr) S.count h) refl e)))
        (copied_at (Copying pr) S.count (copy_after pr r.plain) (at_lines (image k n o (Copying pr) S.count h) (copy_lines d s v is)) refl e refl refl)

  -- the return gives up what is owned, one after the other
  abbrev popping : Arg → ℕ → Bool → Thread
  popping v c b = record (image k n o (Leaving v) c h) { begun = b; top = record (image k n o (Leaving v) c h).top { rest = line.PopFrame ∷ line.Return ∷ [] } }

  abbrev leaving : List Inst → Doing → Frame
  leaving is d = record { function = k; insts = is; term = tm; number = n; env = env; owned = released o; doing = d }

  leaves : (a : Option Ask) (c : ℕ) (b : Bool) (d : Doing) (is : List Inst) (v : Arg) → Each (InstFits p x g) is → release_ask (released o) ≡ a → Ok (leave true (record S { count = c }) (leaving is d) fs v a) (pop_by input (set_owned (popping v c b) (released o)) (line.Return ∷ []) a)
  leaves None c b d is v fit e = returns p hosts input h.row h.loaded h.stored c v (record S { count = c }) (leaving is d) fs h.callers (record (popping v c b).top { owned = released o }) b refl refl refl waits
  leaves (Some a) c b d is v fit e = record {
    code = g;
    hidden = h;
    top = record { known = known; holds = holds; insts_fit = fit; term_fits = term_fits; beside = (a, e) };
    callers = waits;
    is = sym (ap (cross input) (pop_stops input a (line.Return ∷ []) (image k n (released o) (Leaving v) c h) e));
  }

  value_is : (ls : List Line) (v : Option TypedVal) → result_after x v (opened ls).top ≡ returned_value env v
  value_is ls None = refl
  value_is ls (Some v) =
      same_arg _ _ _ _ (operand_word x g env (opened ls).top holds v.val) (by_type v.ty)
    where
      by_type : (ty : Ty) → result_prov ty None (shadow_at (opened ls).top (shadow_of x v.val)) ≡ prov_at ty (operand env v.val).prov
      by_type (Int w) = refl
      by_type Ptr = operand_prov x g env (opened ls).top holds v.val

  ret_answers : (a : Ask) (v : Option TypedVal) → release_ask o ≡ Some a → Ok (leave_on true counted_source (fr [] Ready) fs (returned_value env v)) (stepped input (run input (ret_lines x v (line.PopFrame ∷ line.Return ∷ [])) (opened (ret_lines x v (line.PopFrame ∷ line.Return ∷ [])))) r)
  ret_answers a v e =
      let pop = line.PopFrame ∷ line.Return ∷ [] in
      let ls = ret_lines x v pop in
      let t0 = opened ls in
      let runs = run_ret input x v pop t0 ∙ ap (λ z. run input pop (set_result t0 z)) (value_is ls v) ∙ pop_stops input a (line.Return ∷ []) (set_result t0 (returned_value env v)) e in
      subst (λ T. Ok (leave_on true counted_source (fr [] Ready) fs (returned_value env v)) (stepped input T r)) (sym runs)
      (leaves (release_ask (released o)) (S.count + 1) false Ready [] (returned_value env v) tt refl)

  leaving_answers : (a : Ask) (v : Arg) (is : List Inst) → Each (InstFits p x g) is → release_ask o ≡ Some a → Ok (leave_on true S (fr is (Leaving v)) fs v) (stepped input (go_on input (line.PopFrame ∷ line.Return ∷ []) (image k n o (Leaving v) S.count h)) r)
  leaving_answers a v is fit e =
      subst (λ T. Ok (leave_on true S (fr is (Leaving v)) fs v) (stepped input (cross input T) r)) (sym (pop_stops input a (line.Return ∷ []) (image k n o (Leaving v) S.count h) e))
      (leaves (release_ask (released o)) S.count true (Leaving v) is v fit refl)

  -- a result's retag
  retagging_answers : (dest : Option Named) (v : Arg) (a : Attr) (is : List Inst) → Each (InstFits p x g) is → Beside x g is env o h (Retagging dest v a) → Ok (doing_answer xs S (fr is (Retagging dest v a)) fs (Retagging dest v a) r) (stepped input (go_on input (retag_lines (slot_of_dest x dest) (Some a) (next is)) (image k n o (Retagging dest v a) S.count h)) r)
  retagging_answers None v a is fit b =
      goes_on h is env o S.count _ refl fit holds (ap (λ z. stepped input (cross input z) r) (result_stops input a.kind a.size (next is) (image k n o (Retagging None v a) S.count h) b.1))
  retagging_answers (Some d) v a is fit b =
      let y : Arg = record { value = v.value; prov = r.carried } in
      goes_on (record h { shadows = set h.shadows (slot x d) r.carried }) is (with_value d.name y env) o S.count _ refl fit (holds_prov x g env h.words h.shadows holds d.name y b.2 b.3 (sym (ap (λ z. z.value) b.0)))
      (ap (λ z. stepped input (cross input z) r) (retag_stops input (slot x d) a.kind Free (slot x d) (slot x d) a.size (next is) (image k n o (Retagging (Some d) v a) S.count h) b.1))

  -- a parameter's retag
  abbrev after_entry : Param → Arg
  after_entry q = record { value = (value_in env q.reg.name).value; prov = r.carried }

  abbrev entry_hidden : Param → List Param → List Line → Hidden
  entry_hidden q later ls = record h { rest = ls; shadows = set h.shadows (slot x q.reg) r.carried; params = later }

  abbrev entry_frame : Param → List Inst → Doing → Frame
  entry_frame q is d = record { function = k; insts = is; term = tm; number = n; env = with_value q.reg.name (after_entry q) env; owned = protect r.plain r.carried o; doing = d }

  enters : (later : List Param) (ls : List Line) (q : Param) (qs : List Param) (is : List Inst) (T : Thread) → to_retag true later ≡ qs → Each (ParamFits x g) later → HasType g q.reg.name Ptr → HasRegister x q.reg → Each (InstFits p x g) is → T ≡ go_on input (entry_retags x later (rest_lines x n is tm)) (image k n (protect r.plain r.carried o) Ready S.count (entry_hidden q later ls)) → Going p hosts input (entry_frame q is (entering qs)) fs S.count T
  enters later ls q [] is T left fits ty here fit e = record {
    code = g;
    hidden = entry_hidden q later ls;
    top = record { known = known; holds = holds_prov x g env h.words h.shadows holds q.reg.name (after_entry q) ty here refl; insts_fit = fit; term_fits = term_fits; beside = tt };
    callers = waits;
    is = e ∙ ap (cross input) (subst (λ l. RetagsLeft input x g later l (rest_lines x n is tm) (image k n (protect r.plain r.carried o) Ready S.count (entry_hidden q later ls))) left (retags input x g (rest_lines x n is tm) (image k n (protect r.plain r.carried o) Ready S.count (entry_hidden q later ls)) later fits));
  }
  enters later ls q (q' ∷ qs) is T left fits ty here fit e = record {
    code = g;
    hidden = entry_hidden q later ls;
    top = record { known = known; holds = holds_prov x g env h.words h.shadows holds q.reg.name (after_entry q) ty here refl; insts_fit = fit; term_fits = term_fits; beside = (left, fits) };
    callers = waits;
    is = e;
  }

  entering_answers : (q : Param) (qs : List Param) (is : List Inst) → Each (InstFits p x g) is → to_retag true h.params ≡ q ∷ qs → Each (ParamFits x g) h.params → Ok (doing_answer xs S (fr is (Entering (q ∷ qs))) fs (Entering (q ∷ qs)) r) (stepped input (go_on input (entry_retags x h.params (rest_lines x n is tm)) (image k n o (Entering (q ∷ qs)) S.count h)) r)
  entering_answers q qs is fit left fits =
      let rest = rest_lines x n is tm in
      let t = image k n o (Entering (q ∷ qs)) S.count h in
      let s = subst (λ l. RetagsLeft input x g h.params l rest t) left (retags input x g rest t h.params fits) in
      let ls = line.Retag (slot x q.reg) s.attr.kind (guard_of s.attr.kind) (slot x q.reg) (slot x q.reg) s.attr.size ∷ entry_retags x s.later rest in
      enters s.later ls q qs is _ s.left s.fits s.typed s.known fit
      (ap (λ z. stepped input (cross input z) r) s.stops ∙ entry_answer input (at_lines t ls) s.attr.kind (slot x q.reg) (slot x q.reg) (slot x q.reg) s.attr.size (entry_retags x s.later rest) r)

  -- an instruction with a destination
  some_answers : (is all : List Inst) (d : Named) (at : ℕ) (q : Op) → InstFits p x g (record { dest = Some d; at = at; op = q }) → Each (InstFits p x g) is → IsStep (part_ask (op_part xs k (suc (length fs)) env q)) → Ok (taken q (Some d) all is) (answered q (Some (slot x d)) is)
  some_answers is all d at (op.Make pl v) fit more e = make_answers _ all is d pl v _ (make_is_made _ pl _ e) (fit.0.dest d refl) fit.1.dest more
  some_answers is all d at (op.Load ty a) fit more e = load_answers ty all is d a (fit.0.dest d refl) fit.1.dest more
  some_answers is all d at (op.Retag kd a m) fit more e = retag_answers (makes_step true m) all is d kd a m refl (retag_is_made _ _ kd m e) (fit.0.dest d refl) fit.1.dest more
  some_answers is all d at (op.Modify m w a v) fit more e = word_answers all is d _ (int_not_ptr g d.name w (fit.0.dest d refl)) fit.1.dest more refl
  some_answers is all d at (op.CmpXchg w a u v) fit more e = word_answers all is d _ (int_not_ptr g d.name w (fit.0.dest d refl)) fit.1.dest more refl
  some_answers is all d at (op.Host ty f args) fit more e = host_answers ty all is d f args (fit.0.dest d refl) fit.1.dest more
  some_answers is all d at (op.Spawn f args) fit more e = spawn_answers all is d f args (fit.0.dest d refl) fit.1.dest more
  some_answers is all d at (op.Join ty ty_at j) fit more e = join_answers ty (Some d) all is ty_at j (join_takes p x g (Some d) at ty ty_at j fit) more
  some_answers is all d at (op.Binary bo w a b) fit more e = absurd (no_work (worked bo (bits w) ((operand env a).value % 2 ^ bits w) ((operand env b).value % 2 ^ bits w)) e)
  some_answers is all d at (op.Call ty f args) fit more e = absurd (no_call (nat_lt (suc (length fs)) 1024) _ _ ty _ e)
  some_answers is all d at (op.Store ty v a) fit more e = absurd fit.1.fits
  some_answers is all d at (op.Copy t s v) fit more e = absurd fit.1.fits
  some_answers is all d at (op.Free a) fit more e = absurd fit.1.fits
  some_answers is all d at (op.Print w v) fit more e = absurd fit.1.fits
  some_answers is all d at other fit more e = absurd e

  -- an instruction without one
  none_answers : (is : List Inst) (at : ℕ) (q : Op) → InstFits p x g (record { dest = None; at = at; op = q }) → Each (InstFits p x g) is → IsStep (part_ask (op_part xs k (suc (length fs)) env q)) → Ok (taken q None (record { dest = None; at = at; op = q } ∷ is) is) (answered q None is)
  none_answers is at (op.Store ty v a) fit more e = store_answers ty (record { dest = None; at = at; op = op.Store ty v a } ∷ is) is v a more
  none_answers is at (op.Copy d s v) fit more e = copy_answers d s v at None is fit more (copy_done ((operand env v).value % 2 ^ 64) untouched) refl (copy_is_made _ _ _ _ e)
  none_answers is at (op.Free a) fit more e = goes_on h is env o (S.count + 1) _ refl more holds refl
  none_answers is at (op.Print w v) fit more e = goes_on h is env o (S.count + 1) _ refl more holds refl
  none_answers is at (op.Join ty ty_at j) fit more e = join_answers ty None (record { dest = None; at = at; op = op.Join ty ty_at j } ∷ is) is ty_at j (join_takes p x g None at ty ty_at j fit) more
  none_answers is at (op.Call ty f args) fit more e = absurd (no_call (nat_lt (suc (length fs)) 1024) _ _ ty _ e)
  none_answers is at other fit more e = absurd fit.1.fits

  inst_answers : (is : List Inst) (dest : Option Named) (at : ℕ) (q : Op) → InstFits p x g (record { dest = dest; at = at; op = q }) → Each (InstFits p x g) is → IsStep (part_ask (op_part xs k (suc (length fs)) env q)) → Ok (taken q dest (record { dest = dest; at = at; op = q } ∷ is) is) (answered q (slot_of_dest x dest) is)
  inst_answers is (Some d) at q fit more e = some_answers is (record { dest = Some d; at = at; op = q } ∷ is) d at q fit more e
  inst_answers is None at q fit more e = none_answers is at q fit more e

  term_answers : (j : Jump) → IsStep (term_ask (fr [] Ready) j) → Ok (term_answer true counted_source (fr [] Ready) fs j) (stepped input (run input (jump_lines x j) (opened (jump_lines x j))) r)
  term_answers (jump.Br goal) e = absurd e
  term_answers (jump.CondBr v first second) e = absurd e
  term_answers (jump.Ret v at) e = let a = some_left (release_ask o) e in ret_answers a.0 v a.1
  term_answers jump.Unreachable e = absurd e

  ready_answers : (is : List Inst) → Each (InstFits p x g) is → IsStep (ready_ask xs (fr is Ready) (suc (length fs)) is) → Ok (ready_answer xs counted_source (fr is Ready) fs is r) (stepped input (go_on input (rest_lines x n is tm) (image k n o Ready S.count h)) r)
  ready_answers [] fit e = term_answers tm e
  ready_answers (i ∷ is) fit e = inst_answers is i.dest i.at i.op fit.0 fit.1 e

  copying_all : (is : List Inst) (pr : Progress) → IsCopying env is → Each (InstFits p x g) is → Ok (copying_answer xs S (fr is (Copying pr)) fs is pr r) (stepped input (go_on input (copying_lines x n is tm) (image k n o (Copying pr) S.count h)) r)
  copying_all [] pr c fit = absurd c
  copying_all (i ∷ is) pr c fit = by_op i.dest i.at i.op c fit.0
    where
      by_op : (dest : Option Named) (at : ℕ) (q : Op) → CopiesSome env q → InstFits p x g (record { dest = dest; at = at; op = q })
          → Ok (copying_part S (fr (record { dest = dest; at = at; op = q } ∷ is) (Copying pr)) fs is (op_part xs k (suc (length fs)) env q) pr r) (stepped input (go_on input (op_lines x q (slot_of_dest x dest) (next is)) (image k n o (Copying pr) S.count h)) r)
      by_op dest at (op.Copy d s v) c fit' = copying_answers d s v at dest is fit' fit.1 (copy_done ((operand env v).value % 2 ^ 64) untouched) pr refl c
      by_op dest at other c fit' = absurd c

  pub doing_answers : (is : List Inst) (d : Doing) → Each (InstFits p x g) is → Beside x g is env o h d → IsStep (doing_ask xs (fr is d) (suc (length fs)) d) → Ok (doing_answer xs (counted_if (is_ready d) S) (fr is d) fs d r) (stepped input (go_on input (lines_for x n is tm h.params d) (image k n o d S.count h)) r)
  doing_answers is Ready fit b e = ready_answers is fit e
  doing_answers is (Entering []) fit b e = absurd b
  doing_answers is (Entering (q ∷ qs)) fit b e = entering_answers q qs is fit b.0 b.1
  doing_answers is (Copying pr) fit b e = copying_all is pr b fit
  doing_answers is (Waiting dest ty attr) fit b e = absurd b
  doing_answers is (Retagging dest v a) fit b e = retagging_answers dest v a is fit b
  doing_answers is (Leaving v) fit b e = leaving_answers b.0 v is fit b.1
