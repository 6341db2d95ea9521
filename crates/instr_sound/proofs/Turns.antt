-- Each local turn of the target thread is the source thread's.
use Rattle.std.proofs.Common.{◌≡◌, ◌≢◌, ℕ, zero, suc, ◌+◌, ◌%◌, ◌^◌, List, [], ◌∷◌, length, Option, Some, None, Bool, true, false, refl, sym, ap, ◌∙◌, subst}
use Rattle.std.specs.Prelude.{slice_get, nat_lt}
use Rattle.bsan_ids.specs.declared.numbers.Prov.{Prov}
use Rattle.history.specs.declared.ask.Arg.{Arg}
use Rattle.history.specs.declared.ask.Ask.{Ask}
use Rattle.history.specs.declared.ask.Ask.TheVariants as ask
use Rattle.ir_ast.specs.Arithmetic.{Worked, word, div_zero, shift_too_far, worked}
use Rattle.ir_ast.specs.Tokens.{Each}
use Rattle.ir_ast.specs.declared.hosts.HostEntry.{HostEntry}
use Rattle.ir_ast.specs.declared.operators.BinaryOp.{BinaryOp}
use Rattle.ir_ast.specs.declared.types.Attr.{Attr}
use Rattle.ir_ast.specs.declared.types.Place.{Place}
use Rattle.ir_ast.specs.declared.types.Ty.{Ty}
use Rattle.ir_ast.specs.declared.types.Ty.TheVariants.{Int, Ptr}
use Rattle.ir_ast.specs.declared.types.Width.{Width}
use Rattle.ir_ast.specs.declared.program.Function.{Function}
use Rattle.ir_ast.specs.declared.program.Goal.{Goal}
use Rattle.ir_ast.specs.declared.program.Inst.{Inst}
use Rattle.ir_ast.specs.declared.program.Jump.{Jump}
use Rattle.ir_ast.specs.declared.program.Jump.TheVariants as jump
use Rattle.ir_ast.specs.declared.program.Named.{Named}
use Rattle.ir_ast.specs.declared.program.Op.{Op}
use Rattle.ir_ast.specs.declared.program.Op.TheVariants as op
use Rattle.ir_ast.specs.declared.program.Param.{Param}
use Rattle.ir_ast.specs.declared.program.Program.{Program}
use Rattle.ir_ast.specs.declared.program.TypedVal.{TypedVal}
use Rattle.ir_ast.specs.declared.program.Val.{Val}
use Rattle.source_sem.specs.Env.{Env, value_in, operand, args_of}
use Rattle.thread_parts.specs.Words.{prov_at}
use Rattle.ir_ast.specs.Words.{bits}
use Rattle.thread_parts.specs.Parts.{part_ask, copy_by, worked_part, make_by, makes_step, retag_part, call_part, chosen}
use Rattle.thread_parts.specs.Copies.{Progress, untouched, copy_ask_by, copy_done}
use Rattle.thread_parts.specs.Owned.{Made, Owned, release_by, release_ask}
use Rattle.source_sem.specs.Source.{Setting, Source, Frame, Doing, Ready, Entering, Copying, Waiting, Retagging, Leaving, op_part, release_or, nowhere, term_ask, ready_ask, copying_ask, copying_by, entry_ask, doing_ask, frames_ask, source_ask, to_retag, at_frames, goto, returned_value, return_to, part_turn, term_turn, ready_turn, frames_turn, source_turn, counted}
use Rattle.ir_ast.specs.Numbers.{function_place}
use Rattle.ir_ast.specs.Attributes.{attr_of_call}
use Rattle.source_sem.specs.Typing.{HasType, GoalTyped}
use Rattle.target_code.specs.declared.line.Line.{Line}
use Rattle.target_code.specs.declared.line.Line.TheVariants as line
use Rattle.target_code.specs.declared.line.Operand.{Operand}
use Rattle.instrument.specs.Translation.{Scope, scope_of, slot, slot_of_dest, operand_of, shadow_of, goal_lines, op_lines, jump_lines, ret_lines}
use Rattle.instrument.specs.Known.{HasRegister, HasGoal}
use Rattle.thread_machine.specs.Thread.{Thread, TargetFrame, word_of, shadow_at, at_lines, set_result, run, go_on, branch_lines, jumped, thread_turn}
use Rattle.instr_sound.specs.Fits.{InstFits, JumpFits, ParamFits, ProgramFits}
use Rattle.instr_sound.specs.Simulation.{SlotsHold, Hidden, image, rest_lines, lines_for, CopiesSome, IsCopying, Beside, MayTake, CallersSimulate, SimulatesBy, Simulates, source_setting, target_setting}
use Rattle.instr_sound.proofs.Rows.{operand_word, operand_prov}
use Rattle.instr_sound.proofs.Lines.{pop_passes, run_ret, result_prov, result_after, RetagsLeft, retags}
use Rattle.instr_sound.proofs.Frames.{call_turns, returns}
use Rattle.instr_sound.proofs.Asking.{same_arg}
use Rattle.instr_sound.proofs.Turning.{goal_past, run_goal, goal_there, const_turns, null_turns, gep_turns, retag_turns, binary_turns, compare_turns, cast_turns, address_turns, input_turns, select_turns, copy_turns, goal_turns}
use Rattle.history.specs.Pieces.{Byte}
use Rattle.perm_table.specs.declared.RetagKind.{RetagKind}

-- what asks a step asks no turn -----------------------------------------------------

make_is_step : (b : Bool) (place : Place) (m : ℕ) → part_ask (make_by b place m) ≡ ask.Turn → ⊥
make_is_step true place m e = cc
make_is_step false place m e = cc

retag_is_silent : (b : Bool) (v : Arg) (kd : RetagKind) (m : ℕ) → part_ask (retag_part b v kd m) ≡ ask.Turn → b ≡ false
retag_is_silent true v kd m e = absurd cc
retag_is_silent false v kd m e = refl

pub copy_is_step : (d s : Arg) (m k : ℕ) (half : Option (List Byte)) → copy_ask_by d s m k half ≡ ask.Turn → ⊥
copy_is_step d s m k None e = cc
copy_is_step d s m k (Some piece) e = cc

copy_is_silent : (b : Bool) (d s : Arg) (m : ℕ) → part_ask (copy_by b d s m) ≡ ask.Turn → b ≡ true
copy_is_silent true d s m e = refl
copy_is_silent false d s m e = absurd (copy_is_step d s m 0 None e)

call_is_made : (b : Bool) (m : ℕ) (vs : List Arg) (ty : Option Ty) (a : Option Attr) → part_ask (call_part b m vs ty a) ≡ ask.Turn → b ≡ true
call_is_made true m vs ty a e = refl
call_is_made false m vs ty a e = absurd cc

release_is_step : (cs : List ℕ) (ps : List Prov) (ss : List Made) (a : Ask) → release_by cs ps ss ≡ Some a → a ≢ ask.Turn
release_is_step (c ∷ cs) ps ss a e = λ t. let same : Some (ask.Join (record { 0 = c })) ≡ Some ask.Turn = e ∙ ap Some t in cc
release_is_step [] (q ∷ ps) ss a e = λ t. let same : release_by [] (q ∷ ps) ss ≡ Some ask.Turn = e ∙ ap Some t in cc
release_is_step [] [] (s ∷ ss) a e = λ t. let same : release_by [] [] (s ∷ ss) ≡ Some ask.Turn = e ∙ ap Some t in cc
release_is_step [] [] [] a e = λ t. cc

nothing_left : (o : Owned) (a : Option Ask) → release_ask o ≡ a → release_or a ask.Turn ≡ ask.Turn → release_ask o ≡ None
nothing_left o None e t = e
nothing_left o (Some a) e t = absurd (release_is_step o.children o.protectors o.stack a e t)

-- the destination of a call or a join
pub call_takes : (p : Program) (x : Scope) (g : Function) (dest : Option Named) (at : ℕ) (ty : Option Ty) (f : Named) (args : List TypedVal) → InstFits p x g (record { dest = dest; at = at; op = op.Call ty f args }) → MayTake x g dest ty
call_takes p x g None at ty f args fit = tt
call_takes p x g (Some r) at None f args fit = absurd fit.1.fits
call_takes p x g (Some r) at (Some ty) f args fit = (fit.0.dest r refl, fit.1.dest)

pub join_takes : (p : Program) (x : Scope) (g : Function) (dest : Option Named) (at : ℕ) (ty : Option Ty) (ty_at : ℕ) (j : Named) → InstFits p x g (record { dest = dest; at = at; op = op.Join ty ty_at j }) → MayTake x g dest ty
join_takes p x g None at ty ty_at j fit = tt
join_takes p x g (Some r) at None ty_at j fit = absurd fit.1.fits
join_takes p x g (Some r) at (Some ty) ty_at j fit = (fit.0.dest r refl, fit.1.dest)

module _ (p : Program) (hosts : List HostEntry) (input : List ℕ) (all_fit : ProgramFits p hosts) (g : Function) (k n : ℕ) (tm : Jump) (env : Env) (o : Owned) (h : Hidden) (S : Source) (fs : List Frame) (known : slice_get p.functions k ≡ Some g) (holds : SlotsHold (scope_of p.functions hosts g) g env h.words h.shadows) (term_fits : JumpFits (scope_of p.functions hosts g) g tm) (waits : CallersSimulate p hosts fs h.callers) where
  abbrev x : Scope
  x = scope_of p.functions hosts g

  abbrev xs : Setting
  xs = source_setting p hosts input

  abbrev fr : List Inst → Doing → Frame
  fr is d = record { function = k; insts = is; term = tm; number = n; env = env; owned = o; doing = d }

  abbrev next : List Inst → List Line
  next is = rest_lines x (n + 1) is tm

  abbrev opened : List Line → Thread
  opened ls = record (at_lines (image k n o Ready S.count h) (line.Turn n ∷ ls)) { begun = false }

  abbrev turned : Op → Option ℕ → List Inst → Thread
  turned q to is = thread_turn (target_setting p hosts input) (run input (op_lines x q to (next is)) (opened (op_lines x q to (next is))))

  abbrev counted_source : Source
  counted_source = counted S

  -- a source state is stood for
  abbrev Ok : Source → Thread → Type 0
  Ok s T = SimulatesBy p hosts input s T s.frames

  binary_by : (z : Worked) (is all : List Inst) (r : Named) (bo : BinaryOp) (w : Width) (a b : Val) → worked bo (bits w) ((operand env a).value % 2 ^ bits w) ((operand env b).value % 2 ^ bits w) ≡ z → part_ask (worked_part z) ≡ ask.Turn → HasType g r.name (Int w) → HasRegister x r → Each (InstFits p x g) is → Ok (part_turn xs counted_source (fr all Ready) fs is (Some r) (worked_part z)) (turned (op.Binary bo w a b) (Some (slot x r)) is)
  binary_by (word m) is all r bo w a b e t ty here fit =
      binary_turns p hosts input g k n tm env o h S.count fs known holds term_fits waits r bo w a b m is (ap worked_part e) ty here fit
  binary_by div_zero is all r bo w a b e t ty here fit = absurd cc
  binary_by shift_too_far is all r bo w a b e t ty here fit = absurd cc

  retag_by : (b : Bool) (is all : List Inst) (r : Named) (kd : RetagKind) (a : Named) (m : ℕ) → makes_step true m ≡ b → b ≡ false → HasType g r.name Ptr → HasRegister x r → Each (InstFits p x g) is → Ok (part_turn xs counted_source (fr all Ready) fs is (Some r) (retag_part b (value_in env a.name) kd m)) (turned (op.Retag kd a m) (Some (slot x r)) is)
  retag_by true is all r kd a m e t ty here fit = absurd cc
  retag_by false is all r kd a m e t ty here fit = retag_turns p hosts input g k n tm env o h S.count fs known holds term_fits waits r kd a m is e ty here fit

  copy_turns_by : (b : Bool) (is all : List Inst) (dest : Option Named) (d s : Named) (v : Val) → copy_done ((operand env v).value % 2 ^ 64) untouched ≡ b → b ≡ true → Each (InstFits p x g) is → Ok (part_turn xs counted_source (fr all Ready) fs is dest (copy_by b (value_in env d.name) (value_in env s.name) ((operand env v).value % 2 ^ 64))) (turned (op.Copy d s v) (slot_of_dest x dest) is)
  copy_turns_by true is all dest d s v e t fit = copy_turns p hosts input g k n tm env o h S.count fs known holds term_fits waits (slot_of_dest x dest) d s v is e fit
  copy_turns_by false is all dest d s v e t fit = absurd cc

  call_turns_by : (b : Bool) (is all : List Inst) (dest : Option Named) (at : ℕ) (ty : Option Ty) (f : Named) (args : List TypedVal) → b ≡ true → InstFits p x g (record { dest = dest; at = at; op = op.Call ty f args }) → Each (InstFits p x g) is
      → Ok (part_turn xs counted_source (fr all Ready) fs is dest (call_part b (function_place p.functions f.name) (args_of env args) ty (attr_of_call p.functions f.name))) (turned (op.Call ty f args) (slot_of_dest x dest) is)
  call_turns_by true is all dest at ty f args t fit more =
      let callee = fit.0.operands.1 in
      call_turns p hosts input all_fit g k n tm env o h S.count fs known holds term_fits waits dest ty f args is callee.0 callee.1.0 callee.1.1 (call_takes p x g dest at ty f args fit) more
  call_turns_by false is all dest at ty f args t fit more = absurd cc

  -- an instruction with a destination
  some_turns : (is all : List Inst) (r : Named) (at : ℕ) (q : Op) → InstFits p x g (record { dest = Some r; at = at; op = q }) → Each (InstFits p x g) is → part_ask (op_part xs k (suc (length fs)) env q) ≡ ask.Turn → Ok (part_turn xs counted_source (fr all Ready) fs is (Some r) (op_part xs k (suc (length fs)) env q)) (turned q (Some (slot x r)) is)
  some_turns is all r at (op.Const w v) fit more e = const_turns p hosts input g k n tm env o h S.count fs known holds term_fits waits r w v is (fit.0.dest r refl) fit.1.dest more
  some_turns is all r at op.Null fit more e = null_turns p hosts input g k n tm env o h S.count fs known holds term_fits waits r is (fit.0.dest r refl) fit.1.dest more
  some_turns is all r at (op.Make pl v) fit more e = absurd (make_is_step _ pl _ e)
  some_turns is all r at (op.Gep a v) fit more e = gep_turns p hosts input g k n tm env o h S.count fs known holds term_fits waits r a v is (fit.0.dest r refl) fit.1.dest more
  some_turns is all r at (op.Load ty a) fit more e = absurd cc
  some_turns is all r at (op.Store ty v a) fit more e = absurd cc
  some_turns is all r at (op.Retag kd a m) fit more e = retag_by (makes_step true m) is all r kd a m refl (retag_is_silent (makes_step true m) _ kd m e) (fit.0.dest r refl) fit.1.dest more
  some_turns is all r at (op.Binary bo w a b) fit more e = binary_by (worked bo (bits w) _ _) is all r bo w a b refl e (fit.0.dest r refl) fit.1.dest more
  some_turns is all r at (op.Compare c ty a b) fit more e = compare_turns p hosts input g k n tm env o h S.count fs known holds term_fits waits r c ty a b is (fit.0.dest r refl) fit.1.dest more
  some_turns is all r at (op.Select ty c a b) fit more e = select_turns p hosts input g k n tm env o h S.count fs known holds term_fits waits ty r c a b is fit.0.operands.0 (fit.0.dest r refl) fit.1.dest more
  some_turns is all r at (op.Cast c v w a to_at) fit more e = cast_turns p hosts input g k n tm env o h S.count fs known holds term_fits waits r c v w a to_at is (fit.0.dest r refl) fit.1.dest more
  some_turns is all r at (op.PtrToInt a) fit more e = address_turns p hosts input g k n tm env o h S.count fs known holds term_fits waits r a is (fit.0.dest r refl) fit.1.dest more
  some_turns is all r at (op.Input v) fit more e = input_turns p hosts input g k n tm env o h S.count fs known holds term_fits waits r v is (fit.0.dest r refl) fit.1.dest more
  some_turns is all r at (op.Modify m w a v) fit more e = absurd cc
  some_turns is all r at (op.CmpXchg w a u v) fit more e = absurd cc
  some_turns is all r at (op.Copy d s v) fit more e = absurd fit.1.fits
  some_turns is all r at (op.Free a) fit more e = absurd cc
  some_turns is all r at (op.Print w v) fit more e = absurd cc
  some_turns is all r at (op.Call ty f args) fit more e = call_turns_by (nat_lt (suc (length fs)) 1024) is all (Some r) at ty f args (call_is_made _ _ _ ty _ e) fit more
  some_turns is all r at (op.Host ty f args) fit more e = absurd cc
  some_turns is all r at (op.Spawn f args) fit more e = absurd cc
  some_turns is all r at (op.Join ty ty_at j) fit more e = absurd cc

  -- an instruction without one
  none_turns : (is all : List Inst) (at : ℕ) (q : Op) → InstFits p x g (record { dest = None; at = at; op = q }) → Each (InstFits p x g) is → part_ask (op_part xs k (suc (length fs)) env q) ≡ ask.Turn → Ok (part_turn xs counted_source (fr all Ready) fs is None (op_part xs k (suc (length fs)) env q)) (turned q None is)
  none_turns is all at (op.Copy d s v) fit more e = copy_turns_by (copy_done ((operand env v).value % 2 ^ 64) untouched) is all None d s v refl (copy_is_silent _ _ _ _ e) more
  none_turns is all at (op.Call ty f args) fit more e = call_turns_by (nat_lt (suc (length fs)) 1024) is all None at ty f args (call_is_made _ _ _ ty _ e) fit more
  none_turns is all at (op.Store ty v a) fit more e = absurd cc
  none_turns is all at (op.Free a) fit more e = absurd cc
  none_turns is all at (op.Print w v) fit more e = absurd cc
  none_turns is all at (op.Join ty ty_at j) fit more e = absurd cc
  none_turns is all at other fit more e = absurd fit.1.fits

  inst_turns : (is all : List Inst) (dest : Option Named) (at : ℕ) (q : Op) → InstFits p x g (record { dest = dest; at = at; op = q }) → Each (InstFits p x g) is → part_ask (op_part xs k (suc (length fs)) env q) ≡ ask.Turn → Ok (part_turn xs counted_source (fr all Ready) fs is dest (op_part xs k (suc (length fs)) env q)) (turned q (slot_of_dest x dest) is)
  inst_turns is all (Some r) at q fit more e = some_turns is all r at q fit more e
  inst_turns is all None at q fit more e = none_turns is all at q fit more e

  abbrev branch_line : Operand → Goal → Goal → List Line
  branch_line c first second = line.Branch c ∷ goal_lines x first (goal_lines x second [])

  -- the thread that takes a branch
  abbrev branching : Operand → Goal → Goal → Thread
  branching c first second = record (at_lines (image k n o Ready S.count h) (branch_line c first second)) { begun = false; count = S.count + 1 }

  abbrev branched : Operand → Goal → Goal → Thread
  branched c first second = thread_turn (target_setting p hosts input) (run input (branch_line c first second) (opened (branch_line c first second)))

  branch_turns : (v : ℕ) (c : Operand) (first second : Goal) → word_of (image k n o Ready S.count h).top c ≡ v → GoalTyped g first × GoalTyped g second → HasGoal x first × HasGoal x second → Ok (at_frames counted_source (goto xs (fr [] Ready) (chosen v first second) ∷ fs)) (branched c first second)
  branch_turns zero c first second e typed has =
      goal_turns p hosts input g k n tm env o h S.count fs known holds term_fits waits (all_fit k g known) [] second [] (branch_line c first second) _ typed.1 has.1
      (ap (λ z. jumped (target_setting p hosts input) (run input (branch_lines z (goal_lines x first (goal_lines x second []))) (branching c first second))) e
      ∙ ap (λ z. jumped (target_setting p hosts input) (run input z (branching c first second))) (goal_past x first (goal_lines x second [])))
  branch_turns (suc v) c first second e typed has =
      goal_turns p hosts input g k n tm env o h S.count fs known holds term_fits waits (all_fit k g known) [] first (goal_lines x second []) (branch_line c first second) _ typed.0 has.0
      (ap (λ z. jumped (target_setting p hosts input) (run input (branch_lines z (goal_lines x first (goal_lines x second []))) (branching c first second))) e)

  value_is : (ls : List Line) (v : Option TypedVal) → result_after x v (opened ls).top ≡ returned_value env v
  value_is ls None = refl
  value_is ls (Some v) =
      same_arg _ _ _ _ (operand_word x g env (opened ls).top holds v.val) (by_type v.ty)
    where
      by_type : (ty : Ty) → result_prov ty None (shadow_at (opened ls).top (shadow_of x v.val)) ≡ prov_at ty (operand env v.val).prov
      by_type (Int w) = refl
      by_type Ptr = operand_prov x g env (opened ls).top holds v.val

  ret_turns : (is : List Inst) (v : Option TypedVal) → release_ask o ≡ None → Ok (return_to true counted_source (fr is Ready) fs (returned_value env v)) (thread_turn (target_setting p hosts input) (run input (ret_lines x v (line.PopFrame ∷ line.Return ∷ [])) (opened (ret_lines x v (line.PopFrame ∷ line.Return ∷ [])))))
  ret_turns is v e =
      let ls = ret_lines x v (line.PopFrame ∷ line.Return ∷ []) in
      let t0 = opened ls in
      let t1 : Thread = set_result t0 (result_after x v t0.top) in
      let runs = run_ret input x v (line.PopFrame ∷ line.Return ∷ []) t0 ∙ pop_passes input (line.Return ∷ []) t1 e in
      let y = returned_value env v in
      let tp : TargetFrame = record t1.top { rest = line.Return ∷ [] } in
      subst (λ T. Ok (return_to true counted_source (fr is Ready) fs y) (thread_turn (target_setting p hosts input) T)) (sym runs)
      (returns p hosts input h.row h.loaded h.stored (S.count + 1) y counted_source (fr is Ready) fs h.callers tp false refl (value_is ls v) refl waits)

  br_turns : (goal : Goal) → GoalTyped g goal → HasGoal x goal → thread_turn (target_setting p hosts input) (run input (goal_lines x goal []) (opened (goal_lines x goal []))) ≡ jumped (target_setting p hosts input) (run input (goal_lines x goal []) (record (at_lines (image k n o Ready S.count h) (line.Turn n ∷ goal_lines x goal [])) { begun = false; count = S.count + 1 }))
  br_turns goal typed has =
      let to = goal_there p hosts g goal typed has in
      let ls = goal_lines x goal [] in
      ap (thread_turn (target_setting p hosts input)) (run_goal input x goal to.block [] (opened ls) to.number)
      ∙ sym (ap (jumped (target_setting p hosts input)) (run_goal input x goal to.block [] (record (opened ls) { count = S.count + 1 }) to.number))

  term_turns : (j : Jump) → JumpFits x g j → term_ask (fr [] Ready) j ≡ ask.Turn → Ok (term_turn xs counted_source (fr [] Ready) fs j) (thread_turn (target_setting p hosts input) (run input (jump_lines x j) (opened (jump_lines x j))))
  term_turns (jump.Br goal) fit e =
      goal_turns p hosts input g k n tm env o h S.count fs known holds term_fits waits (all_fit k g known) [] goal [] (line.Turn n ∷ goal_lines x goal []) _ fit.0 fit.1 (br_turns goal fit.0 fit.1)
  term_turns (jump.CondBr v first second) fit e =
      subst (λ z. Ok (at_frames counted_source (goto xs (fr [] Ready) (chosen z first second) ∷ fs)) (branched (operand_of x v) first second)) (operand_word x g env (image k n o Ready S.count h).top holds v)
      (branch_turns (word_of (image k n o Ready S.count h).top (operand_of x v)) (operand_of x v) first second refl fit.0 (fit.1.1, fit.1.2))
  term_turns (jump.Ret v at) fit e = ret_turns [] v (nothing_left o (release_ask o) refl e)
  term_turns jump.Unreachable fit e = absurd cc

  ready_turns : (is : List Inst) → Each (InstFits p x g) is → ready_ask xs (fr is Ready) (suc (length fs)) is ≡ ask.Turn → Ok (ready_turn xs counted_source (fr is Ready) fs is) (thread_turn (target_setting p hosts input) (go_on input (rest_lines x n is tm) (image k n o Ready S.count h)))
  ready_turns [] fit e = term_turns tm term_fits e
  ready_turns (i ∷ is) fit e = inst_turns is (i ∷ is) i.dest i.at i.op fit.0 fit.1 e

  -- a frame that asks a turn is ready
  begun_step : (d s : Arg) (m : ℕ) (pr : Progress) (b : Bool) → b ≡ false → copying_by (copy_by b d s m) pr ≡ ask.Turn → ⊥
  begun_step d s m pr true b e = cc
  begun_step d s m pr false b e = copy_is_step d s m pr.pieces pr.half e

  copying_step : (is : List Inst) (pr : Progress) → IsCopying env is → copying_ask xs (fr is (Copying pr)) (suc (length fs)) is pr ≡ ask.Turn → ⊥
  copying_step [] pr c e = c
  copying_step (i ∷ is) pr c e = by_op i.op c e
    where
      by_op : (q : Op) → CopiesSome env q → copying_by (op_part xs k (suc (length fs)) env q) pr ≡ ask.Turn → ⊥
      by_op (op.Copy d s v) c e = begun_step (value_in env d.name) (value_in env s.name) ((operand env v).value % 2 ^ 64) pr (copy_done ((operand env v).value % 2 ^ 64) untouched) c e
      by_op other c e = c

  entering_step : (q : Param) (qs : List Param) → to_retag true h.params ≡ q ∷ qs → Each (ParamFits x g) h.params → entry_ask (value_in env q.reg.name) q.attr ≡ ask.Turn → ⊥
  entering_step q qs left fit e =
      let t = image k n o Ready S.count h in
      let s = subst (λ l. RetagsLeft input x g h.params l [] t) left (retags input x g [] t h.params fit) in
      is_step s.attr (sym (ap (entry_ask (value_in env q.reg.name)) s.has) ∙ e)
    where
      is_step : (a : Attr) → entry_ask (value_in env q.reg.name) (Some a) ≡ ask.Turn → ⊥
      is_step a e = cc

  pub doing_turns : (is : List Inst) (d : Doing) → Each (InstFits p x g) is → Beside x g is env o h d → doing_ask xs (fr is d) (suc (length fs)) d ≡ ask.Turn → Ok (ready_turn xs counted_source (fr is d) fs is) (thread_turn (target_setting p hosts input) (go_on input (lines_for x n is tm h.params d) (image k n o d S.count h)))
  doing_turns is Ready fit b e = ready_turns is fit e
  doing_turns is (Entering []) fit b e = absurd b
  doing_turns is (Entering (q ∷ qs)) fit b e = absurd (entering_step q qs b.0 b.1 e)
  doing_turns is (Copying pr) fit b e = absurd (copying_step is pr b e)
  doing_turns is (Waiting dest ty attr) fit b e = absurd b
  doing_turns is (Retagging dest v a) fit b e = absurd cc
  doing_turns is (Leaving v) fit b e = absurd (release_is_step o.children o.protectors o.stack b.0 b.1 (sym (ap (λ z. release_or z nowhere) b.1) ∙ e))

turns_by : (p : Program) (hosts : List HostEntry) (input : List ℕ) → ProgramFits p hosts → (s : Source) (t : Thread) (frames : List Frame) → SimulatesBy p hosts input s t frames → frames_ask (source_setting p hosts input) frames s.over ≡ ask.Turn
    → SimulatesBy p hosts input (frames_turn (source_setting p hosts input) (counted s) frames) (thread_turn (target_setting p hosts input) t) (frames_turn (source_setting p hosts input) (counted s) frames).frames
turns_by p hosts input fits s t [] st e = absurd cc
turns_by p hosts input fits s t (f ∷ fs) st e =
    subst (λ u. SimulatesBy p hosts input (ready_turn (source_setting p hosts input) (counted s) f fs f.insts) (thread_turn (target_setting p hosts input) u) (ready_turn (source_setting p hosts input) (counted s) f fs f.insts).frames) (sym st.is)
    (doing_turns p hosts input fits st.code f.function f.number f.term f.env f.owned st.hidden s fs st.top.known st.top.holds st.top.term_fits st.callers f.insts f.doing st.top.insts_fit st.top.beside e)

-- a local turn keeps that the target thread simulates the source thread
pub turns : (p : Program) (hosts : List HostEntry) (input : List ℕ) → ProgramFits p hosts → (s : Source) (t : Thread) → Simulates p hosts input s t → source_ask (source_setting p hosts input) s ≡ ask.Turn → Simulates p hosts input (source_turn (source_setting p hosts input) s) (thread_turn (target_setting p hosts input) t)
turns p hosts input fits s t st e = turns_by p hosts input fits s t s.frames st e
