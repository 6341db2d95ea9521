-- The target thread asks what the source thread asks.
use Rattle.std.proofs.Common.{◌≡◌, ℕ, zero, suc, ◌+◌, ◌%◌, ◌^◌, List, [], ◌∷◌, length, Option, Some, None, Bool, true, false, refl, sym, ap, ◌∙◌, subst}
use Rattle.std.specs.Prelude.{slice_get, nat_lt, unwrap_or}
use Rattle.bsan_ids.specs.declared.numbers.Prov.{Prov}
use Rattle.history.specs.declared.ask.Arg.{Arg}
use Rattle.history.specs.declared.ask.Ask.{Ask}
use Rattle.history.specs.declared.ask.Ask.TheVariants as ask
use Rattle.perm_table.specs.declared.Guard.TheVariants.{Free}
use Rattle.perm_table.specs.declared.RetagKind.{RetagKind}
use Rattle.perm_table.specs.declared.RetagKind.TheVariants as kind
use Rattle.ir_ast.specs.Arithmetic.{Worked, word, div_zero, shift_too_far, worked}
use Rattle.ir_ast.specs.declared.hosts.HostEntry.{HostEntry}
use Rattle.ir_ast.specs.declared.operators.BinaryOp.{BinaryOp}
use Rattle.ir_ast.specs.declared.types.Attr.{Attr}
use Rattle.ir_ast.specs.declared.types.Ty.{Ty}
use Rattle.ir_ast.specs.declared.types.Ty.TheVariants.{Int, Ptr}
use Rattle.ir_ast.specs.declared.types.Width.{Width}
use Rattle.ir_ast.specs.declared.program.Function.{Function}
use Rattle.ir_ast.specs.declared.program.Goal.{Goal}
use Rattle.ir_ast.specs.declared.program.Inst.{Inst}
use Rattle.ir_ast.specs.declared.program.Jump.{Jump}
use Rattle.ir_ast.specs.declared.program.Jump.TheVariants as jump
use Rattle.ir_ast.specs.declared.program.Named.{Named}
use Rattle.ir_ast.specs.declared.program.Op.{Op}
use Rattle.ir_ast.specs.declared.program.Op.TheVariants as op
use Rattle.ir_ast.specs.declared.program.Param.{Param}
use Rattle.ir_ast.specs.declared.program.Program.{Program}
use Rattle.ir_ast.specs.declared.program.TypedVal.{TypedVal}
use Rattle.ir_ast.specs.declared.program.Val.{Val}
use Rattle.source_sem.specs.Env.{Env, value_in, operand, args_of}
use Rattle.thread_parts.specs.Words.{at_width, plain_arg, number_at, prov_at}
use Rattle.ir_ast.specs.Words.{bits}
use Rattle.thread_parts.specs.Parts.{Part, Gives, Steps, Retags, Copies, Accesses, Prints, Spawns, Loads, Stores, Modifies, Compares, Frees, part_ask, retag_ask, copy_by, copy_part, binary_part, worked_part, make_part, makes_step, retag_part, call_part, host_part, nth_value}
use Rattle.thread_parts.specs.Copies.{Progress, untouched, copy_ask, copy_done}
use Rattle.thread_parts.specs.Owned.{Owned, release_ask}
use Rattle.source_sem.specs.Source.{Setting, Source, Frame, Doing, Ready, Entering, Copying, Waiting, Retagging, Leaving, op_part, release_or, nowhere, term_ask, ready_ask, copying_ask, copying_by, entry_ask, doing_ask, frames_ask, source_ask, to_retag}
use Rattle.ir_ast.specs.Attributes.{guard_of}
use Rattle.target_code.specs.declared.line.Line.{Line}
use Rattle.target_code.specs.declared.line.Line.TheVariants as line
use Rattle.instrument.specs.Translation.{Scope, scope_of, slot, slot_of_dest, written, operand_of, shadow_of, operands_of, arg_lines, take_lines, params_at, goal_lines, op_lines, jump_lines, ret_lines, body_lines, entry_retags, retag_lines, block_number}
use Rattle.ir_ast.specs.Numbers.{place, host_names}
use Rattle.thread_machine.specs.Thread.{TargetFrame, Thread, word_at, prov_of, pointer_at, word_of, shadow_at, operand_at, operands_at, at_lines, set_word, with_value, set_result, run, go_on, cross, call_ask, over_ask, version_ask}
use Rattle.instr_sound.specs.Simulation.{SlotsHold, Hidden, image, rest_lines, copying_lines, lines_for, CopiesSome, IsCopying, Beside, CallersSimulate, SimulatesBy, Simulates, source_setting}
use Rattle.instr_sound.proofs.Rows.{operand_word, operand_prov, args_row, run_args, run_takes}
use Rattle.instr_sound.proofs.Lines.{run_stops, run_passes, retag_stops, retag_passes, result_stops, copy_stops, copy_passes, pop_stops, pop_passes, run_ret, result_after, FirstRetag, RetagsLeft, retags}
use Rattle.history.specs.declared.entry.Request.TheVariants.{Store}

pub same_arg : (a b : ℕ) (p q : Option Prov) → a ≡ b → p ≡ q → Rattle.std.specs.Prelude.◌≡◌ {A = Arg} (record { value = a; prov = p }) (record { value = b; prov = q })
same_arg a b p q ea ep = ap (λ z. let v : Arg = record { value = z; prov = p } in v) ea ∙ ap (λ z. let v : Arg = record { value = b; prov = z } in v) ep

module _ (p : Program) (hosts : List HostEntry) (input : List ℕ) (g : Function) (k n : ℕ) (tm : Jump) (env : Env) (o : Owned) (h : Hidden) (count : ℕ) (fs : List Frame) (holds : SlotsHold (scope_of p.functions hosts g) g env h.words h.shadows) (deep : length h.callers ≡ length fs) where
  abbrev x : Scope
  x = scope_of p.functions hosts g

  abbrev xs : Setting
  xs = source_setting p hosts input

  -- what is asked in code of the program's version
  abbrev asked : Thread → Ask
  asked t = version_ask p.version t

  abbrev depth : ℕ
  depth = suc (length fs)

  abbrev fr : List Inst → Doing → Frame
  fr is d = record { function = k; insts = is; term = tm; number = n; env = env; owned = o; doing = d }

  -- the thread that has begun an instruction
  abbrev opened : List Line → Thread
  opened ls = record (at_lines (image k n o Ready count h) (line.Turn n ∷ ls)) { begun = false }

  abbrev top : TargetFrame
  top = (image k n o Ready count h).top

  word_is : (v : Val) → word_of top (operand_of x v) ≡ (operand env v).value
  word_is v = operand_word x g env top holds v

  pointer_is : (r : Named) → pointer_at top (slot x r) (slot x r) ≡ value_in env r.name
  pointer_is r = same_arg (word_at top (slot x r)) (value_in env r.name).value (prov_of top (slot x r)) (value_in env r.name).prov (holds.words_are r.name) (holds.provs_are r.name)

  retag_asks : (b : Bool) (to : Option ℕ) (kd : RetagKind) (r : Named) (m : ℕ) (next : List Line) → makes_step true m ≡ b → asked (run input (op_lines x (op.Retag kd r m) to (line.Turn (n + 1) ∷ next)) (opened (op_lines x (op.Retag kd r m) to (line.Turn (n + 1) ∷ next)))) ≡ part_ask (retag_part b (value_in env r.name) kd m)
  retag_asks true to kd r m next e =
      let ls = op_lines x (op.Retag kd r m) to (line.Turn (n + 1) ∷ next) in
      ap asked (retag_stops input (written to) kd Free (slot x r) (slot x r) m (line.Move (written to) (slot x r) ∷ line.Turn (n + 1) ∷ next) (opened ls) e)
      ∙ ap (λ z. retag_ask z kd Free m) (pointer_is r)
  retag_asks false to kd r m next e =
      let ls = op_lines x (op.Retag kd r m) to (line.Turn (n + 1) ∷ next) in
      ap asked (retag_passes input (written to) kd Free (slot x r) (slot x r) m (line.Move (written to) (slot x r) ∷ line.Turn (n + 1) ∷ next) (opened ls) e)

  worked_is : (bo : BinaryOp) (w : Width) (a b : Val) → binary_part bo w (operand_at top (operand_of x a)) (operand_at top (operand_of x b)) ≡ binary_part bo w (operand env a) (operand env b)
  worked_is bo w a b =
      ap (λ z. binary_part bo w (plain_arg z) (operand_at top (operand_of x b))) (word_is a) ∙ ap (λ z. binary_part bo w (operand env a) (plain_arg z)) (word_is b)

  binary_asks : (z : Worked) (to : Option ℕ) (bo : BinaryOp) (w : Width) (a b : Val) (next : List Line) → binary_part bo w (operand_at top (operand_of x a)) (operand_at top (operand_of x b)) ≡ worked_part z
      → asked (run input (op_lines x (op.Binary bo w a b) to (line.Turn (n + 1) ∷ next)) (opened (op_lines x (op.Binary bo w a b) to (line.Turn (n + 1) ∷ next)))) ≡ part_ask (worked_part z)
  binary_asks (word m) to bo w a b next e =
      let ls = op_lines x (op.Binary bo w a b) to (line.Turn (n + 1) ∷ next) in
      ap asked (run_passes input (line.Binary (written to) bo w (operand_of x a) (operand_of x b)) (line.Turn (n + 1) ∷ next) (opened ls) (set_word (opened ls) (written to) m) (ap (λ z. with_value z (opened ls) (written to)) e))
  binary_asks div_zero to bo w a b next e =
      let ls = op_lines x (op.Binary bo w a b) to (line.Turn (n + 1) ∷ next) in
      ap asked (run_stops input (line.Binary (written to) bo w (operand_of x a) (operand_of x b)) (line.Turn (n + 1) ∷ next) (opened ls) (ap (λ z. with_value z (opened ls) (written to)) e))
      ∙ ap part_ask e
  binary_asks shift_too_far to bo w a b next e =
      let ls = op_lines x (op.Binary bo w a b) to (line.Turn (n + 1) ∷ next) in
      ap asked (run_stops input (line.Binary (written to) bo w (operand_of x a) (operand_of x b)) (line.Turn (n + 1) ∷ next) (opened ls) (ap (λ z. with_value z (opened ls) (written to)) e))
      ∙ ap part_ask e

  -- the pointers and the length of a copy
  copy_is : (d s : Named) (v : Val) (pr : Progress) → copy_ask (pointer_at top (slot x d) (slot x d)) (pointer_at top (slot x s) (slot x s)) (word_of top (operand_of x v) % 2 ^ 64) pr ≡ copy_ask (value_in env d.name) (value_in env s.name) ((operand env v).value % 2 ^ 64) pr
  copy_is d s v pr =
      ap (λ z. copy_ask z (pointer_at top (slot x s) (slot x s)) (word_of top (operand_of x v) % 2 ^ 64) pr) (pointer_is d)
      ∙ ap (λ z. copy_ask (value_in env d.name) z (word_of top (operand_of x v) % 2 ^ 64) pr) (pointer_is s)
      ∙ ap (λ z. copy_ask (value_in env d.name) (value_in env s.name) (z % 2 ^ 64) pr) (word_is v)

  copy_asks : (b : Bool) (to : Option ℕ) (d s : Named) (v : Val) (next : List Line) → copy_done ((operand env v).value % 2 ^ 64) untouched ≡ b
      → asked (run input (op_lines x (op.Copy d s v) to (line.Turn (n + 1) ∷ next)) (opened (op_lines x (op.Copy d s v) to (line.Turn (n + 1) ∷ next)))) ≡ part_ask (copy_by b (value_in env d.name) (value_in env s.name) ((operand env v).value % 2 ^ 64))
  copy_asks true to d s v next e =
      let ls = op_lines x (op.Copy d s v) to (line.Turn (n + 1) ∷ next) in
      ap asked (copy_passes input (slot x d) (slot x d) (slot x s) (slot x s) (operand_of x v) (line.Copy (slot x d) (slot x s) (operand_of x v) ∷ line.Turn (n + 1) ∷ next) (opened ls) (ap (λ z. copy_done (z % 2 ^ 64) untouched) (word_is v) ∙ e))
  copy_asks false to d s v next e =
      let ls = op_lines x (op.Copy d s v) to (line.Turn (n + 1) ∷ next) in
      ap asked (copy_stops input (slot x d) (slot x d) (slot x s) (slot x s) (operand_of x v) (line.Copy (slot x d) (slot x s) (operand_of x v) ∷ line.Turn (n + 1) ∷ next) (opened ls) (ap (λ z. copy_done (z % 2 ^ 64) untouched) (word_is v) ∙ e))
      ∙ copy_is d s v untouched

  call_asks : (args : List TypedVal) (f : ℕ) (more : List Line) (m : ℕ) (ty : Option Ty) (a : Option Attr) → asked (run input (arg_lines x 0 args (line.Call f ∷ more)) (opened (arg_lines x 0 args (line.Call f ∷ more)))) ≡ part_ask (call_part (nat_lt depth 1024) m (args_of env args) ty a)
  call_asks args f more m ty a =
      ap asked (run_args input x 0 args (line.Call f ∷ more) (opened (arg_lines x 0 args (line.Call f ∷ more))))
      ∙ ap (λ z. call_ask (nat_lt (suc z) 1024)) deep ∙ by_test (nat_lt depth 1024)
    where
      by_test : (b : Bool) → call_ask b ≡ part_ask (call_part b m (args_of env args) ty a)
      by_test true = refl
      by_test false = refl

  spawn_asks : (args : List TypedVal) (s f : ℕ) (more : List Line) → asked (run input (arg_lines x 0 args (line.Spawn s f ∷ more)) (opened (arg_lines x 0 args (line.Spawn s f ∷ more)))) ≡ ask.Spawn f
  spawn_asks args s f more = ap asked (run_args input x 0 args (line.Spawn s f ∷ more) (opened (arg_lines x 0 args (line.Spawn s f ∷ more))))

  nth_is : (args : List TypedVal) (m : ℕ) → nth_value (operands_at top (operands_of x args)) m ≡ nth_value (args_of env args) m
  nth_is [] m = refl
  nth_is (v ∷ args) zero = word_is v.val
  nth_is (v ∷ args) (suc m) = nth_is args m

  store_is : (ty : Ty) (v : Val) (r : Named) (carried : Option Prov) → prov_at ty carried ≡ prov_at ty (operand env v).prov
      → part_ask (Steps (Accesses (pointer_at top (slot x r) (slot x r)) (Stores ty (record { value = word_of top (operand_of x v); prov = carried })))) ≡ part_ask (Steps (Accesses (value_in env r.name) (Stores ty (operand env v))))
  store_is ty v r carried e =
      ap (λ z. part_ask (Steps (Accesses z (Stores ty (record { value = word_of top (operand_of x v); prov = carried }))))) (pointer_is r)
      ∙ ap (λ z. part_ask (Steps (Accesses (value_in env r.name) (Stores ty (record { value = z; prov = carried }))))) (word_is v)
      ∙ ap (λ z. ask.At (number_at (value_in env r.name).value) (Store ((value_in env r.name).value % 2 ^ 32) ty (at_width ty (operand env v).value) z (value_in env r.name).prov)) e

  op_asks : (p_op : Op) (to : Option ℕ) (next : List Line) → asked (run input (op_lines x p_op to (line.Turn (n + 1) ∷ next)) (opened (op_lines x p_op to (line.Turn (n + 1) ∷ next)))) ≡ part_ask (op_part xs k depth env p_op)
  op_asks (op.Const w v) to next = refl
  op_asks op.Null to next = refl
  op_asks (op.Make pl v) to next = ap (λ z. part_ask (make_part p.version pl (plain_arg z))) (word_is v)
  op_asks (op.Gep r v) to next = refl
  op_asks (op.Load ty r) to next = ap (λ z. part_ask (Steps (Accesses z (Loads ty)))) (pointer_is r)
  op_asks (op.Store (Int w) v r) to next = store_is (Int w) v r h.stored refl
  op_asks (op.Store Ptr v r) to next = store_is Ptr v r (shadow_at top (shadow_of x v)) (operand_prov x g env top holds v)
  op_asks (op.Retag kd r m) to next = retag_asks (makes_step true m) to kd r m next refl
  op_asks (op.Binary bo w a b) to next = binary_asks (worked bo (bits w) ((operand env a).value % 2 ^ bits w) ((operand env b).value % 2 ^ bits w)) to bo w a b next (worked_is bo w a b)
  op_asks (op.Compare c ty a b) to next = refl
  op_asks (op.Select (Int w) c a b) to next = refl
  op_asks (op.Select Ptr c a b) to next = refl
  op_asks (op.Cast c v w a at) to next = refl
  op_asks (op.PtrToInt r) to next = refl
  op_asks (op.Input v) to next = refl
  op_asks (op.Modify m w r v) to next =
      ap (λ z. part_ask (Steps (Accesses z (Modifies w m (word_of top (operand_of x v)))))) (pointer_is r) ∙ ap (λ z. part_ask (Steps (Accesses (value_in env r.name) (Modifies w m z)))) (word_is v)
  op_asks (op.CmpXchg w r e v) to next =
      ap (λ z. part_ask (Steps (Accesses z (Compares w (word_of top (operand_of x e)) (word_of top (operand_of x v)))))) (pointer_is r)
      ∙ ap (λ z. part_ask (Steps (Accesses (value_in env r.name) (Compares w z (word_of top (operand_of x v)))))) (word_is e)
      ∙ ap (λ z. part_ask (Steps (Accesses (value_in env r.name) (Compares w (operand env e).value z)))) (word_is v)
  op_asks (op.Copy d s v) to next = copy_asks (copy_done ((operand env v).value % 2 ^ 64) untouched) to d s v next refl
  op_asks (op.Free r) to next = ap (λ z. part_ask (Steps (Accesses z Frees))) (pointer_is r)
  op_asks (op.Print w v) to next = ap (λ z. part_ask (Steps (Prints (z % 2 ^ bits w)))) (word_is v)
  op_asks (op.Call ty f args) to next = call_asks args _ _ _ ty _
  op_asks (op.Host ty f args) to next =
      ap (λ z. ask.Host (place (host_names hosts) f.name) z (nth_value (operands_at top (operands_of x args)) 1)) (nth_is args 0)
      ∙ ap (λ z. ask.Host (place (host_names hosts) f.name) (nth_value (args_of env args) 0) z) (nth_is args 1)
  op_asks (op.Spawn f args) to next = spawn_asks args _ _ _
  op_asks (op.Join ty at r) to next = ap (λ z. ask.Join (record { 0 = z % 2 ^ 32 })) (holds.words_are r.name)

  goal_asks : (goal : Goal) (more : List Line) → asked (run input (goal_lines x goal more) (opened (goal_lines x goal more))) ≡ ask.Turn
  goal_asks goal more =
      let qs = params_at (slice_get g.blocks (block_number x goal.label)) in
      let last = line.Jump (block_number x goal.label) ∷ more in
      let t = opened (goal_lines x goal more) in
      ap asked (run_args input x 0 goal.args (take_lines x 0 qs last) t)
      ∙ ap asked (run_takes input x 0 qs last (record t { row = args_row t.top x 0 goal.args t.row }))

  -- what a frame gives up first, or its return
  pop_asks : (a : Option Ask) (ls : List Line) (t : Thread) → t.over ≡ None → release_ask t.top.owned ≡ a → asked (run input (line.PopFrame ∷ line.Return ∷ ls) t) ≡ release_or a ask.Turn
  pop_asks None ls t e r =
      ap asked (pop_passes input (line.Return ∷ ls) t r) ∙ ap (over_ask p.version (at_lines t (line.Return ∷ ls))) e
  pop_asks (Some a) ls t e r =
      ap asked (pop_stops input a (line.Return ∷ ls) t r) ∙ ap (over_ask p.version (at_lines t (line.PopFrame ∷ line.Return ∷ ls))) e ∙ ap (λ z. unwrap_or z ask.Turn) r

  ret_asks : (v : Option TypedVal) → asked (run input (ret_lines x v (line.PopFrame ∷ line.Return ∷ [])) (opened (ret_lines x v (line.PopFrame ∷ line.Return ∷ [])))) ≡ release_or (release_ask o) ask.Turn
  ret_asks v =
      let ls = ret_lines x v (line.PopFrame ∷ line.Return ∷ []) in
      ap asked (run_ret input x v (line.PopFrame ∷ line.Return ∷ []) (opened ls))
      ∙ pop_asks (release_ask o) [] (set_result (opened ls) (result_after x v (opened ls).top)) refl refl

  term_asks : (is : List Inst) (j : Jump) → asked (run input (jump_lines x j) (opened (jump_lines x j))) ≡ term_ask (fr is Ready) j
  term_asks is (jump.Br goal) = goal_asks goal []
  term_asks is (jump.CondBr v first second) = refl
  term_asks is (jump.Ret v at) = ret_asks v
  term_asks is jump.Unreachable = refl

  ready_asks : (is : List Inst) → asked (go_on input (rest_lines x n is tm) (image k n o Ready count h)) ≡ ready_ask xs (fr is Ready) depth is
  ready_asks [] = term_asks [] tm
  ready_asks (i ∷ is) = op_asks i.op (slot_of_dest x i.dest) (body_lines x (n + 1) is tm)

  -- a copy that has begun
  begun_copy : (d s : Named) (v : Val) (pr : Progress) (b : Bool) → b ≡ false → copying_by (copy_by b (value_in env d.name) (value_in env s.name) ((operand env v).value % 2 ^ 64)) pr ≡ copy_ask (value_in env d.name) (value_in env s.name) ((operand env v).value % 2 ^ 64) pr
  begun_copy d s v pr true e = absurd cc
  begun_copy d s v pr false e = refl

  copying_asks : (is : List Inst) (pr : Progress) → IsCopying env is → asked (go_on input (copying_lines x n is tm) (image k n o (Copying pr) count h)) ≡ copying_ask xs (fr is (Copying pr)) depth is pr
  copying_asks [] pr c = absurd c
  copying_asks (i ∷ is) pr c = by_op i.op c
    where
      by_op : (q : Op) → CopiesSome env q → asked (go_on input (op_lines x q (slot_of_dest x i.dest) (rest_lines x (n + 1) is tm)) (image k n o (Copying pr) count h)) ≡ copying_by (op_part xs k depth env q) pr
      by_op (op.Copy d s v) c =
          ap (λ z. asked (cross input z)) (copy_stops input (slot x d) (slot x d) (slot x s) (slot x s) (operand_of x v) (line.Copy (slot x d) (slot x s) (operand_of x v) ∷ rest_lines x (n + 1) is tm) (image k n o (Copying pr) count h) (ap (λ z. copy_done (z % 2 ^ 64) untouched) (word_is v) ∙ c))
          ∙ copy_is d s v pr ∙ sym (begun_copy d s v pr (copy_done ((operand env v).value % 2 ^ 64) untouched) c)
      by_op other c = absurd c

  -- a parameter's retag
  entering_asks : (q : Param) (qs : List Param) (ls : List Line) → FirstRetag input x g h.params q qs ls (image k n o (Entering (q ∷ qs)) count h) → asked (go_on input (entry_retags x h.params ls) (image k n o (Entering (q ∷ qs)) count h)) ≡ entry_ask (value_in env q.reg.name) q.attr
  entering_asks q qs ls s =
      ap (λ z. asked (cross input z)) s.stops
      ∙ ap (λ z. retag_ask z s.attr.kind (guard_of s.attr.kind) s.attr.size) (pointer_is q.reg)
      ∙ sym (ap (entry_ask (value_in env q.reg.name)) s.has)

  -- a result's retag
  retagging_asks : (is : List Inst) (dest : Option Named) (v : Arg) (a : Attr) (ls : List Line) → Beside x g is env o h (Retagging dest v a) → asked (go_on input (retag_lines (slot_of_dest x dest) (Some a) ls) (image k n o (Retagging dest v a) count h)) ≡ retag_ask v a.kind Free a.size
  retagging_asks is None v a ls b =
      ap (λ z. asked (cross input z)) (result_stops input a.kind a.size ls (image k n o (Retagging None v a) count h) b.1) ∙ ap (λ z. retag_ask z a.kind Free a.size) b.0
  retagging_asks is (Some r) v a ls b =
      ap (λ z. asked (cross input z)) (retag_stops input (slot x r) a.kind Free (slot x r) (slot x r) a.size ls (image k n o (Retagging (Some r) v a) count h) b.1)
      ∙ ap (λ z. retag_ask z a.kind Free a.size) (pointer_is r ∙ b.0)

  leaving_asks : (v : Arg) (a : Ask) → release_ask o ≡ Some a → asked (go_on input (line.PopFrame ∷ line.Return ∷ []) (image k n o (Leaving v) count h)) ≡ release_or (release_ask o) nowhere
  leaving_asks v a e =
      ap (λ z. asked (cross input z)) (pop_stops input a (line.Return ∷ []) (image k n o (Leaving v) count h) e) ∙ ap (λ z. unwrap_or z ask.Turn) e ∙ sym (ap (λ z. release_or z nowhere) e)

  pub doing_asks : (is : List Inst) (d : Doing) → Beside x g is env o h d → asked (go_on input (lines_for x n is tm h.params d) (image k n o d count h)) ≡ doing_ask xs (fr is d) depth d
  doing_asks is Ready b = ready_asks is
  doing_asks is (Entering []) b = absurd b
  doing_asks is (Entering (q ∷ qs)) b =
      let ls = rest_lines x n is tm in
      let t = image k n o (Entering (q ∷ qs)) count h in
      entering_asks q qs ls (subst (λ l. RetagsLeft input x g h.params l ls t) b.0 (retags input x g ls t h.params b.1))
  doing_asks is (Copying pr) b = copying_asks is pr b
  doing_asks is (Waiting dest ty attr) b = absurd b
  doing_asks is (Retagging dest v a) b = retagging_asks is dest v a (rest_lines x (n + 1) is tm) b
  doing_asks is (Leaving v) b = leaving_asks v b.0 b.1

-- as many frames wait on both sides
pub as_deep : (p : Program) (hosts : List HostEntry) (fs : List Frame) (ts : List TargetFrame) → CallersSimulate p hosts fs ts → length ts ≡ length fs
as_deep p hosts [] [] c = refl
as_deep p hosts [] (t ∷ ts) c = absurd c
as_deep p hosts (f ∷ fs) [] c = absurd c
as_deep p hosts (f ∷ fs) (t ∷ ts) c = ap suc (as_deep p hosts fs ts c.1)

asks_by : (p : Program) (hosts : List HostEntry) (input : List ℕ) (s : Source) (t : Thread) (frames : List Frame) → SimulatesBy p hosts input s t frames → version_ask p.version t ≡ frames_ask (source_setting p hosts input) frames s.over
asks_by p hosts input s t [] st = ap (over_ask p.version t) st.over
asks_by p hosts input s t (f ∷ fs) st =
    ap (version_ask p.version) st.is
    ∙ doing_asks p hosts input st.code f.function f.number f.term f.env f.owned st.hidden s.count fs st.top.holds (as_deep p hosts fs st.hidden.callers st.callers) f.insts f.doing st.top.beside

-- the target thread asks what the source thread asks
pub asks : (p : Program) (hosts : List HostEntry) (input : List ℕ) (s : Source) (t : Thread) → Simulates p hosts input s t → version_ask p.version t ≡ source_ask (source_setting p hosts input) s
asks p hosts input s t st = asks_by p hosts input s t s.frames st
