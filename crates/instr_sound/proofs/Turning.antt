-- A local turn of an instruction, and of a jump to a block.
use Rattle.std.proofs.Common.{◌≡◌, ◌≢◌, ℕ, zero, suc, ◌+◌, ◌%◌, ◌^◌, List, [], ◌∷◌, set, Option, Some, None, true, false, refl, sym, ap, ◌∙◌, subst}
use Rattle.std.specs.Prelude.{slice_get}
use Rattle.std.proofs.lemmas.List.{get_or-set_other}
use Rattle.bsan_ids.specs.declared.numbers.Prov.{Prov}
use Rattle.history.specs.declared.ask.Arg.{Arg}
use Rattle.perm_table.specs.declared.Guard.TheVariants.{Free}
use Rattle.perm_table.specs.declared.RetagKind.{RetagKind}
use Rattle.ir_ast.specs.Tokens.{Each}
use Rattle.ir_ast.specs.declared.hosts.HostEntry.{HostEntry}
use Rattle.ir_ast.specs.declared.operators.BinaryOp.{BinaryOp}
use Rattle.ir_ast.specs.declared.operators.CastOp.{CastOp}
use Rattle.ir_ast.specs.declared.operators.Cond.{Cond}
use Rattle.ir_ast.specs.declared.types.Ty.{Ty}
use Rattle.ir_ast.specs.declared.types.Ty.TheVariants.{Int, Ptr}
use Rattle.ir_ast.specs.declared.types.Width.{Width}
use Rattle.ir_ast.specs.declared.types.Width.TheVariants.{W8, W64}
use Rattle.ir_ast.specs.declared.program.Block.{Block}
use Rattle.ir_ast.specs.declared.program.Function.{Function}
use Rattle.ir_ast.specs.declared.program.Goal.{Goal}
use Rattle.ir_ast.specs.declared.program.Inst.{Inst}
use Rattle.ir_ast.specs.declared.program.Jump.{Jump}
use Rattle.ir_ast.specs.declared.program.Named.{Named}
use Rattle.ir_ast.specs.declared.program.Op.{Op}
use Rattle.ir_ast.specs.declared.program.Op.TheVariants as op
use Rattle.ir_ast.specs.declared.program.Param.{Param}
use Rattle.ir_ast.specs.declared.program.Program.{Program}
use Rattle.ir_ast.specs.declared.program.TypedVal.{TypedVal}
use Rattle.ir_ast.specs.declared.program.Val.{Val}
use Rattle.ir_ast.specs.declared.program.Val.TheVariants.{Reg, Num}
use Rattle.ir_rules.specs.Rules.{param_types, arg_types}
use Rattle.source_sem.specs.Env.{Env, value_in, operand, args_of, bind, with_value}
use Rattle.thread_parts.specs.Words.{blank, plain_arg, at_width, cut_at}
use Rattle.ir_ast.specs.Words.{bits}
use Rattle.thread_parts.specs.Parts.{Gives, moved, binary_part, compared, chosen, cast_arg, input_arg, makes_step}
use Rattle.thread_parts.specs.Copies.{untouched, copy_done}
use Rattle.thread_parts.specs.Owned.{Owned}
use Rattle.source_sem.specs.Source.{Frame, Ready, goto, goto_in, in_block}
use Rattle.ir_ast.specs.Numbers.{number_of_block, number_of_function, block_place, place, labels}
use Rattle.source_sem.specs.Typing.{HasType, OperandTyped, GoalTyped}
use Rattle.target_code.specs.declared.line.Line.{Line}
use Rattle.target_code.specs.declared.line.Line.TheVariants as line
use Rattle.instrument.specs.Translation.{Scope, scope_of, slot, for_ptr, operand_of, shadow_of, arg_lines, take_lines, params_at, goal_lines, op_lines, block_number}
use Rattle.instrument.specs.Known.{HasRegister, HasGoal}
use Rattle.thread_machine.specs.Thread.{Thread, TargetFrame, word_at, prov_of, word_of, shadow_at, operand_at, set_word, with_value as slot_value, at_lines, run, go_on, past_jump, jumped, thread_turn}
use Rattle.instr_sound.specs.Fits.{InstFits, JumpFits, FunctionFits}
use Rattle.instr_sound.specs.Simulation.{SlotsHold, Hidden, image, rest_lines, CallersSimulate, Going, source_setting, target_setting}
use Rattle.instr_sound.proofs.Slots.{one_place, holds_word_at, holds_ptr_at}
use Rattle.instr_sound.proofs.Places.{there, code_at}
use Rattle.instr_sound.proofs.Rows.{operand_word, operand_prov, args_row, run_args, run_takes, args_give, fill_words, fill_shadows, filled}
use Rattle.instr_sound.proofs.Lines.{run_passes, retag_passes, copy_passes}
use Rattle.instr_sound.proofs.Frames.{block_fits, int_not_ptr}

-- the other goal's lines are passed over
for_ptr_past : (ty : Ty) (l : Line) (ls : List Line) → past_jump (l ∷ ls) ≡ past_jump ls → past_jump (for_ptr ty l ls) ≡ past_jump ls
for_ptr_past (Int w) l ls e = refl
for_ptr_past Ptr l ls e = e

args_past : (x : Scope) (i : ℕ) (vs : List TypedVal) (ls : List Line) → past_jump (arg_lines x i vs ls) ≡ past_jump ls
args_past x i [] ls = refl
args_past x i (v ∷ vs) ls = for_ptr_past v.ty (line.ShadowArg i (shadow_of x v.val)) (arg_lines x (i + 1) vs ls) refl ∙ args_past x (i + 1) vs ls

takes_past : (x : Scope) (i : ℕ) (qs : List Param) (ls : List Line) → past_jump (take_lines x i qs ls) ≡ past_jump ls
takes_past x i [] ls = refl
takes_past x i (q ∷ qs) ls = for_ptr_past q.ty (line.TakeShadowArg (slot x q.reg) i) (take_lines x (i + 1) qs ls) refl ∙ takes_past x (i + 1) qs ls

pub goal_past : (x : Scope) (goal : Goal) (ls : List Line) → past_jump (goal_lines x goal ls) ≡ ls
goal_past x goal ls =
    let qs = params_at (slice_get x.blocks (block_number x goal.label)) in
    let last = line.Jump (block_number x goal.label) ∷ ls in
    args_past x 0 goal.args (take_lines x 0 qs last) ∙ takes_past x 0 qs last

-- a goal's lines: the row is written from the slots as they are, and then read into the parameters
abbrev pub after_goal : Scope → Goal → Block → Thread → Thread
after_goal x goal b t =
    let row = args_row t.top x 0 goal.args t.row in
    record t { row = row; top = record t.top { words = fill_words row x 0 b.params t.top.words; shadows = fill_shadows row x 0 b.params t.top.shadows } }

pub run_goal : (input : List ℕ) (x : Scope) (goal : Goal) (b : Block) (more : List Line) (t : Thread) → slice_get x.blocks (block_number x goal.label) ≡ Some b → run input (goal_lines x goal more) t ≡ at_lines (after_goal x goal b t) (line.Jump (block_number x goal.label) ∷ more)
run_goal input x goal b more t e =
    let last = line.Jump (block_number x goal.label) ∷ more in
    ap (λ z. run input (arg_lines x 0 goal.args (take_lines x 0 (params_at z) last)) t) e
    ∙ run_args input x 0 goal.args (take_lines x 0 b.params last) t
    ∙ run_takes input x 0 b.params last (record t { row = args_row t.top x 0 goal.args t.row })

-- where a goal goes
pub record GoalThere (x : Scope) (g : Function) (goal : Goal) : Type 0 where
  pub block : Block
  pub number : slice_get g.blocks (place (labels g.blocks) goal.label.name) ≡ Some block
  pub types : param_types block.params ≡ arg_types goal.args

pub goal_there : (p : Program) (hosts : List HostEntry) (g : Function) (goal : Goal) → GoalTyped g goal → HasGoal (scope_of p.functions hosts g) goal → GoalThere (scope_of p.functions hosts g) g goal
goal_there p hosts g goal typed known =
    let found = there g.blocks (place (labels g.blocks) goal.label.name) known.0 in
    record { block = found.item; number = found.is; types = typed.1 found.item found.is }

chosen_value : (n : ℕ) (a b : Arg) → chosen n a.value b.value ≡ (chosen n a b).value
chosen_value zero a b = refl
chosen_value (suc n) a b = refl

chosen_prov : (n : ℕ) (a b : Arg) → chosen n a.prov b.prov ≡ (chosen n a b).prov
chosen_prov zero a b = refl
chosen_prov (suc n) a b = refl

module _ (p : Program) (hosts : List HostEntry) (input : List ℕ) (g : Function) (k n : ℕ) (tm : Jump) (env : Env) (o : Owned) (h : Hidden) (count : ℕ) (fs : List Frame) (known : slice_get p.functions k ≡ Some g) (holds : SlotsHold (scope_of p.functions hosts g) g env h.words h.shadows) (term_fits : JumpFits (scope_of p.functions hosts g) g tm) (waits : CallersSimulate p hosts fs h.callers) where
  abbrev x : Scope
  x = scope_of p.functions hosts g

  -- the frame after an instruction
  abbrev pub next_frame : List Inst → Env → Frame
  next_frame is env' = record { function = k; insts = is; term = tm; number = n + 1; env = env'; owned = o; doing = Ready }

  abbrev next : List Inst → List Line
  next is = rest_lines x (n + 1) is tm

  abbrev opened : List Line → Thread
  opened ls = record (at_lines (image k n o Ready count h) (line.Turn n ∷ ls)) { begun = false }

  abbrev turned : Op → Option ℕ → List Inst → Thread
  turned q to is = thread_turn (target_setting p hosts input) (run input (op_lines x q to (next is)) (opened (op_lines x q to (next is))))

  abbrev top : TargetFrame
  top = (image k n o Ready count h).top

  word_is : (v : Val) → word_of top (operand_of x v) ≡ (operand env v).value
  word_is v = operand_word x g env top holds v

  -- the thread in front of the next instruction, with these slots
  turns_to : (is : List Inst) (env' : Env) (ws : List ℕ) (ss : List (Option Prov)) (T : Thread) → Each (InstFits p x g) is → SlotsHold x g env' ws ss → T ≡ go_on input (next is) (image k (n + 1) o Ready (count + 1) (record h { words = ws; shadows = ss })) → Going p hosts input (next_frame is env') fs (count + 1) T
  turns_to is env' ws ss T fit held e = record {
    code = g;
    hidden = record h { words = ws; shadows = ss };
    top = record { known = known; holds = held; insts_fit = fit; term_fits = term_fits; beside = tt };
    callers = waits;
    is = e;
  }

  -- a word is written
  word_turns : (is : List Inst) (r : Named) (v : Arg) (m : ℕ) (T : Thread) → Each (InstFits p x g) is → (HasType g r.name Ptr → ⊥) → HasRegister x r → m ≡ v.value → v.prov ≡ None → T ≡ go_on input (next is) (image k (n + 1) o Ready (count + 1) (record h { words = set h.words (slot x r) m })) → Going p hosts input (next_frame is (with_value r.name v env)) fs (count + 1) T
  word_turns is r v m T fit never here em none e =
      turns_to is (with_value r.name v env) (set h.words (slot x r) m) h.shadows T fit (holds_word_at x g env h.words h.shadows holds r.name never here m v em none) e

  -- a pointer is written
  ptr_turns : (is : List Inst) (r : Named) (v : Arg) (m : ℕ) (q : Option Prov) (T : Thread) → Each (InstFits p x g) is → HasType g r.name Ptr → HasRegister x r → m ≡ v.value → q ≡ v.prov → T ≡ go_on input (next is) (image k (n + 1) o Ready (count + 1) (record h { words = set h.words (slot x r) m; shadows = set h.shadows (slot x r) q })) → Going p hosts input (next_frame is (with_value r.name v env)) fs (count + 1) T
  ptr_turns is r v m q T fit ty here em eq e =
      turns_to is (with_value r.name v env) (set h.words (slot x r) m) (set h.shadows (slot x r) q) T fit (holds_ptr_at x g env h.words h.shadows holds r.name ty here m q v em eq) e

  pub const_turns : (r : Named) (w : Width) (m : ℕ) (is : List Inst) → HasType g r.name (Int w) → HasRegister x r → Each (InstFits p x g) is → Going p hosts input (next_frame is (with_value r.name (plain_arg (m % 2 ^ bits w)) env)) fs (count + 1) (turned (op.Const w m) (Some (slot x r)) is)
  const_turns r w m is ty here fit = word_turns is r (plain_arg (m % 2 ^ bits w)) (m % 2 ^ bits w) _ fit (int_not_ptr g r.name w ty) here refl refl refl

  pub null_turns : (r : Named) (is : List Inst) → HasType g r.name Ptr → HasRegister x r → Each (InstFits p x g) is → Going p hosts input (next_frame is (with_value r.name blank env)) fs (count + 1) (turned op.Null (Some (slot x r)) is)
  null_turns r is ty here fit = ptr_turns is r blank 0 None _ fit ty here refl refl refl

  pub gep_turns : (r a : Named) (v : Val) (is : List Inst) → HasType g r.name Ptr → HasRegister x r → Each (InstFits p x g) is → Going p hosts input (next_frame is (with_value r.name (moved (value_in env a.name) (operand env v)) env)) fs (count + 1) (turned (op.Gep a v) (Some (slot x r)) is)
  gep_turns r a v is ty here fit =
      ptr_turns is r (moved (value_in env a.name) (operand env v)) ((word_at top (slot x a) + word_of top (operand_of x v)) % 2 ^ 64) (prov_of top (slot x a)) _ fit ty here
      (ap (λ z. (z + word_of top (operand_of x v)) % 2 ^ 64) (holds.words_are a.name) ∙ ap (λ z. ((value_in env a.name).value + z) % 2 ^ 64) (word_is v)) (holds.provs_are a.name) refl

  pub retag_turns : (r : Named) (kd : RetagKind) (a : Named) (m : ℕ) (is : List Inst) → makes_step true m ≡ false → HasType g r.name Ptr → HasRegister x r → Each (InstFits p x g) is → Going p hosts input (next_frame is (with_value r.name (value_in env a.name) env)) fs (count + 1) (turned (op.Retag kd a m) (Some (slot x r)) is)
  retag_turns r kd a m is never ty here fit =
      let ls = op_lines x (op.Retag kd a m) (Some (slot x r)) (next is) in
      ptr_turns is r (value_in env a.name) (word_at top (slot x a)) (prov_of top (slot x a)) _ fit ty here (holds.words_are a.name) (holds.provs_are a.name)
      (ap (thread_turn (target_setting p hosts input)) (retag_passes input (slot x r) kd Free (slot x a) (slot x a) m (line.Move (slot x r) (slot x a) ∷ next is) (opened ls) never))

  pub binary_turns : (r : Named) (bo : BinaryOp) (w : Width) (a b : Val) (m : ℕ) (is : List Inst) → binary_part bo w (operand env a) (operand env b) ≡ Gives (Some (plain_arg m)) → HasType g r.name (Int w) → HasRegister x r → Each (InstFits p x g) is → Going p hosts input (next_frame is (with_value r.name (plain_arg m) env)) fs (count + 1) (turned (op.Binary bo w a b) (Some (slot x r)) is)
  binary_turns r bo w a b m is e ty here fit =
      let ls = op_lines x (op.Binary bo w a b) (Some (slot x r)) (next is) in
      let same : binary_part bo w (operand_at top (operand_of x a)) (operand_at top (operand_of x b)) ≡ Gives (Some (plain_arg m)) =
      ap (λ z. binary_part bo w (plain_arg z) (operand_at top (operand_of x b))) (word_is a) ∙ ap (λ z. binary_part bo w (operand env a) (plain_arg z)) (word_is b) ∙ e in
      word_turns is r (plain_arg m) m _ fit (int_not_ptr g r.name w ty) here refl refl
      (ap (thread_turn (target_setting p hosts input)) (run_passes input (line.Binary (slot x r) bo w (operand_of x a) (operand_of x b)) (next is) (opened ls) (set_word (opened ls) (slot x r) m) (ap (λ z. slot_value z (opened ls) (slot x r)) same)))

  pub compare_turns : (r : Named) (c : Cond) (ty : Ty) (a b : Val) (is : List Inst) → HasType g r.name (Int W8) → HasRegister x r → Each (InstFits p x g) is → Going p hosts input (next_frame is (with_value r.name (compared c ty (operand env a) (operand env b)) env)) fs (count + 1) (turned (op.Compare c ty a b) (Some (slot x r)) is)
  compare_turns r c ty a b is t here fit =
      word_turns is r (compared c ty (operand env a) (operand env b)) (compared c ty (operand_at top (operand_of x a)) (operand_at top (operand_of x b))).value _ fit (int_not_ptr g r.name W8 t) here
      (ap (λ z. (compared c ty (plain_arg z) (operand_at top (operand_of x b))).value) (word_is a) ∙ ap (λ z. (compared c ty (operand env a) (plain_arg z)).value) (word_is b)) refl refl

  pub cast_turns : (r : Named) (c : CastOp) (v w : Width) (a : Val) (at : ℕ) (is : List Inst) → HasType g r.name (Int w) → HasRegister x r → Each (InstFits p x g) is → Going p hosts input (next_frame is (with_value r.name (cast_arg c v w (operand env a)) env)) fs (count + 1) (turned (op.Cast c v w a at) (Some (slot x r)) is)
  cast_turns r c v w a at is t here fit =
      word_turns is r (cast_arg c v w (operand env a)) (cast_arg c v w (operand_at top (operand_of x a))).value _ fit (int_not_ptr g r.name w t) here (ap (λ z. (cast_arg c v w (plain_arg z)).value) (word_is a)) refl refl

  pub address_turns : (r a : Named) (is : List Inst) → HasType g r.name (Int W64) → HasRegister x r → Each (InstFits p x g) is → Going p hosts input (next_frame is (with_value r.name (plain_arg (value_in env a.name).value) env)) fs (count + 1) (turned (op.PtrToInt a) (Some (slot x r)) is)
  address_turns r a is t here fit = word_turns is r (plain_arg (value_in env a.name).value) (word_at top (slot x a)) _ fit (int_not_ptr g r.name W64 t) here (holds.words_are a.name) refl refl

  pub input_turns : (r : Named) (v : Val) (is : List Inst) → HasType g r.name (Int W64) → HasRegister x r → Each (InstFits p x g) is → Going p hosts input (next_frame is (with_value r.name (input_arg input (operand env v)) env)) fs (count + 1) (turned (op.Input v) (Some (slot x r)) is)
  input_turns r v is t here fit =
      word_turns is r (input_arg input (operand env v)) (input_arg input (operand_at top (operand_of x v))).value _ fit (int_not_ptr g r.name W64 t) here (ap (λ z. (input_arg input (plain_arg z)).value) (word_is v)) refl refl

  -- the word that a select takes
  select_word : (ty : Ty) (c a b : Val) → at_width ty (chosen (word_of top (operand_of x c)) (word_of top (operand_of x a)) (word_of top (operand_of x b))) ≡ (cut_at ty (chosen (operand env c).value (operand env a) (operand env b))).value
  select_word ty c a b =
      ap (λ z. at_width ty (chosen z (word_of top (operand_of x a)) (word_of top (operand_of x b)))) (word_is c)
      ∙ ap (λ z. at_width ty (chosen (operand env c).value z (word_of top (operand_of x b)))) (word_is a)
      ∙ ap (λ z. at_width ty (chosen (operand env c).value (operand env a).value z)) (word_is b)
      ∙ ap (at_width ty) (chosen_value (operand env c).value (operand env a) (operand env b))

  -- a pointer's slot isn't that of an integer
  apart : (q r : Named) (w : Width) → HasType g q.name (Int w) → HasType g r.name Ptr → HasRegister x r → slot x q ≢ slot x r
  apart q r w tq tr here e = int_not_ptr g q.name w tq (subst (λ (z : List ℕ). HasType g z Ptr) (sym (one_place x.registers q.name r.name e here)) tr)

  cond_kept : (c : Val) (r : Named) (m : ℕ) → OperandTyped g (Int W8) c → HasType g r.name Ptr → HasRegister x r → word_of (record top { words = set h.words (slot x r) m }) (operand_of x c) ≡ word_of top (operand_of x c)
  cond_kept (Reg q) r m tc tr here = get_or-set_other h.words (slot x r) (slot x q) m 0 (apart q r W8 tc tr here)
  cond_kept (Num i) r m tc tr here = refl

  pub select_turns : (ty : Ty) (r : Named) (c a b : Val) (is : List Inst) → OperandTyped g (Int W8) c → HasType g r.name ty → HasRegister x r → Each (InstFits p x g) is → Going p hosts input (next_frame is (with_value r.name (cut_at ty (chosen (operand env c).value (operand env a) (operand env b))) env)) fs (count + 1) (turned (op.Select ty c a b) (Some (slot x r)) is)
  select_turns (Int w) r c a b is tc t here fit =
      let m = at_width (Int w) (chosen (word_of top (operand_of x c)) (word_of top (operand_of x a)) (word_of top (operand_of x b))) in
      word_turns is r (cut_at (Int w) (chosen (operand env c).value (operand env a) (operand env b))) m _ fit (int_not_ptr g r.name w t) here (select_word (Int w) c a b) refl refl
  select_turns Ptr r c a b is tc t here fit =
      let m = at_width Ptr (chosen (word_of top (operand_of x c)) (word_of top (operand_of x a)) (word_of top (operand_of x b))) in
      let q = chosen (word_of (record top { words = set h.words (slot x r) m }) (operand_of x c)) (shadow_at top (shadow_of x a)) (shadow_at top (shadow_of x b)) in
      let eq : q ≡ (chosen (operand env c).value (operand env a) (operand env b)).prov =
      ap (λ z. chosen z (shadow_at top (shadow_of x a)) (shadow_at top (shadow_of x b))) (cond_kept c r m tc t here ∙ word_is c)
      ∙ ap (λ z. chosen (operand env c).value z (shadow_at top (shadow_of x b))) (operand_prov x g env top holds a)
      ∙ ap (λ z. chosen (operand env c).value (operand env a).prov z) (operand_prov x g env top holds b)
      ∙ chosen_prov (operand env c).value (operand env a) (operand env b) in
      ptr_turns is r (cut_at Ptr (chosen (operand env c).value (operand env a) (operand env b))) m q _ fit t here (select_word Ptr c a b) eq (select_runs a b m q refl)
    where
      select_runs : (a b : Val) (m : ℕ) (q : Option Prov) → chosen (word_of (record top { words = set h.words (slot x r) m }) (operand_of x c)) (shadow_at top (shadow_of x a)) (shadow_at top (shadow_of x b)) ≡ q
          → thread_turn (target_setting p hosts input) (run input (line.ShadowSelect (slot x r) (operand_of x c) (shadow_of x a) (shadow_of x b) ∷ next is) (set_word (opened (op_lines x (op.Select Ptr c a b) (Some (slot x r)) (next is))) (slot x r) m))
          ≡ go_on input (next is) (image k (n + 1) o Ready (count + 1) (record h { words = set h.words (slot x r) m; shadows = set h.shadows (slot x r) q }))
      select_runs a b m q e = ap (λ z. go_on input (next is) (image k (n + 1) o Ready (count + 1) (record h { words = set h.words (slot x r) m; shadows = set h.shadows (slot x r) z }))) e

  pub copy_turns : (to : Option ℕ) (d s : Named) (v : Val) (is : List Inst) → copy_done ((operand env v).value % 2 ^ 64) untouched ≡ true → Each (InstFits p x g) is → Going p hosts input (next_frame is env) fs (count + 1) (turned (op.Copy d s v) to is)
  copy_turns to d s v is e fit =
      let ls = op_lines x (op.Copy d s v) to (next is) in
      turns_to is env h.words h.shadows _ fit holds
      (ap (thread_turn (target_setting p hosts input)) (copy_passes input (slot x d) (slot x d) (slot x s) (slot x s) (operand_of x v) (line.Copy (slot x d) (slot x s) (operand_of x v) ∷ next is) (opened ls) (ap (λ z. copy_done (z % 2 ^ 64) untouched) (word_is v) ∙ e)))

  -- a goal
  abbrev pub in_goal : Goal → Block → Frame
  in_goal goal b =
      record { function = k; insts = b.insts; term = b.term.jump; number = number_of_block (number_of_function 0 p.functions k) g.blocks (block_place g.blocks goal.label.name); env = bind b.params (args_of env goal.args) env; owned = o; doing = Ready }

  abbrev pub jumping : List Inst → Frame
  jumping is = record { function = k; insts = is; term = tm; number = n; env = env; owned = o; doing = Ready }

  goes : (is : List Inst) (goal : Goal) (b : Block) → slice_get g.blocks (block_place g.blocks goal.label.name) ≡ Some b → goto (source_setting p hosts input) (jumping is) goal ≡ in_goal goal b
  goes is goal b e =
      ap (λ z. goto_in (source_setting p hosts input) (jumping is) z goal) known
      ∙ ap (λ z. in_block (jumping is) z (number_of_block (number_of_function 0 p.functions k) g.blocks (block_place g.blocks goal.label.name)) (args_of env goal.args)) e

  -- the lines of a goal are run, after the branch
  abbrev pub counted_at : List Line → Thread
  counted_at ls = record (at_lines (image k n o Ready count h) ls) { begun = false; count = count + 1 }

  pub goal_turns : (fits : FunctionFits p hosts g) (is : List Inst) (goal : Goal) (more ls : List Line) (T : Thread) → GoalTyped g goal → HasGoal x goal → T ≡ jumped (target_setting p hosts input) (run input (goal_lines x goal more) (counted_at ls)) → Going p hosts input (goto (source_setting p hosts input) (jumping is) goal) fs (count + 1) T
  goal_turns fits is goal more ls T typed has e =
      let to = goal_there p hosts g goal typed has in
      let t = counted_at ls in
      let passed = args_row t.top x 0 goal.args t.row in
      let b = block_fits p hosts g (place (labels g.blocks) goal.label.name) to.block fits to.number in
      let there' : slice_get g.blocks (block_place g.blocks goal.label.name) ≡ Some to.block = to.number in
      let going : Going p hosts input (in_goal goal to.block) fs (count + 1) T = record {
        code = g;
        hidden = record h { row = passed; words = fill_words passed x 0 to.block.params h.words; shadows = fill_shadows passed x 0 to.block.params h.shadows };
        top = record {
          known = known;
          holds = filled x g passed 0 to.block.params (args_of env goal.args) env h.words h.shadows holds b.params (args_give x g env t.top holds 0 goal.args to.block.params t.row to.types);
          insts_fit = b.insts;
          term_fits = b.term;
          beside = tt;
        };
        callers = waits;
        is = e
            ∙ ap (jumped (target_setting p hosts input)) (run_goal input x goal to.block more t to.number)
            ∙ ap (λ z. go_on input z (at_lines (after_goal x goal to.block t) (line.Jump (block_number x goal.label) ∷ more))) (code_at p hosts k g (place (labels g.blocks) goal.label.name) to.block known to.number);
      } in
      subst (λ z. Going p hosts input z fs (count + 1) T) (sym (goes is goal to.block there')) going
