-- The tie as a whole: what is asked, begun and counted, each turn and each answer, starts and children.
use Rattle.std.proofs.Common.{◌≡◌, ℕ, suc, ◌+◌, ◌<◌, ◌%◌, ◌^◌, List, [], ◌∷◌, length, Option, Some, None, Bool, true, false, not, refl, sym, ap, ◌∙◌, subst}
use Rattle.std.specs.Prelude.{slice_get, nat_lt}
use Rattle.std.specs.Option.{option_map_or}
use Rattle.history.specs.declared.ask.Arg.{Arg}
use Rattle.history.specs.declared.ask.Ask.{Ask}
use Rattle.history.specs.declared.ask.Ask.TheVariants as ask
use Rattle.history.specs.declared.entry.Reply.{Reply}
use Rattle.history.specs.declared.trap.Trap.{Trap}
use Rattle.ir_ast.specs.Arithmetic.{Worked, word, div_zero, shift_too_far, worked}
use Rattle.ir_ast.specs.Tokens.{Each}
use Rattle.ir_ast.specs.Programs.{IsProgram}
use Rattle.ir_ast.specs.declared.hosts.HostEntry.{HostEntry}
use Rattle.ir_ast.specs.declared.hosts.HostTable.{HostTable}
use Rattle.ir_ast.specs.declared.types.Attr.{Attr}
use Rattle.ir_ast.specs.declared.types.Place.{Place}
use Rattle.ir_ast.specs.declared.types.Ty.{Ty}
use Rattle.ir_ast.specs.declared.program.Function.{Function}
use Rattle.ir_ast.specs.declared.program.Inst.{Inst}
use Rattle.ir_ast.specs.declared.program.Jump.{Jump}
use Rattle.ir_ast.specs.declared.program.Jump.TheVariants as jump
use Rattle.ir_ast.specs.declared.program.Named.{Named}
use Rattle.ir_ast.specs.declared.program.Op.{Op}
use Rattle.ir_ast.specs.declared.program.Op.TheVariants as op
use Rattle.ir_ast.specs.declared.program.Program.{Program}
use Rattle.ir_ast.specs.declared.program.TypedVal.{TypedVal}
use Rattle.ir_rules.specs.Rules.{IsAccepted}
use Rattle.source_sem.specs.Env.{Env, operand, args_of}
use Rattle.ir_ast.specs.Words.{bits}
use Rattle.thread_parts.specs.Parts.{Part, Gives, Fails, Steps, part_ask, copy_by, worked_part, make_by, makes_step, retag_part, call_part, binary_part, Copies}
use Rattle.thread_parts.specs.Copies.{Progress, untouched, copy_ask_by, copy_done}
use Rattle.thread_parts.specs.Owned.{Made, Owned, release_by, release_ask}
use Rattle.source_sem.specs.Source.{Setting, Source, Frame, Doing, Ready, Entering, Copying, Waiting, Retagging, Leaving, op_part, release_or, nowhere, entry_ask, term_ask, ready_ask, copying_by, copying_ask, doing_ask, frames_ask, source_ask, doing_answer, frames_answer, source_answer, is_ready, frames_begin, counted_if, frames_site, source_start, part_child, insts_child, frames_child}
use Rattle.ir_ast.specs.Numbers.{function_place, place, function_names}
use Rattle.source_sem.proofs.Accepting.{program_typed}
use Rattle.source_sem.specs.Typing.{FunctionTyped}
use Rattle.target_code.specs.declared.line.Line.{Line}
use Rattle.target_code.specs.declared.line.Line.TheVariants as line
use Rattle.instrument.specs.Translation.{Scope, scope_of, slot, slot_of_dest, operand_of, arg_lines, op_lines, body_lines, entry_retags, function_number, written}
use Rattle.ir_ast.specs.Attributes.{guard_of}
use Rattle.instrument.specs.Known.{IsKnown}
use Rattle.instrument.proofs.Accepted.{accepted_known}
use Rattle.instrument.proofs.Ends.{each_got}
use Rattle.thread_machine.specs.Thread.{Row, Thread, row_of, at_lines, with_value, unless_step, passed, silent, run, go_on, cross, begins_by, thread_begins, thread_site, counted_unless, counted as target_counted, answer_by, thread_answer, thread_start, thread_child}
use Rattle.thread_parts.specs.Rooms.{has_none}
use Rattle.instr_sound.specs.Fits.{InstFits, ProgramFits}
use Rattle.instr_sound.specs.Simulation.{SlotsHold, Hidden, image, rest_lines, lines_for, CopiesSome, Beside, Going, SimulatesBy, Simulates, source_setting, target_setting}
use Rattle.thread_machine.specs.Views.{IsSpawn}
use Rattle.instr_sound.specs.Tie.{IsStep, Alike, TieLaw}
use Rattle.instr_sound.proofs.Places.{there}
use Rattle.instr_sound.proofs.Rows.{Gives as GivesArgs, operand_word, args_row, run_args, args_give, row_gives}
use Rattle.instr_sound.proofs.Lines.{retag_stops, result_stops, copy_stops, pop_stops, RetagsLeft, retags}
use Rattle.instr_sound.proofs.Frames.{begins}
use Rattle.instr_sound.proofs.Asking.{asks}
use Rattle.instr_sound.proofs.Turns.{turns}
use Rattle.instr_sound.proofs.Taking.{stepped, doing_answers}
use Rattle.bsan_ids.specs.declared.numbers.Prov.{Prov}
use Rattle.history.specs.Pieces.{Byte}
use Rattle.history.specs.Replies.{trap_of}
use Rattle.perm_table.specs.declared.Guard.TheVariants.{Free}
use Rattle.perm_table.specs.declared.RetagKind.{RetagKind}

-- ---- number, count, and whether a part is done

pub record Keeps (t u : Thread) : Type 0 where
  pub begun : u.begun ≡ t.begun
  pub count : u.count ≡ t.count
  pub site : u.top.site ≡ t.top.site
  pub over : u.over ≡ t.over

abbrev KeepsIf : Thread → Option Thread → Type 0
KeepsIf t None = Unit {0}
KeepsIf t (Some u) = Keeps t u

kept : (t : Thread) → Keeps t t
kept t = record { begun = refl; count = refl; site = refl; over = refl }

pass : (t u v : Thread) → Keeps t u → Keeps u v → Keeps t v
pass t u v a b = record { begun = b.begun ∙ a.begun; count = b.count ∙ a.count; site = b.site ∙ a.site; over = b.over ∙ a.over }

passed_keeps : (b : Bool) (t : Thread) → KeepsIf t (passed b t)
passed_keeps true t = kept t
passed_keeps false t = tt

step_keeps : (b : Bool) (t : Thread) (to from : ℕ) → KeepsIf t (unless_step b t to from)
step_keeps true t to from = tt
step_keeps false t to from = record { begun = refl; count = refl; site = refl; over = refl }

worked_keeps : (z : Worked) (t : Thread) (s : ℕ) → KeepsIf t (with_value (worked_part z) t s)
worked_keeps (word m) t s = record { begun = refl; count = refl; site = refl; over = refl }
worked_keeps div_zero t s = tt
worked_keeps shift_too_far t s = tt

-- a silent line keeps them
silent_keeps : (input : List ℕ) (l : Line) (t : Thread) → KeepsIf t (silent input l t)
silent_keeps input line.PushFrame t = kept t
silent_keeps input (line.Retag to kd guard s h n) t = step_keeps (makes_step true n) t to h
silent_keeps input (line.RetagResult kd n) t = passed_keeps (not (makes_step true n)) t
silent_keeps input (line.Binary s o w a b) t = worked_keeps (worked o (bits w) _ _) t s
silent_keeps input (line.CheckCopy d dh s sh v) t = passed_keeps _ t
silent_keeps input line.PopFrame t = passed_keeps (has_none (release_ask t.top.owned)) t
silent_keeps input (line.Turn n) t = tt
silent_keeps input (line.Make s h pl v) t = tt
silent_keeps input (line.CheckRead s h n) t = tt
silent_keeps input (line.Load s ty a) t = tt
silent_keeps input (line.CheckWrite s h n) t = tt
silent_keeps input (line.Store ty v a) t = tt
silent_keeps input (line.Modify s o w a v) t = tt
silent_keeps input (line.CmpXchg s w a e v) t = tt
silent_keeps input (line.CheckFree s h) t = tt
silent_keeps input (line.Free a) t = tt
silent_keeps input (line.Print w v) t = tt
silent_keeps input (line.Call k) t = tt
silent_keeps input (line.Spawn s k) t = tt
silent_keeps input (line.Join s) t = tt
silent_keeps input (line.Host s n vs) t = tt
silent_keeps input (line.Branch v) t = tt
silent_keeps input (line.Jump n) t = tt
silent_keeps input line.Return t = tt
silent_keeps input line.Unreachable t = tt
silent_keeps input other t = record { begun = refl; count = refl; site = refl; over = refl }

run_keeps : (input : List ℕ) (ls : List Line) (t : Thread) → Keeps t (run input ls t)
run_keeps input [] t = record { begun = refl; count = refl; site = refl; over = refl }
run_keeps input (l ∷ ls) t = by_next (silent input l t) (silent_keeps input l t) (run_keeps input ls)
  where
    by_next : (u : Option Thread) → KeepsIf t u → ((v : Thread) → Keeps v (run input ls v)) → Keeps t (option_map_or (run input ls) u (at_lines t (l ∷ ls)))
    by_next None k more = record { begun = refl; count = refl; site = refl; over = refl }
    by_next (Some u) k more = pass t u (run input ls u) k (more u)

-- is a part of the instruction done
abbrev pub begun_by : Doing → Bool
begun_by Ready = false
begun_by other = true

module _ (p : Program) (hosts : List HostEntry) (input : List ℕ) (g : Function) (k n : ℕ) (tm : Jump) (env : Env) (o : Owned) (h : Hidden) (count : ℕ) (holds : SlotsHold (scope_of p.functions hosts g) g env h.words h.shadows) where
  abbrev x : Scope
  x = scope_of p.functions hosts g

  shown : (is : List Inst) (d : Doing) → Beside x g is env o h d → Keeps (record (image k n o d count h) { begun = begun_by d }) (go_on input (lines_for x n is tm h.params d) (image k n o d count h))
  shown is Ready b =
      let s = run_keeps input (body_lines x n is tm) (record (at_lines (image k n o Ready count h) (rest_lines x n is tm)) { begun = false }) in
      record { begun = s.begun; count = s.count; site = s.site; over = s.over }
  shown is (Entering []) b = absurd b
  shown is (Entering (q ∷ qs)) b =
      let rest = rest_lines x n is tm in
      let t = image k n o (Entering (q ∷ qs)) count h in
      let s = subst (λ l. RetagsLeft input x g h.params l rest t) b.0 (retags input x g rest t h.params b.1) in
      subst (λ z. Keeps t (cross input z)) (sym s.stops) (record { begun = refl; count = refl; site = refl; over = refl })
  shown [] (Copying pr) b = absurd b
  shown (i ∷ is) (Copying pr) b = by_op i.op b
    where
      by_op : (q : Op) → CopiesSome env q → Keeps (image k n o (Copying pr) count h) (go_on input (op_lines x q (slot_of_dest x i.dest) (rest_lines x (n + 1) is tm)) (image k n o (Copying pr) count h))
      by_op (op.Copy d s v) c =
          let t = image k n o (Copying pr) count h in
          subst (λ z. Keeps t (cross input z)) (sym (copy_stops input (slot x d) (slot x d) (slot x s) (slot x s) (operand_of x v) (line.Copy (slot x d) (slot x s) (operand_of x v) ∷ rest_lines x (n + 1) is tm) t (ap (λ z. copy_done (z % 2 ^ 64) untouched) (operand_word x g env t.top holds v) ∙ c)))
          (record { begun = refl; count = refl; site = refl; over = refl })
      by_op other c = absurd c
  shown is (Waiting dest ty attr) b = absurd b
  shown is (Retagging None v a) b =
      let t = image k n o (Retagging None v a) count h in
      subst (λ z. Keeps t (cross input z)) (sym (result_stops input a.kind a.size (rest_lines x (n + 1) is tm) t b.1)) (record { begun = refl; count = refl; site = refl; over = refl })
  shown is (Retagging (Some r) v a) b =
      let t = image k n o (Retagging (Some r) v a) count h in
      subst (λ z. Keeps t (cross input z)) (sym (retag_stops input (slot x r) a.kind Free (slot x r) (slot x r) a.size (rest_lines x (n + 1) is tm) t b.1)) (record { begun = refl; count = refl; site = refl; over = refl })
  shown is (Leaving v) b =
      let t = image k n o (Leaving v) count h in
      subst (λ z. Keeps t (cross input z)) (sym (pop_stops input b.0 (line.Return ∷ []) t b.1)) (record { begun = refl; count = refl; site = refl; over = refl })

pub record Shows (f : Frame) (count : ℕ) (t : Thread) : Type 0 where
  pub begun : t.begun ≡ begun_by f.doing
  pub count_is : t.count ≡ count
  pub site : t.top.site ≡ f.number
  pub over : t.over ≡ None

pub shows : (p : Program) (hosts : List HostEntry) (input : List ℕ) (f : Frame) (fs : List Frame) (count : ℕ) (t : Thread) → Going p hosts input f fs count t → Shows f count t
shows p hosts input f fs count t st =
    let s = shown p hosts input st.code f.function f.number f.term f.env f.owned st.hidden count st.top.holds f.insts f.doing st.top.beside in
    record {
      begun = ap (λ z. z.begun) st.is ∙ s.begun;
      count_is = ap (λ z. z.count) st.is ∙ s.count;
      site = ap (λ z. z.top.site) st.is ∙ s.site;
      over = ap (λ z. z.over) st.is ∙ s.over;
    }

-- ---- what is shown

begins_as : (d : Doing) → begins_by None (begun_by d) ≡ is_ready d
begins_as Ready = refl
begins_as other = refl

begins_same : (p : Program) (hosts : List HostEntry) (input : List ℕ) (s : Source) (t : Thread) (frames : List Frame) → SimulatesBy p hosts input s t frames → thread_begins t ≡ frames_begin frames
begins_same p hosts input s t [] st = ap (λ z. begins_by z t.begun) st.over
begins_same p hosts input s t (f ∷ fs) st =
    let h = shows p hosts input f fs s.count t st in ap (λ z. begins_by z t.begun) h.over ∙ ap (begins_by None) h.begun ∙ begins_as f.doing

site_same : (p : Program) (hosts : List HostEntry) (input : List ℕ) (s : Source) (t : Thread) (frames : List Frame) → SimulatesBy p hosts input s t frames → thread_site t ≡ frames_site frames s.last
site_same p hosts input s t [] st = st.site
site_same p hosts input s t (f ∷ fs) st = (shows p hosts input f fs s.count t st).site

count_same : (p : Program) (hosts : List HostEntry) (input : List ℕ) (s : Source) (t : Thread) (frames : List Frame) → SimulatesBy p hosts input s t frames → t.count ≡ s.count
count_same p hosts input s t [] st = st.count
count_same p hosts input s t (f ∷ fs) st = (shows p hosts input f fs s.count t st).count_is

pub alike : (p : Program) (hosts : List HostEntry) (input : List ℕ) (s : Source) (t : Thread) → Simulates p hosts input s t → Alike p hosts input s t
alike p hosts input s t st = record {
  asks = asks p hosts input s t st;
  begins = begins_same p hosts input s t s.frames st;
  site = site_same p hosts input s t s.frames st;
  count = count_same p hosts input s t s.frames st;
}

-- ---- answers

counted_site : (b : Bool) (t : Thread) → (counted_unless b t).top.site ≡ t.top.site
counted_site true t = refl
counted_site false t = refl

counted_count : (d : Doing) (s : Source) (t : Thread) → t.begun ≡ begun_by d → t.count ≡ s.count → (target_counted t).count ≡ (counted_if (is_ready d) s).count
counted_count Ready s t eb ec = ap (λ b. (counted_unless b t).count) eb ∙ ap (λ z. z + 1) ec
counted_count (Entering qs) s t eb ec = ap (λ b. (counted_unless b t).count) eb ∙ ec
counted_count (Copying pr) s t eb ec = ap (λ b. (counted_unless b t).count) eb ∙ ec
counted_count (Waiting dest ty attr) s t eb ec = ap (λ b. (counted_unless b t).count) eb ∙ ec
counted_count (Retagging dest v a) s t eb ec = ap (λ b. (counted_unless b t).count) eb ∙ ec
counted_count (Leaving v) s t eb ec = ap (λ b. (counted_unless b t).count) eb ∙ ec

answers_by : (p : Program) (hosts : List HostEntry) (input : List ℕ) → ProgramFits p hosts → (s : Source) (t : Thread) (frames : List Frame) (e : Option Trap) (r : Reply) → SimulatesBy p hosts input s t frames → IsStep (frames_ask (source_setting p hosts input) frames s.over)
    → SimulatesBy p hosts input (frames_answer (source_setting p hosts input) (counted_if (frames_begin frames) s) frames e r) (answer_by input (target_counted t) e r) (frames_answer (source_setting p hosts input) (counted_if (frames_begin frames) s) frames e r).frames
answers_by p hosts input fits s t [] e r st step = absurd step
answers_by p hosts input fits s t (f ∷ fs) (Some e) r st step =
    let h = shows p hosts input f fs s.count t st in
    record { over = refl; site = counted_site t.begun t ∙ h.site; count = counted_count f.doing s t h.begun h.count_is }
answers_by p hosts input fits s t (f ∷ fs) None r st step =
    subst (λ u. SimulatesBy p hosts input (doing_answer (source_setting p hosts input) (counted_if (is_ready f.doing) s) f fs f.doing r) (stepped input u r) (doing_answer (source_setting p hosts input) (counted_if (is_ready f.doing) s) f fs f.doing r).frames) (sym st.is)
    (doing_answers p hosts input fits st.code f.function f.number f.term f.env f.owned st.hidden s fs st.top.known st.top.holds st.top.term_fits st.callers r f.insts f.doing st.top.insts_fit st.top.beside step)

-- an answer keeps that the target thread simulates the source thread
pub answers : (p : Program) (hosts : List HostEntry) (input : List ℕ) → ProgramFits p hosts → (s : Source) (t : Thread) (r : Reply) → Simulates p hosts input s t → IsStep (source_ask (source_setting p hosts input) s) → Simulates p hosts input (source_answer (source_setting p hosts input) s r) (thread_answer (target_setting p hosts input) t r)
answers p hosts input fits s t r st step = answers_by p hosts input fits s t s.frames (trap_of r.plain) r st step

-- ---- starts

-- a new thread simulates the source thread that starts with the arguments that its row gives
pub starts : (p : Program) (hosts : List HostEntry) (input : List ℕ) → ProgramFits p hosts → (k : ℕ) (g : Function) (passed : Row) (vs : List Arg) → slice_get p.functions k ≡ Some g → GivesArgs passed 0 g.params vs → Simulates p hosts input (source_start (source_setting p hosts input) k vs) (thread_start (target_setting p hosts input) k passed)
starts p hosts input fits k g passed vs known gives = begins p hosts input k g (fits k g known) known passed vs gives None None [] 0 [] tt

-- ---- children

make_no_spawn : (b : Bool) (pl : Place) (m : ℕ) → IsSpawn (part_ask (make_by b pl m)) → ⊥
make_no_spawn true pl m e = e
make_no_spawn false pl m e = e

retag_no_spawn : (b : Bool) (v : Arg) (kd : RetagKind) (m : ℕ) → IsSpawn (part_ask (retag_part b v kd m)) → ⊥
retag_no_spawn true v kd m e = e
retag_no_spawn false v kd m e = e

copy_no_spawn : (d s : Arg) (m k : ℕ) (half : Option (List Byte)) → IsSpawn (copy_ask_by d s m k half) → ⊥
copy_no_spawn d s m k None e = e
copy_no_spawn d s m k (Some piece) e = e

copies_no_spawn : (b : Bool) (d s : Arg) (m : ℕ) → IsSpawn (part_ask (copy_by b d s m)) → ⊥
copies_no_spawn true d s m e = e
copies_no_spawn false d s m e = copy_no_spawn d s m 0 None e

copying_no_spawn : (q : Part) (pr : Progress) → IsSpawn (copying_by q pr) → ⊥
copying_no_spawn (Copies d s m) pr e = copy_no_spawn d s m pr.pieces pr.half e
copying_no_spawn other pr e = e

call_no_spawn : (b : Bool) (m : ℕ) (vs : List Arg) (ty : Option Ty) (a : Option Attr) → IsSpawn (part_ask (call_part b m vs ty a)) → ⊥
call_no_spawn true m vs ty a e = e
call_no_spawn false m vs ty a e = e

work_no_spawn : (z : Worked) → IsSpawn (part_ask (worked_part z)) → ⊥
work_no_spawn (word m) e = e
work_no_spawn div_zero e = e
work_no_spawn shift_too_far e = e

release_no_spawn : (cs : List ℕ) (ps : List Prov) (ss : List Made) (a : Ask) → (IsSpawn a → ⊥) → IsSpawn (release_or (release_by cs ps ss) a) → ⊥
release_no_spawn (c ∷ cs) ps ss a h e = e
release_no_spawn [] (q ∷ ps) ss a h e = e
release_no_spawn [] [] (s ∷ ss) a h e = e
release_no_spawn [] [] [] a h e = h e

entry_no_spawn : (v : Arg) (a : Option Attr) → IsSpawn (entry_ask v a) → ⊥
entry_no_spawn v None e = e
entry_no_spawn v (Some a) e = e

module _ (p : Program) (hosts : List HostEntry) (input : List ℕ) (fits : ProgramFits p hosts) (g : Function) (k n : ℕ) (tm : Jump) (env : Env) (o : Owned) (h : Hidden) (count : ℕ) (fs : List Frame) (holds : SlotsHold (scope_of p.functions hosts g) g env h.words h.shadows) where
  abbrev y : Scope
  y = scope_of p.functions hosts g

  abbrev xs : Setting
  xs = source_setting p hosts input

  abbrev fr : List Inst → Doing → Frame
  fr is d = record { function = k; insts = is; term = tm; number = n; env = env; owned = o; doing = d }

  abbrev next : List Inst → List Line
  next is = rest_lines y (n + 1) is tm

  abbrev opened : List Line → Thread
  opened ls = record (at_lines (image k n o Ready count h) (line.Turn n ∷ ls)) { begun = false }

  spawn_children : (is : List Inst) (d : Option Named) (at : ℕ) (f : Named) (args : List TypedVal) → InstFits p y g (record { dest = d; at = at; op = op.Spawn f args }) → Simulates p hosts input (source_start xs (function_place p.functions f.name) (args_of env args)) (thread_child (target_setting p hosts input) (run input (op_lines y (op.Spawn f args) (slot_of_dest y d) (next is)) (opened (op_lines y (op.Spawn f args) (slot_of_dest y d) (next is)))))
  spawn_children is d at f args fit =
      let callee = fit.0.operands.1 in
      let k' = function_place p.functions f.name in
      let ls = line.Spawn (written (slot_of_dest y d)) (function_number y f) ∷ next is in
      let t = opened (arg_lines y 0 args ls) in
      let row = args_row t.top y 0 args h.row in
      let e = ap (thread_child (target_setting p hosts input)) (run_args input y 0 args ls t) in
      subst (λ T. Simulates p hosts input (source_start xs k' (args_of env args)) T) (sym e)
      (starts p hosts input fits k' callee.0 row (args_of env args) callee.1.0 (args_give y g env t.top holds 0 args callee.0.params h.row callee.1.1))

  op_children : (is : List Inst) (d : Option Named) (at : ℕ) (q : Op) → InstFits p y g (record { dest = d; at = at; op = q }) → IsSpawn (part_ask (op_part xs k (suc (length fs)) env q)) → Simulates p hosts input (part_child xs (op_part xs k (suc (length fs)) env q)) (thread_child (target_setting p hosts input) (run input (op_lines y q (slot_of_dest y d) (next is)) (opened (op_lines y q (slot_of_dest y d) (next is)))))
  op_children is d at (op.Spawn f args) fit e = spawn_children is d at f args fit
  op_children is d at (op.Make pl v) fit e = absurd (make_no_spawn _ pl _ e)
  op_children is d at (op.Retag kd a m) fit e = absurd (retag_no_spawn (makes_step true m) _ kd m e)
  op_children is d at (op.Binary bo w a b) fit e = absurd (work_no_spawn (worked bo (bits w) ((operand env a).value % 2 ^ bits w) ((operand env b).value % 2 ^ bits w)) e)
  op_children is d at (op.Copy t s v) fit e = absurd (copies_no_spawn _ _ _ _ e)
  op_children is d at (op.Call ty f args) fit e = absurd (call_no_spawn (nat_lt (suc (length fs)) 1024) _ _ ty _ e)
  op_children is d at other fit e = absurd e

  term_no_spawn : (is : List Inst) (j : Jump) → IsSpawn (term_ask (fr is Ready) j) → ⊥
  term_no_spawn is (jump.Br goal) e = e
  term_no_spawn is (jump.CondBr v first second) e = e
  term_no_spawn is (jump.Ret v at) e = release_no_spawn o.children o.protectors o.stack ask.Turn (λ z. z) e
  term_no_spawn is jump.Unreachable e = e

  ready_children : (is : List Inst) → Each (InstFits p y g) is → IsSpawn (ready_ask xs (fr is Ready) (suc (length fs)) is) → Simulates p hosts input (insts_child xs (fr is Ready) (suc (length fs)) is) (thread_child (target_setting p hosts input) (go_on input (rest_lines y n is tm) (image k n o Ready count h)))
  ready_children [] fit e = absurd (term_no_spawn [] tm e)
  ready_children (i ∷ is) fit e = op_children is i.dest i.at i.op fit.0 e

  copying_children : (is : List Inst) (pr : Progress) → IsSpawn (copying_ask xs (fr is (Copying pr)) (suc (length fs)) is pr) → ⊥
  copying_children [] pr e = e
  copying_children (i ∷ is) pr e = copying_no_spawn (op_part xs k (suc (length fs)) env i.op) pr e

  doing_children : (is : List Inst) (d : Doing) → Each (InstFits p y g) is → IsSpawn (doing_ask xs (fr is d) (suc (length fs)) d) → Simulates p hosts input (insts_child xs (fr is d) (suc (length fs)) is) (thread_child (target_setting p hosts input) (go_on input (lines_for y n is tm h.params d) (image k n o d count h)))
  doing_children is Ready fit e = ready_children is fit e
  doing_children is (Entering []) fit e = absurd e
  doing_children is (Entering (q ∷ qs)) fit e = absurd (entry_no_spawn _ q.attr e)
  doing_children is (Copying pr) fit e = absurd (copying_children is pr e)
  doing_children is (Waiting dest ty attr) fit e = absurd e
  doing_children is (Retagging dest v a) fit e = absurd e
  doing_children is (Leaving v) fit e = absurd (release_no_spawn o.children o.protectors o.stack nowhere (λ z. z) e)

children_by : (p : Program) (hosts : List HostEntry) (input : List ℕ) → ProgramFits p hosts → (s : Source) (t : Thread) (frames : List Frame) → SimulatesBy p hosts input s t frames → IsSpawn (frames_ask (source_setting p hosts input) frames s.over) → Simulates p hosts input (frames_child (source_setting p hosts input) frames) (thread_child (target_setting p hosts input) t)
children_by p hosts input fits s t [] st e = absurd e
children_by p hosts input fits s t (f ∷ fs) st e =
    subst (λ u. Simulates p hosts input (frames_child (source_setting p hosts input) (f ∷ fs)) (thread_child (target_setting p hosts input) u)) (sym st.is)
    (doing_children p hosts input fits st.code f.function f.number f.term f.env f.owned st.hidden s.count fs st.top.holds f.insts f.doing st.top.insts_fit e)

-- ---- the law

pub tie_law : (p : Program) (hosts : List HostEntry) (input : List ℕ) → ProgramFits p hosts → TieLaw p hosts input
tie_law p hosts input fits = record {
  alike = alike p hosts input;
  start = λ k args lt. let g = there p.functions k lt in starts p hosts input fits k g.item (row_of args) args g.is (row_gives g.item.params args);
  turn = turns p hosts input fits;
  answer = answers p hosts input fits;
  child = λ s t st e. children_by p hosts input fits s t s.frames st e;
}

-- an accepted program fits
pub accepted_fits : (p : Program) (hosts : HostTable) → IsProgram p → IsAccepted p hosts → ProgramFits p hosts.entries
accepted_fits p hosts program accepted k g known = record {
  typed = each_got (FunctionTyped p) p.functions k g known (program_typed p hosts program accepted);
  known = each_got (λ (f : Function). IsKnown (scope_of p.functions hosts.entries f) f) p.functions k g known (accepted_known p hosts accepted program);
}
