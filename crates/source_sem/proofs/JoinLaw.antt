-- In every state that a thread of an accepted program can reach, a join asks for a child that it has started.
use Rattle.std.proofs.Common.{◌≡◌, ℕ, zero, suc, ◌<◌, ◌%◌, ◌^◌, List, [], ◌∷◌, ◌++◌, length, map, Option, Some, None, Bool, true, false, refl, sym, ap, ◌∙◌, subst, if◌then◌else◌, slice_get, inl, inr, arith}
use Rattle.std.specs.Prelude.{Contains}
use Rattle.history.specs.declared.ask.Arg.{Arg}
use Rattle.history.specs.declared.ask.Ask.TheVariants as ask
use Rattle.history.specs.declared.ask.MachineEnd.TheVariants as end
use Rattle.ir_ast.specs.declared.types.Place.{Place}
use Rattle.history.specs.declared.entry.Reply.{Reply}
use Rattle.perm_table.specs.declared.RetagKind.{RetagKind}
use Rattle.ir_ast.specs.declared.types.Ty.{Ty}
use Rattle.ir_ast.specs.declared.types.Attr.{Attr}
use Rattle.ir_ast.specs.declared.program.Block.{Block}
use Rattle.ir_ast.specs.declared.program.Function.{Function}
use Rattle.ir_ast.specs.declared.program.Inst.{Inst}
use Rattle.ir_ast.specs.declared.program.Jump.{Jump}
use Rattle.ir_ast.specs.declared.program.Jump.TheVariants as jump
use Rattle.ir_ast.specs.declared.program.Named.{Named}
use Rattle.ir_ast.specs.declared.program.Op.{Op}
use Rattle.ir_ast.specs.declared.program.Op.TheVariants as op
use Rattle.ir_ast.specs.declared.program.Param.{Param}
use Rattle.ir_ast.specs.declared.program.Program.{Program}
use Rattle.thread_parts.specs.Words.{arg_at}
use Rattle.source_sem.specs.Env.{Env, args_of, operand, bind, put_some}
use Rattle.ir_ast.specs.Arithmetic.{Worked, word, div_zero, shift_too_far, worked}
use Rattle.thread_parts.specs.Parts.{Part, Step, Access, Gives, Fails, Steps, Retags, Copies, Calls, Joins, Makes, Accesses, Prints, Hosts, Spawns, Loads, Stores, Modifies, Compares, Frees, part_ask, step_result, worked_part, make_by, retag_part, call_part, chosen}
use Rattle.thread_parts.specs.Owned.{Owned, nothing_owned}
use Rattle.ir_ast.specs.declared.program.Goal.{Goal}
use Rattle.ir_ast.specs.Numbers.{block_place, number_of_block, number_of_function}
use Rattle.source_sem.specs.Source.{part_turn, term_turn, ready_turn, term_ask, ready_ask, returned_value, at_frames, return_to, resumed, in_block, goto_in, goto, frame_of, to_retag, has_step, entering, first_insts, first_term, source_start, Setting, Source, Frame, Doing, Ready, Entering, Copying, Waiting, Retagging, Leaving, op_part, taken, resumed_by, result_step}
use Rattle.history.specs.declared.trap.Trap.TheVariants as trap
use Rattle.ir_ast.specs.declared.program.Val.{Val}
use Rattle.source_sem.proofs.Mirroring.{fr, step_steps}
use Rattle.source_sem.specs.Plain.{IsWaiting}
use Rattle.ir_ast.specs.Shapes.{Defines}
use Rattle.ir_ast.specs.Tokens.{Each}
use Rattle.ir_rules.specs.Occurrences.{param_event, jump_goals}
use Rattle.ir_rules.specs.Paths.{GoesTo}
use Rattle.runs.specs.Parts.{Has}
use Rattle.source_sem.specs.Joining.{IsHeld, Enters, CallersStand, ThreadStands, StandsAt, IsSpawnOp, HasHandles, FunctionJoins, JoinsAccepted, Site, Placed, Waits, Retagged, DoingStands}
use Rattle.source_sem.proofs.Events.{entry_held, goes_to}
use Rattle.source_sem.proofs.Joins.{holds_put, holds_pass, holds_goto, holds_entry}

-- which parts give a value

abbrev pub StepGives : Step → Type 0
StepGives (Accesses p (Stores ty v)) = ⊥
StepGives (Accesses p Frees) = ⊥
StepGives (Prints v) = ⊥
StepGives other = Unit {0}

abbrev pub PartGives : Part → Type 0
PartGives (Gives None) = ⊥
PartGives (Steps s) = StepGives s
PartGives (Copies d s n) = ⊥
PartGives (Calls k vs None attr) = ⊥
PartGives (Joins c None attr) = ⊥
PartGives other = Unit {0}

abbrev pub IsSpawns : Part → Type 0
IsSpawns (Steps (Spawns k vs)) = Unit {0}
IsSpawns other = ⊥

make_gives : (b : Bool) (place : Place) (n : ℕ) → PartGives (make_by b place n)
make_gives true place n = tt
make_gives false place n = tt

retag_gives : (b : Bool) (p : Arg) (kind : RetagKind) (n : ℕ) → PartGives (retag_part b p kind n)
retag_gives true p kind n = tt
retag_gives false p kind n = tt

call_gives : (b : Bool) (k : ℕ) (vs : List Arg) (ty : Ty) (attr : Option Attr) → PartGives (call_part b k vs (Some ty) attr)
call_gives true k vs ty attr = tt
call_gives false k vs ty attr = tt

worked_gives : (n : Worked) → PartGives (worked_part n)
worked_gives (word n) = tt
worked_gives div_zero = tt
worked_gives shift_too_far = tt

op_gives : (x : Setting) (k d : ℕ) (env : Env) (o : Op) → Defines o → PartGives (op_part x k d env o)
op_gives x k d env (op.Make place size) h = make_gives _ place _
op_gives x k d env (op.Retag kind p n) h = retag_gives _ _ kind n
op_gives x k d env (op.Binary o w a b) h = worked_gives (worked o _ _ _)
op_gives x k d env (op.Call (Some ty) name args) h = call_gives _ _ _ ty _
op_gives x k d env (op.Call None name args) h = absurd h
op_gives x k d env (op.Join (Some ty) at j) h = tt
op_gives x k d env (op.Join None at j) h = absurd h
op_gives x k d env (op.Store ty v p) h = absurd h
op_gives x k d env (op.Copy p q v) h = absurd h
op_gives x k d env (op.Free p) h = absurd h
op_gives x k d env (op.Print w v) h = absurd h
op_gives x k d env _ h = tt

pub spawn_part : (x : Setting) (k d : ℕ) (env : Env) (o : Op) → IsSpawnOp o → IsSpawns (op_part x k d env o)
spawn_part x k d env (op.Spawn name args) h = tt
spawn_part x k d env _ h = absurd h

access_gives : (p : Arg) (a : Access) (r : Reply) → StepGives (Accesses p a) → (w : Arg) × (step_result (Accesses p a) r ≡ Some w)
access_gives p (Loads ty) r h = (_, refl)
access_gives p (Modifies w o v) r h = (_, refl)
access_gives p (Compares w e v) r h = (_, refl)
access_gives p (Stores ty v) r h = absurd h
access_gives p Frees r h = absurd h

pub step_gives : (s : Step) (r : Reply) → StepGives s → (w : Arg) × (step_result s r ≡ Some w)
step_gives (Makes n place) r h = (_, refl)
step_gives (Accesses p a) r h = access_gives p a r h
step_gives (Prints v) r h = absurd h
step_gives (Hosts n a b) r h = (_, refl)
step_gives (Spawns k vs) r h = (_, refl)

-- a frame goes on

append_more : (done : List Inst) (i : Inst) (is : List Inst) → done ++ i ∷ is ≡ (done ++ i ∷ []) ++ is
append_more [] i is = refl
append_more (d ∷ done) i is = ap (λ z. d ∷ z) (append_more done i is)

none_some : {A : Type 0} → (w : Arg) × (None ≡ Some w) → A
none_some g = let w : Arg = g.0 in let f : None ≡ Some w = g.1 in cc

module _ (P : Program) (acc : JoinsAccepted P) where
  -- the instruction is done and its destination, if it has one, has its value
  pub next_some : (started : List ℕ) (k : ℕ) (at : Site P k) (env : Env) (o o2 : Owned) (done is : List Inst) (j : Jump) (i : Inst) (dest : Option Named) (v : Option Arg)
      → i.dest ≡ dest → ((n : Named) → dest ≡ Some n → (w : Arg) × (v ≡ Some w)) → ((w : Arg) → v ≡ Some w → IsSpawnOp i.op → Has started w.value) → ((c : ℕ) → Has o2.children c → Has started c)
      → Placed P started k at env o done (i ∷ is) j → Placed P started k at (put_some dest v env) o2 (done ++ i ∷ []) is j
  next_some started k at env o o2 done is j i None v e gives child own p = record {
    insts = p.insts ∙ append_more done i is;
    term = p.term;
    holds = none_put v;
    owned = own;
  }
    where
      none_put : (v : Option Arg) → HasHandles at.code at.b at.block (done ++ i ∷ []) (put_some None v env) started
      none_put None = holds_pass at.code at.b at.block started done i env e p.holds
      none_put (Some w) = holds_pass at.code at.b at.block started done i env e p.holds
  next_some started k at env o o2 done is j i (Some n) (Some v) e gives child own p =
      let here : StandsAt at.code at.b at.block done i is = record { is_block = at.is_block; insts = p.insts } in
      record {
        insts = p.insts ∙ append_more done i is;
        term = p.term;
        owned = own;
        holds = holds_put at.code at.b at.block started (acc k at.code at.is_code) done is i n env v here e (child v refl) p.holds;
      }
  next_some started k at env o o2 done is j i (Some n) None e gives child own p = none_some (gives n refl)

  -- a destination gives its instruction a value
  pub dest_gives : (x : Setting) (started : List ℕ) (k d : ℕ) (at : Site P k) (env : Env) (o : Owned) (done is : List Inst) (j : Jump) (i : Inst) → Placed P started k at env o done (i ∷ is) j → (n : Named) → i.dest ≡ Some n → PartGives (op_part x k d env i.op)
  dest_gives x started k d at env o done is j i p n e =
      op_gives x k d env i.op ((acc k at.code at.is_code).dests at.b at.block done is i n (record { is_block = at.is_block; insts = p.insts }) e)

-- the explicit join

pub mod_same : (c : ℕ) → c < 2 ^ 32 → c % 2 ^ 32 ≡ c
mod_same c h = omega arith

-- returns

arg_some : (ty : Option Ty) (v : Arg) → (t : Ty) × (ty ≡ Some t) → (w : Arg) × (taken ty v ≡ Some w)
arg_some (Some t) v h = (arg_at t v, refl)
arg_some None v h = let t : Ty = h.0 in let f : None ≡ Some t = h.1 in cc

module _ (P : Program) (acc : JoinsAccepted P) where
  pub resumed_stands : (t : Source) (k : ℕ) (is : List Inst) (j : Jump) (n : ℕ) (env : Env) (o o2 : Owned) (d : Doing) (fs : List Frame) (dest : Option Named) (ty : Option Ty) (step : Option Attr) (v : Arg)
      → ((c : ℕ) → Has t.started c → (0 < c) × (c < 2 ^ 32)) → CallersStand P t.started fs → Waits P t.started k is j env o dest ty → ((c : ℕ) → Has o2.children c → Has t.started c)
      → ThreadStands P (at_frames t (resumed_by (fr k is j n env o2 d) dest ty step v ∷ fs))
  resumed_stands t k is j n env o o2 d fs dest ty step v kids callers w own = by_step step
    where
      next : Placed P t.started k w.at (put_some dest (taken ty v) env) o2 (w.done ++ w.i ∷ []) is j
      next = next_some P acc t.started k w.at env o o2 w.done is j w.i dest (taken ty v) w.dest_is (λ m e. arg_some ty v (w.gives m e)) (λ u e sp. absurd (w.no_spawn sp)) own w.placed

      by_step : (step : Option Attr) → ThreadStands P (at_frames t (resumed_by (fr k is j n env o2 d) dest ty step v ∷ fs))
      by_step None = record { frames = (inr (w.at, w.done ++ w.i ∷ [], next), callers); kids = kids }
      by_step (Some a) =
          let here : StandsAt w.at.code w.at.b w.at.block w.done w.i is = record { is_block = w.at.is_block; insts = w.placed.insts } in
          let again : Retagged P t.started k is j (put_some dest (taken ty v) env) o2 dest = record { at = w.at; done = w.done; i = w.i; placed = next; stands = here; dest_is = w.dest_is; no_spawn = w.no_spawn } in
          record { frames = (inr again, callers); kids = kids }

  resumed_caller_stands : (b : Bool) (t : Source) (k : ℕ) (is : List Inst) (j : Jump) (n : ℕ) (env : Env) (o : Owned) (d : Doing) (fs : List Frame) (v : Arg)
      → ((c : ℕ) → Has t.started c → (0 < c) × (c < 2 ^ 32)) → CallersStand P t.started fs → DoingStands P t.started k is j env o d → IsWaiting d
      → ThreadStands P (at_frames t (resumed b (fr k is j n env o d) d v ∷ fs))
  resumed_caller_stands b t k is j n env o (Waiting dest ty attr) fs v kids callers w waits = resumed_stands t k is j n env o o (Waiting dest ty attr) fs dest ty (result_step b ty attr) v kids callers w w.placed.owned
  resumed_caller_stands b t k is j n env o Ready fs v kids callers w waits = absurd waits
  resumed_caller_stands b t k is j n env o (Entering ps) fs v kids callers w waits = absurd waits
  resumed_caller_stands b t k is j n env o (Copying pr) fs v kids callers w waits = absurd waits
  resumed_caller_stands b t k is j n env o (Retagging dest u a) fs v kids callers w waits = absurd waits
  resumed_caller_stands b t k is j n env o (Leaving u) fs v kids callers w waits = absurd waits

  pub return_stands : (b : Bool) (t : Source) (f : Frame) (fs : List Frame) (v : Arg) → ((c : ℕ) → Has t.started c → (0 < c) × (c < 2 ^ 32)) → CallersStand P t.started fs → ThreadStands P (return_to b t f fs v)
  return_stands b t f [] v kids callers = record { frames = tt; kids = kids }
  return_stands b t f (g ∷ gs) v kids callers = resumed_caller_stands b t g.function g.insts g.term g.number g.env g.owned g.doing gs v kids callers.2 callers.0 callers.1

  -- a call, a jump, a start
  lost_stands : (t : Source) (k : ℕ) (n : ℕ) (env : Env) (o : Owned) (fs : List Frame) → ((c : ℕ) → Has t.started c → (0 < c) × (c < 2 ^ 32)) → CallersStand P t.started fs → ThreadStands P (at_frames t (fr k [] jump.Unreachable n env o Ready ∷ fs))
  lost_stands t k n env o fs kids callers = record { frames = (inl (record { insts = refl; term = refl; doing = refl }), callers); kids = kids }

  block_stands : (t : Source) (k : ℕ) (at : Site P k) (is : List Inst) (j : Jump) (n : ℕ) (env : Env) (o : Owned) (d : Doing) (fs : List Frame) (c : ℕ) (b : Option Block) (m : ℕ) (vs : List Arg)
      → ((c : ℕ) → Has t.started c → (0 < c) × (c < 2 ^ 32)) → CallersStand P t.started fs → slice_get at.code.blocks c ≡ b → ((to : Block) → slice_get at.code.blocks c ≡ Some to → GoesTo at.code at.b c) → HasHandles at.code at.b at.block at.block.insts env t.started → ((c : ℕ) → Has o.children c → Has t.started c)
      → ThreadStands P (at_frames t (in_block (fr k is j n env o d) b m vs ∷ fs))
  block_stands t k at is j n env o d fs c None m vs kids callers e goes holds own = lost_stands t k m env o fs kids callers
  block_stands t k at is j n env o d fs c (Some to) m vs kids callers e goes holds own =
      let there : Site P k = record { code = at.code; is_code = at.is_code; b = c; block = to; is_block = e } in
      let placed : Placed P t.started k there (bind to.params vs env) o [] to.insts to.term.jump = record {
        insts = refl;
        term = refl;
        owned = own;
        holds = holds_goto at.code (acc k at.code at.is_code).joins at.b c at.block to t.started env vs at.is_block e (goes to e) holds;
      } in
      record { frames = (inr (there, [], placed), callers); kids = kids }

  pub entering_stands : (t : Source) (k : ℕ) (at : Site P k) (is : List Inst) (j : Jump) (n : ℕ) (env : Env) (o : Owned) (done : List Inst) (fs : List Frame) (qs : List Param)
      → ((c : ℕ) → Has t.started c → (0 < c) × (c < 2 ^ 32)) → CallersStand P t.started fs → Placed P t.started k at env o done is j → Each (IsHeld at.code) (map param_event qs)
      → ThreadStands P (at_frames t (fr k is j n env o (entering qs) ∷ fs))
  entering_stands t k at is j n env o done fs [] kids callers placed all = record { frames = (inr (at, done, placed), callers); kids = kids }
  entering_stands t k at is j n env o done fs (q ∷ qs) kids callers placed all =
      let enters : Enters P t.started k is j env o (q ∷ qs) = record { at = at; done = done; placed = placed; params = all } in
      record { frames = (inr enters, callers); kids = kids }

retag_held : (g : Function) (b : Bool) (ps : List Param) → Each (IsHeld g) (map param_event ps) → Each (IsHeld g) (map param_event (to_retag b ps))
retag_held g b [] all = tt
retag_held g b (p ∷ ps) all = by_step (has_step b p.attr) (to_retag b ps) (retag_held g b ps all.1)
  where
    by_step : (c : Bool) (qs : List Param) → Each (IsHeld g) (map param_event qs) → Each (IsHeld g) (map param_event (if c then p ∷ qs else qs))
    by_step false qs h = h
    by_step true qs h = (all.0, h)

nothing_has : (started : List ℕ) (c : ℕ) → Has [] c → Has started c
nothing_has started c h = absurd h

append_nil : (is : List Inst) → is ++ [] ≡ is
append_nil [] = refl
append_nil (i ∷ is) = ap (λ z. i ∷ z) (append_nil is)

module _ (x : Setting) (acc : JoinsAccepted x.program) where
  frame_stands : (t : Source) (k : ℕ) (g : Option Function) (vs : List Arg) (fs : List Frame) → ((c : ℕ) → Has t.started c → (0 < c) × (c < 2 ^ 32)) → CallersStand x.program t.started fs → slice_get x.program.functions k ≡ g
      → ThreadStands x.program (at_frames t (frame_of x k g vs ∷ fs))
  frame_stands t k None vs fs kids callers e = lost_stands x.program acc t k 0 [] nothing_owned fs kids callers
  frame_stands t k (Some g) vs fs kids callers e =
      let fits : FunctionJoins g = acc k g e in
      let at : Site x.program k = record { code = g; is_code = e; b = 0; block = fits.begins; is_block = fits.begins_is } in
      let placed : Placed x.program t.started k at (bind g.params vs []) nothing_owned [] fits.begins.insts fits.begins.term.jump = record {
        insts = refl;
        term = refl;
        owned = nothing_has t.started;
        holds = holds_entry g fits.joins fits.begins t.started vs fits.begins_is;
      } in
      subst (λ z. ThreadStands x.program (at_frames t (fr k (first_insts z) (first_term z) (number_of_function 0 x.program.functions k) (bind g.params vs []) nothing_owned (entering (to_retag x.tracked g.params)) ∷ fs))) (sym fits.begins_is)
      (entering_stands x.program acc t k at fits.begins.insts fits.begins.term.jump (number_of_function 0 x.program.functions k) (bind g.params vs []) nothing_owned [] fs (to_retag x.tracked g.params) kids callers placed (retag_held g x.tracked g.params (entry_held g fits.joins.events)))

  pub start_stands : (k : ℕ) (vs : List Arg) → ThreadStands x.program (source_start x k vs)
  start_stands k vs = frame_stands (source_start x k vs) k (slice_get x.program.functions k) vs [] (λ c h. absurd h) tt refl

  -- local turns

  goal_stands : (t : Source) (k : ℕ) (at : Site x.program k) (j : Jump) (n : ℕ) (env : Env) (o : Owned) (done : List Inst) (fs : List Frame) (goal : Goal) → ((c : ℕ) → Has t.started c → (0 < c) × (c < 2 ^ 32)) → CallersStand x.program t.started fs
      → Placed x.program t.started k at env o done [] j → Contains (jump_goals j) goal → ThreadStands x.program (at_frames t (goto x (fr k [] j n env o Ready) goal ∷ fs))
  goal_stands t k at j n env o done fs goal kids callers p is =
      let whole : done ≡ at.block.insts = sym (p.insts ∙ append_nil done) in
      let holds : HasHandles at.code at.b at.block at.block.insts env t.started = subst (λ z. HasHandles at.code at.b at.block z env t.started) whole p.holds in
      let goes : (to : Block) → slice_get at.code.blocks (block_place at.code.blocks goal.label.name) ≡ Some to → GoesTo at.code at.b (block_place at.code.blocks goal.label.name) =
      λ to there. goes_to at.code at.b at.block to goal at.is_block (subst (λ z. Contains (jump_goals z) goal) p.term is) there in
      subst (λ z. ThreadStands x.program (at_frames t (goto_in x (fr k [] j n env o Ready) z goal ∷ fs))) (sym at.is_code)
      (block_stands x.program acc t k at [] j n env o Ready fs (block_place at.code.blocks goal.label.name) (slice_get at.code.blocks (block_place at.code.blocks goal.label.name)) (number_of_block (number_of_function 0 x.program.functions k) at.code.blocks (block_place at.code.blocks goal.label.name)) (args_of env goal.args) kids callers refl goes holds p.owned)

  chosen_goal : (m : ℕ) (v : Val) (g h : Goal) → Contains (jump_goals (jump.CondBr v g h)) (chosen m g h)
  chosen_goal zero v g h = (1, omega arith, refl)
  chosen_goal (suc m) v g h = (0, omega arith, refl)

  term_turns : (t : Source) (k : ℕ) (at : Site x.program k) (j : Jump) (n : ℕ) (env : Env) (o : Owned) (done : List Inst) (fs : List Frame) → ((c : ℕ) → Has t.started c → (0 < c) × (c < 2 ^ 32)) → CallersStand x.program t.started fs
      → Placed x.program t.started k at env o done [] j → term_ask (fr k [] j n env o Ready) j ≡ ask.Turn → ThreadStands x.program (term_turn x t (fr k [] j n env o Ready) fs j)
  term_turns t k at (jump.Br goal) n env o done fs kids callers p h = goal_stands t k at (jump.Br goal) n env o done fs goal kids callers p (0, omega arith, refl)
  term_turns t k at (jump.CondBr v g g2) n env o done fs kids callers p h = goal_stands t k at (jump.CondBr v g g2) n env o done fs (chosen (operand env v).value g g2) kids callers p (chosen_goal (operand env v).value v g g2)
  term_turns t k at (jump.Ret u a) n env o done fs kids callers p h = return_stands x.program acc x.tracked t (fr k [] (jump.Ret u a) n env o Ready) fs (returned_value env u) kids callers
  term_turns t k at jump.Unreachable n env o done fs kids callers p h = absurd (let e : ask.Ended (end.Trapped trap.Unreachable) ≡ ask.Turn = h in cc)

  given : (v : Option Arg) → PartGives (Gives v) → (w : Arg) × (v ≡ Some w)
  given (Some w) h = (w, refl)
  given None h = absurd h

  typed : (k2 : ℕ) (vs : List Arg) (ty : Option Ty) (attr : Option Attr) → PartGives (Calls k2 vs ty attr) → (t : Ty) × (ty ≡ Some t)
  typed k2 vs (Some ty) attr h = (ty, refl)
  typed k2 vs None attr h = absurd h

  part_turns : (t : Source) (k : ℕ) (at : Site x.program k) (i : Inst) (is : List Inst) (j : Jump) (n : ℕ) (env : Env) (o : Owned) (done : List Inst) (fs : List Frame) (q : Part) → ((c : ℕ) → Has t.started c → (0 < c) × (c < 2 ^ 32)) → CallersStand x.program t.started fs
      → Placed x.program t.started k at env o done (i ∷ is) j → ((m : Named) → i.dest ≡ Some m → PartGives q) → (IsSpawnOp i.op → IsSpawns q) → part_ask q ≡ ask.Turn
      → ThreadStands x.program (part_turn x t (fr k (i ∷ is) j n env o Ready) fs is i.dest q)
  part_turns t k at i is j n env o done fs (Gives v) kids callers p gives spawns h =
      let next : Placed x.program t.started k at (put_some i.dest v env) o (done ++ i ∷ []) is j =
      next_some x.program acc t.started k at env o o done is j i i.dest v refl (λ m e. given v (gives m e)) (λ w e sp. absurd (spawns sp)) p.owned p in
      record { frames = (inr (at, done ++ i ∷ [], next), callers); kids = kids }
  part_turns t k at i is j n env o done fs (Calls k2 vs ty attr) kids callers p gives spawns h =
      let waits : Waits x.program t.started k is j env o i.dest ty = record { at = at; done = done; i = i; placed = p; dest_is = refl; no_spawn = spawns; gives = λ m e. typed k2 vs ty attr (gives m e) } in
      frame_stands t k2 (slice_get x.program.functions k2) vs (fr k is j n env o (Waiting i.dest ty attr) ∷ fs) kids (waits, tt, callers) refl
  part_turns t k at i is j n env o done fs (Fails e) kids callers p gives spawns h = absurd (let e : ask.Ended (end.Trapped e) ≡ ask.Turn = h in cc)
  part_turns t k at i is j n env o done fs (Steps s) kids callers p gives spawns h = absurd (step_steps s h)
  part_turns t k at i is j n env o done fs (Retags a kind m) kids callers p gives spawns h = absurd (let e : part_ask (Retags a kind m) ≡ ask.Turn = h in cc)
  part_turns t k at i is j n env o done fs (Copies a b m) kids callers p gives spawns h = absurd (let e : part_ask (Copies a b m) ≡ ask.Turn = h in cc)
  part_turns t k at i is j n env o done fs (Joins m ty attr) kids callers p gives spawns h = absurd (let e : part_ask (Joins m ty attr) ≡ ask.Turn = h in cc)

  pub ready_turns : (t : Source) (k : ℕ) (at : Site x.program k) (is : List Inst) (j : Jump) (n : ℕ) (env : Env) (o : Owned) (done : List Inst) (fs : List Frame) → ((c : ℕ) → Has t.started c → (0 < c) × (c < 2 ^ 32)) → CallersStand x.program t.started fs
      → Placed x.program t.started k at env o done is j → ready_ask x (fr k is j n env o Ready) (suc (length fs)) is ≡ ask.Turn → ThreadStands x.program (ready_turn x t (fr k is j n env o Ready) fs is)
  ready_turns t k at [] j n env o done fs kids callers p h = term_turns t k at j n env o done fs kids callers p h
  ready_turns t k at (i ∷ is) j n env o done fs kids callers p h =
      part_turns t k at i is j n env o done fs (op_part x k (suc (length fs)) env i.op) kids callers p (dest_gives x.program acc x t.started k (suc (length fs)) at env o done is j i p) (spawn_part x k (suc (length fs)) env i.op) h
