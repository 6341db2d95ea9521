-- A thread's own ends are its return, and traps of its instructions and of allocations.
use Rattle.std.proofs.Common.{◌≡◌, ℕ, suc, List, [], ◌∷◌, length, Bool, true, false, refl, subst}
use Rattle.std.specs.Prelude.{Option, Some, None}
use Rattle.bsan_ids.specs.declared.numbers.Prov.{Prov}
use Rattle.history.specs.declared.ask.Arg.{Arg}
use Rattle.history.specs.declared.ask.Ask.{Ask}
use Rattle.history.specs.declared.ask.Ask.TheVariants as ask
use Rattle.history.specs.declared.ask.MachineEnd.{MachineEnd}
use Rattle.history.specs.declared.entry.Plain.{Plain}
use Rattle.history.specs.declared.entry.Plain.TheVariants as plain
use Rattle.history.specs.declared.entry.Reply.{Reply}
use Rattle.history.specs.declared.trap.Trap.{Trap}
use Rattle.history.specs.Pieces.{Byte}
use Rattle.ir_ast.specs.declared.types.Attr.{Attr}
use Rattle.ir_ast.specs.declared.types.Place.{Place}
use Rattle.ir_ast.specs.declared.types.Ty.{Ty}
use Rattle.ir_ast.specs.declared.program.Inst.{Inst}
use Rattle.ir_ast.specs.declared.program.Jump.{Jump}
use Rattle.ir_ast.specs.declared.program.Jump.TheVariants as jump
use Rattle.ir_ast.specs.declared.program.Named.{Named}
use Rattle.ir_ast.specs.declared.program.Op.{Op}
use Rattle.ir_ast.specs.declared.program.Op.TheVariants as op
use Rattle.ir_ast.specs.declared.program.Param.{Param}
use Rattle.ir_ast.specs.Arithmetic.{Worked, word, div_zero, shift_too_far}
use Rattle.perm_table.specs.declared.RetagKind.{RetagKind}
use Rattle.history.specs.Replies.{trap_of}
use Rattle.source_sem.specs.Env.{Env}
use Rattle.thread_parts.specs.Parts.{Part, Step, Gives, Fails, Steps, Retags, Copies, Calls, Joins, Makes, Accesses, Prints, Hosts, Spawns, step_ask, part_ask, worked_part, make_by, retag_part, copy_by, call_part}
use Rattle.thread_parts.specs.Owned.{Made, release_by, release_ask, released}
use Rattle.thread_parts.specs.Copies.{Progress, untouched, copy_ask_by, copy_after, copy_done}
use Rattle.source_sem.specs.Source.{Setting, Source, Frame, Doing, Ready, Entering, Copying, Waiting, Retagging, Leaving, op_part, source_begins, counted, counted_if, frames_turn, ready_turn, part_turn, term_turn, return_to, frames_answer, doing_answer, ready_answer, part_answer, term_answer, leave, returned_value, copy_on, copying_part, copying_answer, entering_answer, part_child, insts_child, frames_child, frames_ask, doing_ask, ready_ask, term_ask, copying_ask, copying_by, entry_ask, entering_ask, release_or, nowhere}
use Rattle.runs.specs.Threads.{IsOwnTrap}
use Rattle.source_sem.specs.Traps.{EndIsOwn, PlainIsOwn, TrapLaw}

abbrev PartIsOwn : Part → Type 0
PartIsOwn (Fails t) = IsOwnTrap t
PartIsOwn other = Unit {0}

worked_own : (w : Worked) → PartIsOwn (worked_part w)
worked_own (word n) = tt
worked_own div_zero = tt
worked_own shift_too_far = tt

make_own : (b : Bool) (place : Place) (n : ℕ) → PartIsOwn (make_by b place n)
make_own true place n = tt
make_own false place n = tt

retag_own : (b : Bool) (p : Arg) (kind : RetagKind) (n : ℕ) → PartIsOwn (retag_part b p kind n)
retag_own true p kind n = tt
retag_own false p kind n = tt

copy_own : (b : Bool) (d s : Arg) (n : ℕ) → PartIsOwn (copy_by b d s n)
copy_own true d s n = tt
copy_own false d s n = tt

call_own : (b : Bool) (k : ℕ) (xs : List Arg) (ty : Option Ty) (attr : Option Attr) → PartIsOwn (call_part b k xs ty attr)
call_own true k xs ty attr = tt
call_own false k xs ty attr = tt

op_own : (x : Setting) (k depth : ℕ) (env : Env) (o : Op) → PartIsOwn (op_part x k depth env o)
op_own x k depth env (op.Make place size) = make_own _ _ _
op_own x k depth env (op.Retag kind p n) = retag_own _ _ _ _
op_own x k depth env (op.Binary o w a b) = worked_own _
op_own x k depth env (op.Copy d s v) = copy_own _ _ _ _
op_own x k depth env (op.Call ty name args) = call_own _ _ _ _ _
op_own x k depth env _ = tt

abbrev AskIsOwn : Ask → Type 0
AskIsOwn (ask.Ended e) = EndIsOwn e
AskIsOwn other = Unit {0}

step_asks : (s : Step) → AskIsOwn (step_ask s)
step_asks (Makes n place) = tt
step_asks (Accesses p a) = tt
step_asks (Prints v) = tt
step_asks (Hosts n a b) = tt
step_asks (Spawns k xs) = tt

copy_asks : (d s : Arg) (n k : ℕ) (half : Option (List Byte)) → AskIsOwn (copy_ask_by d s n k half)
copy_asks d s n k None = tt
copy_asks d s n k (Some piece) = tt

part_asks : (p : Part) → PartIsOwn p → AskIsOwn (part_ask p)
part_asks (Gives a) h = tt
part_asks (Fails t) h = h
part_asks (Steps s) h = step_asks s
part_asks (Retags p kind n) h = tt
part_asks (Copies d s n) h = copy_asks d s n 0 None
part_asks (Calls k xs ty attr) h = tt
part_asks (Joins c ty attr) h = tt

release_asks : (cs : List ℕ) (ps : List Prov) (ms : List Made) (a : Ask) → AskIsOwn a → AskIsOwn (release_or (release_by cs ps ms) a)
release_asks (c ∷ cs) ps ms a h = tt
release_asks [] (p ∷ ps) ms a h = tt
release_asks [] [] (m ∷ ms) a h = tt
release_asks [] [] [] a h = h

term_asks : (f : Frame) (j : Jump) → AskIsOwn (term_ask f j)
term_asks f (jump.Br goal) = tt
term_asks f (jump.CondBr v first second) = tt
term_asks f (jump.Ret v at) = release_asks f.owned.children f.owned.protectors f.owned.stack ask.Turn tt
term_asks f jump.Unreachable = tt

module _ (x : Setting) where
  ready_asks : (f : Frame) (depth : ℕ) (is : List Inst) → AskIsOwn (ready_ask x f depth is)
  ready_asks f depth [] = term_asks f f.term
  ready_asks f depth (i ∷ rest) = part_asks (op_part x f.function depth f.env i.op) (op_own x f.function depth f.env i.op)

  copying_asks : (p : Part) (pr : Progress) → AskIsOwn (copying_by p pr)
  copying_asks (Copies d s n) pr = copy_asks d s n pr.pieces pr.half
  copying_asks (Gives a) pr = tt
  copying_asks (Fails t) pr = tt
  copying_asks (Steps s) pr = tt
  copying_asks (Retags p kind n) pr = tt
  copying_asks (Calls k xs ty attr) pr = tt
  copying_asks (Joins c ty attr) pr = tt

  copies_ask : (f : Frame) (depth : ℕ) (is : List Inst) (pr : Progress) → AskIsOwn (copying_ask x f depth is pr)
  copies_ask f depth [] pr = tt
  copies_ask f depth (i ∷ rest) pr = copying_asks (op_part x f.function depth f.env i.op) pr

  entry_asks : (v : Arg) (a : Option Attr) → AskIsOwn (entry_ask v a)
  entry_asks v None = tt
  entry_asks v (Some a) = tt

  enter_asks : (env : Env) (ps : List Param) → AskIsOwn (entering_ask env ps)
  enter_asks env [] = tt
  enter_asks env (p ∷ ps) = entry_asks _ p.attr

  doing_asks : (f : Frame) (depth : ℕ) (d : Doing) → AskIsOwn (doing_ask x f depth d)
  doing_asks f depth Ready = ready_asks f depth f.insts
  doing_asks f depth (Entering ps) = enter_asks f.env ps
  doing_asks f depth (Copying pr) = copies_ask f depth f.insts pr
  doing_asks f depth (Waiting dest ty attr) = tt
  doing_asks f depth (Retagging dest v a) = tt
  doing_asks f depth (Leaving v) = release_asks f.owned.children f.owned.protectors f.owned.stack nowhere tt

  frames_own : (fs : List Frame) (over : MachineEnd) → EndIsOwn over → AskIsOwn (frames_ask x fs over)
  frames_own [] over h = h
  frames_own (f ∷ fs) over h = doing_asks f (suc (length fs)) f.doing

  -- ends stay, but for returns and trapped replies -------------------------------------

  returns : (t : Source) (f : Frame) (fs : List Frame) (v : Arg) → EndIsOwn t.over → EndIsOwn (return_to x.tracked t f fs v).over
  returns t f [] v h = tt
  returns t f (g ∷ gs) v h = h

  part_turns : (t : Source) (f : Frame) (fs : List Frame) (rest : List Inst) (dest : Option Named) (p : Part) → EndIsOwn t.over → EndIsOwn (part_turn x t f fs rest dest p).over
  part_turns t f fs rest dest (Gives v) h = h
  part_turns t f fs rest dest (Calls k xs ty attr) h = h
  part_turns t f fs rest dest (Fails e) h = h
  part_turns t f fs rest dest (Steps s) h = h
  part_turns t f fs rest dest (Retags p kind n) h = h
  part_turns t f fs rest dest (Copies d s n) h = h
  part_turns t f fs rest dest (Joins c ty attr) h = h

  term_turns : (t : Source) (f : Frame) (fs : List Frame) (j : Jump) → EndIsOwn t.over → EndIsOwn (term_turn x t f fs j).over
  term_turns t f fs (jump.Br goal) h = h
  term_turns t f fs (jump.CondBr v first second) h = h
  term_turns t f fs (jump.Ret v at) h = returns t f fs _ h
  term_turns t f fs jump.Unreachable h = h

  ready_turns : (t : Source) (f : Frame) (fs : List Frame) (is : List Inst) → EndIsOwn t.over → EndIsOwn (ready_turn x t f fs is).over
  ready_turns t f fs [] h = term_turns t f fs f.term h
  ready_turns t f fs (i ∷ rest) h = part_turns t f fs rest i.dest (op_part x f.function (suc (length fs)) f.env i.op) h

  turns : (t : Source) (fs : List Frame) → EndIsOwn t.over → EndIsOwn (frames_turn x t fs).over
  turns t [] h = h
  turns t (f ∷ fs) h = ready_turns t f fs f.insts h

  leaves : (t : Source) (f : Frame) (fs : List Frame) (v : Arg) (o : Option Ask) → EndIsOwn t.over → EndIsOwn (leave x.tracked t f fs v o).over
  leaves t f fs v None h = returns t f fs v h
  leaves t f fs v (Some a) h = h

  goes_on : (t : Source) (f : Frame) (fs : List Frame) (rest : List Inst) (pr : Progress) (b : Bool) → EndIsOwn t.over → EndIsOwn (copy_on t f fs rest pr b).over
  goes_on t f fs rest pr true h = h
  goes_on t f fs rest pr false h = h

  part_answers : (t : Source) (f : Frame) (fs : List Frame) (rest : List Inst) (dest : Option Named) (p : Part) (r : Reply) → EndIsOwn t.over → EndIsOwn (part_answer x t f fs rest dest p r).over
  part_answers t f fs rest dest (Gives v) r h = h
  part_answers t f fs rest dest (Fails w) r h = h
  part_answers t f fs rest dest (Steps s) r h = h
  part_answers t f fs rest dest (Retags p kind n) r h = h
  part_answers t f fs rest dest (Copies d s n) r h = goes_on t f fs rest (copy_after untouched r.plain) (copy_done n (copy_after untouched r.plain)) h
  part_answers t f fs rest dest (Calls k xs u attr) r h = h
  part_answers t f fs rest dest (Joins c u attr) r h = h

  term_answers : (t : Source) (f : Frame) (fs : List Frame) (j : Jump) → EndIsOwn t.over → EndIsOwn (term_answer x.tracked t f fs j).over
  term_answers t f fs (jump.Ret v at) h = leaves t (record f { owned = released f.owned }) fs (returned_value f.env v) (release_ask (released f.owned)) h
  term_answers t f fs (jump.Br goal) h = h
  term_answers t f fs (jump.CondBr v first second) h = h
  term_answers t f fs jump.Unreachable h = h

  ready_answers : (t : Source) (f : Frame) (fs : List Frame) (is : List Inst) (r : Reply) → EndIsOwn t.over → EndIsOwn (ready_answer x t f fs is r).over
  ready_answers t f fs [] r h = term_answers t f fs f.term h
  ready_answers t f fs (i ∷ rest) r h = part_answers t f fs rest i.dest (op_part x f.function (suc (length fs)) f.env i.op) r h

  copying_answers : (t : Source) (f : Frame) (fs : List Frame) (rest : List Inst) (p : Part) (pr : Progress) (r : Reply) → EndIsOwn t.over → EndIsOwn (copying_part t f fs rest p pr r).over
  copying_answers t f fs rest (Copies d s n) pr r h = goes_on t f fs rest (copy_after pr r.plain) (copy_done n (copy_after pr r.plain)) h
  copying_answers t f fs rest (Gives v) pr r h = h
  copying_answers t f fs rest (Fails w) pr r h = h
  copying_answers t f fs rest (Steps s) pr r h = h
  copying_answers t f fs rest (Retags p kind n) pr r h = h
  copying_answers t f fs rest (Calls k xs u attr) pr r h = h
  copying_answers t f fs rest (Joins c u attr) pr r h = h

  copies_answer : (t : Source) (f : Frame) (fs : List Frame) (is : List Inst) (pr : Progress) (r : Reply) → EndIsOwn t.over → EndIsOwn (copying_answer x t f fs is pr r).over
  copies_answer t f fs [] pr r h = h
  copies_answer t f fs (i ∷ rest) pr r h = copying_answers t f fs rest (op_part x f.function (suc (length fs)) f.env i.op) pr r h

  enters_answer : (t : Source) (f : Frame) (fs : List Frame) (ps : List Param) (r : Reply) → EndIsOwn t.over → EndIsOwn (entering_answer t f fs ps r).over
  enters_answer t f fs [] r h = h
  enters_answer t f fs (p ∷ ps) r h = h

  doing_answers : (t : Source) (f : Frame) (fs : List Frame) (d : Doing) (r : Reply) → EndIsOwn t.over → EndIsOwn (doing_answer x t f fs d r).over
  doing_answers t f fs Ready r h = ready_answers t f fs f.insts r h
  doing_answers t f fs (Entering ps) r h = enters_answer t f fs ps r h
  doing_answers t f fs (Copying pr) r h = copies_answer t f fs f.insts pr r h
  doing_answers t f fs (Waiting dest u attr) r h = h
  doing_answers t f fs (Retagging dest v a) r h = h
  doing_answers t f fs (Leaving v) r h = leaves t (record f { owned = released f.owned }) fs v (release_ask (released f.owned)) h

  answers : (t : Source) (fs : List Frame) (o : Option Trap) (r : Reply) → EndIsOwn t.over → ((e : Trap) → o ≡ Some e → IsOwnTrap e) → EndIsOwn (frames_answer x t fs o r).over
  answers t [] o r h own = h
  answers t (f ∷ fs) (Some e) r h own = own e refl
  answers t (f ∷ fs) None r h own = doing_answers t f fs f.doing r h

  counted_own : (b : Bool) (s : Source) → EndIsOwn s.over → EndIsOwn (counted_if b s).over
  counted_own true s h = h
  counted_own false s h = h

  step_child : (s : Step) → EndIsOwn (part_child x (Steps s)).over
  step_child (Spawns k xs) = tt
  step_child (Makes n place) = tt
  step_child (Accesses p a) = tt
  step_child (Prints v) = tt
  step_child (Hosts n a b) = tt

  part_childs : (p : Part) → EndIsOwn (part_child x p).over
  part_childs (Steps s) = step_child s
  part_childs (Gives v) = tt
  part_childs (Fails w) = tt
  part_childs (Retags p kind n) = tt
  part_childs (Copies d s n) = tt
  part_childs (Calls k xs ty attr) = tt
  part_childs (Joins c ty attr) = tt

  inst_childs : (f : Frame) (depth : ℕ) (is : List Inst) → EndIsOwn (insts_child x f depth is).over
  inst_childs f depth [] = tt
  inst_childs f depth (i ∷ is) = part_childs (op_part x f.function depth f.env i.op)

  childs : (fs : List Frame) → EndIsOwn (frames_child x fs).over
  childs [] = tt
  childs (f ∷ fs) = inst_childs f (suc (length fs)) f.insts

plain_own : (p : Plain) → PlainIsOwn p → (e : Trap) → trap_of p ≡ Some e → IsOwnTrap e
plain_own (plain.Trapped t) own e is = let same : t ≡ e = cc in subst IsOwnTrap same own
plain_own (plain.Made a) own e is = absurd (let z : None ≡ Some e = is in cc)
plain_own (plain.Value v) own e is = absurd (let z : None ≡ Some e = is in cc)
plain_own (plain.Copied p) own e is = absurd (let z : None ≡ Some e = is in cc)
plain_own plain.Done own e is = absurd (let z : None ≡ Some e = is in cc)
plain_own (plain.Retagged b) own e is = absurd (let z : None ≡ Some e = is in cc)
plain_own (plain.Spawned c) own e is = absurd (let z : None ≡ Some e = is in cc)

pub traps_are_own : (x : Setting) → TrapLaw x
traps_are_own x = record {
  start = λ k args. tt;
  child = λ s. childs x s.frames;
  turn = λ s h. turns x (counted s) s.frames h;
  after = λ s r h own. answers x (counted_if (source_begins s) s) s.frames (trap_of r.plain) r (counted_own x (source_begins s) s h) (plain_own r.plain own);
  asks = λ s e h is. subst AskIsOwn is (frames_own x s.frames s.over h);
}
