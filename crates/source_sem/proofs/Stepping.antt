-- What a thread's steps count, and which children they start.
use Rattle.std.proofs.Common.{◌≡◌, ℕ, suc, ◌<◌, ◌≤◌, arith, List, [], ◌∷◌, Bool, true, false, refl, sym, ap, subst, ◌∙◌, length}
use Rattle.std.specs.Prelude.{Option, Some, None}
use Rattle.history.specs.declared.ask.Arg.{Arg}
use Rattle.history.specs.declared.ask.Ask.{Ask}
use Rattle.history.specs.declared.ask.Ask.TheVariants as ask
use Rattle.history.specs.declared.ask.MachineEnd.{MachineEnd}
use Rattle.history.specs.declared.entry.Entry.{Entry}
use Rattle.history.specs.declared.entry.Plain.{Plain}
use Rattle.history.specs.declared.entry.Plain.TheVariants as plain
use Rattle.history.specs.declared.entry.Reply.{Reply}
use Rattle.history.specs.declared.entry.Request.{Request}
use Rattle.history.specs.declared.entry.Request.TheVariants as request
use Rattle.history.specs.declared.trap.Trap.{Trap}
use Rattle.history.specs.Replies.{trap_of}
use Rattle.ir_ast.specs.declared.program.Inst.{Inst}
use Rattle.ir_ast.specs.declared.program.Jump.{Jump}
use Rattle.ir_ast.specs.declared.program.Jump.TheVariants as jump
use Rattle.ir_ast.specs.declared.program.Named.{Named}
use Rattle.ir_ast.specs.declared.program.Param.{Param}
use Rattle.ir_ast.specs.declared.types.Ty.{Ty}
use Rattle.runs.specs.Machine.{MayGoOn}
use Rattle.runs.specs.Parts.{Answers, IsOnNumber, child_of, spawned_by}
use Rattle.thread_parts.specs.Copies.{Progress, untouched, copy_after, copy_done}
use Rattle.thread_parts.specs.Fits.{ReplyFits, SpawnedChild}
use Rattle.thread_parts.specs.Owned.{release_ask, released}
use Rattle.thread_parts.specs.Parts.{Part, Step, Gives, Fails, Steps, Retags, Copies, Calls, Joins, Makes, Accesses, Prints, Hosts, Spawns, step_started, step_ask, part_ask}
use Rattle.thread_parts.specs.Words.{number_in}
use Rattle.source_sem.specs.Children.{ChildLaw, with_child}
use Rattle.source_sem.specs.Counting.{CountLaw}
use Rattle.source_sem.specs.Source.{Setting, Source, source, source_answer, Frame, Doing, Ready, Entering, Copying, Waiting, Retagging, Leaving, op_part, frames_ask, doing_ask, ready_ask, term_ask, frames_type, source_begins, counted, counted_if, frames_turn, ready_turn, part_turn, term_turn, return_to, frames_answer, doing_answer, ready_answer, part_answer, term_answer, leave, leave_on, returned_value, copy_on, copying_part, copying_answer, entering_answer, part_child, insts_child, frames_child}
use Rattle.source_sem.proofs.Asks.{BeginsNoStep, doing_asks, term_asks}

-- the thread t after something that has begun no instruction; these are the children
record Now (children : List ℕ) (t after : Source) : Type 0 where
  count : after.count ≡ t.count
  children_are : after.started ≡ children

same : (t : Source) → Now t.started t t
same t = record { count = refl; children_are = refl }

returns : (tracked : Bool) (t : Source) (f : Frame) (fs : List Frame) (v : Arg) → Now t.started t (return_to tracked t f fs v)
returns tracked t f [] v = record { count = refl; children_are = refl }
returns tracked t f (g ∷ gs) v = record { count = refl; children_are = refl }

-- local turns ------------------------------------------------------------------------

module _ (x : Setting) where
  part_turns : (t : Source) (f : Frame) (fs : List Frame) (rest : List Inst) (dest : Option Named) (p : Part) → Now t.started t (part_turn x t f fs rest dest p)
  part_turns t f fs rest dest (Gives v) = record { count = refl; children_are = refl }
  part_turns t f fs rest dest (Calls k xs ty attr) = record { count = refl; children_are = refl }
  part_turns t f fs rest dest (Fails e) = same t
  part_turns t f fs rest dest (Steps s) = same t
  part_turns t f fs rest dest (Retags p kind n) = same t
  part_turns t f fs rest dest (Copies d s n) = same t
  part_turns t f fs rest dest (Joins c ty attr) = same t

  term_turns : (t : Source) (f : Frame) (fs : List Frame) (j : Jump) → Now t.started t (term_turn x t f fs j)
  term_turns t f fs (jump.Br goal) = record { count = refl; children_are = refl }
  term_turns t f fs (jump.CondBr v first second) = record { count = refl; children_are = refl }
  term_turns t f fs (jump.Ret v at) = returns x.tracked t f fs (returned_value f.env v)
  term_turns t f fs jump.Unreachable = same t

  ready_turns : (t : Source) (f : Frame) (fs : List Frame) (is : List Inst) → Now t.started t (ready_turn x t f fs is)
  ready_turns t f fs [] = term_turns t f fs f.term
  ready_turns t f fs (i ∷ rest) = part_turns t f fs rest i.dest (op_part x f.function (suc (length fs)) f.env i.op)

  turns : (t : Source) (fs : List Frame) → Now t.started t (frames_turn x t fs)
  turns t [] = same t
  turns t (f ∷ fs) = ready_turns t f fs f.insts

-- replies ------------------------------------------------------------------------------

-- the children after the reply to what was asked
abbrev started_by : Ask → Reply → List ℕ → List ℕ
started_by (ask.Spawn k) r children = number_in r.plain ∷ children
started_by other r children = children

starts_none : (a : Ask) (r : Reply) (children : List ℕ) → BeginsNoStep a → children ≡ started_by a r children
starts_none ask.Turn r children h = refl
starts_none (ask.Ended e) r children h = refl
starts_none (ask.Join c) r children h = refl
starts_none (ask.At a q) r children h = refl
starts_none (ask.Make size place) r children h = absurd h
starts_none (ask.Print v) r children h = absurd h
starts_none (ask.Host n a b) r children h = absurd h
starts_none (ask.Spawn k) r children h = absurd h

-- where no step begins, the children stay
stays : (a : Ask) (r : Reply) (t after : Source) → BeginsNoStep a → Now t.started t after → Now (started_by a r t.started) t after
stays a r t after h n = record { count = n.count; children_are = n.children_are ∙ starts_none a r t.started h }

step_starts : (s : Step) (r : Reply) (children : List ℕ) → step_started s r children ≡ started_by (step_ask s) r children
step_starts (Makes n place) r children = refl
step_starts (Accesses p a) r children = refl
step_starts (Prints v) r children = refl
step_starts (Hosts n a b) r children = refl
step_starts (Spawns k xs) r children = refl

leaves_by : (tracked : Bool) (t : Source) (f : Frame) (fs : List Frame) (v : Arg) (o : Option Ask) → Now t.started t (leave tracked t f fs v o)
leaves_by tracked t f fs v None = returns tracked t f fs v
leaves_by tracked t f fs v (Some a) = record { count = refl; children_are = refl }

leaves : (tracked : Bool) (t : Source) (f : Frame) (fs : List Frame) (v : Arg) → Now t.started t (leave_on tracked t f fs v)
leaves tracked t f fs v = leaves_by tracked t (record f { owned = released f.owned }) fs v (release_ask (released f.owned))

copies_on : (t : Source) (f : Frame) (fs : List Frame) (rest : List Inst) (pr : Progress) (b : Bool) → Now t.started t (copy_on t f fs rest pr b)
copies_on t f fs rest pr true = record { count = refl; children_are = refl }
copies_on t f fs rest pr false = record { count = refl; children_are = refl }

term_answers : (tracked : Bool) (t : Source) (f : Frame) (fs : List Frame) (j : Jump) → Now t.started t (term_answer tracked t f fs j)
term_answers tracked t f fs (jump.Ret v at) = leaves tracked t f fs (returned_value f.env v)
term_answers tracked t f fs (jump.Br goal) = same t
term_answers tracked t f fs (jump.CondBr v first second) = same t
term_answers tracked t f fs jump.Unreachable = same t

copying_answers : (t : Source) (f : Frame) (fs : List Frame) (rest : List Inst) (p : Part) (pr : Progress) (r : Reply) → Now t.started t (copying_part t f fs rest p pr r)
copying_answers t f fs rest (Copies d s n) pr r = copies_on t f fs rest (copy_after pr r.plain) (copy_done n (copy_after pr r.plain))
copying_answers t f fs rest (Gives v) pr r = same t
copying_answers t f fs rest (Fails e) pr r = same t
copying_answers t f fs rest (Steps s) pr r = same t
copying_answers t f fs rest (Retags p kind n) pr r = same t
copying_answers t f fs rest (Calls k xs ty attr) pr r = same t
copying_answers t f fs rest (Joins c ty attr) pr r = same t

enters_answer : (t : Source) (f : Frame) (fs : List Frame) (ps : List Param) (r : Reply) → Now t.started t (entering_answer t f fs ps r)
enters_answer t f fs [] r = same t
enters_answer t f fs (p ∷ ps) r = record { count = refl; children_are = refl }

module _ (x : Setting) where
  part_answers : (t : Source) (f : Frame) (fs : List Frame) (rest : List Inst) (dest : Option Named) (p : Part) (r : Reply) → Now (started_by (part_ask p) r t.started) t (part_answer x t f fs rest dest p r)
  part_answers t f fs rest dest (Steps s) r = record { count = refl; children_are = step_starts s r t.started }
  part_answers t f fs rest dest (Retags p kind n) r = record { count = refl; children_are = refl }
  part_answers t f fs rest dest (Copies d s n) r = copies_on t f fs rest (copy_after untouched r.plain) (copy_done n (copy_after untouched r.plain))
  part_answers t f fs rest dest (Joins c ty attr) r = record { count = refl; children_are = refl }
  part_answers t f fs rest dest (Gives v) r = same t
  part_answers t f fs rest dest (Fails e) r = same t
  part_answers t f fs rest dest (Calls k xs ty attr) r = same t

  ready_answers : (t : Source) (f : Frame) (fs : List Frame) (is : List Inst) (r : Reply) → Now (started_by (ready_ask x f (suc (length fs)) is) r t.started) t (ready_answer x t f fs is r)
  ready_answers t f fs [] r = stays (term_ask f f.term) r t (term_answer x.tracked t f fs f.term) (term_asks f f.term) (term_answers x.tracked t f fs f.term)
  ready_answers t f fs (i ∷ rest) r = part_answers t f fs rest i.dest (op_part x f.function (suc (length fs)) f.env i.op) r

  copies_answer : (t : Source) (f : Frame) (fs : List Frame) (is : List Inst) (pr : Progress) (r : Reply) → Now t.started t (copying_answer x t f fs is pr r)
  copies_answer t f fs [] pr r = same t
  copies_answer t f fs (i ∷ rest) pr r = copying_answers t f fs rest (op_part x f.function (suc (length fs)) f.env i.op) pr r

  doing_answers : (t : Source) (f : Frame) (fs : List Frame) (d : Doing) (r : Reply) → Now (started_by (doing_ask x f (suc (length fs)) d) r t.started) t (doing_answer x t f fs d r)
  doing_answers t f fs Ready r = ready_answers t f fs f.insts r
  doing_answers t f fs (Entering ps) r = stays _ r t _ (doing_asks x f (suc (length fs)) (Entering ps) refl) (enters_answer t f fs ps r)
  doing_answers t f fs (Copying pr) r = stays _ r t _ (doing_asks x f (suc (length fs)) (Copying pr) refl) (copies_answer t f fs f.insts pr r)
  doing_answers t f fs (Waiting dest ty attr) r = same t
  doing_answers t f fs (Retagging dest v a) r = record { count = refl; children_are = refl }
  doing_answers t f fs (Leaving v) r = stays _ r t _ (doing_asks x f (suc (length fs)) (Leaving v) refl) (leaves x.tracked t f fs v)

  answers : (t : Source) (fs : List Frame) (over : MachineEnd) (r : Reply) → Now (started_by (frames_ask x fs over) r t.started) t (frames_answer x t fs None r)
  answers t [] over r = same t
  answers t (f ∷ fs) over r = doing_answers t f fs f.doing r

  -- a trap starts none
  trapped : (t : Source) (fs : List Frame) (e : Trap) (r : Reply) → Now t.started t (frames_answer x t fs (Some e) r)
  trapped t [] e r = same t
  trapped t (f ∷ fs) e r = record { count = refl; children_are = refl }

  counts_on : (t : Source) (fs : List Frame) (over : MachineEnd) (o : Option Trap) (r : Reply) → (frames_answer x t fs o r).count ≡ t.count
  counts_on t fs over None r = (answers t fs over r).count
  counts_on t fs over (Some e) r = (trapped t fs e r).count

-- the entry's child ---------------------------------------------------------------------

child_none : (r : Request) (p : Plain) (e : Trap) → trap_of p ≡ Some e → spawned_by r p ≡ None
child_none (request.Spawn k) (plain.Trapped t) e is = refl
child_none (request.Spawn k) (plain.Spawned c) e is = cc
child_none (request.Spawn k) (plain.Made a) e is = refl
child_none (request.Spawn k) (plain.Value v) e is = refl
child_none (request.Spawn k) (plain.Copied piece) e is = refl
child_none (request.Spawn k) plain.Done e is = refl
child_none (request.Spawn k) (plain.Retagged b) e is = refl
child_none _ p e is = refl

numbered_none : (r : Request) (p : Plain) → IsOnNumber r → spawned_by r p ≡ None
numbered_none (request.Spawn k) p on = absurd on
numbered_none _ p on = refl

spawned_is : (k : ℕ) (p : Plain) → SpawnedChild p → spawned_by (request.Spawn k) p ≡ Some (number_in p)
spawned_is k (plain.Spawned c) h = refl
spawned_is k (plain.Made a) h = absurd h
spawned_is k (plain.Value v) h = absurd h
spawned_is k (plain.Copied piece) h = absurd h
spawned_is k plain.Done h = absurd h
spawned_is k (plain.Retagged b) h = absurd h
spawned_is k (plain.Trapped e) h = absurd h

requested : (e : Entry) (r : Request) → e.request ≡ r → spawned_by r e.reply.plain ≡ None → child_of e ≡ None
requested e r is none = ap (λ (q : Request). spawned_by q e.reply.plain) is ∙ none

-- what an entry starts is what its request asks for
starts_child : (a : Ask) (e : Entry) (ty : Option Ty) (children : List ℕ) → Answers a e → ReplyFits ty e e.request → started_by a e.reply children ≡ with_child (child_of e) children
starts_child ask.Turn e ty children h fits = absurd h
starts_child (ask.Ended over) e ty children h fits = absurd h
starts_child (ask.Make size place) e ty children h fits = ap (λ o. with_child o children) (sym (requested e (request.Make size place) h refl))
starts_child (ask.At a r) e ty children h fits = ap (λ o. with_child o children) (sym (requested e r h.0 (numbered_none r e.reply.plain h.2)))
starts_child (ask.Print v) e ty children h fits = ap (λ o. with_child o children) (sym (requested e (request.Print v) h.0 refl))
starts_child (ask.Host n a b) e ty children h fits = ap (λ o. with_child o children) (sym (requested e (request.Host n a b) h.0 refl))
starts_child (ask.Join c) e ty children h fits = ap (λ o. with_child o children) (sym (requested e (request.Join c) h.0 refl))
starts_child (ask.Spawn k) e ty children h fits =
    let fit : SpawnedChild e.reply.plain = subst (ReplyFits ty e) h.0 fits in
    let child : child_of e ≡ Some (number_in e.reply.plain) = ap (λ (q : Request). spawned_by q e.reply.plain) h.0 ∙ spawned_is k e.reply.plain fit in
    ap (λ o. with_child o children) (sym child)

module _ (x : Setting) where
  count_keeps : (b : Bool) (s : Source) → (counted_if b s).started ≡ s.started
  count_keeps true s = refl
  count_keeps false s = refl

  gains : (t : Source) (fs : List Frame) (over : MachineEnd) (o : Option Trap) (e : Entry) (ty : Option Ty) → trap_of e.reply.plain ≡ o → Answers (frames_ask x fs over) e → ReplyFits ty e e.request
      → (frames_answer x t fs o e.reply).started ≡ with_child (child_of e) t.started
  gains t fs over None e ty is h fits = (answers x t fs over e.reply).children_are ∙ starts_child (frames_ask x fs over) e ty t.started h fits
  gains t fs over (Some w) e ty is h fits = (trapped x t fs w e.reply).children_are ∙ ap (λ o. with_child o t.started) (sym (child_none e.request e.reply.plain w is))

  -- new threads -----------------------------------------------------------------------

  record IsNew (s : Source) : Type 0 where
    count : s.count ≡ 0
    children : s.started ≡ []

  step_child : (s : Step) → IsNew (part_child x (Steps s))
  step_child (Spawns k xs) = record { count = refl; children = refl }
  step_child (Makes n place) = record { count = refl; children = refl }
  step_child (Accesses p a) = record { count = refl; children = refl }
  step_child (Prints v) = record { count = refl; children = refl }
  step_child (Hosts n a b) = record { count = refl; children = refl }

  part_childs : (p : Part) → IsNew (part_child x p)
  part_childs (Steps s) = step_child s
  part_childs (Gives v) = record { count = refl; children = refl }
  part_childs (Fails w) = record { count = refl; children = refl }
  part_childs (Retags p kind n) = record { count = refl; children = refl }
  part_childs (Copies d s n) = record { count = refl; children = refl }
  part_childs (Calls k xs ty attr) = record { count = refl; children = refl }
  part_childs (Joins c ty attr) = record { count = refl; children = refl }

  inst_childs : (f : Frame) (depth : ℕ) (is : List Inst) → IsNew (insts_child x f depth is)
  inst_childs f depth [] = record { count = refl; children = refl }
  inst_childs f depth (i ∷ is) = part_childs (op_part x f.function depth f.env i.op)

  childs : (fs : List Frame) → IsNew (frames_child x fs)
  childs [] = record { count = refl; children = refl }
  childs (f ∷ fs) = inst_childs f (suc (length fs)) f.insts

pub instructions_count : (x : Setting) → CountLaw x
instructions_count x = record {
  start = λ k args. refl;
  child = λ s. (childs x s.frames).count;
  turn = λ s. (turns x (counted s) s.frames).count;
  after = λ s r. counts_on x (counted_if (source_begins s) s) s.frames s.over (trap_of r.plain) r;
}

pub spawns_start : (x : Setting) → ChildLaw x
spawns_start x = record {
  start = λ k args. refl;
  child = λ s. (childs x s.frames).children;
  turn = λ s. (turns x (counted s) s.frames).children_are;
  after = λ s e h fits. gains x (counted_if (source_begins s) s) s.frames s.over (trap_of e.reply.plain) e (frames_type x s.frames) refl h fits ∙ ap (with_child (child_of e)) (count_keeps x (source_begins s) s);
}

-- a thread that may go on has counted no more than its limit after its next step
counted_within : (b : Bool) (s : Source) (limit : ℕ) → (b ≡ true → s.count < limit) → s.count ≤ limit → (counted_if b s).count ≤ limit
counted_within true s limit may within = let less = may refl in omega (arith, less)
counted_within false s limit may within = within

pub counts_within : (x : Setting) (s : Source) (r : Reply) (limit : ℕ) → MayGoOn (source x) limit s → s.count ≤ limit → (source_answer x s r).count ≤ limit
counts_within x s r limit may within = subst (λ n. n ≤ limit) (sym ((instructions_count x).after s r)) (counted_within (source_begins s) s limit may within)
