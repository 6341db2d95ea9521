-- The plain thread mirrors the source thread.
use Rattle.std.proofs.Common.{◌≡◌, ℕ, suc, ◌+◌, List, [], ◌∷◌, length, Option, Some, None, Bool, true, false, refl, sym, ap, ◌∙◌, subst, if◌then◌else◌, slice_get}
use Rattle.std.specs.Str.{bytes_eq}
use Rattle.history.specs.declared.ask.Arg.{Arg}
use Rattle.history.specs.declared.ask.Ask.{Ask}
use Rattle.history.specs.declared.ask.Ask.TheVariants as ask
use Rattle.history.specs.declared.entry.Entry.{Entry}
use Rattle.history.specs.declared.ask.MachineEnd.TheVariants as end
use Rattle.history.specs.declared.entry.Plain.{Plain}
use Rattle.bsan_ids.specs.declared.numbers.Prov.{Prov}
use Rattle.history.specs.declared.entry.Reply.{Reply}
use Rattle.history.specs.declared.entry.Request.TheVariants as request
use Rattle.history.specs.declared.entry.Plain.TheVariants as plain
use Rattle.history.specs.declared.trap.Trap.{Trap}
use Rattle.ir_ast.specs.declared.types.Ty.{Ty}
use Rattle.ir_ast.specs.declared.types.Ty.TheVariants.{Int, Ptr}
use Rattle.ir_ast.specs.declared.types.Attr.{Attr}
use Rattle.ir_ast.specs.declared.program.Block.{Block}
use Rattle.ir_ast.specs.declared.program.Function.{Function}
use Rattle.ir_ast.specs.declared.program.Goal.{Goal}
use Rattle.ir_ast.specs.declared.program.Inst.{Inst}
use Rattle.ir_ast.specs.declared.program.Jump.{Jump}
use Rattle.ir_ast.specs.declared.program.Jump.TheVariants as jump
use Rattle.ir_ast.specs.declared.program.Named.{Named}
use Rattle.ir_ast.specs.declared.program.Param.{Param}
use Rattle.ir_ast.specs.declared.program.TypedVal.{TypedVal}
use Rattle.runs.specs.Parts.{Answers}
use Rattle.runs.specs.Machine.{Settles}
use Rattle.history.specs.Replies.{trap_of}
use Rattle.runs.specs.Erasure.{Follows, is_left_out}
use Rattle.source_sem.specs.Env.{Env, value_in, operand, args_of, with_value, bind, put, put_some}
use Rattle.history.specs.Pieces.{Byte}
use Rattle.perm_table.specs.declared.Guard.TheVariants.{Free}
use Rattle.thread_parts.specs.Parts.{Access, Loads, Stores, Modifies, Compares, Frees, access_request, retag_ask, Part, Step, Gives, Fails, Steps, Retags, Copies, Calls, Joins, Makes, Accesses, Prints, Hosts, Spawns, part_ask, step_ask, makes_step, chosen}
use Rattle.thread_parts.specs.Owned.{protect, nothing_owned, Made, Owned, release_by, released_by}
use Rattle.thread_parts.specs.Copies.{copy_ask_by, Progress}
use Rattle.ir_ast.specs.Numbers.{block_place, number_of_block, number_of_function}
use Rattle.source_sem.specs.Source.{has_step, entering_answer, is_ready, frames_begin, copying_ask, nowhere, Setting, Source, Frame, Doing, Ready, Entering, Copying, Waiting, Retagging, Leaving, op_part, source, source_ask, source_turn, source_answer, source_start, plain_setting, in_block, goto_in, goto, entering, to_retag, frame_of, taken, result_step, resumed_by, resumed, at_frames, return_to, returned_value, frames_ask, doing_ask, ready_ask, term_ask, entry_ask, entering_ask, copying_by, part_turn, frames_turn, counted, counted_if, leave_with, leave_on, part_answer, term_answer, ready_answer, doing_answer, frames_answer, retagged, entered, part_child, insts_child, release_or}
use Rattle.source_sem.specs.Plain.{erased_arg, erased_args, Reads, erased_stack, erased_owned, erased_option, plain_part, plain_doing, plain_frame, CallerMirrors, IsWaiting, CallersMirror, plain_rest, LeavingMirrors, TopMirrors, AllAttrs, HasAttr, IsBeside, MirrorsBy, Mirrors}
use Rattle.source_sem.proofs.Writes.{value_in-with_value}
use Rattle.source_sem.proofs.Reading.{bytes_eq_same, arg_at_erased, reads_over, reads_some, reads_bind, read_operand, read_arg, read_args, part_alike, none_to_retag}

-- a frame in its parts
abbrev pub fr : ℕ → List Inst → Jump → ℕ → Env → Owned → Doing → Frame
fr k is j n env o d = record { function = k; insts = is; term = j; number = n; env = env; owned = o; doing = d }

same_length : (fs gs : List Frame) → CallersMirror fs gs → length gs ≡ length fs
same_length [] [] m = refl
same_length (f ∷ fs) (g ∷ gs) m = ap suc (same_length fs gs m.2)
same_length [] (g ∷ gs) m = absurd m
same_length (f ∷ fs) [] m = absurd m

-- a state whose newest frame is at an instruction
pub ready_top : (s : Source) (c : ℕ) (k : ℕ) (is : List Inst) (j : Jump) (n : ℕ) (env bare : Env) (o : Owned) (fs gs : List Frame)
    → Reads env bare → CallersMirror fs gs → Mirrors (at_frames s (fr k is j n env o Ready ∷ fs)) (plain_rest s c (fr k is j n bare (erased_owned o) Ready ∷ gs))
ready_top s c k is j n env bare o fs gs reads callers = record { bare = bare; below = gs; count = c; reads = reads; callers = callers; beside = tt; top = refl }

-- results and returns

beside_put : (o : Owned) (dest : Option Named) (v : Arg) (a : Attr) (bare : Env) → IsBeside (put_some dest (Some (erased_arg v)) bare) o (Retagging dest v a)
beside_put o None v a bare = tt
beside_put o (Some r) v a bare = value_in-with_value bare r.name (erased_arg v) r.name ∙ chosen_if (bytes_eq r.name r.name) (value_in bare r.name) (bytes_eq_same r.name)
  where
    chosen_if : (b : Bool) (u : Arg) → b ≡ true → (if b then erased_arg v else u) ≡ erased_arg v
    chosen_if true u e = refl
    chosen_if false u e = cc

taken_erased : (ty : Option Ty) (v : Arg) → taken ty (erased_arg v) ≡ erased_option (taken ty v)
taken_erased None v = refl
taken_erased (Some ty) v = ap (λ z. Some z) (arg_at_erased ty v)

module _ (s : Source) (c : ℕ) (k : ℕ) (is : List Inst) (j : Jump) (n : ℕ) (env bare : Env) (o : Owned) (fs gs : List Frame) (reads : Reads env bare) (callers : CallersMirror fs gs) where
  -- the source frame has its result, and may still have to retag it; the plain frame goes on
  resumed_none : (d pd : Doing) (dest : Option Named) (ty : Option Ty) (v : Arg)
      → Mirrors (at_frames s (resumed_by (fr k is j n env o d) dest ty None v ∷ fs)) (plain_rest s c (resumed_by (fr k is j n bare (erased_owned o) pd) dest ty None (erased_arg v) ∷ gs))
  resumed_none d pd dest ty v =
      subst (λ z. Mirrors (at_frames s (fr k is j (n + 1) (put_some dest (taken ty v) env) o Ready ∷ fs)) (plain_rest s c (fr k is j (n + 1) (put_some dest z bare) (erased_owned o) Ready ∷ gs))) (sym (taken_erased ty v))
      (ready_top s c k is j (n + 1) (put_some dest (taken ty v) env) (put_some dest (erased_option (taken ty v)) bare) o fs gs (reads_some env bare dest (taken ty v) reads) callers)

  resumed_attr : (b : Bool) (d pd : Doing) (dest : Option Named) (a : Attr) (v : Arg)
      → Mirrors (at_frames s (resumed_by (fr k is j n env o d) dest (Some Ptr) (if b then Some a else None) v ∷ fs)) (plain_rest s c (resumed_by (fr k is j n bare (erased_owned o) pd) dest (Some Ptr) None (erased_arg v) ∷ gs))
  resumed_attr false d pd dest a v = resumed_none d pd dest (Some Ptr) v
  resumed_attr true d pd dest a v = record {
    bare = put_some dest (Some (erased_arg v)) bare;
    below = gs;
    count = c;
    reads = reads_some env bare dest (Some v) reads;
    callers = callers;
    beside = beside_put o dest v a bare;
    top = refl;
  }

  pub resumed_alike : (b : Bool) (d pd : Doing) (dest : Option Named) (ty : Option Ty) (attr : Option Attr) (v : Arg)
      → Mirrors (at_frames s (resumed_by (fr k is j n env o d) dest ty (result_step b ty attr) v ∷ fs)) (plain_rest s c (resumed_by (fr k is j n bare (erased_owned o) pd) dest ty (result_step false ty attr) (erased_arg v) ∷ gs))
  resumed_alike b d pd dest None attr v = resumed_none d pd dest None v
  resumed_alike b d pd dest (Some (Int w)) attr v = resumed_none d pd dest (Some (Int w)) v
  resumed_alike b d pd dest (Some Ptr) None v = resumed_none d pd dest (Some Ptr) v
  resumed_alike b d pd dest (Some Ptr) (Some a) v = resumed_attr (makes_step b a.size) d pd dest a v

resumed_caller : (b : Bool) (s : Source) (c k : ℕ) (is : List Inst) (j : Jump) (n : ℕ) (env bare : Env) (o : Owned) (d : Doing) (fs gs : List Frame) (v : Arg)
    → Reads env bare → CallersMirror fs gs → IsWaiting d
    → Mirrors (at_frames s (resumed b (fr k is j n env o d) d v ∷ fs)) (plain_rest s c (resumed false (plain_frame (fr k is j n env o d) bare (plain_doing d)) (plain_doing d) (erased_arg v) ∷ gs))
resumed_caller b s c k is j n env bare o (Waiting dest ty attr) fs gs v reads callers w =
    resumed_alike s c k is j n env bare o fs gs reads callers b (Waiting dest ty attr) (Waiting dest ty attr) dest ty attr v
resumed_caller b s c k is j n env bare o Ready fs gs v reads callers w = absurd w
resumed_caller b s c k is j n env bare o (Entering ps) fs gs v reads callers w = absurd w
resumed_caller b s c k is j n env bare o (Copying pr) fs gs v reads callers w = absurd w
resumed_caller b s c k is j n env bare o (Retagging dest u a) fs gs v reads callers w = absurd w
resumed_caller b s c k is j n env bare o (Leaving u) fs gs v reads callers w = absurd w

-- which frame returns matters only by its number
return_alike : (b : Bool) (s : Source) (c : ℕ) (f g : Frame) (fs gs hs : List Frame) (v : Arg) → g.number ≡ f.number → CallersMirror fs gs
    → Mirrors (return_to b s f fs v) (return_to false (plain_rest s c hs) g gs (erased_arg v))
return_alike b s c f g [] [] hs v e callers = (c, ap (λ z. record { frames = []; over = end.Returned v.value None; last = z; count = c; started = s.started }) e)
return_alike b s c f g (f2 ∷ fs) (g2 ∷ gs) hs v e callers =
    subst (λ z. Mirrors (return_to b s f (f2 ∷ fs) v) (return_to false (plain_rest s c hs) g (z ∷ gs) (erased_arg v))) (sym callers.1.is)
    (resumed_caller b s c f2.function f2.insts f2.term f2.number f2.env callers.1.bare f2.owned f2.doing fs gs v callers.1.reads callers.2 callers.0)
return_alike b s c f g [] (g2 ∷ gs) hs v e callers = absurd callers
return_alike b s c f g (f2 ∷ fs) [] hs v e callers = absurd callers

return_same : (s : Source) (c : ℕ) (f g : Frame) (gs hs ks : List Frame) (v : Arg) → g.number ≡ f.number → return_to false (plain_rest s c hs) g gs v ≡ return_to false (plain_rest s c ks) f gs v
return_same s c f g [] hs ks v e = ap (λ z. record { frames = []; over = end.Returned v.value v.prov; last = z; count = c; started = s.started }) e
return_same s c f g (h ∷ gs) hs ks v e = refl

-- a ret goes on after one of its steps
pub leave_alike : (b : Bool) (s : Source) (c k : ℕ) (is : List Inst) (j : Jump) (n : ℕ) (env bare : Env) (o o2 po : Owned) (d pd : Doing) (fs gs hs : List Frame) (v : Arg) (cs : List ℕ) (ps : List Prov) (ms : List Made)
    → Reads env bare → CallersMirror fs gs
    → Mirrors (leave_with b s (fr k is j n env o d) fs v (record { children = cs; protectors = ps; stack = ms })) (leave_with false (plain_rest s c hs) (fr k is j n bare po pd) gs (erased_arg v) (record { children = cs; protectors = []; stack = erased_stack ms }))
leave_alike b s c k is j n env bare o o2 po d pd fs gs hs v (x ∷ cs) ps ms reads callers =
    record { bare = bare; below = gs; count = c; reads = reads; callers = callers; beside = λ none. cc; top = (Leaving (erased_arg v), refl, refl) }
leave_alike b s c k is j n env bare o o2 po d pd fs gs hs v [] (p ∷ ps) [] reads callers =
    record { bare = bare; below = gs; count = c; reads = reads; callers = callers; beside = λ none. cc; top = return_same s c (fr k is j n env o d) (fr k is j n bare po pd) gs hs [] (erased_arg v) refl }
leave_alike b s c k is j n env bare o o2 po d pd fs gs hs v [] (p ∷ ps) (m ∷ ms) reads callers =
    record { bare = bare; below = gs; count = c; reads = reads; callers = callers; beside = λ none. cc; top = (Leaving (erased_arg v), refl, refl) }
leave_alike b s c k is j n env bare o o2 po d pd fs gs hs v [] [] (m ∷ ms) reads callers =
    record { bare = bare; below = gs; count = c; reads = reads; callers = callers; beside = λ none. cc; top = (Leaving (erased_arg v), refl, refl) }
leave_alike b s c k is j n env bare o o2 po d pd fs gs hs v [] [] [] reads callers =
    return_alike b s c (fr k is j n env o d) (fr k is j n bare po pd) fs gs hs v refl callers

-- blocks, functions, threads

block_alike : (s : Source) (c k : ℕ) (is : List Inst) (j : Jump) (n : ℕ) (env bare : Env) (o : Owned) (d pd : Doing) (fs gs : List Frame) (b : Option Block) (m : ℕ) (vs : List Arg)
    → Reads env bare → CallersMirror fs gs
    → Mirrors (at_frames s (in_block (fr k is j n env o d) b m vs ∷ fs)) (plain_rest s c (in_block (fr k is j n bare (erased_owned o) pd) b m (erased_args vs) ∷ gs))
block_alike s c k is j n env bare o d pd fs gs None m vs reads callers = ready_top s c k [] jump.Unreachable m env bare o fs gs reads callers
block_alike s c k is j n env bare o d pd fs gs (Some b) m vs reads callers =
    ready_top s c k b.insts b.term.jump m (bind b.params vs env) (bind b.params (erased_args vs) bare) o fs gs (reads_bind b.params vs env bare reads) callers

goto_alike : (x : Setting) (s : Source) (c k : ℕ) (is : List Inst) (j : Jump) (n : ℕ) (env bare : Env) (o : Owned) (d pd : Doing) (fs gs : List Frame) (g : Option Function) (goal : Goal)
    → Reads env bare → CallersMirror fs gs
    → Mirrors (at_frames s (goto_in x (fr k is j n env o d) g goal ∷ fs)) (plain_rest s c (goto_in (plain_setting x) (fr k is j n bare (erased_owned o) pd) g goal ∷ gs))
goto_alike x s c k is j n env bare o d pd fs gs None goal reads callers = block_alike s c k is j n env bare o d pd fs gs None n [] reads callers
goto_alike x s c k is j n env bare o d pd fs gs (Some g) goal reads callers =
    let there : Option Block = slice_get g.blocks (block_place g.blocks goal.label.name) in
    let m : ℕ = number_of_block (number_of_function 0 x.program.functions k) g.blocks (block_place g.blocks goal.label.name) in
    subst (λ z. Mirrors (at_frames s (in_block (fr k is j n env o d) there m (args_of env goal.args) ∷ fs)) (plain_rest s c (in_block (fr k is j n bare (erased_owned o) pd) there m z ∷ gs)))
    (sym (read_args env bare reads goal.args))
    (block_alike s c k is j n env bare o d pd fs gs there m (args_of env goal.args) reads callers)

has_attr : (b : Bool) (a : Option Attr) → has_step b a ≡ true → HasAttr a
has_attr b (Some a) h = tt
has_attr b None h = cc

all_by : (b c : Bool) (p : Param) (qs : List Param) → has_step b p.attr ≡ c → AllAttrs qs → AllAttrs (if c then p ∷ qs else qs)
all_by b true p qs e all = (has_attr b p.attr e, all)
all_by b false p qs e all = all

all_attrs : (b : Bool) (ps : List Param) → AllAttrs (to_retag b ps)
all_attrs b [] = tt
all_attrs b (p ∷ ps) = all_by b (has_step b p.attr) p (to_retag b ps) refl (all_attrs b ps)

entering_alike : (s : Source) (c k : ℕ) (is : List Inst) (j : Jump) (n : ℕ) (env bare : Env) (o : Owned) (fs gs : List Frame) (qs : List Param) → AllAttrs qs
    → Reads env bare → CallersMirror fs gs
    → Mirrors (at_frames s (fr k is j n env o (entering qs) ∷ fs)) (plain_rest s c (fr k is j n bare (erased_owned o) Ready ∷ gs))
entering_alike s c k is j n env bare o fs gs [] attrs reads callers = ready_top s c k is j n env bare o fs gs reads callers
entering_alike s c k is j n env bare o fs gs (q ∷ qs) attrs reads callers = record { bare = bare; below = gs; count = c; reads = reads; callers = callers; beside = attrs; top = refl }

frame_alike : (x : Setting) (s : Source) (c k : ℕ) (g : Option Function) (vs : List Arg) (fs gs : List Frame) → CallersMirror fs gs
    → Mirrors (at_frames s (frame_of x k g vs ∷ fs)) (plain_rest s c (frame_of (plain_setting x) k g (erased_args vs) ∷ gs))
frame_alike x s c k None vs fs gs callers = ready_top s c k [] jump.Unreachable 0 [] [] _ fs gs (λ r. refl) callers
frame_alike x s c k (Some g) vs fs gs callers =
    subst (λ z. Mirrors (at_frames s (frame_of x k (Some g) vs ∷ fs)) (plain_rest s c (record (frame_of (plain_setting x) k (Some g) (erased_args vs)) { doing = entering z } ∷ gs)))
    (sym (none_to_retag g.params))
    (entering_alike s c k _ _ _ (bind g.params vs []) (bind g.params (erased_args vs) []) _ fs gs (to_retag x.tracked g.params) (all_attrs x.tracked g.params) (reads_bind g.params vs [] [] (λ r. refl)) callers)

pub start_alike : (x : Setting) (k : ℕ) (vs : List Arg) → Mirrors (source_start x k vs) (source_start (plain_setting x) k (erased_args vs))
start_alike x k vs = frame_alike x (source_start x k vs) 0 k (slice_get x.program.functions k) vs [] [] tt

part_child_alike : (x : Setting) (p : Part) → Mirrors (part_child x p) (part_child (plain_setting x) (plain_part p))
part_child_alike x (Steps (Spawns k vs)) = start_alike x k vs
part_child_alike x (Steps (Makes n place)) = start_alike x 0 []
part_child_alike x (Steps (Accesses p a)) = start_alike x 0 []
part_child_alike x (Steps (Prints v)) = start_alike x 0 []
part_child_alike x (Steps (Hosts n a b)) = start_alike x 0 []
part_child_alike x (Gives v) = start_alike x 0 []
part_child_alike x (Fails t) = start_alike x 0 []
part_child_alike x (Retags p kind n) = start_alike x 0 []
part_child_alike x (Copies d t n) = start_alike x 0 []
part_child_alike x (Calls k vs ty attr) = start_alike x 0 []
part_child_alike x (Joins c ty attr) = start_alike x 0 []

-- the same part in both threads, at the plain thread's depth
pub same_part : (x : Setting) (k : ℕ) (env bare : Env) (fs gs : List Frame) → Reads env bare → CallersMirror fs gs → (i : Inst) → op_part (plain_setting x) k (suc (length gs)) bare i.op ≡ plain_part (op_part x k (suc (length fs)) env i.op)
same_part x k env bare fs gs reads callers i =
    ap (λ z. op_part (plain_setting x) k (suc z) bare i.op) (same_length fs gs callers) ∙ part_alike x k (suc (length fs)) env bare reads i.op

pub insts_child_alike : (x : Setting) (k : ℕ) (is : List Inst) (j : Jump) (n m : ℕ) (env bare : Env) (o po : Owned) (d pd : Doing) (fs gs : List Frame) → Reads env bare → CallersMirror fs gs
    → Mirrors (insts_child x (fr k is j n env o d) (suc (length fs)) is) (insts_child (plain_setting x) (fr k is j m bare po pd) (suc (length gs)) is)
insts_child_alike x k [] j n m env bare o po d pd fs gs reads callers = start_alike x 0 []
insts_child_alike x k (i ∷ is) j n m env bare o po d pd fs gs reads callers =
    subst (λ z. Mirrors (part_child x (op_part x k (suc (length fs)) env i.op)) (part_child (plain_setting x) z)) (sym (same_part x k env bare fs gs reads callers i))
    (part_child_alike x (op_part x k (suc (length fs)) env i.op))

-- local turns

module _ (x : Setting) where
  one_turn : (s p q : Source) → source_ask (plain_setting x) p ≡ ask.Turn → source_turn (plain_setting x) p ≡ q → Mirrors s q → Follows (source x) (source (plain_setting x)) Mirrors s p
  one_turn s p q h e m =
      let now : Source = source_turn (plain_setting x) p in
      let settles : Settles (source (plain_setting x)) p now = (1, (h, refl)) in
      (now, settles, subst (λ z. Mirrors s z) (sym e) m)

  no_turn : (s p : Source) → Mirrors s p → Follows (source x) (source (plain_setting x)) Mirrors s p
  no_turn s p m =
      let settles : Settles (source (plain_setting x)) p p = (0, refl) in
      (p, settles, m)

pub returned_erased : (env bare : Env) → Reads env bare → (u : Option TypedVal) → returned_value bare u ≡ erased_arg (returned_value env u)
returned_erased env bare reads None = refl
returned_erased env bare reads (Some v) = read_arg env bare reads v

pub step_steps : (s : Step) → step_ask s ≡ ask.Turn → ⊥
step_steps (Makes n place) h = cc
step_steps (Accesses p a) h = cc
step_steps (Prints v) h = cc
step_steps (Hosts n a b) h = cc
step_steps (Spawns k vs) h = cc

part_turns_plain : (q : Part) → part_ask q ≡ ask.Turn → part_ask (plain_part q) ≡ ask.Turn
part_turns_plain (Gives v) h = refl
part_turns_plain (Calls k vs ty attr) h = refl
part_turns_plain (Fails t) h = absurd (let e : ask.Ended (end.Trapped t) ≡ ask.Turn = h in cc)
part_turns_plain (Steps s) h = absurd (step_steps s h)
part_turns_plain (Retags p kind n) h = refl
part_turns_plain (Copies d s n) h = cc
part_turns_plain (Joins c ty attr) h = cc

-- a thread at an instruction, in both
module _ (x : Setting) (s : Source) (c k : ℕ) (n : ℕ) (env bare : Env) (o : Owned) (fs gs : List Frame) (reads : Reads env bare) (callers : CallersMirror fs gs) where
  turn_part : (is js : List Inst) (j : Jump) (dest : Option Named) (q : Part) → part_ask q ≡ ask.Turn
      → Mirrors (part_turn x s (fr k is j n env o Ready) fs js dest q) (part_turn (plain_setting x) (plain_rest s c (fr k is j n bare (erased_owned o) Ready ∷ gs)) (fr k is j n bare (erased_owned o) Ready) gs js dest (plain_part q))
  turn_part is js j dest (Gives v) h = ready_top s c k js j (n + 1) (put_some dest v env) (put_some dest (erased_option v) bare) o fs gs (reads_some env bare dest v reads) callers
  turn_part is js j dest (Calls k2 vs ty attr) h =
      let caller : CallerMirrors (fr k js j n env o (Waiting dest ty attr)) (fr k js j n bare (erased_owned o) (Waiting dest ty attr)) = record { bare = bare; reads = reads; is = refl } in
      frame_alike x s c k2 (slice_get x.program.functions k2) vs (fr k js j n env o (Waiting dest ty attr) ∷ fs) (fr k js j n bare (erased_owned o) (Waiting dest ty attr) ∷ gs) (tt, caller, callers)
  turn_part is js j dest (Fails t) h = absurd (let e : ask.Ended (end.Trapped t) ≡ ask.Turn = h in cc)
  turn_part is js j dest (Steps st) h = absurd (step_steps st h)
  turn_part is js j dest (Retags p kind m) h = absurd (let e : part_ask (Retags p kind m) ≡ ask.Turn = h in cc)
  turn_part is js j dest (Copies d t m) h = absurd (let e : part_ask (Copies d t m) ≡ ask.Turn = h in cc)
  turn_part is js j dest (Joins m ty attr) h = absurd (let e : part_ask (Joins m ty attr) ≡ ask.Turn = h in cc)

module _ (x : Setting) (s : Source) (c k : ℕ) (n : ℕ) (env bare : Env) (fs gs : List Frame) (reads : Reads env bare) (callers : CallersMirror fs gs) where
  turn_inst : (i : Inst) (is : List Inst) (j : Jump) (o : Owned) → part_ask (op_part x k (suc (length fs)) env i.op) ≡ ask.Turn
      → Follows (source x) (source (plain_setting x)) Mirrors (frames_turn x (counted s) (fr k (i ∷ is) j n env o Ready ∷ fs)) (plain_rest s c (fr k (i ∷ is) j n bare (erased_owned o) Ready ∷ gs))
  turn_inst i is j o h =
      let q : Part = op_part x k (suc (length fs)) env i.op in
      let pf : Frame = fr k (i ∷ is) j n bare (erased_owned o) Ready in
      let p : Source = plain_rest s c (pf ∷ gs) in
      let e : op_part (plain_setting x) k (suc (length gs)) bare i.op ≡ plain_part q = same_part x k env bare fs gs reads callers i in
      one_turn x (frames_turn x (counted s) (fr k (i ∷ is) j n env o Ready ∷ fs)) p (part_turn (plain_setting x) (counted p) pf gs is i.dest (plain_part q))
      (ap part_ask e ∙ part_turns_plain q h)
      (ap (part_turn (plain_setting x) (counted p) pf gs is i.dest) e)
      (turn_part x (counted s) (c + 1) k n env bare o fs gs reads callers (i ∷ is) is j i.dest q h)

  turn_ret : (u : Option TypedVal) (at : ℕ) (cs : List ℕ) (ps : List Prov) (ms : List Made) → release_or (release_by cs ps ms) ask.Turn ≡ ask.Turn
      → Follows (source x) (source (plain_setting x)) Mirrors (frames_turn x (counted s) (fr k [] (jump.Ret u at) n env (record { children = cs; protectors = ps; stack = ms }) Ready ∷ fs)) (plain_rest s c (fr k [] (jump.Ret u at) n bare (erased_owned (record { children = cs; protectors = ps; stack = ms })) Ready ∷ gs))
  turn_ret u at (d ∷ cs) ps ms h = absurd (let e : ask.Join (record { 0 = d }) ≡ ask.Turn = h in cc)
  turn_ret u at [] (q ∷ ps) ms h = absurd (let e : release_or (release_by [] (q ∷ ps) ms) ask.Turn ≡ ask.Turn = h in cc)
  turn_ret u at [] [] (m ∷ ms) h = absurd (let e : release_or (release_by [] [] (m ∷ ms)) ask.Turn ≡ ask.Turn = h in cc)
  turn_ret u at [] [] [] h =
      let o : Owned = record { children = []; protectors = []; stack = [] } in
      let f : Frame = fr k [] (jump.Ret u at) n env o Ready in
      let pf : Frame = fr k [] (jump.Ret u at) n bare o Ready in
      let p : Source = plain_rest s c (pf ∷ gs) in
      one_turn x (return_to x.tracked (counted s) f fs (returned_value env u)) p (return_to false (counted p) pf gs (erased_arg (returned_value env u)))
      refl
      (ap (return_to false (counted p) pf gs) (returned_erased env bare reads u))
      (return_alike x.tracked (counted s) (c + 1) f pf fs gs (pf ∷ gs) (returned_value env u) refl callers)

  turn_term : (j : Jump) (o : Owned) → term_ask (fr k [] j n env o Ready) j ≡ ask.Turn
      → Follows (source x) (source (plain_setting x)) Mirrors (frames_turn x (counted s) (fr k [] j n env o Ready ∷ fs)) (plain_rest s c (fr k [] j n bare (erased_owned o) Ready ∷ gs))
  turn_term (jump.Br goal) o h =
      let p : Source = plain_rest s c (fr k [] (jump.Br goal) n bare (erased_owned o) Ready ∷ gs) in
      one_turn x (frames_turn x (counted s) (fr k [] (jump.Br goal) n env o Ready ∷ fs)) p (source_turn (plain_setting x) p) refl refl
      (goto_alike x (counted s) (c + 1) k [] (jump.Br goal) n env bare o Ready Ready fs gs (slice_get x.program.functions k) goal reads callers)
  turn_term (jump.CondBr v g2 h2) o h =
      let j : Jump = jump.CondBr v g2 h2 in
      let pf : Frame = fr k [] j n bare (erased_owned o) Ready in
      let p : Source = plain_rest s c (pf ∷ gs) in
      let goal : Goal = chosen (operand env v).value g2 h2 in
      let way : chosen (operand bare v).value g2 h2 ≡ goal = ap (λ z. chosen z.value g2 h2) (read_operand env bare reads v) in
      one_turn x (frames_turn x (counted s) (fr k [] j n env o Ready ∷ fs)) p (at_frames (counted p) (goto (plain_setting x) pf goal ∷ gs)) refl
      (ap (λ z. at_frames (counted p) (goto (plain_setting x) pf z ∷ gs)) way)
      (goto_alike x (counted s) (c + 1) k [] j n env bare o Ready Ready fs gs (slice_get x.program.functions k) goal reads callers)
  turn_term (jump.Ret u at) o h = turn_ret u at o.children o.protectors o.stack h
  turn_term jump.Unreachable o h = absurd (let e : term_ask (fr k [] jump.Unreachable n env o Ready) jump.Unreachable ≡ ask.Turn = h in cc)

  turn_ready : (is : List Inst) (j : Jump) (o : Owned) → ready_ask x (fr k is j n env o Ready) (suc (length fs)) is ≡ ask.Turn
      → Follows (source x) (source (plain_setting x)) Mirrors (frames_turn x (counted s) (fr k is j n env o Ready ∷ fs)) (plain_rest s c (fr k is j n bare (erased_owned o) Ready ∷ gs))
  turn_ready [] j o h = turn_term j o h
  turn_ready (i ∷ is) j o h = turn_inst i is j o h

-- only an instruction of which no part is done is a local turn

entry_steps : (v : Arg) (a : Option Attr) → entry_ask v a ≡ ask.Turn → ⊥
entry_steps v None h = cc
entry_steps v (Some a) h = cc

pub entering_steps : (env : Env) (ps : List Param) → entering_ask env ps ≡ ask.Turn → ⊥
entering_steps env [] h = cc
entering_steps env (p ∷ ps) h = entry_steps (value_in env p.reg.name) p.attr h

copy_steps : (d s : Arg) (n k : ℕ) (half : Option (List Byte)) → copy_ask_by d s n k half ≡ ask.Turn → ⊥
copy_steps d s n k None h = cc
copy_steps d s n k (Some piece) h = cc

copying_steps_by : (q : Part) (pr : Progress) → copying_by q pr ≡ ask.Turn → ⊥
copying_steps_by (Copies d s n) pr h = copy_steps d s n pr.pieces pr.half h
copying_steps_by (Gives v) pr h = cc
copying_steps_by (Fails t) pr h = cc
copying_steps_by (Steps s) pr h = cc
copying_steps_by (Retags p kind n) pr h = cc
copying_steps_by (Calls k vs ty attr) pr h = cc
copying_steps_by (Joins c ty attr) pr h = cc

pub copying_steps : (x : Setting) (f : Frame) (depth : ℕ) (is : List Inst) (pr : Progress) → copying_ask x f depth is pr ≡ ask.Turn → ⊥
copying_steps x f depth [] pr h = cc
copying_steps x f depth (i ∷ is) pr h = copying_steps_by (op_part x f.function depth f.env i.op) pr h

pub release_steps : (cs : List ℕ) (ps : List Prov) (ms : List Made) → release_or (release_by cs ps ms) nowhere ≡ ask.Turn → ⊥
release_steps (d ∷ cs) ps ms h = cc
release_steps [] (p ∷ ps) ms h = cc
release_steps [] [] (m ∷ ms) h = cc
release_steps [] [] [] h = cc

turn_doing : (x : Setting) (s p : Source) (f : Frame) (d : Doing) (fs gs : List Frame) (bare : Env) (c : ℕ) → Reads f.env bare → CallersMirror fs gs
    → TopMirrors s (record f { doing = d }) bare gs d c p → doing_ask x (record f { doing = d }) (suc (length fs)) d ≡ ask.Turn
    → Follows (source x) (source (plain_setting x)) Mirrors (frames_turn x (counted s) (record f { doing = d } ∷ fs)) p
turn_doing x s p f Ready fs gs bare c reads callers top h =
    subst (λ z. Follows (source x) (source (plain_setting x)) Mirrors (frames_turn x (counted s) (record f { doing = Ready } ∷ fs)) z) (sym top)
    (turn_ready x s c f.function f.number f.env bare fs gs reads callers f.insts f.term f.owned h)
turn_doing x s p f (Entering ps) fs gs bare c reads callers top h = absurd (entering_steps f.env ps h)
turn_doing x s p f (Copying pr) fs gs bare c reads callers top h = absurd (copying_steps x (record f { doing = Copying pr }) (suc (length fs)) f.insts pr h)
turn_doing x s p f (Waiting dest ty attr) fs gs bare c reads callers top h = absurd (let e : nowhere ≡ ask.Turn = h in cc)
turn_doing x s p f (Retagging dest v a) fs gs bare c reads callers top h = absurd (let e : retag_ask v a.kind Free a.size ≡ ask.Turn = h in cc)
turn_doing x s p f (Leaving v) fs gs bare c reads callers top h = absurd (release_steps f.owned.children f.owned.protectors f.owned.stack h)

turn_frames : (x : Setting) (s p : Source) (fs : List Frame) → MirrorsBy s fs p → frames_ask x fs s.over ≡ ask.Turn → Follows (source x) (source (plain_setting x)) Mirrors (frames_turn x (counted s) fs) p
turn_frames x s p [] m h = absurd (let e : ask.Ended s.over ≡ ask.Turn = h in cc)
turn_frames x s p (f ∷ fs) m h = turn_doing x s p f f.doing fs m.below m.bare m.count m.reads m.callers m.top h

pub turns : (x : Setting) (s p : Source) → Mirrors s p → source_ask x s ≡ ask.Turn → Follows (source x) (source (plain_setting x)) Mirrors (source_turn x s) p
turns x s p m h = turn_frames x s p s.frames m h

-- steps that the plain thread doesn't make

is_protect_erased : (p : Plain) (c : Option Prov) (o : Owned) → erased_owned (protect p c o) ≡ erased_owned o
is_protect_erased (plain.Retagged true) (Some q) o = refl
is_protect_erased (plain.Retagged true) None o = refl
is_protect_erased (plain.Retagged false) c o = refl
is_protect_erased (plain.Made a) c o = refl
is_protect_erased (plain.Value v) c o = refl
is_protect_erased (plain.Copied piece) c o = refl
is_protect_erased plain.Done c o = refl
is_protect_erased (plain.Spawned t) c o = refl
is_protect_erased (plain.Trapped t) c o = refl

reads_retagged : (env bare : Env) (dest : Option Named) (v : Arg) (a : Attr) (c : Option Prov) → Reads env bare → IsBeside bare nothing_owned (Retagging dest v a) → Reads (put dest (record { value = v.value; prov = c }) env) bare
reads_retagged env bare None v a c reads beside = reads
reads_retagged env bare (Some r) v a c reads beside = reads_over env bare r.name (record { value = v.value; prov = c }) reads beside

-- what is asked is a retag or the end of a protector
abbrev LeftOut : Ask → Type 0
LeftOut (ask.At a r) = is_left_out r ≡ true
LeftOut other = ⊥

left_out_of : (a : Ask) (e : Entry) → Answers a e → is_left_out e.request ≡ true → LeftOut a
left_out_of (ask.At a r) e h l = ap is_left_out (sym h.0) ∙ l
left_out_of ask.Turn e h l = h
left_out_of (ask.Ended why) e h l = h
left_out_of (ask.Make n place) e h l = let x : is_left_out (request.Make n place) ≡ true = ap is_left_out (sym h) ∙ l in cc
left_out_of (ask.Print v) e h l = let x : is_left_out (request.Print v) ≡ true = ap is_left_out (sym h.0) ∙ l in cc
left_out_of (ask.Host n a b) e h l = let x : is_left_out (request.Host n a b) ≡ true = ap is_left_out (sym h.0) ∙ l in cc
left_out_of (ask.Spawn k) e h l = let x : is_left_out (request.Spawn k) ≡ true = ap is_left_out (sym h.0) ∙ l in cc
left_out_of (ask.Join c) e h l = let x : is_left_out (request.Join c) ≡ true = ap is_left_out (sym h.0) ∙ l in cc

access_kept : (at : ℕ) (prov : Option Prov) (a : Access) → is_left_out (access_request at prov a) ≡ true → ⊥
access_kept at prov (Loads ty) h = cc
access_kept at prov (Stores ty v) h = cc
access_kept at prov (Modifies w o v) h = cc
access_kept at prov (Compares w e v) h = cc
access_kept at prov Frees h = cc

step_kept : (s : Step) → LeftOut (step_ask s) → ⊥
step_kept (Makes n place) h = h
step_kept (Accesses p a) h = access_kept _ p.prov a h
step_kept (Prints v) h = h
step_kept (Hosts n a b) h = h
step_kept (Spawns k vs) h = h

copy_kept : (d s : Arg) (n k : ℕ) (half : Option (List Byte)) → LeftOut (copy_ask_by d s n k half) → ⊥
copy_kept d s n k None h = let e : false ≡ true = h in cc
copy_kept d s n k (Some piece) h = let e : false ≡ true = h in cc

copying_kept : (q : Part) (pr : Progress) → LeftOut (copying_by q pr) → ⊥
copying_kept (Copies d s n) pr h = copy_kept d s n pr.pieces pr.half h
copying_kept (Gives v) pr h = h
copying_kept (Fails t) pr h = h
copying_kept (Steps s) pr h = h
copying_kept (Retags p kind n) pr h = h
copying_kept (Calls k vs ty attr) pr h = h
copying_kept (Joins c ty attr) pr h = h

copyings_kept : (x : Setting) (f : Frame) (depth : ℕ) (is : List Inst) (pr : Progress) → LeftOut (copying_ask x f depth is pr) → ⊥
copyings_kept x f depth [] pr h = h
copyings_kept x f depth (i ∷ is) pr h = copying_kept (op_part x f.function depth f.env i.op) pr h

module _ (x : Setting) (s : Source) (c k : ℕ) (n : ℕ) (env bare : Env) (fs gs : List Frame) (reads : Reads env bare) (callers : CallersMirror fs gs) where
  left_part : (i : Inst) (is : List Inst) (j : Jump) (o : Owned) (r : Reply) (q : Part) → op_part (plain_setting x) k (suc (length gs)) bare i.op ≡ plain_part q → LeftOut (part_ask q)
      → Follows (source x) (source (plain_setting x)) Mirrors (part_answer x (counted s) (fr k (i ∷ is) j n env o Ready) fs is i.dest q r) (plain_rest s c (fr k (i ∷ is) j n bare (erased_owned o) Ready ∷ gs))
  left_part i is j o r (Retags p kind m) e h =
      let pf : Frame = fr k (i ∷ is) j n bare (erased_owned o) Ready in
      let p0 : Source = plain_rest s c (pf ∷ gs) in
      let v : Arg = record { value = p.value; prov = r.carried } in
      one_turn x (part_answer x (counted s) (fr k (i ∷ is) j n env o Ready) fs is i.dest (Retags p kind m) r) p0 (part_turn (plain_setting x) (counted p0) pf gs is i.dest (Gives (Some (erased_arg p))))
      (ap part_ask e)
      (ap (part_turn (plain_setting x) (counted p0) pf gs is i.dest) e)
      (retag_done i.dest v)
    where
      retag_done : (dest : Option Named) (v : Arg) → Mirrors (at_frames (counted s) (fr k is j (n + 1) (put dest v env) o Ready ∷ fs)) (plain_rest (counted s) (c + 1) (fr k is j (n + 1) (put dest (erased_arg v) bare) (erased_owned o) Ready ∷ gs))
      retag_done dest v = ready_top (counted s) (c + 1) k is j (n + 1) (put dest v env) (put dest (erased_arg v) bare) o fs gs (reads_some env bare dest (Some v) reads) callers
  left_part i is j o r (Steps st) e h = absurd (step_kept st h)
  left_part i is j o r (Copies d t m) e h = absurd (copy_kept d t m 0 None h)
  left_part i is j o r (Gives v) e h = absurd h
  left_part i is j o r (Fails t) e h = absurd h
  left_part i is j o r (Calls k2 vs ty attr) e h = absurd h
  left_part i is j o r (Joins m ty attr) e h = absurd h

  -- a ret of which the first part is the end of a protector
  left_ret : (u : Option TypedVal) (at : ℕ) (cs : List ℕ) (ps : List Prov) (ms : List Made) → LeftOut (release_or (release_by cs ps ms) ask.Turn)
      → Follows (source x) (source (plain_setting x)) Mirrors
      (leave_with x.tracked (counted s) (fr k [] (jump.Ret u at) n env (record { children = cs; protectors = ps; stack = ms }) Ready) fs (returned_value env u) (released_by cs ps ms))
      (plain_rest s c (fr k [] (jump.Ret u at) n bare (record { children = cs; protectors = []; stack = erased_stack ms }) Ready ∷ gs))
  left_ret u at (d ∷ cs) ps ms h = absurd h
  left_ret u at [] [] (m ∷ ms) h = absurd (let e : false ≡ true = h in cc)
  left_ret u at [] [] [] h = absurd h
  left_ret u at [] (q ∷ ps) (m ∷ ms) h =
      no_turn x (leave_with x.tracked (counted s) (fr k [] (jump.Ret u at) n env (record { children = []; protectors = q ∷ ps; stack = m ∷ ms }) Ready) fs (returned_value env u) (record { children = []; protectors = ps; stack = m ∷ ms })) (plain_rest s c (fr k [] (jump.Ret u at) n bare (record { children = []; protectors = []; stack = erased_stack (m ∷ ms) }) Ready ∷ gs)) (late ps)
    where
      late : (ps : List Prov) → Mirrors (leave_with x.tracked (counted s) (fr k [] (jump.Ret u at) n env (record { children = []; protectors = q ∷ ps; stack = m ∷ ms }) Ready) fs (returned_value env u) (record { children = []; protectors = ps; stack = m ∷ ms })) (plain_rest s c (fr k [] (jump.Ret u at) n bare (record { children = []; protectors = []; stack = erased_stack (m ∷ ms) }) Ready ∷ gs))
      late [] = record { bare = bare; below = gs; count = c; reads = reads; callers = callers; beside = λ none. cc; top = (Ready, returned_erased env bare reads u, refl) }
      late (q2 ∷ ps) = record { bare = bare; below = gs; count = c; reads = reads; callers = callers; beside = λ none. cc; top = (Ready, returned_erased env bare reads u, refl) }
  left_ret u at [] (q ∷ ps) [] h =
      let f : Frame = fr k [] (jump.Ret u at) n env (record { children = []; protectors = q ∷ ps; stack = [] }) Ready in
      let pf : Frame = fr k [] (jump.Ret u at) n bare nothing_owned Ready in
      let p : Source = plain_rest s c (pf ∷ gs) in
      one_turn x (leave_with x.tracked (counted s) f fs (returned_value env u) (record { children = []; protectors = ps; stack = [] })) p (return_to false (counted p) pf gs (erased_arg (returned_value env u)))
      refl
      (ap (return_to false (counted p) pf gs) (returned_erased env bare reads u))
      (gone ps)
    where
      gone : (ps : List Prov) → Mirrors (leave_with x.tracked (counted s) (fr k [] (jump.Ret u at) n env (record { children = []; protectors = q ∷ ps; stack = [] }) Ready) fs (returned_value env u) (record { children = []; protectors = ps; stack = [] })) (return_to false (plain_rest (counted s) (c + 1) (fr k [] (jump.Ret u at) n bare nothing_owned Ready ∷ gs)) (fr k [] (jump.Ret u at) n bare nothing_owned Ready) gs (erased_arg (returned_value env u)))
      gone [] = return_alike x.tracked (counted s) (c + 1) (fr k [] (jump.Ret u at) n env nothing_owned Ready) (fr k [] (jump.Ret u at) n bare nothing_owned Ready) fs gs (fr k [] (jump.Ret u at) n bare nothing_owned Ready ∷ gs) (returned_value env u) refl callers
      gone (q2 ∷ ps) = record { bare = bare; below = gs; count = c + 1; reads = reads; callers = callers; beside = λ none. cc; top = return_same (counted s) (c + 1) (fr k [] (jump.Ret u at) n env nothing_owned Ready) (fr k [] (jump.Ret u at) n bare nothing_owned Ready) gs (fr k [] (jump.Ret u at) n bare nothing_owned Ready ∷ gs) [] (erased_arg (returned_value env u)) refl }

  left_term : (j : Jump) (o : Owned) → LeftOut (term_ask (fr k [] j n env o Ready) j)
      → Follows (source x) (source (plain_setting x)) Mirrors (term_answer x.tracked (counted s) (fr k [] j n env o Ready) fs j) (plain_rest s c (fr k [] j n bare (erased_owned o) Ready ∷ gs))
  left_term (jump.Br goal) o h = absurd h
  left_term (jump.CondBr v g2 h2) o h = absurd h
  left_term (jump.Ret u at) o h = left_ret u at o.children o.protectors o.stack h
  left_term jump.Unreachable o h = absurd h

  left_ready : (is : List Inst) (j : Jump) (o : Owned) (r : Reply) → LeftOut (ready_ask x (fr k is j n env o Ready) (suc (length fs)) is)
      → Follows (source x) (source (plain_setting x)) Mirrors (ready_answer x (counted s) (fr k is j n env o Ready) fs is r) (plain_rest s c (fr k is j n bare (erased_owned o) Ready ∷ gs))
  left_ready [] j o r h = left_term j o h
  left_ready (i ∷ is) j o r h = left_part i is j o r (op_part x k (suc (length fs)) env i.op) (same_part x k env bare fs gs reads callers i) h

  left_entering : (is : List Inst) (j : Jump) (o : Owned) (ps : List Param) (r : Reply) → IsBeside bare o (Entering ps) → LeftOut (entering_ask env ps)
      → Mirrors (entering_answer s (fr k is j n env o (Entering ps)) fs ps r) (plain_rest s c (fr k is j n bare (erased_owned o) Ready ∷ gs))
  left_entering is j o [] r beside h = absurd h
  left_entering is j o (q ∷ ps) r beside h =
      subst (λ z. Mirrors (at_frames s (entered (fr k is j n env o (Entering (q ∷ ps))) q ps r ∷ fs)) (plain_rest s c (fr k is j n bare z Ready ∷ gs))) (is_protect_erased r.plain r.carried o)
      (entering_alike s c k is j n (with_value q.reg.name (record { value = (value_in env q.reg.name).value; prov = r.carried }) env) bare (protect r.plain r.carried o) fs gs ps beside.1
      (reads_over env bare q.reg.name (record { value = (value_in env q.reg.name).value; prov = r.carried }) reads (reads q.reg.name)) callers)

  left_leaving : (is : List Inst) (j : Jump) (v : Arg) (p : Source) (cs : List ℕ) (ps : List Prov) (ms : List Made) → LeftOut (release_or (release_by cs ps ms) nowhere)
      → LeavingMirrors s (fr k is j n env (record { children = cs; protectors = ps; stack = ms }) (Leaving v)) bare gs v cs ms c p
      → Mirrors (leave_with x.tracked s (fr k is j n env (record { children = cs; protectors = ps; stack = ms }) (Leaving v)) fs v (released_by cs ps ms)) p
  left_leaving is j v p (d ∷ cs) ps ms h top = absurd h
  left_leaving is j v p [] [] (m ∷ ms) h top = absurd (let e : false ≡ true = h in cc)
  left_leaving is j v p [] [] [] h top = absurd h
  left_leaving is j v p [] (q ∷ []) (m ∷ ms) h top = record { bare = bare; below = gs; count = c; reads = reads; callers = callers; beside = λ none. cc; top = top }
  left_leaving is j v p [] (q ∷ q2 ∷ ps) (m ∷ ms) h top = record { bare = bare; below = gs; count = c; reads = reads; callers = callers; beside = λ none. cc; top = top }
  left_leaving is j v p [] (q ∷ q2 ∷ ps) [] h top = record { bare = bare; below = gs; count = c; reads = reads; callers = callers; beside = λ none. cc; top = top ∙ return_same s c (fr k is j n env nothing_owned Ready) (fr k is j n env nothing_owned Ready) gs [] [] (erased_arg v) refl }
  left_leaving is j v p [] (q ∷ []) [] h top =
      let f : Frame = fr k is j n env nothing_owned (Leaving v) in
      subst (λ z. Mirrors (return_to x.tracked s f fs v) z) (sym top) (return_alike x.tracked s c f f fs gs [] v refl callers)

left_doing : (x : Setting) (s p : Source) (f : Frame) (d : Doing) (fs gs : List Frame) (bare : Env) (c : ℕ) (r : Reply) → Reads f.env bare → CallersMirror fs gs → IsBeside bare f.owned d
    → TopMirrors s (record f { doing = d }) bare gs d c p → LeftOut (doing_ask x (record f { doing = d }) (suc (length fs)) d)
    → Follows (source x) (source (plain_setting x)) Mirrors (doing_answer x (counted_if (is_ready d) s) (record f { doing = d }) fs d r) p
left_doing x s p f Ready fs gs bare c r reads callers beside top h =
    subst (λ z. Follows (source x) (source (plain_setting x)) Mirrors (ready_answer x (counted s) (record f { doing = Ready }) fs f.insts r) z) (sym top)
    (left_ready x s c f.function f.number f.env bare fs gs reads callers f.insts f.term f.owned r h)
left_doing x s p f (Entering ps) fs gs bare c r reads callers beside top h =
    no_turn x (entering_answer s (record f { doing = Entering ps }) fs ps r) p
    (subst (λ z. Mirrors (entering_answer s (record f { doing = Entering ps }) fs ps r) z) (sym top)
    (left_entering x s c f.function f.number f.env bare fs gs reads callers f.insts f.term f.owned ps r beside h))
left_doing x s p f (Copying pr) fs gs bare c r reads callers beside top h = absurd (copyings_kept x (record f { doing = Copying pr }) (suc (length fs)) f.insts pr h)
left_doing x s p f (Waiting dest ty attr) fs gs bare c r reads callers beside top h = absurd h
left_doing x s p f (Retagging dest v a) fs gs bare c r reads callers beside top h =
    no_turn x (at_frames s (retagged (record f { doing = Retagging dest v a }) dest v r ∷ fs)) p
    (subst (λ z. Mirrors (at_frames s (retagged (record f { doing = Retagging dest v a }) dest v r ∷ fs)) z) (sym top)
    (ready_top s c f.function f.insts f.term (f.number + 1) (put dest (record { value = v.value; prov = r.carried }) f.env) bare f.owned fs gs (reads_retagged f.env bare dest v a r.carried reads beside) callers))
left_doing x s p f (Leaving v) fs gs bare c r reads callers beside top h =
    no_turn x (leave_on x.tracked s (record f { doing = Leaving v }) fs v) p
    (left_leaving x s c f.function f.number f.env bare fs gs reads callers f.insts f.term v p f.owned.children f.owned.protectors f.owned.stack h top)

left_frames : (x : Setting) (s p : Source) (fs : List Frame) (r : Reply) (t : Option Trap) → t ≡ None → MirrorsBy s fs p → LeftOut (frames_ask x fs s.over)
    → Follows (source x) (source (plain_setting x)) Mirrors (frames_answer x (counted_if (frames_begin fs) s) fs t r) p
left_frames x s p [] r t e m h = absurd h
left_frames x s p (f ∷ fs) r None e m h = left_doing x s p f f.doing fs m.below m.bare m.count r m.reads m.callers m.beside m.top h
left_frames x s p (f ∷ fs) r (Some t) e m h = cc

pub left_outs : (x : Setting) (s p : Source) (e : Entry) → Mirrors s p → Answers (source_ask x s) e → is_left_out e.request ≡ true → trap_of e.reply.plain ≡ None → Follows (source x) (source (plain_setting x)) Mirrors (source_answer x s e.reply) p
left_outs x s p e m h l t = left_frames x s p s.frames e.reply (trap_of e.reply.plain) t m (left_out_of (source_ask x s) e h l)
