-- A thread keeps its words, through local turns and through replies that fit.
use Rattle.std.proofs.Common.{◌≡◌, ℕ, zero, suc, ◌*◌, ◌%◌, ◌^◌, ◌<◌, List, [], ◌∷◌, length, Option, Some, None, Bool, true, false, refl, sym, ap, ◌∙◌, subst, arith, if◌then◌else◌}
use Rattle.std.specs.Prelude.{slice_get}
use Rattle.std.proofs.lemmas.Bool.{true≢false}
use Rattle.bsan_ids.specs.declared.numbers.Prov.{Prov}
use Rattle.history.specs.Histories.{HasBytes}
use Rattle.history.specs.declared.ask.Arg.{Arg}
use Rattle.history.specs.declared.ask.Ask.{Ask}
use Rattle.history.specs.declared.ask.Ask.TheVariants as ask
use Rattle.history.specs.declared.ask.MachineEnd.{MachineEnd}
use Rattle.history.specs.declared.entry.Entry.{Entry}
use Rattle.history.specs.declared.entry.Plain.{Plain}
use Rattle.history.specs.declared.entry.Plain.TheVariants as plain
use Rattle.history.specs.declared.entry.Reply.{Reply}
use Rattle.history.specs.declared.entry.Request.TheVariants as request
use Rattle.history.specs.declared.trap.Trap.{Trap}
use Rattle.history.specs.Pieces.{Byte}
use Rattle.ir_ast.specs.Tokens.{Each}
use Rattle.ir_ast.specs.Shapes.{IsParam, FitsAttr}
use Rattle.ir_ast.specs.declared.program.Block.{Block}
use Rattle.ir_ast.specs.declared.program.Function.{Function}
use Rattle.ir_ast.specs.declared.program.Goal.{Goal}
use Rattle.ir_ast.specs.declared.program.Inst.{Inst}
use Rattle.ir_ast.specs.declared.program.Jump.{Jump}
use Rattle.ir_ast.specs.declared.program.Jump.TheVariants as jump
use Rattle.ir_ast.specs.declared.program.Named.{Named}
use Rattle.ir_ast.specs.declared.program.Param.{Param}
use Rattle.ir_ast.specs.declared.program.TypedVal.{TypedVal}
use Rattle.ir_ast.specs.declared.program.Program.{Program}
use Rattle.ir_ast.specs.declared.types.Attr.{Attr}
use Rattle.ir_ast.specs.declared.types.Ty.{Ty}
use Rattle.ir_ast.specs.declared.types.Ty.TheVariants.{Int, Ptr}
use Rattle.ir_rules.specs.Occurrences.{Holds, or_none, op_gives}
use Rattle.ir_rules.specs.Occurrences.Holds.{value, handle}
use Rattle.ir_rules.specs.Rules.{ret_type}
use Rattle.runs.specs.Parts.{Answers}
use Rattle.history.specs.Replies.{trap_of}
use Rattle.thread_parts.specs.Words.{blank, number_in}
use Rattle.ir_ast.specs.Words.{word_bits}
use Rattle.source_sem.specs.Env.{Env, value_in, arg_of, args_of, put, put_some}
use Rattle.thread_parts.specs.Parts.{Part, Step, Access, Gives, Fails, Steps, Retags, Copies, Calls, Joins, Makes, Accesses, Prints, Hosts, Spawns, Loads, Stores, Modifies, Compares, Frees, step_ask, step_result, access_request, part_ask, chosen, makes_step}
use Rattle.thread_parts.specs.Copies.{Progress, untouched, copy_after, copy_after_by, copied_of, copy_done, copy_ask_by}
use Rattle.thread_parts.specs.Owned.{Owned, released, release_ask, release_by, step_owned}
use Rattle.ir_ast.specs.Numbers.{block_place}
use Rattle.thread_parts.specs.Fits.{IsWord, ValueIn, JoinFits, MadeAt, ReplyFits}
use Rattle.source_sem.specs.Source.{Setting, Source, Frame, Doing, Ready, Entering, Copying, Waiting, Retagging, Leaving, op_part, advance, in_block, goto_in, goto, has_step, to_retag, entering, first_insts, first_term, frame_of, new_frame, taken, taken_arg, result_step, resumed_by, resumed, return_to, returned_value, part_turn, term_turn, ready_turn, frames_turn, counted, counted_if, leave, leave_on, copy_on, joined, part_answer, term_answer, ready_answer, copying_part, copying_answer, entering_answer, doing_answer, frames_answer, source_begins, source_start, source_child, part_child, insts_child, frames_child, frames_ask, doing_ask, ready_ask, term_ask, copying_ask, copying_by, entry_ask, entering_ask, release_or, nowhere, part_type, insts_type, frames_type}
use Rattle.source_sem.specs.Typing.{HasType, DestHolds, ParamTyped, InstTyped, GoalTyped, RetTyped, JumpTyped, BlockTyped, FunctionTyped, ProgramTyped}
use Rattle.source_sem.specs.Starting.{ArgsFit}
use Rattle.source_runs.specs.Invariant.{HoldsFit, EnvFits, ResultFits, AreBytes, HalfFits, Enters, DoingFits, FrameFits, Awaits, CallersFit, EndFits, FramesFit, SourceFits, PlainFits, RegistersFit, Told, JoinsTyped, StartsWell, WordLaw}
use Rattle.source_sem.proofs.Every.{each_at}
use Rattle.source_runs.proofs.Registers.{fits_plain, fits_at, fits_ptr, fits_arg, MayGive, env_put, env_dest, env_empty, env_bind, arg_fits, args_fit}
use Rattle.source_runs.proofs.Operations.{AccessFits, Begins, StepFits, PartFits, op_fits}

some_same : {A : Type 0} {a b : A} → Some a ≡ Some b → a ≡ b
some_same h = cc

none_some : {A : Type 0} {B : Type 0} {a : A} → None ≡ Some a → B
none_some h = cc

some_none : {A : Type 0} {B : Type 0} {a : A} → Some a ≡ None → B
some_none h = cc

-- replies ----------------------------------------------------------------------------

value_word : (ty : Ty) (r : Reply) (p : Plain) → ValueIn ty r p → trap_of p ≡ None → number_in p < 2 ^ word_bits ty
value_word ty r (plain.Value v) fits none = fits.word
value_word ty r (plain.Trapped t) fits none = some_none none
value_word ty r (plain.Made a) fits none = absurd fits
value_word ty r (plain.Copied piece) fits none = absurd fits
value_word ty r plain.Done fits none = absurd fits
value_word ty r (plain.Retagged b) fits none = absurd fits
value_word ty r (plain.Spawned c) fits none = absurd fits

is_word : (p : Plain) → IsWord p → number_in p < 2 ^ 64
is_word (plain.Value v) fits = fits
is_word (plain.Made a) fits = absurd fits
is_word (plain.Copied piece) fits = absurd fits
is_word plain.Done fits = absurd fits
is_word (plain.Retagged b) fits = absurd fits
is_word (plain.Spawned c) fits = absurd fits
is_word (plain.Trapped t) fits = absurd fits

join_word : (ty : Ty) (r : Reply) (p : Plain) → JoinFits (Some ty) r p → trap_of p ≡ None → number_in p < 2 ^ word_bits ty
join_word ty r p fits none = value_word ty r p fits none

made_word : (e : Entry) (p : Plain) → MadeAt e p → PlainFits p → number_in p * 2 ^ 32 < 2 ^ 64
made_word e (plain.Made a) made fits = omega (arith, fits)
made_word e (plain.Value v) made fits = absurd made
made_word e (plain.Trapped t) made fits = absurd made
made_word e (plain.Copied piece) made fits = absurd made
made_word e plain.Done made fits = absurd made
made_word e (plain.Retagged b) made fits = absurd made
made_word e (plain.Spawned c) made fits = absurd made

copied_bytes : (p : Plain) → PlainFits p → AreBytes (copied_of p)
copied_bytes (plain.Copied piece) fits = fits
copied_bytes (plain.Value v) fits = tt
copied_bytes (plain.Trapped t) fits = tt
copied_bytes (plain.Made a) fits = tt
copied_bytes plain.Done fits = tt
copied_bytes (plain.Retagged b) fits = tt
copied_bytes (plain.Spawned c) fits = tt

after_fits : (k : ℕ) (half : Option (List Byte)) (p : Plain) → PlainFits p → HalfFits (copy_after_by k half p).half
after_fits k None p fits = copied_bytes p fits
after_fits k (Some piece) p fits = tt

access_given : (Q : Program) (K : ℕ → ℕ → Type 0) (h : Option Holds) (at : ℕ) (prov : Option Prov) (p : Arg) (a : Access) (e : Entry) (ty : Option Ty)
    → AccessFits h a → ReplyFits ty e (access_request at prov a) → trap_of e.reply.plain ≡ None → MayGive Q K h (step_result (Accesses p a) e.reply)
access_given Q K h at prov p (Loads u) e ty is fit none = subst (λ z. MayGive Q K z (step_result (Accesses p (Loads u)) e.reply)) (sym is) (fits_at u _ e.reply.carried (value_word u e.reply e.reply.plain fit none))
access_given Q K h at prov p (Stores u v) e ty is fit none = tt
access_given Q K h at prov p (Modifies w o v) e ty is fit none = subst (λ z. MayGive Q K z (step_result (Accesses p (Modifies w o v)) e.reply)) (sym is) (fits_plain (Int w) _ (value_word (Int w) e.reply e.reply.plain fit none))
access_given Q K h at prov p (Compares w u v) e ty is fit none = subst (λ z. MayGive Q K z (step_result (Accesses p (Compares w u v)) e.reply)) (sym is) (fits_plain (Int w) _ (value_word (Int w) e.reply e.reply.plain fit none))
access_given Q K h at prov p Frees e ty is fit none = tt

access_piece : (at : ℕ) (prov : Option Prov) (a : Access) → HasBytes (access_request at prov a)
access_piece at prov (Loads u) = tt
access_piece at prov (Stores u v) = tt
access_piece at prov (Modifies w o v) = tt
access_piece at prov (Compares w u v) = tt
access_piece at prov Frees = tt

-- results ----------------------------------------------------------------------------

abbrev TakenWord : Option Ty → Arg → Type 0
TakenWord None v = Unit {0}
TakenWord (Some ty) v = v.value < 2 ^ word_bits ty

taken_given : (Q : Program) (K : ℕ → ℕ → Type 0) (ty : Option Ty) (v : Arg) → TakenWord ty v → MayGive Q K (or_none ty) (taken ty v)
taken_given Q K None v less = tt
taken_given Q K (Some ty) v less = fits_arg ty v less

result_word : (ty : Option Ty) (v : Arg) → ResultFits ty v → TakenWord ty v
result_word None v fits = tt
result_word (Some ty) v fits = fits.word

-- only a pointer is retagged
abbrev IsPtrStep : Option Ty → Option Attr → Type 0
IsPtrStep ty None = Unit {0}
IsPtrStep ty (Some a) = ty ≡ Some Ptr

result_ptr : (b : Bool) (ty : Option Ty) (attr : Option Attr) → IsPtrStep ty (result_step b ty attr)
result_ptr b (Some Ptr) (Some a) = by_step (makes_step b a.size)
  where
    by_step : (c : Bool) → IsPtrStep (Some Ptr) (if c then Some a else None)
    by_step true = refl
    by_step false = tt
result_ptr b (Some Ptr) None = tt
result_ptr b (Some (Int w)) attr = tt
result_ptr b None attr = tt

attr_ptr : (version : ℕ) (b : Bool) (ty : Ty) (a : Option Attr) → FitsAttr version (Some ty) a → has_step b a ≡ true → ty ≡ Ptr
attr_ptr version b ty None fits is = absurd (true≢false (sym is))
attr_ptr version b ty (Some a) fits is = some_same fits.0

module _ (x : Setting) (K : ℕ → ℕ → Type 0) (zero_fits : (k : ℕ) → K k 0) (small : (k c : ℕ) → K k c → c < 2 ^ 32) (bytes : Each (λ b. b < 256) x.input) (typed : ProgramTyped x.program) where
  abbrev P : Program
  P = x.program

  typed_at : (k : ℕ) (g : Function) → slice_get P.functions k ≡ Some g → FunctionTyped P g
  typed_at k g is = each_at (FunctionTyped P) P.functions k g typed is

  step_given : (h : Option Holds) (s : Step) (e : Entry) (ty : Option Ty) → StepFits x h s → Answers (step_ask s) e → ReplyFits ty e e.request → PlainFits e.reply.plain → Told K e.request e.reply.plain → trap_of e.reply.plain ≡ None → MayGive P K h (step_result s e.reply)
  step_given h (Makes n place) e ty is asks fit words told none =
      subst (λ z. MayGive P K z (step_result (Makes n place) e.reply)) (sym is) (fits_ptr _ e.reply.carried (made_word e e.reply.plain (subst (ReplyFits ty e) asks fit) words))
  step_given h (Accesses p a) e ty is asks fit words told none = access_given P K h (p.value % 2 ^ 32) p.prov p a e ty is (subst (ReplyFits ty e) asks.0 fit) none
  step_given h (Prints v) e ty is asks fit words told none = tt
  step_given h (Hosts n a b) e ty is asks fit words told none =
      let reply : ReplyFits ty e (request.Host n a b) = subst (ReplyFits ty e) asks.0 fit in
      let less : number_in e.reply.plain < 2 ^ 64 = is_word e.reply.plain reply in
      subst (λ z. MayGive P K z (step_result (Hosts n a b) e.reply)) (sym is.0.1) (fits_plain is.0.0 _ (subst (λ n. number_in e.reply.plain < 2 ^ n) (sym is.0.2) less))
  step_given h (Spawns k args) e ty is asks fit words told none =
      let runs : K k (number_in e.reply.plain) = subst (λ r. Told K r e.reply.plain) asks.0 told in
      subst (λ z. MayGive P K z (step_result (Spawns k args) e.reply)) (sym is.0.1) (subst (λ n. K n (number_in e.reply.plain)) (sym is.0.2) runs)

  resumes_by : (g : Function) (f : Frame) (dest : Option Named) (ty : Option Ty) (a : Option Attr) (v : Arg)
      → slice_get P.functions f.function ≡ Some g → Each (InstTyped P g) f.insts → JumpTyped g f.term → EnvFits P K g f.env → DestHolds g dest (or_none ty) → TakenWord ty v → IsPtrStep ty a
      → FrameFits P K g (resumed_by f dest ty a v)
  resumes_by g f dest ty None v code insts term env holds less ptr =
      record { code = code; insts = insts; term = term; env = env_dest P K zero_fits g f.env dest (or_none ty) (taken ty v) holds (taken_given P K ty v less) env; doing = tt }
  resumes_by g f dest ty (Some a) v code insts term env holds less ptr =
      let word : v.value < 2 ^ 64 = subst (λ z. TakenWord z v) ptr less in
      let short : (taken_arg ty v).value < 2 ^ 64 = subst (λ z. (taken_arg z v).value < 2 ^ 64) (sym ptr) word in
      record {
        code = code;
        insts = insts;
        term = term;
        env = env_dest P K zero_fits g f.env dest (or_none ty) (taken ty v) holds (taken_given P K ty v less) env;
        doing = (short, subst (λ z. DestHolds g dest (or_none z)) ptr holds);
      }

  resumes : (g : Function) (f : Frame) (d : Doing) (result : Option Ty) (v : Arg)
      → slice_get P.functions f.function ≡ Some g → Each (InstTyped P g) f.insts → JumpTyped g f.term → EnvFits P K g f.env → DoingFits g f.insts d → Awaits d result → ResultFits result v
      → FrameFits P K g (resumed x.tracked f d v)
  resumes g f (Waiting dest ty attr) result v code insts term env doing waits fits =
      resumes_by g f dest ty (result_step x.tracked ty attr) v code insts term env doing (result_word ty v (subst (λ z. ResultFits z v) (sym waits) fits)) (result_ptr x.tracked ty attr)
  resumes g f Ready result v code insts term env doing waits fits = absurd waits
  resumes g f (Entering ps) result v code insts term env doing waits fits = absurd waits
  resumes g f (Copying pr) result v code insts term env doing waits fits = absurd waits
  resumes g f (Retagging dest w a) result v code insts term env doing waits fits = absurd waits
  resumes g f (Leaving w) result v code insts term env doing waits fits = absurd waits

  returns : (last : Option Ty) (result : Option Ty) (t : Source) (f : Frame) (fs : List Frame) (v : Arg) → CallersFit P K last result fs → ResultFits result v → SourceFits P K last (return_to x.tracked t f fs v)
  returns last result t f [] v callers fits = subst (λ z. ResultFits z v) callers fits
  returns last result t f (c ∷ cs) v callers fits =
      let h = callers.1 in
      (callers.0, resumes callers.0 c c.doing result v h.code h.insts h.term h.env h.doing callers.2 fits, callers.3)

  returned_fits : (g : Function) (env : Env) (v : Option TypedVal) → EnvFits P K g env → RetTyped g v → ret_type v ≡ g.result.ty → ResultFits g.result.ty (returned_value env v)
  returned_fits g env None all ret same = subst (λ z. ResultFits z blank) same refl
  returned_fits g env (Some v) all ret same = subst (λ z. ResultFits z (arg_of env v)) same (arg_fits P K zero_fits g env v all ret)

  -- new frames and blocks --------------------------------------------------------------

  enters : (g : Function) (ps : List Param) → Each (ParamTyped g) ps → Each (IsParam P.version) ps → Each (Enters g) (to_retag x.tracked ps)
  enters g [] params attrs = tt
  enters g (p ∷ ps) params attrs = by_step (has_step x.tracked p.attr) refl (enters g ps params.1 attrs.1)
    where
      by_step : (b : Bool) → has_step x.tracked p.attr ≡ b → Each (Enters g) (to_retag x.tracked ps) → Each (Enters g) (if b then p ∷ to_retag x.tracked ps else to_retag x.tracked ps)
      by_step true is rest = (subst (λ z. HasType g p.reg.name z) (attr_ptr P.version x.tracked p.ty p.attr attrs.0 is) params.0, rest)
      by_step false is rest = rest

  entering_fits : (g : Function) (is : List Inst) (ps : List Param) → Each (Enters g) ps → DoingFits g is (entering ps)
  entering_fits g is [] all = tt
  entering_fits g is (p ∷ ps) all = all

  first_typed : (g : Function) (b : Option Block) → slice_get g.blocks 0 ≡ b → Each (BlockTyped P g) g.blocks → Each (InstTyped P g) (first_insts b) × JumpTyped g (first_term b)
  first_typed g None is blocks = (tt, tt)
  first_typed g (Some b) is blocks = let t = each_at (BlockTyped P g) g.blocks 0 b blocks is in (t.insts, t.term)

  frame_fits : (k : ℕ) (g : Function) (args : List Arg) → slice_get P.functions k ≡ Some g → ArgsFit g.params args → FrameFits P K g (frame_of x k (Some g) args)
  frame_fits k g args is fits =
      let t = typed_at k g is in
      let first = first_typed g (slice_get g.blocks 0) refl t.blocks in
      record { code = is; insts = first.0; term = first.1; env = env_bind P K zero_fits g g.params args [] t.params fits (env_empty P K zero_fits g); doing = entering_fits g (first_insts (slice_get g.blocks 0)) (to_retag x.tracked g.params) (enters g g.params t.params t.attributes) }

  new_fits : (k : ℕ) (g : Function) (args : List Arg) → Begins x k args g → FrameFits P K g (new_frame x k args)
  new_fits k g args begins = subst (λ z. FrameFits P K g (frame_of x k z args)) (sym begins.0) (frame_fits k g args begins.0 begins.1)

  starts : (k : ℕ) (g : Function) (args : List Arg) → Begins x k args g → SourceFits P K g.result.ty (source_start x k args)
  starts k g args begins = (g, new_fits k g args begins, refl)

  block_fits : (g : Function) (f : Frame) (b : Option Block) (n : ℕ) (goal : Goal) → FrameFits P K g f → slice_get g.blocks (block_place g.blocks goal.label.name) ≡ b → GoalTyped g goal → FrameFits P K g (in_block f b n (args_of f.env goal.args))
  block_fits g f None n goal h is goes = record { code = h.code; insts = tt; term = tt; env = h.env; doing = tt }
  block_fits g f (Some b) n goal h is goes =
      let t = each_at (BlockTyped P g) g.blocks (block_place g.blocks goal.label.name) b (typed_at f.function g h.code).blocks is in
      record { code = h.code; insts = t.insts; term = t.term; env = env_bind P K zero_fits g b.params (args_of f.env goal.args) f.env t.params (args_fit P K zero_fits g f.env b.params goal.args h.env goes.0 (goes.1 b is)) h.env; doing = tt }

  goto_fits : (g : Function) (f : Frame) (goal : Goal) → FrameFits P K g f → GoalTyped g goal → FrameFits P K g (goto x f goal)
  goto_fits g f goal h goes = subst (λ z. FrameFits P K g (goto_in x f z goal)) (sym h.code) (block_fits g f (slice_get g.blocks (block_place g.blocks goal.label.name)) _ goal h refl goes)

  chosen_typed : (g : Function) (n : ℕ) (a b : Goal) → GoalTyped g a → GoalTyped g b → GoalTyped g (chosen n a b)
  chosen_typed g zero a b one two = two
  chosen_typed g (suc n) a b one two = one

  -- local turns ------------------------------------------------------------------------

  module _ (last : Option Ty) (t : Source) (g : Function) (f : Frame) (fs : List Frame) (s : SourceFits P K last t) (h : FrameFits P K g f) (callers : CallersFit P K last g.result.ty fs) where
    advance_fits : (rest : List Inst) (env : Env) (o : Owned) → Each (InstTyped P g) rest → EnvFits P K g env → FrameFits P K g (advance f rest env o)
    advance_fits rest env o insts all = record { code = h.code; insts = insts; term = h.term; env = all; doing = tt }

    part_turns : (i : Inst) (rest : List Inst) (p : Part) → InstTyped P g i → Each (InstTyped P g) rest → PartFits x K (op_gives i.op) p → SourceFits P K last (part_turn x t f fs rest i.dest p)
    part_turns i rest (Gives v) inst insts fits = (g, advance_fits rest (put_some i.dest v f.env) f.owned insts (env_dest P K zero_fits g f.env i.dest (op_gives i.op) v inst.dest fits h.env), callers)
    part_turns i rest (Calls k args ty attr) inst insts fits =
        let callee = fits.0 in (
          callee.0,
          new_fits k callee.0 args callee.1,
          (g, record { code = h.code; insts = insts; term = h.term; env = h.env; doing = subst (λ z. DestHolds g i.dest z) fits.1 inst.dest }, sym callee.2, callers),
        )
    part_turns i rest (Fails e) inst insts fits = s
    part_turns i rest (Steps e) inst insts fits = s
    part_turns i rest (Retags p kind n) inst insts fits = s
    part_turns i rest (Copies d e n) inst insts fits = s
    part_turns i rest (Joins c ty attr) inst insts fits = s

    term_turns : (j : Jump) → JumpTyped g j → SourceFits P K last (term_turn x t f fs j)
    term_turns (jump.Br goal) goes = (g, goto_fits g f goal h goes, callers)
    term_turns (jump.CondBr v first second) goes = (g, goto_fits g f _ h (chosen_typed g _ first second goes.0 goes.1), callers)
    term_turns (jump.Ret v at) goes = returns last g.result.ty t f fs (returned_value f.env v) callers (returned_fits g f.env v h.env goes.0 goes.1)
    term_turns jump.Unreachable goes = s

    ready_turns : (is : List Inst) → Each (InstTyped P g) is → SourceFits P K last (ready_turn x t f fs is)
    ready_turns [] insts = term_turns f.term h.term
    ready_turns (i ∷ rest) insts =
        part_turns i rest (op_part x f.function (suc (length fs)) f.env i.op) insts.0 insts.1 (op_fits x K zero_fits small bytes g f.function (suc (length fs)) f.env i.op h.env insts.0.operands)

    -- answers ---------------------------------------------------------------------------

    leaves : (o : Owned) (v : Arg) (a : Option Ask) → f.insts ≡ [] → ResultFits g.result.ty v → SourceFits P K last (leave x.tracked t (record f { owned = o }) fs v a)
    leaves o v None left fits = returns last g.result.ty t (record f { owned = o }) fs v callers fits
    leaves o v (Some a) left fits = (g, record { code = h.code; insts = h.insts; term = h.term; env = h.env; doing = (left, fits) }, callers)

    leaves_on : (v : Arg) → f.insts ≡ [] → ResultFits g.result.ty v → SourceFits P K last (leave_on x.tracked t f fs v)
    leaves_on v left fits = leaves (released f.owned) v (release_ask (released f.owned)) left fits

    copies_on : (rest : List Inst) (pr : Progress) (b : Bool) → Each (InstTyped P g) rest → HalfFits pr.half → SourceFits P K last (copy_on t f fs rest pr b)
    copies_on rest pr true insts half = (g, advance_fits rest f.env f.owned insts h.env, callers)
    copies_on rest pr false insts half = (g, record { code = h.code; insts = h.insts; term = h.term; env = h.env; doing = half }, callers)

    part_answers : (i : Inst) (rest : List Inst) (p : Part) (e : Entry) → InstTyped P g i → Each (InstTyped P g) rest → PartFits x K (op_gives i.op) p
        → Answers (part_ask p) e → ReplyFits (part_type p) e e.request → PlainFits e.reply.plain → Told K e.request e.reply.plain → trap_of e.reply.plain ≡ None → SourceFits P K last (part_answer x t f fs rest i.dest p e.reply)
    part_answers i rest (Gives v) e inst insts fits asks fit words told none = s
    part_answers i rest (Fails w) e inst insts fits asks fit words told none = s
    part_answers i rest (Steps q) e inst insts fits asks fit words told none =
        (g, advance_fits rest (put_some i.dest (step_result q e.reply) f.env) (step_owned q e.reply f.owned) insts (env_dest P K zero_fits g f.env i.dest (op_gives i.op) (step_result q e.reply) inst.dest (step_given (op_gives i.op) q e None fits asks fit words told none) h.env), callers)
    part_answers i rest (Retags p kind n) e inst insts fits asks fit words told none =
        let given : MayGive P K (op_gives i.op) (Some (record { value = p.value; prov = e.reply.carried })) = subst (λ z. MayGive P K z (Some (record { value = p.value; prov = e.reply.carried }))) (sym fits.1) (fits_ptr p.value e.reply.carried fits.0) in
        (g, advance_fits rest (put i.dest (record { value = p.value; prov = e.reply.carried }) f.env) f.owned insts (env_dest P K zero_fits g f.env i.dest (op_gives i.op) (Some (record { value = p.value; prov = e.reply.carried })) inst.dest given h.env), callers)
    part_answers i rest (Copies d q n) e inst insts fits asks fit words told none =
        copies_on rest (copy_after untouched e.reply.plain) (copy_done n (copy_after untouched e.reply.plain)) insts (after_fits 0 None e.reply.plain words)
    part_answers i rest (Calls k args ty attr) e inst insts fits asks fit words told none = s
    part_answers i rest (Joins c ty attr) e inst insts fits asks fit words told none =
        let reply : ReplyFits ty e (request.Join (record { 0 = c })) = subst (ReplyFits ty e) asks.0 fit in (
          g,
          resumes_by g (record f { insts = rest; owned = joined f.owned c }) i.dest ty (result_step x.tracked ty attr) (record { value = number_in e.reply.plain; prov = e.reply.carried }) h.code insts h.term h.env
              (subst (λ z. DestHolds g i.dest z) fits.0 inst.dest) (by_type ty reply.0) (result_ptr x.tracked ty attr),
          callers,
        )
      where
        by_type : (u : Option Ty) → JoinFits u e.reply e.reply.plain → TakenWord u (record { value = number_in e.reply.plain; prov = e.reply.carried })
        by_type None joins = tt
        by_type (Some u) joins = join_word u e.reply e.reply.plain joins none

    term_answers : (j : Jump) → f.insts ≡ [] → JumpTyped g j → SourceFits P K last (term_answer x.tracked t f fs j)
    term_answers (jump.Ret v at) left goes = leaves_on (returned_value f.env v) left (returned_fits g f.env v h.env goes.0 goes.1)
    term_answers (jump.Br goal) left goes = s
    term_answers (jump.CondBr v first second) left goes = s
    term_answers jump.Unreachable left goes = s

    ready_answers : (is : List Inst) (e : Entry) → f.insts ≡ is → Each (InstTyped P g) is → Answers (ready_ask x f (suc (length fs)) is) e → ReplyFits (insts_type x f (suc (length fs)) is) e e.request → PlainFits e.reply.plain → Told K e.request e.reply.plain → trap_of e.reply.plain ≡ None
        → SourceFits P K last (ready_answer x t f fs is e.reply)
    ready_answers [] e same insts asks fit words told none = term_answers f.term same h.term
    ready_answers (i ∷ rest) e same insts asks fit words told none =
        part_answers i rest (op_part x f.function (suc (length fs)) f.env i.op) e insts.0 insts.1 (op_fits x K zero_fits small bytes g f.function (suc (length fs)) f.env i.op h.env insts.0.operands) asks fit words told none

    copying_answers : (rest : List Inst) (p : Part) (pr : Progress) (e : Entry) → Each (InstTyped P g) rest → PlainFits e.reply.plain → SourceFits P K last (copying_part t f fs rest p pr e.reply)
    copying_answers rest (Copies d q n) pr e insts words = copies_on rest (copy_after pr e.reply.plain) (copy_done n (copy_after pr e.reply.plain)) insts (after_fits pr.pieces pr.half e.reply.plain words)
    copying_answers rest (Gives v) pr e insts words = s
    copying_answers rest (Fails w) pr e insts words = s
    copying_answers rest (Steps q) pr e insts words = s
    copying_answers rest (Retags p kind n) pr e insts words = s
    copying_answers rest (Calls k args ty attr) pr e insts words = s
    copying_answers rest (Joins c ty attr) pr e insts words = s

    copies_answer : (is : List Inst) (pr : Progress) (e : Entry) → Each (InstTyped P g) is → PlainFits e.reply.plain → SourceFits P K last (copying_answer x t f fs is pr e.reply)
    copies_answer [] pr e insts words = s
    copies_answer (i ∷ rest) pr e insts words = copying_answers rest (op_part x f.function (suc (length fs)) f.env i.op) pr e insts.1 words

    enters_answer : (ps : List Param) (r : Reply) → Each (Enters g) ps → SourceFits P K last (entering_answer t f fs ps r)
    enters_answer [] r all = s
    enters_answer (p ∷ ps) r all = (
      g,
      record {
        code = h.code;
        insts = h.insts;
        term = h.term;
        env = env_put P K zero_fits g f.env p.reg.name (Some (value Ptr)) (record { value = (value_in f.env p.reg.name).value; prov = r.carried }) all.0 (fits_ptr _ r.carried (h.env p.reg.name (value Ptr) all.0).word) h.env;
        doing = entering_fits g f.insts ps all.1;
      },
      callers,
    )

    doing_answers : (d : Doing) (e : Entry) → DoingFits g f.insts d → Answers (doing_ask x f (suc (length fs)) d) e → ReplyFits (insts_type x f (suc (length fs)) f.insts) e e.request → PlainFits e.reply.plain → Told K e.request e.reply.plain → trap_of e.reply.plain ≡ None
        → SourceFits P K last (doing_answer x t f fs d e.reply)
    doing_answers Ready e doing asks fit words told none = ready_answers f.insts e refl h.insts asks fit words told none
    doing_answers (Entering ps) e doing asks fit words told none = enters_answer ps e.reply doing
    doing_answers (Copying pr) e doing asks fit words told none = copies_answer f.insts pr e h.insts words
    doing_answers (Waiting dest ty attr) e doing asks fit words told none = s
    doing_answers (Retagging dest v a) e doing asks fit words told none = (
      g,
      record {
        code = h.code;
        insts = h.insts;
        term = h.term;
        env = env_dest P K zero_fits g f.env dest (Some (value Ptr)) (Some (record { value = v.value; prov = e.reply.carried })) doing.1 (fits_ptr v.value e.reply.carried doing.0) h.env;
        doing = tt;
      },
      callers,
    )
    doing_answers (Leaving v) e doing asks fit words told none = leaves_on v doing.0 doing.1

  turns : (last : Option Ty) (t : Source) (fs : List Frame) → SourceFits P K last t → FramesFit P K last fs t.over → SourceFits P K last (frames_turn x t fs)
  turns last t [] s fits = s
  turns last t (f ∷ fs) s fits = ready_turns last t fits.0 f fs s fits.1 fits.2 f.insts fits.1.insts

  answers : (last : Option Ty) (t : Source) (fs : List Frame) (over : MachineEnd) (e : Entry) (o : Option Trap) → SourceFits P K last t → FramesFit P K last fs over → Answers (frames_ask x fs over) e → ReplyFits (frames_type x fs) e e.request → PlainFits e.reply.plain → Told K e.request e.reply.plain
      → trap_of e.reply.plain ≡ o → SourceFits P K last (frames_answer x t fs o e.reply)
  answers last t [] over e o s fits asks fit words told is = s
  answers last t (f ∷ fs) over e (Some w) s fits asks fit words told is = tt
  answers last t (f ∷ fs) over e None s fits asks fit words told is = doing_answers last t fits.0 f fs s fits.1 fits.2 f.doing e fits.1.doing asks fit words told is

  counted_fits : (last : Option Ty) (b : Bool) (s : Source) → SourceFits P K last s → SourceFits P K last (counted_if b s)
  counted_fits last true s fits = fits
  counted_fits last false s fits = fits

  -- what is asked: a child whose arguments fit, and an end that fits ------------------------

  abbrev AskFits : Option Ty → Option Ty → Source → Ask → Type 0
  AskFits last u c (ask.Spawn k) = StartsWell x k c
  AskFits last u c (ask.Ended e) = EndFits last e
  AskFits last u c (ask.Join d) = (ty : Ty) → u ≡ Some ty → JoinsTyped P K (Some ty) d.0
  AskFits last u c (ask.At a r) = HasBytes r
  AskFits last u c (ask.Host n a b) = (a < 2 ^ 64) × (b < 2 ^ 64)
  AskFits last u c other = Unit {0}

  module _ (last : Option Ty) where
    release_asks : (u : Option Ty) (c : Source) (cs : List ℕ) (ps : List Prov) (ms : List Rattle.thread_parts.specs.Owned.Made) (a : Ask) → u ≡ None → AskFits last u c a → AskFits last u c (release_or (release_by cs ps ms) a)
    release_asks u c (d ∷ cs) ps ms a none fits = λ ty is. some_none (sym is ∙ none)
    release_asks u c [] (p ∷ ps) ms a none fits = tt
    release_asks u c [] [] (m ∷ ms) a none fits = tt
    release_asks u c [] [] [] a none fits = fits

    step_asks : (h : Option Holds) (s : Step) → StepFits x h s → AskFits last None (part_child x (Steps s)) (step_ask s)
    step_asks h (Makes n place) fits = tt
    step_asks h (Accesses p a) fits = access_piece (p.value % 2 ^ 32) p.prov a
    step_asks h (Prints v) fits = tt
    step_asks h (Hosts n a b) fits = (fits.1, fits.2)
    step_asks h (Spawns k args) fits = let f = fits.1 in record { function = f.0; code = f.1.0; args = args; fits = f.1.1; is = refl }

    copy_asks : (u : Option Ty) (c : Source) (d s : Arg) (n k : ℕ) (half : Option (List Byte)) → HalfFits half → AskFits last u c (copy_ask_by d s n k half)
    copy_asks u c d s n k None fits = tt
    copy_asks u c d s n k (Some piece) fits = fits

    part_asks : (h : Option Holds) (p : Part) → PartFits x K h p → AskFits last (part_type p) (part_child x p) (part_ask p)
    part_asks h (Gives v) fits = tt
    part_asks h (Fails e) fits = tt
    part_asks h (Steps s) fits = step_asks h s fits
    part_asks h (Retags p kind n) fits = tt
    part_asks h (Copies d s n) fits = copy_asks None (part_child x (Copies d s n)) d s n 0 None tt
    part_asks h (Calls k args ty attr) fits = tt
    part_asks h (Joins c ty attr) fits = λ t is. subst (λ z. JoinsTyped P K z c) is fits.1

    term_asks : (c : Source) (f : Frame) (j : Jump) → AskFits last None c (term_ask f j)
    term_asks c f (jump.Br goal) = tt
    term_asks c f (jump.CondBr v first second) = tt
    term_asks c f (jump.Ret v at) = release_asks None c f.owned.children f.owned.protectors f.owned.stack ask.Turn refl tt
    term_asks c f jump.Unreachable = tt

    copying_asks : (u : Option Ty) (c : Source) (p : Part) (pr : Progress) → HalfFits pr.half → AskFits last u c (copying_by p pr)
    copying_asks u c (Copies d s n) pr half = copy_asks u c d s n pr.pieces pr.half half
    copying_asks u c (Gives v) pr half = tt
    copying_asks u c (Fails e) pr half = tt
    copying_asks u c (Steps s) pr half = tt
    copying_asks u c (Retags p kind n) pr half = tt
    copying_asks u c (Calls k args ty attr) pr half = tt
    copying_asks u c (Joins d ty attr) pr half = tt

    entry_asks : (u : Option Ty) (c : Source) (v : Arg) (a : Option Attr) → AskFits last u c (entry_ask v a)
    entry_asks u c v None = tt
    entry_asks u c v (Some a) = tt

    module _ (g : Function) (f : Frame) (depth : ℕ) (h : FrameFits P K g f) where
      ready_asks : (is : List Inst) → Each (InstTyped P g) is → AskFits last (insts_type x f depth is) (insts_child x f depth is) (ready_ask x f depth is)
      ready_asks [] insts = term_asks (source_start x 0 []) f f.term
      ready_asks (i ∷ rest) insts = part_asks (op_gives i.op) (op_part x f.function depth f.env i.op) (op_fits x K zero_fits small bytes g f.function depth f.env i.op h.env insts.0.operands)

      copies_ask : (u : Option Ty) (c : Source) (is : List Inst) (pr : Progress) → HalfFits pr.half → AskFits last u c (copying_ask x f depth is pr)
      copies_ask u c [] pr half = tt
      copies_ask u c (i ∷ rest) pr half = copying_asks u c (op_part x f.function depth f.env i.op) pr half

      enters_ask : (u : Option Ty) (c : Source) (env : Env) (ps : List Param) → AskFits last u c (entering_ask env ps)
      enters_ask u c env [] = tt
      enters_ask u c env (p ∷ ps) = entry_asks u c (value_in env p.reg.name) p.attr

      doing_asks : (d : Doing) → DoingFits g f.insts d → AskFits last (insts_type x f depth f.insts) (insts_child x f depth f.insts) (doing_ask x f depth d)
      doing_asks Ready doing = ready_asks f.insts h.insts
      doing_asks (Entering ps) doing = enters_ask (insts_type x f depth f.insts) (insts_child x f depth f.insts) f.env ps
      doing_asks (Copying pr) doing = copies_ask (insts_type x f depth f.insts) (insts_child x f depth f.insts) f.insts pr doing
      doing_asks (Waiting dest ty attr) doing = tt
      doing_asks (Retagging dest v a) doing = tt
      doing_asks (Leaving v) doing = release_asks (insts_type x f depth f.insts) (insts_child x f depth f.insts) f.owned.children f.owned.protectors f.owned.stack nowhere (ap (insts_type x f depth) doing.0) tt

    frames_asks : (fs : List Frame) (over : MachineEnd) → FramesFit P K last fs over → AskFits last (frames_type x fs) (frames_child x fs) (frames_ask x fs over)
    frames_asks [] over fits = fits
    frames_asks (f ∷ fs) over fits = doing_asks fits.0 f (suc (length fs)) fits.1 f.doing fits.1.doing

    callers_registers : (result : Option Ty) (fs : List Frame) → CallersFit P K last result fs → Each (RegistersFit P K) fs
    callers_registers result [] fits = tt
    callers_registers result (f ∷ fs) fits = ((fits.0, fits.1.code, fits.1.env), callers_registers fits.0.result.ty fs fits.3)

    frames_registers : (fs : List Frame) (over : MachineEnd) → FramesFit P K last fs over → Each (RegistersFit P K) fs
    frames_registers [] over fits = tt
    frames_registers (f ∷ fs) over fits = ((fits.0, fits.1.code, fits.1.env), callers_registers fits.0.result.ty fs fits.2)

  pub word_law : WordLaw x K
  word_law = record {
    start = λ k g args is fits. starts k g args (is, fits);
    turn = λ last s fits. turns last (counted s) s.frames fits fits;
    after = λ last s e fits asks fit words told. answers last (counted_if (source_begins s) s) s.frames s.over e (trap_of e.reply.plain) (counted_fits last (source_begins s) s fits) fits asks fit words told refl;
    child = λ last s k fits is. subst (λ z. AskFits last (frames_type x s.frames) (source_child x s) z) is (frames_asks last s.frames s.over fits);
    registers = λ last s fits. frames_registers last s.frames s.over fits;
    joins = λ last s c ty fits is typed. subst (λ z. AskFits last (frames_type x s.frames) (source_child x s) z) is (frames_asks last s.frames s.over fits) ty typed;
    pieces = λ last s a r fits is. subst (λ z. AskFits last (frames_type x s.frames) (source_child x s) z) is (frames_asks last s.frames s.over fits);
    hosts = λ last s n a b fits is. subst (λ z. AskFits last (frames_type x s.frames) (source_child x s) z) is (frames_asks last s.frames s.over fits);
    returns = λ last s word prov fits is. subst (λ z. AskFits last (frames_type x s.frames) (source_child x s) z) is (frames_asks last s.frames s.over fits);
  }

-- more threads ---------------------------------------------------------------------------

module _ (p : Program) (K L : ℕ → ℕ → Type 0) (more : (k c : ℕ) → K k c → L k c) where
  holds_more : (h : Holds) (v : Arg) → HoldsFit p K h v → HoldsFit p L h v
  holds_more (value ty) v fits = fits
  holds_more (handle name) v fits = more _ v.value fits

  frame_more : (g : Function) (f : Frame) → FrameFits p K g f → FrameFits p L g f
  frame_more g f h = record { code = h.code; insts = h.insts; term = h.term; env = λ r k typed. holds_more k (value_in f.env r) (h.env r k typed); doing = h.doing }

  callers_more : (last result : Option Ty) (fs : List Frame) → CallersFit p K last result fs → CallersFit p L last result fs
  callers_more last result [] fits = fits
  callers_more last result (f ∷ fs) fits = (fits.0, frame_more fits.0 f fits.1, fits.2, callers_more last fits.0.result.ty fs fits.3)

  frames_more : (last : Option Ty) (fs : List Frame) (over : MachineEnd) → FramesFit p K last fs over → FramesFit p L last fs over
  frames_more last [] over fits = fits
  frames_more last (f ∷ fs) over fits = (fits.0, frame_more fits.0 f fits.1, callers_more last fits.0.result.ty fs fits.2)

pub fits_for_more : (p : Program) (K L : ℕ → ℕ → Type 0) (last : Option Ty) (s : Source) → ((k c : ℕ) → K k c → L k c) → SourceFits p K last s → SourceFits p L last s
fits_for_more p K L last s more fits = frames_more p K L more last s.frames s.over fits
