-- Each request that a thread asks fits.
use Rattle.std.proofs.Common.{◌≡◌, ℕ, zero, suc, ◌-◌, ◌*◌, ◌%◌, ◌^◌, ◌<◌, ◌≤◌, List, [], ◌∷◌, length, Bool, true, false, refl, sym, subst, arith, lit≤, min}
use Rattle.std.specs.Prelude.{Option, Some, None, nat_le, nat_lt, nat_eq, ◌||◌, ◌&&◌, slice_get, if◌then◌else◌}
use Rattle.ir_ast.specs.Sizes.{most_size, most_size_of}
use Rattle.std.proofs.lemmas.Bool.{true≢false}
use Rattle.std.proofs.lemmas.Bool.Decides.{nat_tests}
use Rattle.bsan_ids.specs.declared.numbers.Prov.{Prov}
use Rattle.history.specs.declared.ask.Arg.{Arg}
use Rattle.history.specs.declared.ask.Ask.{Ask}
use Rattle.history.specs.declared.ask.Ask.TheVariants as ask
use Rattle.history.specs.declared.entry.Entry.{Entry}
use Rattle.history.specs.declared.entry.Plain.{Plain}
use Rattle.history.specs.declared.entry.Plain.TheVariants as plain
use Rattle.history.specs.declared.entry.Reply.{Reply}
use Rattle.history.specs.declared.entry.Request.TheVariants as request
use Rattle.history.specs.declared.trap.Trap.{Trap}
use Rattle.history.specs.Histories.{fits}
use Rattle.history.specs.Pieces.{Byte}
use Rattle.perm_table.specs.declared.Guard.{Guard}
use Rattle.perm_table.specs.declared.Guard.TheVariants.{Free}
use Rattle.perm_table.specs.declared.RetagKind.{RetagKind}
use Rattle.ir_ast.specs.declared.types.Attr.{Attr}
use Rattle.ir_ast.specs.declared.types.Place.{Place}
use Rattle.ir_ast.specs.declared.types.Ty.{Ty}
use Rattle.ir_ast.specs.declared.types.Ty.TheVariants.{Int, Ptr}
use Rattle.ir_ast.specs.declared.types.Width.{Width}
use Rattle.ir_ast.specs.declared.types.Width.TheVariants.{W8, W16, W32, W64}
use Rattle.ir_ast.specs.declared.program.Function.{Function}
use Rattle.ir_ast.specs.declared.program.Block.{Block}
use Rattle.ir_ast.specs.declared.program.Goal.{Goal}
use Rattle.ir_ast.specs.declared.program.Inst.{Inst}
use Rattle.ir_ast.specs.declared.program.Jump.{Jump}
use Rattle.ir_ast.specs.declared.program.Jump.TheVariants as jump
use Rattle.ir_ast.specs.declared.program.Named.{Named}
use Rattle.ir_ast.specs.declared.program.Op.{Op}
use Rattle.ir_ast.specs.declared.program.Op.TheVariants as op
use Rattle.ir_ast.specs.declared.program.Param.{Param}
use Rattle.ir_ast.specs.Words.{ty_bytes, modulus, bits}
use Rattle.history.specs.declared.ask.MachineEnd.{MachineEnd}
use Rattle.ir_ast.specs.Arithmetic.{Worked, word, div_zero, shift_too_far}
use Rattle.runs.specs.Parts.{Answers}
use Rattle.history.specs.Replies.{trap_of}
use Rattle.thread_parts.specs.Words.{at_width, number_in}
use Rattle.source_sem.specs.Env.{Env, operand}
use Rattle.thread_parts.specs.Parts.{Part, Step, Access, Gives, Fails, Steps, Retags, Copies, Calls, Joins, Makes, Accesses, Prints, Hosts, Spawns, Loads, Stores, Modifies, Compares, Frees, access_request, step_ask, retag_ask, part_ask, worked_part, make_by, makes_step, retag_part, copy_by, call_part}
use Rattle.thread_parts.specs.Owned.{Made, release_by, release_ask, released}
use Rattle.thread_parts.specs.Copies.{Progress, untouched, copy_ask_by, copy_ask, copied_of, copy_after, copy_after_by, copy_done}
use Rattle.ir_ast.specs.Attributes.{guard_of}
use Rattle.thread_parts.specs.Fits.{CopiedOf, ReplyFits}
use Rattle.source_sem.specs.Source.{Setting, Source, Frame, Doing, Ready, Entering, Copying, Waiting, Retagging, Leaving, op_part, source_start, source_begins, counted, counted_if, frames_turn, ready_turn, part_turn, term_turn, return_to, resumed, resumed_by, result_step, in_block, goto_in, has_step, to_retag, entering, frame_of, frames_answer, doing_answer, ready_answer, part_answer, term_answer, leave, joined, returned_value, entered, copy_on, copying_part, copying_answer, entering_answer, part_child, insts_child, frames_child, frames_ask, doing_ask, ready_ask, term_ask, copying_ask, copying_by, entry_ask, entering_ask, release_or, nowhere, frames_type}
use Rattle.source_sem.proofs.Asks.{asks_numbered}
use Rattle.source_sem.specs.Requests.{IsSized, AllSized, HalfFits, CopyGoes, CopyStands, DoingFits, TopFits, RequestLaw}

-- what an instruction does ---------------------------------------------------------

abbrev PartFits : Part → Type 0
PartFits (Steps (Makes n place)) = (0 < n) × (n ≤ most_size)
PartFits (Retags p kind n) = 0 < n
PartFits (Copies d s n) = copy_done n untouched ≡ false
PartFits other = Unit {0}

worked_fits : (w : Worked) → PartFits (worked_part w)
worked_fits (word n) = tt
worked_fits div_zero = tt
worked_fits shift_too_far = tt

size_within : (version : ℕ) → most_size_of version ≤ most_size
size_within version = by_test (nat_le 2 version)
  where
    by_test : (b : Bool) → (if b then most_size else 65536) ≤ most_size
    by_test true = lit≤ tt
    by_test false = lit≤ tt

make_fits : (most : ℕ) → most ≤ most_size → (place : Place) (n : ℕ) (b : Bool) → (nat_eq n 0 || nat_lt most n) ≡ b → PartFits (make_by b place n)
make_fits most le place n true is = tt
make_fits most le place n false is = (grind (arith, nat_tests), grind (arith, nat_tests))

sized : (tracked : Bool) (n : ℕ) → makes_step tracked n ≡ true → 0 < n
sized true (suc n) is = omega arith
sized true zero is = absurd (true≢false (sym is))
sized false n is = absurd (true≢false (sym is))

retag_fits : (tracked : Bool) (p : Arg) (kind : RetagKind) (n : ℕ) (b : Bool) → makes_step tracked n ≡ b → PartFits (retag_part b p kind n)
retag_fits tracked p kind n true is = sized tracked n is
retag_fits tracked p kind n false is = tt

copy_fits : (d s : Arg) (n : ℕ) (b : Bool) → copy_done n untouched ≡ b → PartFits (copy_by b d s n)
copy_fits d s n true is = tt
copy_fits d s n false is = is

call_fits : (b : Bool) (k : ℕ) (xs : List Arg) (ty : Option Ty) (attr : Option Attr) → PartFits (call_part b k xs ty attr)
call_fits true k xs ty attr = tt
call_fits false k xs ty attr = tt

op_fits : (x : Setting) (k depth : ℕ) (env : Env) (o : Op) → PartFits (op_part x k depth env o)
op_fits x k depth env (op.Make place size) = make_fits (most_size_of x.program.version) (size_within x.program.version) place ((operand env size).value % 2 ^ 64) _ refl
op_fits x k depth env (op.Retag kind p n) = retag_fits x.tracked _ kind n _ refl
op_fits x k depth env (op.Binary o w a b) = worked_fits _
op_fits x k depth env (op.Copy d s v) = copy_fits _ _ ((operand env v).value % 2 ^ 64) _ refl
op_fits x k depth env (op.Call ty name args) = call_fits _ _ _ _ _
op_fits x k depth env _ = tt

-- words at a type
word_fits : (ty : Ty) (n : ℕ) → nat_lt (at_width ty n) (2 ^ (8 * ty_bytes ty)) ≡ true
word_fits (Int W8) n = grind (arith, nat_tests)
word_fits (Int W16) n = grind (arith, nat_tests)
word_fits (Int W32) n = grind (arith, nat_tests)
word_fits (Int W64) n = grind (arith, nat_tests)
word_fits Ptr n = grind (arith, nat_tests)

width_fits : (w : Width) (n : ℕ) → nat_lt (n % 2 ^ bits w) (modulus w) ≡ true
width_fits W8 n = grind (arith, nat_tests)
width_fits W16 n = grind (arith, nat_tests)
width_fits W32 n = grind (arith, nat_tests)
width_fits W64 n = grind (arith, nat_tests)

both : (a b : Bool) → a ≡ true → b ≡ true → (a && b) ≡ true
both a b p q = rw (p, q) refl

access_fits : (at : ℕ) (prov : Option Prov) (a : Access) → fits (access_request at prov a) ≡ true
access_fits at prov (Loads ty) = refl
access_fits at prov (Stores ty v) = word_fits ty v.value
access_fits at prov (Modifies w o v) = width_fits w v
access_fits at prov (Compares w e v) = both _ _ (width_fits w e) (width_fits w v)
access_fits at prov Frees = refl

at_least_one : (n : ℕ) → 0 < n → nat_le 1 n ≡ true
at_least_one n some = grind (arith, nat_tests)

at_most : (n m : ℕ) → n ≤ m → nat_le n m ≡ true
at_most n m le = grind (arith, nat_tests)

-- a copy that isn't done has bytes left
piece_size : (n k : ℕ) → nat_le n (32 * k) ≡ false → (0 < min 32 (n - 32 * k)) × (min 32 (n - 32 * k) ≤ 32)
piece_size n k is = (grind (arith, nat_tests), grind (arith, nat_tests))

-- asks that fit: of an allocation, or for one
abbrev AskFits : Ask → Type 0
AskFits (ask.At a r) = fits r ≡ true
AskFits (ask.Make size place) = fits (request.Make size place) ≡ true
AskFits other = Unit {0}

copy_ask_fits : (d s : Arg) (n : ℕ) (k : ℕ) (half : Option (List Byte)) → nat_le n (32 * k) ≡ false → HalfFits half → AskFits (copy_ask_by d s n k half)
copy_ask_fits d s n k None goes h = let l = piece_size n k goes in both _ _ (at_least_one _ l.0) (at_most _ 32 l.1)
copy_ask_fits d s n k (Some piece) goes h = both _ _ (at_least_one _ h.0) (at_most _ 32 h.1)

retag_ask_fits : (p : Arg) (kind : RetagKind) (g : Guard) (n : ℕ) → 0 < n → AskFits (retag_ask p kind g n)
retag_ask_fits p kind g n some = at_least_one n some

step_fits : (s : Step) → PartFits (Steps s) → AskFits (step_ask s)
step_fits (Makes n place) h = both _ _ (at_least_one n h.0) (at_most n _ (let l = h.1 in omega (arith, l)))
step_fits (Accesses p a) h = access_fits _ p.prov a
step_fits (Prints v) h = tt
step_fits (Hosts n a b) h = tt
step_fits (Spawns k xs) h = tt

part_asks : (p : Part) → PartFits p → AskFits (part_ask p)
part_asks (Gives a) h = tt
part_asks (Fails t) h = tt
part_asks (Steps s) h = step_fits s h
part_asks (Retags p kind n) h = retag_ask_fits p kind Free n h
part_asks (Copies d s n) h = copy_ask_fits d s n 0 None h tt
part_asks (Calls k xs ty attr) h = tt
part_asks (Joins c ty attr) h = tt

release_fits : (cs : List ℕ) (ps : List Prov) (ms : List Made) (a : Ask) → AskFits a → AskFits (release_or (release_by cs ps ms) a)
release_fits (c ∷ cs) ps ms a h = tt
release_fits [] (p ∷ ps) ms a h = refl
release_fits [] [] (m ∷ ms) a h = refl
release_fits [] [] [] a h = h

term_asks : (f : Frame) (j : Jump) → AskFits (term_ask f j)
term_asks f (jump.Br goal) = tt
term_asks f (jump.CondBr v first second) = tt
term_asks f (jump.Ret v at) = release_fits f.owned.children f.owned.protectors f.owned.stack ask.Turn tt
term_asks f jump.Unreachable = tt

module _ (x : Setting) where
  ready_asks : (f : Frame) (depth : ℕ) (is : List Inst) → AskFits (ready_ask x f depth is)
  ready_asks f depth [] = term_asks f f.term
  ready_asks f depth (i ∷ rest) = part_asks (op_part x f.function depth f.env i.op) (op_fits x f.function depth f.env i.op)

  copying_asks : (p : Part) (pr : Progress) → CopyGoes p pr → AskFits (copying_by p pr)
  copying_asks (Copies d s n) pr h = copy_ask_fits d s n pr.pieces pr.half h.0 h.1
  copying_asks (Gives a) pr h = tt
  copying_asks (Fails t) pr h = tt
  copying_asks (Steps s) pr h = tt
  copying_asks (Retags p kind n) pr h = tt
  copying_asks (Calls k xs ty attr) pr h = tt
  copying_asks (Joins c ty attr) pr h = tt

  copies_ask : (f : Frame) (depth : ℕ) (is : List Inst) (pr : Progress) → CopyStands x f depth is pr → AskFits (copying_ask x f depth is pr)
  copies_ask f depth [] pr h = tt
  copies_ask f depth (i ∷ rest) pr h = copying_asks (op_part x f.function depth f.env i.op) pr h

  entry_asks : (v : Arg) (a : Option Attr) → IsSized a → AskFits (entry_ask v a)
  entry_asks v None h = tt
  entry_asks v (Some a) h = retag_ask_fits v a.kind (guard_of a.kind) a.size h

  enter_asks : (env : Env) (ps : List Param) → AllSized ps → AskFits (entering_ask env ps)
  enter_asks env [] h = tt
  enter_asks env (p ∷ ps) h = entry_asks _ p.attr h.0

  doing_asks : (f : Frame) (depth : ℕ) (d : Doing) → DoingFits x f depth d → AskFits (doing_ask x f depth d)
  doing_asks f depth Ready h = ready_asks f depth f.insts
  doing_asks f depth (Entering ps) h = enter_asks f.env ps h
  doing_asks f depth (Copying pr) h = copies_ask f depth f.insts pr h
  doing_asks f depth (Waiting dest ty attr) h = tt
  doing_asks f depth (Retagging dest v a) h = retag_ask_fits v a.kind Free a.size h
  doing_asks f depth (Leaving v) h = release_fits f.owned.children f.owned.protectors f.owned.stack nowhere tt

  frames_fit : (fs : List Frame) (over : MachineEnd) → TopFits x fs → AskFits (frames_ask x fs over)
  frames_fit [] over h = tt
  frames_fit (f ∷ fs) over h = doing_asks f (suc (length fs)) f.doing h

  -- new frames and results ------------------------------------------------------------

  has_sized : (a : Option Attr) → has_step x.tracked a ≡ true → IsSized a
  has_sized None is = tt
  has_sized (Some a) is = sized x.tracked a.size is

  all_sized : (ps : List Param) → AllSized (to_retag x.tracked ps)
  all_sized [] = tt
  all_sized (p ∷ ps) = by_step (has_step x.tracked p.attr) refl (all_sized ps)
    where
      by_step : (b : Bool) → has_step x.tracked p.attr ≡ b → AllSized (to_retag x.tracked ps) → AllSized (to_retag x.tracked (p ∷ ps))
      by_step true is rest = rw is (has_sized p.attr is, rest)
      by_step false is rest = rw is rest

  enters : (f : Frame) (depth : ℕ) (ps : List Param) → AllSized ps → DoingFits x f depth (entering ps)
  enters f depth [] h = tt
  enters f depth (p ∷ ps) h = h

  new_fits : (k : ℕ) (o : Option Function) (xs : List Arg) (depth : ℕ) → DoingFits x (frame_of x k o xs) depth (frame_of x k o xs).doing
  new_fits k None xs depth = tt
  new_fits k (Some g) xs depth = enters (frame_of x k (Some g) xs) depth (to_retag x.tracked g.params) (all_sized g.params)

  result_sized : (ty : Option Ty) (attr : Option Attr) → IsSized (result_step x.tracked ty attr)
  result_sized (Some Ptr) (Some a) = by_step (makes_step x.tracked a.size) refl
    where
      by_step : (b : Bool) → makes_step x.tracked a.size ≡ b → IsSized (result_step x.tracked (Some Ptr) (Some a))
      by_step true is = rw is (sized x.tracked a.size is)
      by_step false is = rw is tt
  result_sized (Some Ptr) None = tt
  result_sized (Some (Int w)) attr = tt
  result_sized None attr = tt

  resumes_by : (f : Frame) (dest : Option Named) (ty : Option Ty) (a : Option Attr) (v : Arg) (depth : ℕ) → IsSized a → DoingFits x (resumed_by f dest ty a v) depth (resumed_by f dest ty a v).doing
  resumes_by f dest ty None v depth h = tt
  resumes_by f dest ty (Some a) v depth h = h

  resumes : (f : Frame) (d : Doing) (v : Arg) (depth : ℕ) → DoingFits x (resumed x.tracked f d v) depth (resumed x.tracked f d v).doing
  resumes f (Waiting dest ty attr) v depth = resumes_by f dest ty (result_step x.tracked ty attr) v depth (result_sized ty attr)
  resumes f Ready v depth = tt
  resumes f (Entering ps) v depth = tt
  resumes f (Copying pr) v depth = tt
  resumes f (Retagging dest w a) v depth = tt
  resumes f (Leaving w) v depth = tt

  returns : (t : Source) (f : Frame) (fs : List Frame) (v : Arg) → TopFits x (return_to x.tracked t f fs v).frames
  returns t f [] v = tt
  returns t f (g ∷ gs) v = resumes g g.doing v (suc (length gs))

  in_block_fits : (f : Frame) (o : Option Block) (n : ℕ) (xs : List Arg) (depth : ℕ) → DoingFits x (in_block f o n xs) depth (in_block f o n xs).doing
  in_block_fits f None n xs depth = tt
  in_block_fits f (Some b) n xs depth = tt

  goto_fits : (f : Frame) (o : Option Function) (goal : Goal) (depth : ℕ) → DoingFits x (goto_in x f o goal) depth (goto_in x f o goal).doing
  goto_fits f None goal depth = tt
  goto_fits f (Some g) goal depth = in_block_fits f _ _ _ depth

  -- local turns -------------------------------------------------------------------------

  part_turns : (t : Source) (f : Frame) (fs : List Frame) (rest : List Inst) (dest : Option Named) (p : Part) → TopFits x t.frames → TopFits x (part_turn x t f fs rest dest p).frames
  part_turns t f fs rest dest (Gives v) h = tt
  part_turns t f fs rest dest (Calls k xs ty attr) h = new_fits k (slice_get x.program.functions k) xs _
  part_turns t f fs rest dest (Fails e) h = h
  part_turns t f fs rest dest (Steps s) h = h
  part_turns t f fs rest dest (Retags p kind n) h = h
  part_turns t f fs rest dest (Copies d s n) h = h
  part_turns t f fs rest dest (Joins c ty attr) h = h

  term_turns : (t : Source) (f : Frame) (fs : List Frame) (j : Jump) → TopFits x t.frames → TopFits x (term_turn x t f fs j).frames
  term_turns t f fs (jump.Br goal) h = goto_fits f (slice_get x.program.functions f.function) goal _
  term_turns t f fs (jump.CondBr v first second) h = goto_fits f (slice_get x.program.functions f.function) _ _
  term_turns t f fs (jump.Ret v at) h = returns t f fs _
  term_turns t f fs jump.Unreachable h = h

  ready_turns : (t : Source) (f : Frame) (fs : List Frame) (is : List Inst) → TopFits x t.frames → TopFits x (ready_turn x t f fs is).frames
  ready_turns t f fs [] h = term_turns t f fs f.term h
  ready_turns t f fs (i ∷ rest) h = part_turns t f fs rest i.dest (op_part x f.function (suc (length fs)) f.env i.op) h

  turns : (t : Source) (fs : List Frame) → TopFits x t.frames → TopFits x (frames_turn x t fs).frames
  turns t [] h = h
  turns t (f ∷ fs) h = ready_turns t f fs f.insts h

  -- answers -----------------------------------------------------------------------------

  leaves : (t : Source) (f : Frame) (fs : List Frame) (v : Arg) (o : Option Ask) → TopFits x (leave x.tracked t f fs v o).frames
  leaves t f fs v None = returns t f fs v
  leaves t f fs v (Some a) = tt

  -- a reply to a copy's ask: a piece of the size that was asked
  abbrev PieceFits : ℕ → Progress → Plain → Type 0
  PieceFits n pr p = HalfFits (copy_after pr p).half

  goes_on : (t : Source) (f : Frame) (fs : List Frame) (i : Inst) (rest : List Inst) (d s : Arg) (n : ℕ) (pr : Progress)
      → f.insts ≡ i ∷ rest → op_part x f.function (suc (length fs)) f.env i.op ≡ Copies d s n → HalfFits pr.half → (b : Bool) → copy_done n pr ≡ b → TopFits x (copy_on t f fs rest pr b).frames
  goes_on t f fs i rest d s n pr insts part half true is = tt
  goes_on t f fs i rest d s n pr insts part half false is =
      subst (λ l. CopyStands x f (suc (length fs)) l pr) (sym insts) (subst (λ p. CopyGoes p pr) (sym part) (is, half))

  -- the half of a copy after a reply that fits what it asked
  half_fits : (d s : Arg) (n : ℕ) (pr : Progress) (e : Entry) (ty : Option Ty) → copy_done n pr ≡ false → Answers (copy_ask d s n pr) e → ReplyFits ty e e.request → trap_of e.reply.plain ≡ None → HalfFits (copy_after pr e.reply.plain).half
  half_fits d s n pr e ty goes asks fit none = by_half pr.pieces pr.half goes asks
    where
      by_plain : (m : ℕ) (p : Plain) → (0 < m) × (m ≤ 32) → CopiedOf m p → trap_of p ≡ None → HalfFits (Some (copied_of p))
      by_plain m (plain.Copied piece) size is off = (let l = size.0 in omega (arith, is, l), let u = size.1 in omega (arith, is, u))
      by_plain m (plain.Trapped t) size is off = absurd (let z : Some t ≡ None = off in cc)
      by_plain m (plain.Made a) size is off = absurd is
      by_plain m (plain.Value v) size is off = absurd is
      by_plain m plain.Done size is off = absurd is
      by_plain m (plain.Retagged b) size is off = absurd is
      by_plain m (plain.Spawned c) size is off = absurd is

      by_half : (k : ℕ) (half : Option (List Byte)) → nat_le n (32 * k) ≡ false → Answers (copy_ask_by d s n k half) e → HalfFits (copy_after_by k half e.reply.plain).half
      by_half k None less a =
          let q : CopiedOf (min 32 (n - 32 * k)) e.reply.plain = subst (λ r. ReplyFits ty e r) a.0 fit in
          by_plain (min 32 (n - 32 * k)) e.reply.plain (piece_size n k less) q none
      by_half k (Some piece) less a = tt

  part_answers : (t : Source) (f : Frame) (fs : List Frame) (i : Inst) (rest : List Inst) (e : Entry) (ty : Option Ty) → TopFits x t.frames → f.insts ≡ i ∷ rest
      → (p : Part) → op_part x f.function (suc (length fs)) f.env i.op ≡ p → PartFits p → Answers (part_ask p) e → ReplyFits ty e e.request → trap_of e.reply.plain ≡ None
      → TopFits x (part_answer x t f fs rest i.dest p e.reply).frames
  part_answers t f fs i rest e ty h insts (Gives v) part pf asks fit none = h
  part_answers t f fs i rest e ty h insts (Fails w) part pf asks fit none = h
  part_answers t f fs i rest e ty h insts (Steps s) part pf asks fit none = tt
  part_answers t f fs i rest e ty h insts (Retags p kind n) part pf asks fit none = tt
  part_answers t f fs i rest e ty h insts (Copies d s n) part pf asks fit none =
      goes_on t f fs i rest d s n (copy_after untouched e.reply.plain) insts part (half_fits d s n untouched e ty pf asks fit none) (copy_done n (copy_after untouched e.reply.plain)) refl
  part_answers t f fs i rest e ty h insts (Calls k xs u attr) part pf asks fit none = h
  part_answers t f fs i rest e ty h insts (Joins c u attr) part pf asks fit none =
      resumes_by (record f { insts = rest; owned = joined f.owned c }) i.dest u (result_step x.tracked u attr) (record { value = number_in e.reply.plain; prov = e.reply.carried }) (suc (length fs)) (result_sized u attr)

  term_answers : (t : Source) (f : Frame) (fs : List Frame) (j : Jump) → TopFits x t.frames → TopFits x (term_answer x.tracked t f fs j).frames
  term_answers t f fs (jump.Ret v at) h = leaves t (record f { owned = released f.owned }) fs (returned_value f.env v) (release_ask (released f.owned))
  term_answers t f fs (jump.Br goal) h = h
  term_answers t f fs (jump.CondBr v first second) h = h
  term_answers t f fs jump.Unreachable h = h

  ready_answers : (t : Source) (f : Frame) (fs : List Frame) (e : Entry) (ty : Option Ty) → TopFits x t.frames → (is : List Inst) → f.insts ≡ is
      → Answers (ready_ask x f (suc (length fs)) is) e → ReplyFits ty e e.request → trap_of e.reply.plain ≡ None → TopFits x (ready_answer x t f fs is e.reply).frames
  ready_answers t f fs e ty h [] insts asks fit none = term_answers t f fs f.term h
  ready_answers t f fs e ty h (i ∷ rest) insts asks fit none =
      part_answers t f fs i rest e ty h insts (op_part x f.function (suc (length fs)) f.env i.op) refl (op_fits x f.function (suc (length fs)) f.env i.op) asks fit none

  copying_answers : (t : Source) (f : Frame) (fs : List Frame) (i : Inst) (rest : List Inst) (pr : Progress) (e : Entry) (ty : Option Ty) → TopFits x t.frames → f.insts ≡ i ∷ rest
      → (p : Part) → op_part x f.function (suc (length fs)) f.env i.op ≡ p → CopyGoes p pr → Answers (copying_by p pr) e → ReplyFits ty e e.request → trap_of e.reply.plain ≡ None
      → TopFits x (copying_part t f fs rest p pr e.reply).frames
  copying_answers t f fs i rest pr e ty h insts (Copies d s n) part goes asks fit none =
      goes_on t f fs i rest d s n (copy_after pr e.reply.plain) insts part (half_fits d s n pr e ty goes.0 asks fit none) (copy_done n (copy_after pr e.reply.plain)) refl
  copying_answers t f fs i rest pr e ty h insts (Gives v) part goes asks fit none = h
  copying_answers t f fs i rest pr e ty h insts (Fails w) part goes asks fit none = h
  copying_answers t f fs i rest pr e ty h insts (Steps s) part goes asks fit none = h
  copying_answers t f fs i rest pr e ty h insts (Retags p kind n) part goes asks fit none = h
  copying_answers t f fs i rest pr e ty h insts (Calls k xs u attr) part goes asks fit none = h
  copying_answers t f fs i rest pr e ty h insts (Joins c u attr) part goes asks fit none = h

  copies_answer : (t : Source) (f : Frame) (fs : List Frame) (pr : Progress) (e : Entry) (ty : Option Ty) → TopFits x t.frames → (is : List Inst) → f.insts ≡ is → CopyStands x f (suc (length fs)) is pr
      → Answers (copying_ask x f (suc (length fs)) is pr) e → ReplyFits ty e e.request → trap_of e.reply.plain ≡ None → TopFits x (copying_answer x t f fs is pr e.reply).frames
  copies_answer t f fs pr e ty h [] insts goes asks fit none = h
  copies_answer t f fs pr e ty h (i ∷ rest) insts goes asks fit none =
      copying_answers t f fs i rest pr e ty h insts (op_part x f.function (suc (length fs)) f.env i.op) refl goes asks fit none

  enters_answer : (t : Source) (f : Frame) (fs : List Frame) (ps : List Param) (r : Reply) → TopFits x t.frames → AllSized ps → TopFits x (entering_answer t f fs ps r).frames
  enters_answer t f fs [] r h sizes = h
  enters_answer t f fs (p ∷ ps) r h sizes = enters (entered f p ps r) (suc (length fs)) ps sizes.1

  doing_answers : (t : Source) (f : Frame) (fs : List Frame) (e : Entry) (ty : Option Ty) → TopFits x t.frames → (d : Doing) → DoingFits x f (suc (length fs)) d
      → Answers (doing_ask x f (suc (length fs)) d) e → ReplyFits ty e e.request → trap_of e.reply.plain ≡ None → TopFits x (doing_answer x t f fs d e.reply).frames
  doing_answers t f fs e ty h Ready g asks fit none = ready_answers t f fs e ty h f.insts refl asks fit none
  doing_answers t f fs e ty h (Entering ps) g asks fit none = enters_answer t f fs ps e.reply h g
  doing_answers t f fs e ty h (Copying pr) g asks fit none = copies_answer t f fs pr e ty h f.insts refl g asks fit none
  doing_answers t f fs e ty h (Waiting dest u attr) g asks fit none = h
  doing_answers t f fs e ty h (Retagging dest v a) g asks fit none = tt
  doing_answers t f fs e ty h (Leaving v) g asks fit none = leaves t (record f { owned = released f.owned }) fs v (release_ask (released f.owned))

  answers : (t : Source) (fs : List Frame) (over : MachineEnd) (e : Entry) → TopFits x t.frames → TopFits x fs → Answers (frames_ask x fs over) e → ReplyFits (frames_type x fs) e e.request
      → (o : Option Trap) → trap_of e.reply.plain ≡ o → TopFits x (frames_answer x t fs o e.reply).frames
  answers t [] over e h g asks fit o is = h
  answers t (f ∷ fs) over e h g asks fit (Some w) is = tt
  answers t (f ∷ fs) over e h g asks fit None is = doing_answers t f fs e (frames_type x (f ∷ fs)) h f.doing g asks fit is

  counted_fits : (b : Bool) (s : Source) → TopFits x s.frames → TopFits x (counted_if b s).frames
  counted_fits true s h = h
  counted_fits false s h = h

  -- children -------------------------------------------------------------------------------

  starts : (k : ℕ) (args : List Arg) → TopFits x (source_start x k args).frames
  starts k args = new_fits k (slice_get x.program.functions k) args 1

  step_child : (s : Step) → TopFits x (part_child x (Steps s)).frames
  step_child (Spawns k xs) = starts k xs
  step_child (Makes n place) = starts 0 []
  step_child (Accesses p a) = starts 0 []
  step_child (Prints v) = starts 0 []
  step_child (Hosts n a b) = starts 0 []

  part_childs : (p : Part) → TopFits x (part_child x p).frames
  part_childs (Steps s) = step_child s
  part_childs (Gives v) = starts 0 []
  part_childs (Fails w) = starts 0 []
  part_childs (Retags p kind n) = starts 0 []
  part_childs (Copies d s n) = starts 0 []
  part_childs (Calls k xs ty attr) = starts 0 []
  part_childs (Joins c ty attr) = starts 0 []

  inst_childs : (f : Frame) (depth : ℕ) (is : List Inst) → TopFits x (insts_child x f depth is).frames
  inst_childs f depth [] = starts 0 []
  inst_childs f depth (i ∷ is) = part_childs (op_part x f.function depth f.env i.op)

  childs : (fs : List Frame) → TopFits x (frames_child x fs).frames
  childs [] = starts 0 []
  childs (f ∷ fs) = inst_childs f (suc (length fs)) f.insts

pub requests_fit : (x : Setting) → RequestLaw x
requests_fit x = record {
  start = starts x;
  child = λ s. childs x s.frames;
  turn = λ s h. turns x (counted s) s.frames h;
  after = λ s e h asks fit. answers x (counted_if (source_begins s) s) s.frames s.over e (counted_fits x (source_begins s) s h) h asks fit (trap_of e.reply.plain) refl;
  asks = λ s a r h is. subst AskFits is (frames_fit x s.frames s.over h);
  numbered = asks_numbered x;
  makes = λ s size place h is. subst AskFits is (frames_fit x s.frames s.over h);
}
