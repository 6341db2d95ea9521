-- Steps that both threads make, and the ends.
use Rattle.std.proofs.Common.{◌≡◌, ℕ, suc, ◌+◌, List, [], ◌∷◌, length, Option, Some, None, Bool, true, false, refl, sym, ap, ◌∙◌, subst}
use Rattle.history.specs.declared.ask.Arg.{Arg}
use Rattle.history.specs.declared.ask.Ask.{Ask}
use Rattle.history.specs.declared.ask.Ask.TheVariants as ask
use Rattle.history.specs.declared.entry.Entry.{Entry}
use Rattle.history.specs.declared.ask.MachineEnd.TheVariants as end
use Rattle.history.specs.declared.entry.Plain.{Plain}
use Rattle.bsan_ids.specs.declared.numbers.Prov.{Prov}
use Rattle.history.specs.declared.entry.Reply.{Reply}
use Rattle.history.specs.declared.trap.Trap.{Trap}
use Rattle.ir_ast.specs.declared.types.Attr.{Attr}
use Rattle.ir_ast.specs.declared.program.Inst.{Inst}
use Rattle.ir_ast.specs.declared.program.Jump.{Jump}
use Rattle.ir_ast.specs.declared.program.Jump.TheVariants as jump
use Rattle.ir_ast.specs.declared.program.Named.{Named}
use Rattle.ir_ast.specs.declared.program.Param.{Param}
use Rattle.runs.specs.Parts.{Answers}
use Rattle.history.specs.Replies.{trap_of}
use Rattle.thread_parts.specs.Words.{plain_arg, number_in}
use Rattle.runs.specs.Erasure.{StepsAlike, is_left_out, erased_entry, erased_reply, erased_plain}
use Rattle.source_sem.specs.Env.{Env, put_some, value_in}
use Rattle.thread_parts.specs.Parts.{Part, Step, Gives, Fails, Steps, Retags, Copies, Calls, Joins, part_ask, step_started, step_result, retag_ask}
use Rattle.thread_parts.specs.Owned.{Made, Owned, step_owned, release_ask, release_by, released_by}
use Rattle.thread_parts.specs.Copies.{Progress, untouched, copy_after, copy_done}
use Rattle.source_sem.specs.Source.{Setting, Source, Frame, Doing, Ready, Entering, Copying, Waiting, Retagging, Leaving, op_part, source, source_ask, source_answer, source_child, source_site, plain_setting, result_step, resumed_by, at_frames, returned_value, frames_ask, doing_ask, ready_ask, term_ask, entry_ask, entering_ask, copying_by, copying_ask, counted, counted_if, leave_with, copy_on, copied, joined, part_answer, term_answer, ready_answer, copying_part, copying_answer, doing_answer, frames_answer, frames_begin, frames_site, frames_child, release_or, nowhere}
use Rattle.source_sem.specs.Plain.{erased_arg, Reads, erased_progress, erased_stack, erased_owned, erased_ask, erased_step, erased_option, plain_part, plain_frame, CallersMirror, plain_rest, LeavesAs, LeavingMirrors, TopMirrors, MirrorsBy, Mirrors}
use Rattle.perm_table.specs.declared.RetagKind.{RetagKind}
use Rattle.perm_table.specs.declared.Guard.{Guard}
use Rattle.perm_table.specs.declared.Guard.TheVariants.{Free}
use Rattle.ir_ast.specs.Attributes.{guard_of}
use Rattle.source_sem.proofs.Reading.{reads_some, step_ask_erased, copy_ask_erased, answers_erased, number_erased, trap_erased, copy_after_erased, step_result_erased, step_owned_erased, step_started_erased}
use Rattle.source_sem.proofs.Mirroring.{fr, ready_top, resumed_alike, leave_alike, returned_erased, insts_child_alike, same_part}

-- what is asked is a step that the plain thread makes too
abbrev KeptAsk : Ask → Type 0
KeptAsk (ask.At a r) = is_left_out r ≡ false
KeptAsk ask.Turn = ⊥
KeptAsk (ask.Ended why) = ⊥
KeptAsk other = Unit {0}

kept_of : (a : Ask) (e : Entry) → Answers a e → is_left_out e.request ≡ false → KeptAsk a
kept_of (ask.At a r) e h l = ap is_left_out (sym h.0) ∙ l
kept_of ask.Turn e h l = h
kept_of (ask.Ended why) e h l = h
kept_of (ask.Make n place) e h l = tt
kept_of (ask.Print v) e h l = tt
kept_of (ask.Host n a b) e h l = tt
kept_of (ask.Spawn k) e h l = tt
kept_of (ask.Join c) e h l = tt

retag_left : (p : Arg) (kind : RetagKind) (g : Guard) (n : ℕ) → KeptAsk (retag_ask p kind g n) → ⊥
retag_left p kind g n h = let e : true ≡ false = h in cc

-- what both ask, but for retags
part_asks : (q : Part) → KeptAsk (part_ask q) → part_ask (plain_part q) ≡ erased_ask (part_ask q)
part_asks (Gives v) h = absurd h
part_asks (Fails t) h = absurd h
part_asks (Steps s) h = step_ask_erased s
part_asks (Retags p kind n) h = absurd (retag_left p kind Free n h)
part_asks (Copies d s n) h = copy_ask_erased d s n untouched
part_asks (Calls k vs ty attr) h = absurd h
part_asks (Joins c ty attr) h = refl

copying_asks : (q : Part) (pr : Progress) → copying_by (plain_part q) (erased_progress pr) ≡ erased_ask (copying_by q pr)
copying_asks (Copies d s n) pr = copy_ask_erased d s n pr
copying_asks (Gives v) pr = refl
copying_asks (Fails t) pr = refl
copying_asks (Steps s) pr = refl
copying_asks (Retags p kind n) pr = refl
copying_asks (Calls k vs ty attr) pr = refl
copying_asks (Joins c ty attr) pr = refl

release_asks : (cs : List ℕ) (ps : List Prov) (ms : List Made) (a : Ask) → KeptAsk (release_or (release_by cs ps ms) a) → (KeptAsk a → ⊥) → (b : Ask) → release_or (release_by cs [] (erased_stack ms)) b ≡ erased_ask (release_or (release_by cs ps ms) a)
release_asks (c ∷ cs) ps ms a h none b = refl
release_asks [] (p ∷ ps) ms a h none b = absurd (let e : true ≡ false = h in cc)
release_asks [] [] (m ∷ ms) a h none b = refl
release_asks [] [] [] a h none b = absurd (none h)

term_asks : (k : ℕ) (n m : ℕ) (env bare : Env) (j : Jump) (o : Owned) → KeptAsk (term_ask (fr k [] j n env o Ready) j) → term_ask (fr k [] j m bare (erased_owned o) Ready) j ≡ erased_ask (term_ask (fr k [] j n env o Ready) j)
term_asks k n m env bare (jump.Br g) o h = absurd h
term_asks k n m env bare (jump.CondBr v g g2) o h = absurd h
term_asks k n m env bare (jump.Ret u at) o h = release_asks o.children o.protectors o.stack ask.Turn h (λ z. z) ask.Turn
term_asks k n m env bare jump.Unreachable o h = absurd h

-- answers

step_done : (s : Source) (c k : ℕ) (js : List Inst) (j : Jump) (n : ℕ) (env bare : Env) (o : Owned) (fs gs : List Frame) (dest : Option Named) (st : Step) (r : Reply) (hs : List Frame) → Reads env bare → CallersMirror fs gs
    → (res : Option Arg) (own : Owned) (started : List ℕ) → res ≡ erased_option (step_result st r) → own ≡ erased_owned (step_owned st r o) → started ≡ step_started st r s.started
    → Mirrors (record s { frames = fr k js j (n + 1) (put_some dest (step_result st r) env) (step_owned st r o) Ready ∷ fs; started = step_started st r s.started })
    (record (plain_rest s c hs) { frames = fr k js j (n + 1) (put_some dest res bare) own Ready ∷ gs; started = started })
step_done s c k js j n env bare o fs gs dest st r hs reads callers res own started e1 e2 e3 =
    let all : Source = record s { started = step_started st r s.started } in
    let goal : Option Arg → Owned → List ℕ → Type 0 = λ a b d. Mirrors (record s { frames = fr k js j (n + 1) (put_some dest (step_result st r) env) (step_owned st r o) Ready ∷ fs; started = step_started st r s.started })
    (record (plain_rest s c hs) { frames = fr k js j (n + 1) (put_some dest a bare) b Ready ∷ gs; started = d }) in
    let base : goal (erased_option (step_result st r)) (erased_owned (step_owned st r o)) (step_started st r s.started) =
    ready_top all c k js j (n + 1) (put_some dest (step_result st r) env) (put_some dest (erased_option (step_result st r)) bare) (step_owned st r o) fs gs
    (reads_some env bare dest (step_result st r) reads) callers in
    subst (λ a. goal a own started) (sym e1) (subst (λ b. goal (erased_option (step_result st r)) b started) (sym e2) (subst (λ d. goal (erased_option (step_result st r)) (erased_owned (step_owned st r o)) d) (sym e3) base))

module _ (x : Setting) (s : Source) (c k : ℕ) (n : ℕ) (env bare : Env) (fs gs hs : List Frame) (reads : Reads env bare) (callers : CallersMirror fs gs) where
  copy_alike : (is js : List Inst) (j : Jump) (o : Owned) (d pd : Doing) (pr pr2 : Progress) (b : Bool) → pr2 ≡ erased_progress pr
      → Mirrors (copy_on s (fr k is j n env o d) fs js pr b) (copy_on (plain_rest s c hs) (fr k is j n bare (erased_owned o) pd) gs js pr2 b)
  copy_alike is js j o d pd pr pr2 true e = ready_top s c k js j (n + 1) env bare o fs gs reads callers
  copy_alike is js j o d pd pr pr2 false e = record {
    bare = bare;
    below = gs;
    count = c;
    reads = reads;
    callers = callers;
    beside = tt;
    top = ap (λ z. plain_rest s c (fr k is j n bare (erased_owned o) (Copying z) ∷ gs)) e;
  }

  copied_alike : (is js : List Inst) (j : Jump) (o : Owned) (d pd : Doing) (m : ℕ) (pr : Progress) (p : Plain)
      → Mirrors (copied s (fr k is j n env o d) fs js m (copy_after pr p)) (copied (plain_rest s c hs) (fr k is j n bare (erased_owned o) pd) gs js m (copy_after (erased_progress pr) (erased_plain p)))
  copied_alike is js j o d pd m pr p =
      subst (λ z. Mirrors (copied s (fr k is j n env o d) fs js m (copy_after pr p)) (copied (plain_rest s c hs) (fr k is j n bare (erased_owned o) pd) gs js m z)) (sym (copy_after_erased pr p))
      (copy_alike is js j o d pd (copy_after pr p) (erased_progress (copy_after pr p)) (copy_done m (copy_after pr p)) refl)

  kept_part : (is js : List Inst) (j : Jump) (dest : Option Named) (o : Owned) (r : Reply) (q : Part) → KeptAsk (part_ask q)
      → Mirrors (part_answer x s (fr k is j n env o Ready) fs js dest q r) (part_answer (plain_setting x) (plain_rest s c hs) (fr k is j n bare (erased_owned o) Ready) gs js dest (plain_part q) (erased_reply r))
  kept_part is js j dest o r (Steps st) h =
      step_done s c k js j n env bare o fs gs dest st r hs reads callers (step_result (erased_step st) (erased_reply r)) (step_owned (erased_step st) (erased_reply r) (erased_owned o)) (step_started (erased_step st) (erased_reply r) s.started)
      (step_result_erased st r) (step_owned_erased st r o) (step_started_erased st r s.started)
  kept_part is js j dest o r (Copies d t m) h = copied_alike is js j o Ready Ready m untouched r.plain
  kept_part is js j dest o r (Joins m ty attr) h =
      let v : Arg = record { value = number_in r.plain; prov = r.carried } in
      subst (λ z. Mirrors (at_frames s (resumed_by (fr k js j n env (joined o m) Ready) dest ty (result_step x.tracked ty attr) v ∷ fs)) (plain_rest s c (resumed_by (fr k js j n bare (erased_owned (joined o m)) Ready) dest ty (result_step false ty attr) (plain_arg z) ∷ gs)))
      (sym (number_erased r.plain))
      (resumed_alike s c k js j n env bare (joined o m) fs gs reads callers x.tracked Ready Ready dest ty attr v)
  kept_part is js j dest o r (Gives v) h = absurd h
  kept_part is js j dest o r (Fails t) h = absurd h
  kept_part is js j dest o r (Retags p kind m) h = absurd (retag_left p kind Free m h)
  kept_part is js j dest o r (Calls k2 vs ty attr) h = absurd h

  -- a ret, after its first part or a later one
  kept_leaving : (is : List Inst) (j : Jump) (d pd : Doing) (v w : Arg) (a : Ask) (cs : List ℕ) (ps : List Prov) (ms : List Made) → w ≡ erased_arg v → KeptAsk (release_or (release_by cs ps ms) a) → (KeptAsk a → ⊥)
      → Mirrors (leave_with x.tracked s (fr k is j n env (record { children = cs; protectors = ps; stack = ms }) d) fs v (released_by cs ps ms))
      (leave_with false (plain_rest s c hs) (fr k is j n bare (record { children = cs; protectors = []; stack = erased_stack ms }) pd) gs w (released_by cs [] (erased_stack ms)))
  kept_leaving is j d pd v w a (m ∷ cs) ps ms e h none =
      subst (λ z. Mirrors (leave_with x.tracked s (fr k is j n env (record { children = m ∷ cs; protectors = ps; stack = ms }) d) fs v (record { children = cs; protectors = ps; stack = ms }))
      (leave_with false (plain_rest s c hs) (fr k is j n bare (record { children = m ∷ cs; protectors = []; stack = erased_stack ms }) pd) gs z (record { children = cs; protectors = []; stack = erased_stack ms }))) (sym e)
      (leave_alike x.tracked s c k is j n env bare (record { children = m ∷ cs; protectors = ps; stack = ms }) (record { children = m ∷ cs; protectors = ps; stack = ms }) (record { children = m ∷ cs; protectors = []; stack = erased_stack ms }) d pd fs gs hs v cs ps ms reads callers)
  kept_leaving is j d pd v w a [] (p ∷ ps) ms e h none = absurd (let f : true ≡ false = h in cc)
  kept_leaving is j d pd v w a [] [] (m ∷ ms) e h none =
      subst (λ z. Mirrors (leave_with x.tracked s (fr k is j n env (record { children = []; protectors = []; stack = m ∷ ms }) d) fs v (record { children = []; protectors = []; stack = ms }))
      (leave_with false (plain_rest s c hs) (fr k is j n bare (record { children = []; protectors = []; stack = erased_stack (m ∷ ms) }) pd) gs z (record { children = []; protectors = []; stack = erased_stack ms }))) (sym e)
      (leave_alike x.tracked s c k is j n env bare (record { children = []; protectors = []; stack = m ∷ ms }) (record { children = []; protectors = []; stack = m ∷ ms }) (record { children = []; protectors = []; stack = erased_stack (m ∷ ms) }) d pd fs gs hs v [] [] ms reads callers)
  kept_leaving is j d pd v w a [] [] [] e h none = absurd (none h)

  kept_term : (j : Jump) (o : Owned) → KeptAsk (term_ask (fr k [] j n env o Ready) j)
      → Mirrors (term_answer x.tracked s (fr k [] j n env o Ready) fs j) (term_answer false (plain_rest s c hs) (fr k [] j n bare (erased_owned o) Ready) gs j)
  kept_term (jump.Br g) o h = absurd h
  kept_term (jump.CondBr v g g2) o h = absurd h
  kept_term (jump.Ret u at) o h = kept_leaving [] (jump.Ret u at) Ready Ready (returned_value env u) (returned_value bare u) ask.Turn o.children o.protectors o.stack (returned_erased env bare reads u) h (λ z. z)
  kept_term jump.Unreachable o h = absurd h

  kept_ready : (is : List Inst) (j : Jump) (o : Owned) (r : Reply) → KeptAsk (ready_ask x (fr k is j n env o Ready) (suc (length fs)) is)
      → Mirrors (ready_answer x s (fr k is j n env o Ready) fs is r) (ready_answer (plain_setting x) (plain_rest s c hs) (fr k is j n bare (erased_owned o) Ready) gs is (erased_reply r))
  kept_ready [] j o r h = kept_term j o h
  kept_ready (i ∷ is) j o r h =
      subst (λ z. Mirrors (ready_answer x s (fr k (i ∷ is) j n env o Ready) fs (i ∷ is) r) (part_answer (plain_setting x) (plain_rest s c hs) (fr k (i ∷ is) j n bare (erased_owned o) Ready) gs is i.dest z (erased_reply r)))
      (sym (same_part x k env bare fs gs reads callers i))
      (kept_part (i ∷ is) is j i.dest o r (op_part x k (suc (length fs)) env i.op) h)

  ready_asks : (is : List Inst) (j : Jump) (o : Owned) → KeptAsk (ready_ask x (fr k is j n env o Ready) (suc (length fs)) is)
      → ready_ask (plain_setting x) (fr k is j n bare (erased_owned o) Ready) (suc (length gs)) is ≡ erased_ask (ready_ask x (fr k is j n env o Ready) (suc (length fs)) is)
  ready_asks [] j o h = term_asks k n n env bare j o h
  ready_asks (i ∷ is) j o h = ap part_ask (same_part x k env bare fs gs reads callers i) ∙ part_asks (op_part x k (suc (length fs)) env i.op) h

  pub copyings_ask : (is : List Inst) (j : Jump) (o : Owned) (pr : Progress)
      → copying_ask (plain_setting x) (fr k is j n bare (erased_owned o) (Copying (erased_progress pr))) (suc (length gs)) is (erased_progress pr) ≡ erased_ask (copying_ask x (fr k is j n env o (Copying pr)) (suc (length fs)) is pr)
  copyings_ask [] j o pr = refl
  copyings_ask (i ∷ is) j o pr = ap (λ z. copying_by z (erased_progress pr)) (same_part x k env bare fs gs reads callers i) ∙ copying_asks (op_part x k (suc (length fs)) env i.op) pr

  copying_kept_part : (is js : List Inst) (j : Jump) (o : Owned) (pr : Progress) (r : Reply) (q : Part) → KeptAsk (copying_by q pr)
      → Mirrors (copying_part s (fr k is j n env o (Copying pr)) fs js q pr r) (copying_part (plain_rest s c hs) (fr k is j n bare (erased_owned o) (Copying (erased_progress pr))) gs js (plain_part q) (erased_progress pr) (erased_reply r))
  copying_kept_part is js j o pr r (Copies d t m) h = copied_alike is js j o (Copying pr) (Copying (erased_progress pr)) m pr r.plain
  copying_kept_part is js j o pr r (Gives v) h = absurd h
  copying_kept_part is js j o pr r (Fails t) h = absurd h
  copying_kept_part is js j o pr r (Steps st) h = absurd h
  copying_kept_part is js j o pr r (Retags p kind m) h = absurd h
  copying_kept_part is js j o pr r (Calls k2 vs ty attr) h = absurd h
  copying_kept_part is js j o pr r (Joins m ty attr) h = absurd h

  kept_copying : (is : List Inst) (j : Jump) (o : Owned) (pr : Progress) (r : Reply) → KeptAsk (copying_ask x (fr k is j n env o (Copying pr)) (suc (length fs)) is pr)
      → Mirrors (copying_answer x s (fr k is j n env o (Copying pr)) fs is pr r) (copying_answer (plain_setting x) (plain_rest s c hs) (fr k is j n bare (erased_owned o) (Copying (erased_progress pr))) gs is (erased_progress pr) (erased_reply r))
  kept_copying [] j o pr r h = absurd h
  kept_copying (i ∷ is) j o pr r h =
      subst (λ z. Mirrors (copying_answer x s (fr k (i ∷ is) j n env o (Copying pr)) fs (i ∷ is) pr r) (copying_part (plain_rest s c hs) (fr k (i ∷ is) j n bare (erased_owned o) (Copying (erased_progress pr))) gs is z (erased_progress pr) (erased_reply r)))
      (sym (same_part x k env bare fs gs reads callers i))
      (copying_kept_part (i ∷ is) is j o pr r (op_part x k (suc (length fs)) env i.op) h)

-- a reply, which may be a trap
answered_by : (x : Setting) (s : Source) (c : ℕ) (f pf : Frame) (fs gs hs : List Frame) (r : Reply) (t : Option Trap) → pf.number ≡ f.number
    → Mirrors (doing_answer x s f fs f.doing r) (doing_answer (plain_setting x) (plain_rest s c hs) pf gs pf.doing (erased_reply r))
    → Mirrors (frames_answer x s (f ∷ fs) t r) (frames_answer (plain_setting x) (plain_rest s c hs) (pf ∷ gs) t (erased_reply r))
answered_by x s c f pf fs gs hs r None e m = m
answered_by x s c f pf fs gs hs r (Some t) e m = (c, ap (λ z. record { frames = []; over = end.Trapped t; last = z; count = c; started = s.started }) e)

answered : (x : Setting) (s : Source) (c : ℕ) (f pf : Frame) (fs gs hs : List Frame) (r : Reply) → pf.number ≡ f.number
    → Mirrors (doing_answer x s f fs f.doing r) (doing_answer (plain_setting x) (plain_rest s c hs) pf gs pf.doing (erased_reply r))
    → Mirrors (frames_answer x s (f ∷ fs) (trap_of r.plain) r) (frames_answer (plain_setting x) (plain_rest s c hs) (pf ∷ gs) (trap_of (erased_plain r.plain)) (erased_reply r))
answered x s c f pf fs gs hs r e m =
    subst (λ z. Mirrors (frames_answer x s (f ∷ fs) (trap_of r.plain) r) (frames_answer (plain_setting x) (plain_rest s c hs) (pf ∷ gs) z (erased_reply r))) (sym (trap_erased r.plain))
    (answered_by x s c f pf fs gs hs r (trap_of r.plain) e m)

-- the plain thread makes the step from the state in which it is
record Alike (x : Setting) (s : Source) (fs : List Frame) (p : Source) (r : Reply) : Type 0 where
  pub site : source_site p ≡ frames_site fs s.last
  pub asks : source_ask (plain_setting x) p ≡ erased_ask (frames_ask x fs s.over)
  pub after : Mirrors (frames_answer x (counted_if (frames_begin fs) s) fs (trap_of r.plain) r) (source_answer (plain_setting x) p (erased_reply r))
  pub child : Mirrors (frames_child x fs) (source_child (plain_setting x) p)

module _ (x : Setting) (s : Source) (f : Frame) (fs gs : List Frame) (bare : Env) (c : ℕ) (r : Reply) (reads : Reads f.env bare) (callers : CallersMirror fs gs) where
  leaves_alike : (v : Arg) (p : Source) (d : Doing) → LeavesAs f.insts f.term bare v d → p ≡ plain_rest s c (plain_frame (record f { doing = Leaving v }) bare d ∷ gs) → KeptAsk (release_or (release_ask f.owned) nowhere)
      → Alike x s (record f { doing = Leaving v } ∷ fs) p r
  leaves_alike v p (Leaving w) e is h =
      subst (λ z. Alike x s (record f { doing = Leaving v } ∷ fs) z r) (sym is) (record {
        site = refl;
        asks = release_asks f.owned.children f.owned.protectors f.owned.stack nowhere h (λ z. z) nowhere;
        after = answered x s c (record f { doing = Leaving v }) (plain_frame (record f { doing = Leaving v }) bare (Leaving w)) fs gs (plain_frame (record f { doing = Leaving v }) bare (Leaving w) ∷ gs) r refl
            (kept_leaving x s c f.function f.number f.env bare fs gs (plain_frame (record f { doing = Leaving v }) bare (Leaving w) ∷ gs) reads callers f.insts f.term (Leaving v) (Leaving w) v w nowhere f.owned.children f.owned.protectors f.owned.stack e h (λ z. z));
        child = insts_child_alike x f.function f.insts f.term f.number f.number f.env bare f.owned (erased_owned f.owned) (Leaving v) (Leaving w) fs gs reads callers;
      })
  leaves_alike v p Ready e is h = late f.insts f.term e is
    where
      late : (js : List Inst) (j : Jump) → LeavesAs js j bare v Ready → p ≡ plain_rest s c (fr f.function js j f.number bare (erased_owned f.owned) Ready ∷ gs)
          → Alike x s (fr f.function js j f.number f.env f.owned (Leaving v) ∷ fs) p r
      late [] (jump.Ret u at) e is =
          let pf : Frame = fr f.function [] (jump.Ret u at) f.number bare (erased_owned f.owned) Ready in
          let g : Frame = fr f.function [] (jump.Ret u at) f.number f.env f.owned (Leaving v) in
          subst (λ z. Alike x s (g ∷ fs) z r) (sym is) (record {
            site = refl;
            asks = release_asks f.owned.children f.owned.protectors f.owned.stack nowhere h (λ z. z) ask.Turn;
            after = answered x s (c + 1) g pf fs gs (pf ∷ gs) r refl
                (kept_leaving x s (c + 1) f.function f.number f.env bare fs gs (pf ∷ gs) reads callers [] (jump.Ret u at) (Leaving v) Ready v (returned_value bare u) nowhere f.owned.children f.owned.protectors f.owned.stack e h (λ z. z));
            child = insts_child_alike x f.function [] (jump.Ret u at) f.number f.number f.env bare f.owned (erased_owned f.owned) (Leaving v) Ready fs gs reads callers;
          })
      late [] (jump.Br g) e is = absurd e
      late [] (jump.CondBr u g g2) e is = absurd e
      late [] jump.Unreachable e is = absurd e
      late (i ∷ js) j e is = absurd e
  leaves_alike v p (Entering ps) e is h = absurd (no_leaving f.insts f.term e)
    where
      no_leaving : (js : List Inst) (j : Jump) → LeavesAs js j bare v (Entering ps) → ⊥
      no_leaving [] (jump.Ret u at) e = e
      no_leaving [] (jump.Br g) e = e
      no_leaving [] (jump.CondBr u g g2) e = e
      no_leaving [] jump.Unreachable e = e
      no_leaving (i ∷ js) j e = e
  leaves_alike v p (Copying pr) e is h = absurd (no_leaving f.insts f.term e)
    where
      no_leaving : (js : List Inst) (j : Jump) → LeavesAs js j bare v (Copying pr) → ⊥
      no_leaving [] (jump.Ret u at) e = e
      no_leaving [] (jump.Br g) e = e
      no_leaving [] (jump.CondBr u g g2) e = e
      no_leaving [] jump.Unreachable e = e
      no_leaving (i ∷ js) j e = e
  leaves_alike v p (Waiting dest ty attr) e is h = absurd (no_leaving f.insts f.term e)
    where
      no_leaving : (js : List Inst) (j : Jump) → LeavesAs js j bare v (Waiting dest ty attr) → ⊥
      no_leaving [] (jump.Ret u at) e = e
      no_leaving [] (jump.Br g) e = e
      no_leaving [] (jump.CondBr u g g2) e = e
      no_leaving [] jump.Unreachable e = e
      no_leaving (i ∷ js) j e = e
  leaves_alike v p (Retagging dest u0 a) e is h = absurd (no_leaving f.insts f.term e)
    where
      no_leaving : (js : List Inst) (j : Jump) → LeavesAs js j bare v (Retagging dest u0 a) → ⊥
      no_leaving [] (jump.Ret u at) e = e
      no_leaving [] (jump.Br g) e = e
      no_leaving [] (jump.CondBr u g g2) e = e
      no_leaving [] jump.Unreachable e = e
      no_leaving (i ∷ js) j e = e

leaving_alike : (x : Setting) (s p : Source) (k : ℕ) (is : List Inst) (j : Jump) (n : ℕ) (env bare : Env) (v : Arg) (fs gs : List Frame) (c : ℕ) (r : Reply) (cs : List ℕ) (ps : List Prov) (ms : List Made) → Reads env bare → CallersMirror fs gs
    → LeavingMirrors s (fr k is j n env (record { children = cs; protectors = ps; stack = ms }) (Leaving v)) bare gs v cs ms c p → KeptAsk (release_or (release_by cs ps ms) nowhere)
    → Alike x s (fr k is j n env (record { children = cs; protectors = ps; stack = ms }) (Leaving v) ∷ fs) p r
leaving_alike x s p k is j n env bare v fs gs c r [] [] [] reads callers top h = absurd h
leaving_alike x s p k is j n env bare v fs gs c r [] (q ∷ ps) [] reads callers top h = absurd (let e : true ≡ false = h in cc)
leaving_alike x s p k is j n env bare v fs gs c r [] (q ∷ ps) (m ∷ ms) reads callers top h = absurd (let e : true ≡ false = h in cc)
leaving_alike x s p k is j n env bare v fs gs c r [] [] (m ∷ ms) reads callers top h =
    leaves_alike x s (fr k is j n env (record { children = []; protectors = []; stack = m ∷ ms }) (Leaving v)) fs gs bare c r reads callers v p top.0 top.1 top.2 h
leaving_alike x s p k is j n env bare v fs gs c r (m ∷ cs) ps ms reads callers top h =
    leaves_alike x s (fr k is j n env (record { children = m ∷ cs; protectors = ps; stack = ms }) (Leaving v)) fs gs bare c r reads callers v p top.0 top.1 top.2 h

entering_left : (env : Env) (ps : List Param) → KeptAsk (entering_ask env ps) → ⊥
entering_left env [] h = h
entering_left env (p ∷ ps) h = by_attr p.attr h
  where
    by_attr : (a : Option Attr) → KeptAsk (entry_ask (value_in env p.reg.name) a) → ⊥
    by_attr None h = h
    by_attr (Some a) h = retag_left (value_in env p.reg.name) a.kind (guard_of a.kind) a.size h

kept_doing : (x : Setting) (s p : Source) (f : Frame) (d : Doing) (fs gs : List Frame) (bare : Env) (c : ℕ) (r : Reply) → Reads f.env bare → CallersMirror fs gs
    → TopMirrors s (record f { doing = d }) bare gs d c p → KeptAsk (doing_ask x (record f { doing = d }) (suc (length fs)) d)
    → Alike x s (record f { doing = d } ∷ fs) p r
kept_doing x s p f Ready fs gs bare c r reads callers top h =
    let g : Frame = record f { doing = Ready } in
    let pf : Frame = plain_frame g bare Ready in
    subst (λ z. Alike x s (g ∷ fs) z r) (sym top) (record {
      site = refl;
      asks = ready_asks x s c f.function f.number f.env bare fs gs [] reads callers f.insts f.term f.owned h;
      after = answered x (counted s) (c + 1) g pf fs gs (pf ∷ gs) r refl (kept_ready x (counted s) (c + 1) f.function f.number f.env bare fs gs (pf ∷ gs) reads callers f.insts f.term f.owned r h);
      child = insts_child_alike x f.function f.insts f.term f.number f.number f.env bare f.owned (erased_owned f.owned) Ready Ready fs gs reads callers;
    })
kept_doing x s p f (Copying pr) fs gs bare c r reads callers top h =
    let g : Frame = record f { doing = Copying pr } in
    let pf : Frame = plain_frame g bare (Copying (erased_progress pr)) in
    subst (λ z. Alike x s (g ∷ fs) z r) (sym top) (record {
      site = refl;
      asks = copyings_ask x s c f.function f.number f.env bare fs gs [] reads callers f.insts f.term f.owned pr;
      after = answered x s c g pf fs gs (pf ∷ gs) r refl (kept_copying x s c f.function f.number f.env bare fs gs (pf ∷ gs) reads callers f.insts f.term f.owned pr r h);
      child = insts_child_alike x f.function f.insts f.term f.number f.number f.env bare f.owned (erased_owned f.owned) (Copying pr) (Copying (erased_progress pr)) fs gs reads callers;
    })
kept_doing x s p f (Leaving v) fs gs bare c r reads callers top h =
    leaving_alike x s p f.function f.insts f.term f.number f.env bare v fs gs c r f.owned.children f.owned.protectors f.owned.stack reads callers top h
kept_doing x s p f (Entering ps) fs gs bare c r reads callers top h = absurd (entering_left f.env ps h)
kept_doing x s p f (Waiting dest ty attr) fs gs bare c r reads callers top h = absurd h
kept_doing x s p f (Retagging dest v a) fs gs bare c r reads callers top h = absurd (retag_left v a.kind Free a.size h)

kept_frames : (x : Setting) (s p : Source) (fs : List Frame) (r : Reply) → MirrorsBy s fs p → KeptAsk (frames_ask x fs s.over) → Alike x s fs p r
kept_frames x s p [] r m h = absurd h
kept_frames x s p (f ∷ fs) r m h = kept_doing x s p f f.doing fs m.below m.bare m.count r m.reads m.callers m.top h

pub kepts : (x : Setting) (s p : Source) (e : Entry) → Mirrors s p → Answers (source_ask x s) e → is_left_out e.request ≡ false → StepsAlike (source x) (source (plain_setting x)) Mirrors s p e
kepts x s p e m h l =
    let a : Alike x s s.frames p e.reply = kept_frames x s p s.frames e.reply m (kept_of (source_ask x s) e h l) in
    let asks : source_ask (plain_setting x) p ≡ erased_ask (source_ask x s) = a.asks in
    record {
      now = p;
      settles = (0, refl);
      site = a.site;
      asks = subst (λ z. Answers z (erased_entry e)) (sym asks) (answers_erased (source_ask x s) e h);
      after = a.after;
      child = a.child;
    }
