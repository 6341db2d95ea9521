-- The join law: answers, asks, and the whole.
use Rattle.std.proofs.Common.{◌≡◌, ℕ, suc, ◌+◌, ◌<◌, ◌%◌, ◌^◌, List, [], ◌∷◌, ◌++◌, length, Option, Some, None, Bool, true, false, refl, sym, ap, ◌∙◌, subst, if◌then◌else◌, inl, inr}
use Rattle.std.specs.Prelude.{nat_eq}
use Rattle.std.specs.Str.{bytes_eq}
use Rattle.history.specs.declared.ask.Arg.{Arg}
use Rattle.history.specs.declared.ask.Ask.{Ask}
use Rattle.history.specs.declared.ask.Ask.TheVariants as ask
use Rattle.history.specs.declared.entry.Entry.{Entry}
use Rattle.history.specs.declared.ask.MachineEnd.TheVariants as end
use Rattle.ir_ast.specs.declared.types.Place.{Place}
use Rattle.history.specs.declared.entry.Plain.{Plain}
use Rattle.history.specs.declared.entry.Plain.TheVariants as plain
use Rattle.bsan_ids.specs.declared.numbers.Prov.{Prov}
use Rattle.history.specs.declared.entry.Reply.{Reply}
use Rattle.perm_table.specs.declared.RetagKind.{RetagKind}
use Rattle.bsan_ids.specs.declared.numbers.ThreadNo.{ThreadNo}
use Rattle.ir_ast.specs.declared.types.Ty.{Ty}
use Rattle.ir_ast.specs.declared.types.Attr.{Attr}
use Rattle.ir_ast.specs.declared.program.Inst.{Inst}
use Rattle.ir_ast.specs.declared.program.Jump.{Jump}
use Rattle.ir_ast.specs.declared.program.Jump.TheVariants as jump
use Rattle.ir_ast.specs.declared.program.Named.{Named}
use Rattle.ir_ast.specs.declared.program.Op.{Op}
use Rattle.ir_ast.specs.declared.program.Op.TheVariants as op
use Rattle.ir_ast.specs.declared.program.Param.{Param}
use Rattle.ir_ast.specs.declared.program.Program.{Program}
use Rattle.source_sem.specs.Env.{Env, value_in, with_value, put, put_some}
use Rattle.ir_ast.specs.Arithmetic.{Worked, word, div_zero, shift_too_far, worked}
use Rattle.thread_parts.specs.Parts.{Part, Step, Gives, Fails, Steps, Retags, Copies, Calls, Joins, Makes, Accesses, Prints, Hosts, Spawns, part_ask, step_ask, step_result, worked_part, make_by, retag_part, copy_by, call_part, retag_ask}
use Rattle.bsan_ids.specs.Lists.{without}
use Rattle.thread_parts.specs.Owned.{Owned, step_owned, protect, Made, with_stack, release_by, released_by}
use Rattle.history.specs.Replies.{trap_of}
use Rattle.thread_parts.specs.Words.{number_in}
use Rattle.history.specs.declared.trap.Trap.{Trap}
use Rattle.thread_parts.specs.Copies.{Progress, copy_ask_by, untouched, copy_after, copy_done}
use Rattle.thread_parts.specs.Fits.{SpawnedChild, ReplyFits}
use Rattle.source_sem.specs.Source.{ready_turn, term_ask, ready_ask, returned_value, at_frames, counted, part_child, insts_child, frames_child, Setting, Source, Frame, Doing, Ready, Entering, Copying, Waiting, Retagging, Leaving, op_part, result_step, joined, entry_ask, frames_type, nowhere, leave_with, copy_on, part_answer, term_answer, ready_answer, copying_part, copying_answer, entered, doing_answer, frames_answer, doing_ask, frames_ask, release_or, copying_ask, copying_by, frames_turn, counted_if, frames_begin, is_ready}
use Rattle.source_sem.proofs.Mirroring.{fr, entering_steps, copying_steps, release_steps}
use Rattle.source_sem.specs.Plain.{IsWaiting}
use Rattle.source_sem.specs.Joining.{StartsNoMain, Enters, IsLost, CallersStand, FramesStand, ThreadStands, JoinLaw, IsSpawnOp, HasHandles, FunctionJoins, JoinsAccepted, Site, Placed, Waits, Retagged, DoingStands, is_bound}
use Rattle.std.specs.Cmp.Lexicographic.{bytes_decides}
use Rattle.ir_rules.specs.Occurrences.{function_events}
use Rattle.ir_rules.specs.Rules.{held}
use Rattle.source_sem.proofs.Events.{inst_held, spawn_alone, params_apart}
use Rattle.source_sem.proofs.Joins.{join_asks, holds_more, or_false}
use Rattle.runs.specs.Parts.{Has, Answers, spawned_of, spawned_by}
use Rattle.perm_table.specs.declared.Guard.TheVariants.{Free}
use Rattle.ir_ast.specs.declared.types.Place.TheVariants.{Stack, Heap}
use Rattle.history.specs.Pieces.{Byte}
use Rattle.history.specs.declared.entry.Request.TheVariants as request
use Rattle.source_sem.proofs.Writes.{value_in-with_value, is_bound-with_value}
use Rattle.source_sem.proofs.JoinLaw.{next_some, dest_gives, PartGives, IsSpawns, step_gives, spawn_part, resumed_stands, return_stands, entering_stands, start_stands, ready_turns, mod_same}

-- one more child

placed_more : (P : Program) (started : List ℕ) (c k : ℕ) (at : Site P k) (env : Env) (o : Owned) (done left : List Inst) (j : Jump) → Placed P started k at env o done left j → Placed P (c ∷ started) k at env o done left j
placed_more P started c k at env o done left j p = record { insts = p.insts; term = p.term; holds = holds_more at.code at.b at.block done env started c p.holds; owned = λ d h. inr (p.owned d h) }

doing_more : (P : Program) (started : List ℕ) (c k : ℕ) (is : List Inst) (j : Jump) (env : Env) (o : Owned) (d : Doing) → IsWaiting d → DoingStands P started k is j env o d → DoingStands P (c ∷ started) k is j env o d
doing_more P started c k is j env o (Waiting dest ty attr) w h =
    record { at = h.at; done = h.done; i = h.i; placed = placed_more P started c k h.at env o h.done (h.i ∷ is) j h.placed; dest_is = h.dest_is; no_spawn = h.no_spawn; gives = h.gives }
doing_more P started c k is j env o Ready w h = absurd w
doing_more P started c k is j env o (Entering ps) w h = absurd w
doing_more P started c k is j env o (Copying pr) w h = absurd w
doing_more P started c k is j env o (Retagging dest v a) w h = absurd w
doing_more P started c k is j env o (Leaving v) w h = absurd w

callers_more : (P : Program) (started : List ℕ) (c : ℕ) (fs : List Frame) → CallersStand P started fs → CallersStand P (c ∷ started) fs
callers_more P started c [] h = tt
callers_more P started c (f ∷ fs) h = (doing_more P started c f.function f.insts f.term f.env f.owned f.doing h.1 h.0, h.1, callers_more P started c fs h.2)

kids_more : (started : List ℕ) (c : ℕ) → (0 < c) × (c < 2 ^ 32) → ((d : ℕ) → Has started d → (0 < d) × (d < 2 ^ 32)) → (d : ℕ) → Has (c ∷ started) d → (0 < d) × (d < 2 ^ 32)
kids_more started c new old d (inl e) = subst (λ z. (0 < z) × (z < 2 ^ 32)) e new
kids_more started c new old d (inr h) = old d h

without_has : (c : ℕ) (cs : List ℕ) (d : ℕ) → Has (without c cs) d → Has cs d
without_has c [] d h = h
without_has c (e ∷ cs) d h = by_same (λ q. without_has c cs d q) (nat_eq c e) h
  where
    by_same : (Has (without c cs) d → Has cs d) → (b : Bool) → Has (if b then cs else e ∷ without c cs) d → Has (e ∷ cs) d
    by_same rest true h = inr h
    by_same rest false (inl q) = inl q
    by_same rest false (inr q) = inr (rest q)

has_append : (started cs : List ℕ) (c d : ℕ) → ((e : ℕ) → Has cs e → Has started e) → Has (cs ++ c ∷ []) d → Has (c ∷ started) d
has_append started [] c d old (inl q) = inl q
has_append started [] c d old (inr q) = absurd q
has_append started (e ∷ cs) c d old (inl q) = inr (old d (inl q))
has_append started (e ∷ cs) c d old (inr q) = has_append started cs c d (λ z h. old z (inr h)) q

-- what a thread is told, and that a child that it starts isn't thread 0
abbrev Told : Option Ty → Entry → Type 0
Told ty e = ReplyFits ty e e.request × StartsNoMain e

spawned_number : (e : Entry) (k : ℕ) (p : Plain) → e.request ≡ request.Spawn k → e.reply.plain ≡ p → SpawnedChild p → StartsNoMain e → (0 < number_in p) × (number_in p < 2 ^ 32)
spawned_number e k (plain.Spawned c) asks is h above = (above c.0 (ap (λ r. spawned_by r e.reply.plain) asks ∙ ap spawned_of is), h)
spawned_number e k (plain.Made a) asks is h above = absurd h
spawned_number e k (plain.Value v) asks is h above = absurd h
spawned_number e k (plain.Copied piece) asks is h above = absurd h
spawned_number e k plain.Done asks is h above = absurd h
spawned_number e k (plain.Retagged added) asks is h above = absurd h
spawned_number e k (plain.Trapped t) asks is h above = absurd h

made_has : (place : Place) (m : Made) (o : Owned) (c : ℕ) → Has (with_stack place m o).children c → Has o.children c
made_has Heap m o c h = h
made_has Stack m o c h = h

kept_child : (started : List ℕ) (b : Bool) (env : Env) (q : List ℕ) (w : Arg) → (b ≡ true → ⊥) → (is_bound env q ≡ true → Has started (value_in env q).value) → (if b then true else is_bound env q) ≡ true → Has started (if b then w else value_in env q).value
kept_child started true env q w never old h = absurd (never refl)
kept_child started false env q w never old h = old h

protect_has : (p : Plain) (r : Option Prov) (o : Owned) (c : ℕ) → Has (protect p r o).children c → Has o.children c
protect_has (plain.Retagged true) (Some q) o c h = h
protect_has (plain.Retagged true) None o c h = h
protect_has (plain.Retagged false) r o c h = h
protect_has (plain.Made a) r o c h = h
protect_has (plain.Value v) r o c h = h
protect_has (plain.Copied piece) r o c h = h
protect_has plain.Done r o c h = h
protect_has (plain.Spawned t) r o c h = h
protect_has (plain.Trapped e) r o c h = h

module _ (x : Setting) (acc : JoinsAccepted x.program) where
  leave_stands : (t : Source) (k : ℕ) (is : List Inst) (j : Jump) (n : ℕ) (env : Env) (o : Owned) (d : Doing) (fs : List Frame) (v : Arg) (cs : List ℕ) (ps : List Prov) (ms : List Made)
      → ((c : ℕ) → Has t.started c → (0 < c) × (c < 2 ^ 32)) → CallersStand x.program t.started fs → ((c : ℕ) → Has cs c → Has t.started c)
      → ThreadStands x.program (leave_with x.tracked t (fr k is j n env o d) fs v (record { children = cs; protectors = ps; stack = ms }))
  leave_stands t k is j n env o d fs v (c ∷ cs) ps ms kids callers own = record { frames = (inr own, callers); kids = kids }
  leave_stands t k is j n env o d fs v [] (p ∷ ps) ms kids callers own = record { frames = (inr own, callers); kids = kids }
  leave_stands t k is j n env o d fs v [] [] (m ∷ ms) kids callers own = record { frames = (inr own, callers); kids = kids }
  leave_stands t k is j n env o d fs v [] [] [] kids callers own = return_stands x.program acc x.tracked t (fr k is j n env (record { children = []; protectors = []; stack = [] }) d) fs v kids callers

  released_stands : (t : Source) (k : ℕ) (is : List Inst) (j : Jump) (n : ℕ) (env : Env) (o : Owned) (d : Doing) (fs : List Frame) (v : Arg) (cs : List ℕ) (ps : List Prov) (ms : List Made)
      → ((c : ℕ) → Has t.started c → (0 < c) × (c < 2 ^ 32)) → CallersStand x.program t.started fs → ((c : ℕ) → Has cs c → Has t.started c)
      → ThreadStands x.program (leave_with x.tracked t (fr k is j n env o d) fs v (released_by cs ps ms))
  released_stands t k is j n env o d fs v (c ∷ cs) ps ms kids callers own = leave_stands t k is j n env o d fs v cs ps ms kids callers (λ z h. own z (inr h))
  released_stands t k is j n env o d fs v [] (p ∷ ps) ms kids callers own = leave_stands t k is j n env o d fs v [] ps ms kids callers own
  released_stands t k is j n env o d fs v [] [] (m ∷ ms) kids callers own = leave_stands t k is j n env o d fs v [] [] ms kids callers own
  released_stands t k is j n env o d fs v [] [] [] kids callers own = leave_stands t k is j n env o d fs v [] [] [] kids callers own

  term_answers : (t : Source) (k : ℕ) (j : Jump) (n : ℕ) (env : Env) (o : Owned) (fs : List Frame) → ((c : ℕ) → Has t.started c → (0 < c) × (c < 2 ^ 32)) → CallersStand x.program t.started fs → FramesStand x.program t.started t.frames → ((c : ℕ) → Has o.children c → Has t.started c)
      → ThreadStands x.program (term_answer x.tracked t (fr k [] j n env o Ready) fs j)
  term_answers t k (jump.Ret u a) n env o fs kids callers same own = released_stands t k [] (jump.Ret u a) n env o Ready fs (returned_value env u) o.children o.protectors o.stack kids callers own
  term_answers t k (jump.Br g) n env o fs kids callers same own = record { frames = same; kids = kids }
  term_answers t k (jump.CondBr v g g2) n env o fs kids callers same own = record { frames = same; kids = kids }
  term_answers t k jump.Unreachable n env o fs kids callers same own = record { frames = same; kids = kids }

  copy_stands : (t : Source) (k : ℕ) (at : Site x.program k) (i : Inst) (is : List Inst) (j : Jump) (n : ℕ) (env : Env) (o : Owned) (done : List Inst) (d : Doing) (fs : List Frame) (pr : Progress) (b : Bool) → ((c : ℕ) → Has t.started c → (0 < c) × (c < 2 ^ 32)) → CallersStand x.program t.started fs
      → Placed x.program t.started k at env o done (i ∷ is) j → ((m : Named) → i.dest ≡ Some m → ⊥) → (IsSpawnOp i.op → ⊥) → ThreadStands x.program (copy_on t (fr k (i ∷ is) j n env o d) fs is pr b)
  copy_stands t k at i is j n env o done d fs pr false kids callers p gives spawns = record { frames = (inr (at, done, p), callers); kids = kids }
  copy_stands t k at i is j n env o done d fs pr true kids callers p gives spawns =
      let next : Placed x.program t.started k at env o (done ++ i ∷ []) is j = next_some x.program acc t.started k at env o o done is j i i.dest None refl (λ m e. absurd (gives m e)) (λ w e sp. absurd (spawns sp)) p.owned p in
      record { frames = (inr (at, done ++ i ∷ [], next), callers); kids = kids }

  -- a step that starts no child
  step_stands : (t : Source) (k : ℕ) (at : Site x.program k) (i : Inst) (is : List Inst) (j : Jump) (n : ℕ) (env : Env) (o o2 : Owned) (done : List Inst) (fs : List Frame) (v : Option Arg) → ((c : ℕ) → Has t.started c → (0 < c) × (c < 2 ^ 32)) → CallersStand x.program t.started fs
      → Placed x.program t.started k at env o done (i ∷ is) j → ((m : Named) → i.dest ≡ Some m → (w : Arg) × (v ≡ Some w)) → (IsSpawnOp i.op → ⊥) → ((c : ℕ) → Has o2.children c → Has t.started c)
      → ThreadStands x.program (at_frames t (fr k is j (n + 1) (put_some i.dest v env) o2 Ready ∷ fs))
  step_stands t k at i is j n env o o2 done fs v kids callers p gives spawns own =
      let next : Placed x.program t.started k at (put_some i.dest v env) o2 (done ++ i ∷ []) is j = next_some x.program acc t.started k at env o o2 done is j i i.dest v refl gives (λ w e sp. absurd (spawns sp)) own p in
      record { frames = (inr (at, done ++ i ∷ [], next), callers); kids = kids }

  spawn_stands : (t : Source) (k : ℕ) (at : Site x.program k) (i : Inst) (is : List Inst) (j : Jump) (n : ℕ) (env : Env) (o : Owned) (done : List Inst) (fs : List Frame) (c : ℕ) → ((c : ℕ) → Has t.started c → (0 < c) × (c < 2 ^ 32)) → CallersStand x.program t.started fs
      → Placed x.program t.started k at env o done (i ∷ is) j → (0 < c) × (c < 2 ^ 32)
      → ThreadStands x.program (record t { frames = fr k is j (n + 1) (put_some i.dest (Some (record { value = c; prov = None })) env) (record o { children = o.children ++ c ∷ [] }) Ready ∷ fs; started = c ∷ t.started })
  spawn_stands t k at i is j n env o done fs c kids callers p new =
      let v : Arg = record { value = c; prov = None } in
      let next : Placed x.program (c ∷ t.started) k at (put_some i.dest (Some v) env) (record o { children = o.children ++ c ∷ [] }) (done ++ i ∷ []) is j =
      next_some x.program acc (c ∷ t.started) k at env o (record o { children = o.children ++ c ∷ [] }) done is j i i.dest (Some v) refl (λ m e. (v, refl)) (λ w e sp. inl (let same : Some v ≡ Some w = e in let q : v ≡ w = cc in ap (λ z. z.value) q))
      (λ d h. has_append t.started o.children c d p.owned h) (placed_more x.program t.started c k at env o done (i ∷ is) j p) in
      record { frames = (inr (at, done ++ i ∷ [], next), callers_more x.program t.started c fs callers); kids = kids_more t.started c new kids }

  join_typed : (c : ℕ) (ty : Option Ty) (attr : Option Attr) → PartGives (Joins c ty attr) → (t : Ty) × (ty ≡ Some t)
  join_typed c (Some ty) attr h = (ty, refl)
  join_typed c None attr h = absurd h

  part_answers : (t : Source) (k : ℕ) (at : Site x.program k) (i : Inst) (is : List Inst) (j : Jump) (n : ℕ) (env : Env) (o : Owned) (done : List Inst) (fs : List Frame) (e : Entry) (q : Part) → ((c : ℕ) → Has t.started c → (0 < c) × (c < 2 ^ 32)) → CallersStand x.program t.started fs → FramesStand x.program t.started t.frames
      → Placed x.program t.started k at env o done (i ∷ is) j → ((m : Named) → i.dest ≡ Some m → PartGives q) → (IsSpawnOp i.op → IsSpawns q) → Answers (part_ask q) e → (ty : Option Ty) → Told ty e
      → ThreadStands x.program (part_answer x t (fr k (i ∷ is) j n env o Ready) fs is i.dest q e.reply)
  part_answers t k at i is j n env o done fs e (Steps (Makes m place)) kids callers same p gives spawns a ty fits =
      step_stands t k at i is j n env o (step_owned (Makes m place) e.reply o) done fs (step_result (Makes m place) e.reply) kids callers p (λ u h. step_gives (Makes m place) e.reply (gives u h)) spawns (λ c h. p.owned c (made_has place _ o c h))
  part_answers t k at i is j n env o done fs e (Steps (Accesses u b)) kids callers same p gives spawns a ty fits =
      step_stands t k at i is j n env o o done fs (step_result (Accesses u b) e.reply) kids callers p (λ m h. step_gives (Accesses u b) e.reply (gives m h)) spawns p.owned
  part_answers t k at i is j n env o done fs e (Steps (Prints v)) kids callers same p gives spawns a ty fits =
      step_stands t k at i is j n env o o done fs None kids callers p (λ m h. step_gives (Prints v) e.reply (gives m h)) spawns p.owned
  part_answers t k at i is j n env o done fs e (Steps (Hosts m b c)) kids callers same p gives spawns a ty fits =
      step_stands t k at i is j n env o o done fs (step_result (Hosts m b c) e.reply) kids callers p (λ u h. step_gives (Hosts m b c) e.reply (gives u h)) spawns p.owned
  part_answers t k at i is j n env o done fs e (Steps (Spawns k2 vs)) kids callers same p gives spawns a ty fits =
      spawn_stands t k at i is j n env o done fs (number_in e.reply.plain) kids callers p (spawned_number e k2 e.reply.plain a.0 refl (subst (λ z. ReplyFits ty e z) a.0 fits.0) fits.1)
  part_answers t k at i is j n env o done fs e (Retags u kind m) kids callers same p gives spawns a ty fits =
      step_stands t k at i is j n env o o done fs (Some (record { value = u.value; prov = e.reply.carried })) kids callers p (λ m2 h. (record { value = u.value; prov = e.reply.carried }, refl)) spawns p.owned
  part_answers t k at i is j n env o done fs e (Copies u v m) kids callers same p gives spawns a ty fits =
      copy_stands t k at i is j n env o done Ready fs (copy_after untouched e.reply.plain) (copy_done m (copy_after untouched e.reply.plain)) kids callers p gives spawns
  part_answers t k at i is j n env o done fs e (Joins c ty2 attr) kids callers same p gives spawns a ty fits =
      let waits : Waits x.program t.started k is j env o i.dest ty2 = record { at = at; done = done; i = i; placed = p; dest_is = refl; no_spawn = spawns; gives = λ m h. join_typed c ty2 attr (gives m h) } in
      resumed_stands x.program acc t k is j n env o (joined o c) Ready fs i.dest ty2 (result_step x.tracked ty2 attr) (record { value = number_in e.reply.plain; prov = e.reply.carried }) kids callers waits (λ d h. p.owned d (without_has c o.children d h))
  part_answers t k at i is j n env o done fs e (Gives v) kids callers same p gives spawns a ty fits = absurd a
  part_answers t k at i is j n env o done fs e (Fails v) kids callers same p gives spawns a ty fits = absurd a
  part_answers t k at i is j n env o done fs e (Calls k2 vs ty2 attr) kids callers same p gives spawns a ty fits = absurd a

  copying_part_stands : (t : Source) (k : ℕ) (at : Site x.program k) (i : Inst) (is : List Inst) (j : Jump) (n : ℕ) (env : Env) (o : Owned) (done : List Inst) (fs : List Frame) (pr : Progress) (r : Reply) (q : Part) (e : Entry) → ((c : ℕ) → Has t.started c → (0 < c) × (c < 2 ^ 32)) → CallersStand x.program t.started fs
      → Placed x.program t.started k at env o done (i ∷ is) j → ((m : Named) → i.dest ≡ Some m → PartGives q) → (IsSpawnOp i.op → IsSpawns q) → Answers (copying_by q pr) e
      → ThreadStands x.program (copying_part t (fr k (i ∷ is) j n env o (Copying pr)) fs is q pr r)
  copying_part_stands t k at i is j n env o done fs pr r (Copies u v m) e kids callers p gives spawns a = copy_stands t k at i is j n env o done (Copying pr) fs (copy_after pr r.plain) (copy_done m (copy_after pr r.plain)) kids callers p gives spawns
  copying_part_stands t k at i is j n env o done fs pr r (Gives v) e kids callers p gives spawns a = absurd a
  copying_part_stands t k at i is j n env o done fs pr r (Fails v) e kids callers p gives spawns a = absurd a
  copying_part_stands t k at i is j n env o done fs pr r (Steps v) e kids callers p gives spawns a = absurd a
  copying_part_stands t k at i is j n env o done fs pr r (Retags u kind m) e kids callers p gives spawns a = absurd a
  copying_part_stands t k at i is j n env o done fs pr r (Calls k2 vs ty attr) e kids callers p gives spawns a = absurd a
  copying_part_stands t k at i is j n env o done fs pr r (Joins c ty attr) e kids callers p gives spawns a = absurd a

  ready_answers : (t : Source) (k : ℕ) (at : Site x.program k) (is : List Inst) (j : Jump) (n : ℕ) (env : Env) (o : Owned) (done : List Inst) (fs : List Frame) (e : Entry) → ((c : ℕ) → Has t.started c → (0 < c) × (c < 2 ^ 32)) → CallersStand x.program t.started fs → FramesStand x.program t.started t.frames
      → Placed x.program t.started k at env o done is j → Answers (ready_ask x (fr k is j n env o Ready) (suc (length fs)) is) e → (ty : Option Ty) → Told ty e
      → ThreadStands x.program (ready_answer x t (fr k is j n env o Ready) fs is e.reply)
  ready_answers t k at [] j n env o done fs e kids callers same p a ty fits = term_answers t k j n env o fs kids callers same p.owned
  ready_answers t k at (i ∷ is) j n env o done fs e kids callers same p a ty fits =
      part_answers t k at i is j n env o done fs e (op_part x k (suc (length fs)) env i.op) kids callers same p (dest_gives x.program acc x t.started k (suc (length fs)) at env o done is j i p) (spawn_part x k (suc (length fs)) env i.op) a ty fits

  copying_stands : (t : Source) (k : ℕ) (at : Site x.program k) (is : List Inst) (j : Jump) (n : ℕ) (env : Env) (o : Owned) (done : List Inst) (fs : List Frame) (pr : Progress) (e : Entry) → ((c : ℕ) → Has t.started c → (0 < c) × (c < 2 ^ 32)) → CallersStand x.program t.started fs
      → Placed x.program t.started k at env o done is j → Answers (copying_ask x (fr k is j n env o (Copying pr)) (suc (length fs)) is pr) e
      → ThreadStands x.program (copying_answer x t (fr k is j n env o (Copying pr)) fs is pr e.reply)
  copying_stands t k at [] j n env o done fs pr e kids callers p a = absurd a
  copying_stands t k at (i ∷ is) j n env o done fs pr e kids callers p a =
      copying_part_stands t k at i is j n env o done fs pr e.reply (op_part x k (suc (length fs)) env i.op) e kids callers p (dest_gives x.program acc x t.started k (suc (length fs)) at env o done is j i p) (spawn_part x k (suc (length fs)) env i.op) a

  entered_stands : (t : Source) (k : ℕ) (is : List Inst) (j : Jump) (n : ℕ) (env : Env) (o : Owned) (fs : List Frame) (p : Param) (ps : List Param) (r : Reply) → ((c : ℕ) → Has t.started c → (0 < c) × (c < 2 ^ 32)) → CallersStand x.program t.started fs
      → Enters x.program t.started k is j env o (p ∷ ps) → ThreadStands x.program (at_frames t (entered (fr k is j n env o (Entering (p ∷ ps))) p ps r ∷ fs))
  entered_stands t k is j n env o fs p ps r kids callers h =
      let w : Arg = record { value = (value_in env p.reg.name).value; prov = r.carried } in
      let holds : HasHandles h.at.code h.at.b h.at.block h.done (with_value p.reg.name w env) t.started = record {
        missed = λ q e. h.placed.holds.missed q (or_false (bytes_eq p.reg.name q) (is_bound env q) (sym (is_bound-with_value env p.reg.name w q) ∙ e)).1;
        children = λ q f handle e.
            subst (λ z. Has t.started z.value) (sym (value_in-with_value env p.reg.name w q))
            (kept_child t.started (bytes_eq p.reg.name q) env q w (λ same. (params_apart h.at.code q f (p ∷ ps) h.params handle).0 ((bytes_decides p.reg.name q).0 same)) (h.placed.holds.children q f handle) (sym (is_bound-with_value env p.reg.name w q) ∙ e));
      } in
      let placed : Placed x.program t.started k h.at (with_value p.reg.name w env) (protect r.plain r.carried o) h.done is j = record {
        insts = h.placed.insts;
        term = h.placed.term;
        holds = holds;
        owned = λ c q. h.placed.owned c (protect_has r.plain r.carried o c q);
      } in
      entering_stands x.program acc t k h.at is j n (with_value p.reg.name w env) (protect r.plain r.carried o) h.done fs ps kids callers placed h.params.1

  retagged_stands : (t : Source) (k : ℕ) (is : List Inst) (j : Jump) (n : ℕ) (env : Env) (o : Owned) (fs : List Frame) (dest : Option Named) (w : Arg) → ((c : ℕ) → Has t.started c → (0 < c) × (c < 2 ^ 32)) → CallersStand x.program t.started fs
      → Retagged x.program t.started k is j env o dest → ThreadStands x.program (at_frames t (fr k is j n (put dest w env) o Ready ∷ fs))
  retagged_stands t k is j n env o fs None w kids callers h = record { frames = (inr (h.at, h.done ++ h.i ∷ [], h.placed), callers); kids = kids }
  retagged_stands t k is j n env o fs (Some m) w kids callers h =
      let fits : FunctionJoins h.at.code = acc k h.at.code h.at.is_code in
      let holds : HasHandles h.at.code h.at.b h.at.block (h.done ++ h.i ∷ []) (with_value m.name w env) t.started = record {
        missed = λ q e. h.placed.holds.missed q (or_false (bytes_eq m.name q) (is_bound env q) (sym (is_bound-with_value env m.name w q) ∙ e)).1;
        children = λ q f handle e.
            subst (λ z. Has t.started z.value) (sym (value_in-with_value env m.name w q))
            (kept_child t.started (bytes_eq m.name q) env q w
            (λ same. h.no_spawn (spawn_alone h.at.code h.i m f (inst_held h.at.code h.at.b h.at.block h.done is h.i fits.joins.events h.stands) (fits.dests h.at.b h.at.block h.done is h.i m h.stands h.dest_is) h.dest_is (ap (held (function_events h.at.code)) ((bytes_decides m.name q).0 same) ∙ handle)))
            (h.placed.holds.children q f handle) (sym (is_bound-with_value env m.name w q) ∙ e));
      } in
      let placed : Placed x.program t.started k h.at (with_value m.name w env) o (h.done ++ h.i ∷ []) is j = record { insts = h.placed.insts; term = h.placed.term; holds = holds; owned = h.placed.owned } in
      record { frames = (inr (h.at, h.done ++ h.i ∷ [], placed), callers); kids = kids }

  doing_answers : (s : Source) (k : ℕ) (is : List Inst) (j : Jump) (n : ℕ) (env : Env) (o : Owned) (d : Doing) (fs : List Frame) (e : Entry) → ((c : ℕ) → Has s.started c → (0 < c) × (c < 2 ^ 32)) → CallersStand x.program s.started fs → FramesStand x.program s.started s.frames
      → DoingStands x.program s.started k is j env o d → Answers (doing_ask x (fr k is j n env o d) (suc (length fs)) d) e → (ty : Option Ty) → Told ty e
      → ThreadStands x.program (doing_answer x (counted_if (is_ready d) s) (fr k is j n env o d) fs d e.reply)
  doing_answers s k is j n env o Ready fs e kids callers same h a ty fits = ready_answers (counted s) k h.0 is j n env o h.1 fs e kids callers same h.2 a ty fits
  doing_answers s k is j n env o (Entering []) fs e kids callers same h a ty fits = absurd a
  doing_answers s k is j n env o (Entering (p ∷ ps)) fs e kids callers same h a ty fits = entered_stands s k is j n env o fs p ps e.reply kids callers h
  doing_answers s k is j n env o (Copying pr) fs e kids callers same h a ty fits = copying_stands s k h.0 is j n env o h.1 fs pr e kids callers h.2 a
  doing_answers s k is j n env o (Waiting dest ty2 attr) fs e kids callers same h a ty fits = absurd a
  doing_answers s k is j n env o (Retagging dest v b) fs e kids callers same h a ty fits = retagged_stands s k is j (n + 1) env o fs dest (record { value = v.value; prov = e.reply.carried }) kids callers h
  doing_answers s k is j n env o (Leaving v) fs e kids callers same h a ty fits = released_stands s k is j n env o (Leaving v) fs v o.children o.protectors o.stack kids callers h

  lost_asks : (k : ℕ) (is : List Inst) (j : Jump) (n : ℕ) (env : Env) (o : Owned) (d : Doing) (depth : ℕ) → IsLost is j d → doing_ask x (fr k is j n env o d) depth d ≡ nowhere
  lost_asks k is j n env o d depth l =
      subst (λ z. doing_ask x (fr k is j n env o z) depth z ≡ nowhere) (sym l.doing)
      (subst (λ z. ready_ask x (fr k z j n env o Ready) depth z ≡ nowhere) (sym l.insts)
      (subst (λ z. term_ask (fr k [] z n env o Ready) z ≡ nowhere) (sym l.term) refl))

  frames_answers : (s : Source) (fs : List Frame) (e : Entry) (t : Option Trap) → ((c : ℕ) → Has s.started c → (0 < c) × (c < 2 ^ 32)) → FramesStand x.program s.started s.frames → FramesStand x.program s.started fs → Answers (frames_ask x fs s.over) e → (ty : Option Ty) → Told ty e
      → ThreadStands x.program (frames_answer x (counted_if (frames_begin fs) s) fs t e.reply)
  frames_answers s [] e t kids same h a ty fits = absurd a
  frames_answers s (f ∷ fs) e (Some t) kids same h a ty fits = trapped (is_ready f.doing)
    where
      trapped : (b : Bool) → ThreadStands x.program (record (counted_if b s) { frames = []; over = end.Trapped t; last = f.number })
      trapped true = record { frames = tt; kids = kids }
      trapped false = record { frames = tt; kids = kids }
  frames_answers s (f ∷ fs) e None kids same (inl lost, callers) a ty fits = absurd (subst (λ z. Answers z e) (lost_asks f.function f.insts f.term f.number f.env f.owned f.doing (suc (length fs)) lost) a)
  frames_answers s (f ∷ fs) e None kids same (inr h, callers) a ty fits = doing_answers s f.function f.insts f.term f.number f.env f.owned f.doing fs e kids callers same h a ty fits

  frames_turns : (s : Source) (fs : List Frame) → ((c : ℕ) → Has s.started c → (0 < c) × (c < 2 ^ 32)) → FramesStand x.program s.started fs → frames_ask x fs s.over ≡ ask.Turn → ThreadStands x.program (frames_turn x (counted s) fs)
  frames_turns s [] kids h a = absurd (let e : ask.Ended s.over ≡ ask.Turn = a in cc)
  frames_turns s (f ∷ fs) kids (inl lost, callers) a = absurd (let e : nowhere ≡ ask.Turn = sym (lost_asks f.function f.insts f.term f.number f.env f.owned f.doing (suc (length fs)) lost) ∙ a in cc)
  frames_turns s (f ∷ fs) kids (inr h, callers) a = by_doing f.doing h a
    where
      by_doing : (d : Doing) → DoingStands x.program s.started f.function f.insts f.term f.env f.owned d → doing_ask x (record f { doing = d }) (suc (length fs)) d ≡ ask.Turn → ThreadStands x.program (ready_turn x (counted s) (record f { doing = d }) fs f.insts)
      by_doing Ready h a = ready_turns x acc (counted s) f.function h.0 f.insts f.term f.number f.env f.owned h.1 fs kids callers h.2 a
      by_doing (Entering ps) h a = absurd (entering_steps f.env ps a)
      by_doing (Copying pr) h a = absurd (copying_steps x (record f { doing = Copying pr }) (suc (length fs)) f.insts pr a)
      by_doing (Waiting dest ty attr) h a = absurd (let e : nowhere ≡ ask.Turn = a in cc)
      by_doing (Retagging dest v b) h a = absurd (let e : retag_ask v b.kind Free b.size ≡ ask.Turn = a in cc)
      by_doing (Leaving v) h a = absurd (release_steps f.owned.children f.owned.protectors f.owned.stack a)

-- what a join asks for

copy_joins : (d s : Arg) (n k : ℕ) (half : Option (List Byte)) (c : ThreadNo) → copy_ask_by d s n k half ≡ ask.Join c → ⊥
copy_joins d s n k None c h = cc
copy_joins d s n k (Some piece) c h = cc

step_joins : (s : Step) (c : ThreadNo) → step_ask s ≡ ask.Join c → ⊥
step_joins (Makes n place) c h = cc
step_joins (Accesses p a) c h = cc
step_joins (Prints v) c h = cc
step_joins (Hosts n a b) c h = cc
step_joins (Spawns k vs) c h = cc

abbrev NoJoin : Part → Type 0
NoJoin (Joins c ty attr) = ⊥
NoJoin other = Unit {0}

part_joins : (q : Part) (c : ThreadNo) → NoJoin q → part_ask q ≡ ask.Join c → ⊥
part_joins (Gives v) c t h = let e : ask.Turn ≡ ask.Join c = h in cc
part_joins (Fails v) c t h = let e : ask.Ended (end.Trapped v) ≡ ask.Join c = h in cc
part_joins (Steps s) c t h = step_joins s c h
part_joins (Retags p kind n) c t h = let e : retag_ask p kind Free n ≡ ask.Join c = h in cc
part_joins (Copies d s n) c t h = copy_joins d s n 0 None c h
part_joins (Calls k vs ty attr) c t h = let e : ask.Turn ≡ ask.Join c = h in cc
part_joins (Joins d ty attr) c t h = t

make_none : (b : Bool) (place : Place) (n : ℕ) → NoJoin (make_by b place n)
make_none true place n = tt
make_none false place n = tt

retag_none : (b : Bool) (p : Arg) (kind : RetagKind) (n : ℕ) → NoJoin (retag_part b p kind n)
retag_none true p kind n = tt
retag_none false p kind n = tt

copy_none : (b : Bool) (d s : Arg) (n : ℕ) → NoJoin (copy_by b d s n)
copy_none true d s n = tt
copy_none false d s n = tt

call_none : (b : Bool) (k : ℕ) (vs : List Arg) (ty : Option Ty) (attr : Option Attr) → NoJoin (call_part b k vs ty attr)
call_none true k vs ty attr = tt
call_none false k vs ty attr = tt

worked_none : (n : Worked) → NoJoin (worked_part n)
worked_none (word n) = tt
worked_none div_zero = tt
worked_none shift_too_far = tt

abbrev JoinOf : Env → Op → ThreadNo → Type 0
JoinOf env (op.Join ty at h) c = (value_in env h.name).value % 2 ^ 32 ≡ c.0
JoinOf env other c = ⊥

op_joins : (x : Setting) (k d : ℕ) (env : Env) (o : Op) (c : ThreadNo) → part_ask (op_part x k d env o) ≡ ask.Join c → JoinOf env o c
op_joins x k d env (op.Join ty at j) c h =
    let e : ask.Join (record { 0 = (value_in env j.name).value % 2 ^ 32 }) ≡ ask.Join c = h in
    let f : record { 0 = (value_in env j.name).value % 2 ^ 32 } ≡ c = cc in ap (λ z. z.0) f
op_joins x k d env (op.Make place size) c h = absurd (part_joins (op_part x k d env (op.Make place size)) c (make_none _ place _) h)
op_joins x k d env (op.Retag kind p n) c h = absurd (part_joins (op_part x k d env (op.Retag kind p n)) c (retag_none _ _ kind n) h)
op_joins x k d env (op.Binary o w a b) c h = absurd (part_joins (op_part x k d env (op.Binary o w a b)) c (worked_none (worked o _ _ _)) h)
op_joins x k d env (op.Call ty name args) c h = absurd (part_joins (op_part x k d env (op.Call ty name args)) c (call_none _ _ _ ty _) h)
op_joins x k d env (op.Copy p q v) c h = absurd (part_joins (op_part x k d env (op.Copy p q v)) c (copy_none _ _ _ _) h)
op_joins x k d env (op.Const w v) c h = absurd (part_joins (op_part x k d env (op.Const w v)) c tt h)
op_joins x k d env op.Null c h = absurd (part_joins (op_part x k d env op.Null) c tt h)
op_joins x k d env (op.Gep p v) c h = absurd (part_joins (op_part x k d env (op.Gep p v)) c tt h)
op_joins x k d env (op.Load ty p) c h = absurd (part_joins (op_part x k d env (op.Load ty p)) c tt h)
op_joins x k d env (op.Store ty v p) c h = absurd (part_joins (op_part x k d env (op.Store ty v p)) c tt h)
op_joins x k d env (op.Compare o ty a b) c h = absurd (part_joins (op_part x k d env (op.Compare o ty a b)) c tt h)
op_joins x k d env (op.Select ty v a b) c h = absurd (part_joins (op_part x k d env (op.Select ty v a b)) c tt h)
op_joins x k d env (op.Cast o v w a at) c h = absurd (part_joins (op_part x k d env (op.Cast o v w a at)) c tt h)
op_joins x k d env (op.PtrToInt p) c h = absurd (part_joins (op_part x k d env (op.PtrToInt p)) c tt h)
op_joins x k d env (op.Input v) c h = absurd (part_joins (op_part x k d env (op.Input v)) c tt h)
op_joins x k d env (op.Modify o w p v) c h = absurd (part_joins (op_part x k d env (op.Modify o w p v)) c tt h)
op_joins x k d env (op.CmpXchg w p e v) c h = absurd (part_joins (op_part x k d env (op.CmpXchg w p e v)) c tt h)
op_joins x k d env (op.Free p) c h = absurd (part_joins (op_part x k d env (op.Free p)) c tt h)
op_joins x k d env (op.Print w v) c h = absurd (part_joins (op_part x k d env (op.Print w v)) c tt h)
op_joins x k d env (op.Host ty name args) c h = absurd (part_joins (op_part x k d env (op.Host ty name args)) c tt h)
op_joins x k d env (op.Spawn name args) c h = absurd (part_joins (op_part x k d env (op.Spawn name args)) c tt h)

release_joins : (started : List ℕ) (cs : List ℕ) (ps : List Prov) (ms : List Made) (a : Ask) (c : ThreadNo) → ((d : ℕ) → Has cs d → Has started d) → (a ≡ ask.Join c → ⊥) → release_or (release_by cs ps ms) a ≡ ask.Join c → Has started c.0
release_joins started (d ∷ cs) ps ms a c own none h =
    let e : ask.Join (record { 0 = d }) ≡ ask.Join c = h in
    let f : record { 0 = d } ≡ c = cc in own c.0 (inl (ap (λ z. z.0) f))
release_joins started [] (p ∷ ps) ms a c own none h = absurd (let e : release_or (release_by [] (p ∷ ps) ms) a ≡ ask.Join c = h in cc)
release_joins started [] [] (m ∷ ms) a c own none h = absurd (let e : release_or (release_by [] [] (m ∷ ms)) a ≡ ask.Join c = h in cc)
release_joins started [] [] [] a c own none h = absurd (none h)

entry_joins : (v : Arg) (a : Option Attr) (c : ThreadNo) → entry_ask v a ≡ ask.Join c → ⊥
entry_joins v None c h = cc
entry_joins v (Some a) c h = cc

copying_joins : (q : Part) (pr : Progress) (c : ThreadNo) → copying_by q pr ≡ ask.Join c → ⊥
copying_joins (Copies d s n) pr c h = copy_joins d s n pr.pieces pr.half c h
copying_joins (Gives v) pr c h = cc
copying_joins (Fails v) pr c h = cc
copying_joins (Steps v) pr c h = cc
copying_joins (Retags p kind n) pr c h = cc
copying_joins (Calls k vs ty attr) pr c h = cc
copying_joins (Joins d ty attr) pr c h = cc

module _ (x : Setting) (acc : JoinsAccepted x.program) where
  join_here : (started : List ℕ) (k : ℕ) (at : Site x.program k) (i : Inst) (is : List Inst) (j : Jump) (env : Env) (o : Owned) (done : List Inst) (c : ThreadNo) (p : Op) → i.op ≡ p → JoinOf env p c → ((c : ℕ) → Has started c → (0 < c) × (c < 2 ^ 32))
      → Placed x.program started k at env o done (i ∷ is) j → Has started c.0
  join_here started k at i is j env o done c (op.Join ty a h) e is_join kids p =
      let child : Has started (value_in env h.name).value = join_asks at.code at.b at.block started (acc k at.code at.is_code).joins done is i ty a h env (record { is_block = at.is_block; insts = p.insts }) e p.holds in
      subst (λ z. Has started z) (sym (mod_same (value_in env h.name).value (kids (value_in env h.name).value child).1) ∙ is_join) child
  join_here started k at i is j env o done c _ e is_join kids p = absurd is_join

  ready_joins : (s : Source) (k depth : ℕ) (at : Site x.program k) (is : List Inst) (j : Jump) (n : ℕ) (env : Env) (o : Owned) (done : List Inst) (c : ThreadNo) → ((c : ℕ) → Has s.started c → (0 < c) × (c < 2 ^ 32)) → Placed x.program s.started k at env o done is j
      → ready_ask x (fr k is j n env o Ready) depth is ≡ ask.Join c → Has s.started c.0
  ready_joins s k depth at [] (jump.Ret u a) n env o done c kids p h = release_joins s.started o.children o.protectors o.stack ask.Turn c p.owned (λ z. cc) h
  ready_joins s k depth at [] (jump.Br g) n env o done c kids p h = absurd (let e : ask.Turn ≡ ask.Join c = h in cc)
  ready_joins s k depth at [] (jump.CondBr v g g2) n env o done c kids p h = absurd (let e : ask.Turn ≡ ask.Join c = h in cc)
  ready_joins s k depth at [] jump.Unreachable n env o done c kids p h = absurd (let e : nowhere ≡ ask.Join c = h in cc)
  ready_joins s k depth at (i ∷ is) j n env o done c kids p h = join_here s.started k at i is j env o done c i.op refl (op_joins x k depth env i.op c h) kids p

  doing_joins : (s : Source) (k depth : ℕ) (is : List Inst) (j : Jump) (n : ℕ) (env : Env) (o : Owned) (d : Doing) (c : ThreadNo) → ((c : ℕ) → Has s.started c → (0 < c) × (c < 2 ^ 32)) → DoingStands x.program s.started k is j env o d
      → doing_ask x (fr k is j n env o d) depth d ≡ ask.Join c → Has s.started c.0
  doing_joins s k depth is j n env o Ready c kids h a = ready_joins s k depth h.0 is j n env o h.1 c kids h.2 a
  doing_joins s k depth is j n env o (Entering []) c kids h a = absurd (let e : nowhere ≡ ask.Join c = a in cc)
  doing_joins s k depth is j n env o (Entering (p ∷ ps)) c kids h a = absurd (entry_joins (value_in env p.reg.name) p.attr c a)
  doing_joins s k depth [] j n env o (Copying pr) c kids h a = absurd (let e : nowhere ≡ ask.Join c = a in cc)
  doing_joins s k depth (i ∷ is) j n env o (Copying pr) c kids h a = absurd (copying_joins (op_part x k depth env i.op) pr c a)
  doing_joins s k depth is j n env o (Waiting dest ty attr) c kids h a = absurd (let e : nowhere ≡ ask.Join c = a in cc)
  doing_joins s k depth is j n env o (Retagging dest v b) c kids h a = absurd (let e : retag_ask v b.kind Free b.size ≡ ask.Join c = a in cc)
  doing_joins s k depth is j n env o (Leaving v) c kids h a = release_joins s.started o.children o.protectors o.stack nowhere c h (λ z. cc) a

  frames_joins : (s : Source) (fs : List Frame) (c : ThreadNo) → ((c : ℕ) → Has s.started c → (0 < c) × (c < 2 ^ 32)) → FramesStand x.program s.started fs → frames_ask x fs s.over ≡ ask.Join c → Has s.started c.0
  frames_joins s [] c kids h a = absurd (let e : ask.Ended s.over ≡ ask.Join c = a in cc)
  frames_joins s (f ∷ fs) c kids (inl lost, callers) a = absurd (let e : nowhere ≡ ask.Join c = sym (lost_asks x acc f.function f.insts f.term f.number f.env f.owned f.doing (suc (length fs)) lost) ∙ a in cc)
  frames_joins s (f ∷ fs) c kids (inr h, callers) a = doing_joins s f.function (suc (length fs)) f.insts f.term f.number f.env f.owned f.doing c kids h a

  part_child_stands : (q : Part) → ThreadStands x.program (part_child x q)
  part_child_stands (Steps (Spawns k vs)) = start_stands x acc k vs
  part_child_stands (Steps (Makes n place)) = start_stands x acc 0 []
  part_child_stands (Steps (Accesses p a)) = start_stands x acc 0 []
  part_child_stands (Steps (Prints v)) = start_stands x acc 0 []
  part_child_stands (Steps (Hosts n a b)) = start_stands x acc 0 []
  part_child_stands (Gives v) = start_stands x acc 0 []
  part_child_stands (Fails v) = start_stands x acc 0 []
  part_child_stands (Retags p kind n) = start_stands x acc 0 []
  part_child_stands (Copies d s n) = start_stands x acc 0 []
  part_child_stands (Calls k vs ty attr) = start_stands x acc 0 []
  part_child_stands (Joins c ty attr) = start_stands x acc 0 []

  child_stands : (fs : List Frame) → ThreadStands x.program (frames_child x fs)
  child_stands [] = start_stands x acc 0 []
  child_stands (f ∷ fs) = by_insts f.insts
    where
      by_insts : (is : List Inst) → ThreadStands x.program (insts_child x f (suc (length fs)) is)
      by_insts [] = start_stands x acc 0 []
      by_insts (i ∷ is) = part_child_stands (op_part x f.function (suc (length fs)) f.env i.op)

  pub join_law : JoinLaw x
  join_law = record {
    start = start_stands x acc;
    child = λ s. child_stands s.frames;
    turn = λ s h a. frames_turns x acc s s.frames h.kids h.frames a;
    after = λ s e h a fits above. frames_answers x acc s s.frames e (trap_of e.reply.plain) h.kids h.frames h.frames a (frames_type x s.frames) (fits, above);
    asks = λ s c h a. let child : Has s.started c.0 = frames_joins s s.frames c h.kids h.frames a in (child, (h.kids c.0 child).0);
  }
