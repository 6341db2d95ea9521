-- A right record whose logs may merge erases to a run of the plain program, in which each thread ends alike.
use Rattle.std.proofs.Common.{◌≡◌, ℕ, zero, suc, ◌≤◌, Bool, true, false, List, [], ◌∷◌, refl, sym, ◌∙◌, ap, subst, ◌≢◌, inl, inr, arith}
use Rattle.std.specs.Prelude.{Some, None, unwrap_or, if◌then◌else◌, ◌==◌}
use Rattle.std.specs.declared.option.Option.{Option}
use Rattle.std.proofs.lemmas.Bool.{true≢false, eq-eqb, eqb-true}
use Rattle.std.proofs.lemmas.Bool.Decides.{eqb_tells}
use Rattle.bsan_ids.specs.declared.numbers.Limits.{Limits}
use Rattle.history.specs.declared.ask.Ask.TheVariants as ask
use Rattle.history.specs.declared.ask.MachineEnd.TheVariants as end
use Rattle.history.specs.declared.entry.Entry.{Entry}
use Rattle.history.specs.declared.entry.Reply.{Reply}
use Rattle.history.specs.declared.entry.Request.{Request}
use Rattle.history.specs.declared.entry.Request.TheVariants as request
use Rattle.history.specs.declared.trap.Trap.{Trap}
use Rattle.history.specs.declared.trap.Trap.TheVariants as trap
use Rattle.history.specs.declared.log.End.{End}
use Rattle.history.specs.declared.log.End.TheVariants as log_end
use Rattle.history.specs.declared.log.ThreadLog.{ThreadLog}
use Rattle.history.specs.declared.record.RunRecord.{RunRecord}
use Rattle.runs.specs.Parts.{Has, of_thread, child_of, is_child, spawned_by, spawned_of, Answers}
use Rattle.runs.specs.Machine.{Machine, Memory, TurnsTo, Settles, SettlesWithin}
use Rattle.runs.specs.Threads.{Fed, Feeds, IsThreadRun, EndsAs, TrapsAs}
use Rattle.runs.specs.Interleaving.{World, first_world, world_after, Allowed, Replies, Event, Interleaves, last_world}
use Rattle.runs.specs.Merge.{merged, entries_of, MayMerge}
use Rattle.runs.specs.Right.{NumbersRiseFrom, HasThreads, IsRight, ErasesToPlainRun, EndsPlainly}
use Rattle.runs.specs.Erasure.{Erases}
use Rattle.runs.specs.RightErasure.{AsksAlike, LimitAsked, LimitsAreAsked}
use Rattle.runs.proofs.Composition.{settles_without, without_limit, own_entries, other_entries, starts_as}
use Rattle.runs.proofs.ErasedRun.{some_behind, follow_settled, settles_more, erased_run, mirrors_first}
use Rattle.runs.proofs.Merges.{in_all}
use Rattle.runs.proofs.MergeLaws.{merged_is_merge}

-- local turns end in one state alone ------------------------------------------------

no_turn : (M : Machine) (a b : M.State) (e : Entry) → a ≡ b → M.ask a ≡ ask.Turn → Answers (M.ask b) e → ⊥
no_turn M a b e same turn h = subst (λ x. Answers x e) (ap M.ask (sym same) ∙ turn) h

same_after : (M : Machine) (n k : ℕ) (s a b : M.State) (e : Entry) → TurnsTo M n s a → TurnsTo M k s b → Answers (M.ask a) e → Answers (M.ask b) e → a ≡ b
same_after M zero zero s a b e h g on_a on_b = sym h ∙ g
same_after M zero (suc k) s a b e h g on_a on_b = absurd (no_turn M s a e h g.0 on_a)
same_after M (suc n) zero s a b e h g on_a on_b = absurd (no_turn M s b e g h.0 on_b)
same_after M (suc n) (suc k) s a b e h g on_a on_b = same_after M n k (M.turn s) a b e h.1 g.1 on_a on_b

-- a child that starts is new
was_none : (M : Machine) (O : Memory) (A : Allowed) (w : World M O) (e : Entry) (t : ℕ) (r : Request) → Replies M O A w e r → is_child (spawned_by r e.reply.plain) t ≡ true → w.threads t ≡ None
was_none M O A w e t (request.Spawn f) h is =
    let at_reply : (h.0.0 == t) ≡ true = subst (λ (y : Reply). is_child (spawned_of y.plain) t ≡ true) h.4 is in
    subst (λ k. w.threads k ≡ None) (eqb-true h.0.0 t at_reply) h.3
was_none M O A w e t _ h is = absurd (true≢false (sym is))

-- what is left of each thread, from where the run has it
abbrev pub Left : (M : Machine) → ℕ → (ℕ → M.State) → Option M.State → ℕ → List Entry → M.State → Type 0
Left M turns starts at t es last = Feeds M turns starts (unwrap_or at (starts t)) (of_thread t es) last

module _ (M : Machine) (O : Memory) (A : Allowed) (turns : ℕ) (starts : ℕ → M.State) (lasts : ℕ → M.State) where
  -- the thread's own entry is done where the run has it
  own_left : (w : World M O) (e : Entry) (es : List Entry) (v : Event M O A w e) (f : Fed M turns starts v.before e) → f.now ≡ v.now
  own_left w e es v f = same_after M f.settles.0 v.settles.0 v.before f.now v.now e (without_limit M turns f.settles.0 v.before f.now f.settles.1) v.settles.1 f.asks v.asks

  own_rest : (w : World M O) (e : Entry) (es : List Entry) (v : Event M O A w e) (last : M.State) → Feeds M turns starts v.before (e ∷ es) last → Feeds M turns starts (M.after v.now e) es last
  own_rest w e es v last mine = subst (λ s. Feeds M turns starts (M.after s e) es last) (own_left w e es v mine.0) mine.1

  child_starts : (w : World M O) (e : Entry) (es : List Entry) (v : Event M O A w e) (last : M.State) → Feeds M turns starts v.before (e ∷ es) last → (t : ℕ) → is_child (child_of e) t ≡ true → starts t ≡ M.child v.now
  child_starts w e es v last mine t is = starts_as M starts (child_of e) (M.child mine.0.now) t mine.0.child is ∙ ap M.child (own_left w e es v mine.0)

  mine : (w : World M O) (e : Entry) (es : List Entry) (v : Event M O A w e) → ((t : ℕ) → Left M turns starts (w.threads t) t (e ∷ es) (lasts t)) → Feeds M turns starts v.before (e ∷ of_thread e.thread.0 es) (lasts e.thread.0)
  mine w e es v left =
      subst (λ l. Feeds M turns starts v.before l (lasts e.thread.0)) (own_entries e.thread.0 e es (eq-eqb e.thread.0 e.thread.0 refl))
      (subst (λ o. Feeds M turns starts (unwrap_or o (starts e.thread.0)) (of_thread e.thread.0 (e ∷ es)) (lasts e.thread.0)) v.started (left e.thread.0))

  left_after : (w : World M O) (e : Entry) (es : List Entry) (v : Event M O A w e) → ((t : ℕ) → Left M turns starts (w.threads t) t (e ∷ es) (lasts t)) → (t : ℕ)
      → Left M turns starts ((world_after M O w v.now e).threads t) t es (lasts t)
  left_after w e es v left t = elim (eqb_tells e.thread.0 t) [
    | inl hit ↦ rw hit.0 (subst (λ k. Feeds M turns starts (M.after v.now e) (of_thread k es) (lasts k)) hit.1 (own_rest w e (of_thread e.thread.0 es) v (lasts e.thread.0) (mine w e es v left)))
    | inr miss ↦ rw miss.0 (by_child (is_child (child_of e) t) refl (subst (λ l. Feeds M turns starts (unwrap_or (w.threads t) (starts t)) l (lasts t)) (other_entries t e es miss.0) (left t)))
  ]
    where
      by_child : (b : Bool) → is_child (child_of e) t ≡ b → Feeds M turns starts (unwrap_or (w.threads t) (starts t)) (of_thread t es) (lasts t)
          → Feeds M turns starts (unwrap_or (if is_child (child_of e) t then Some (M.child v.now) else w.threads t) (starts t)) (of_thread t es) (lasts t)
      by_child false is rest = rw is rest
      by_child true is rest =
          let none : w.threads t ≡ None = was_none M O A w e t e.request v.replies is in
          let first : Feeds M turns starts (starts t) (of_thread t es) (lasts t) = subst (λ o. Feeds M turns starts (unwrap_or o (starts t)) (of_thread t es) (lasts t)) none rest in
          rw is (subst (λ s. Feeds M turns starts s (of_thread t es) (lasts t)) (child_starts w e (of_thread e.thread.0 es) v (lasts e.thread.0) (mine w e es v left) t is) first)

  left_at_end : (w : World M O) (es : List Entry) (run : Interleaves M O A w es) → ((t : ℕ) → Left M turns starts (w.threads t) t es (lasts t)) → (t : ℕ)
      → SettlesWithin M turns (unwrap_or ((last_world M O A w es run).threads t) (starts t)) (lasts t)
  left_at_end w [] run left t = left t
  left_at_end w (e ∷ es) run left t = left_at_end (world_after M O w run.0.now e) es run.1 (left_after w e es run.0 left) t

-- who has started stays started ----------------------------------------------------------

module _ (M : Machine) (O : Memory) (A : Allowed) where
  next_some : (w : World M O) (e : Entry) (now s : M.State) (t : ℕ) → w.threads t ≡ Some s → (s' : M.State) × ((world_after M O w now e).threads t ≡ Some s')
  next_some w e now s t is = by_own (e.thread.0 == t) (is_child (child_of e) t)
    where
      by_own : (b c : Bool) → (s' : M.State) × ((if b then Some (M.after now e) else (if c then Some (M.child now) else w.threads t)) ≡ Some s')
      by_own true c = (M.after now e, refl)
      by_own false true = (M.child now, refl)
      by_own false false = (s, is)

  stays_some : (w : World M O) (es : List Entry) (run : Interleaves M O A w es) (t : ℕ) (s : M.State) → w.threads t ≡ Some s → (s' : M.State) × ((last_world M O A w es run).threads t ≡ Some s')
  stays_some w [] run t s is = (s, is)
  stays_some w (e ∷ es) run t s is = let n = next_some w e run.0.now s t is in stays_some (world_after M O w run.0.now e) es run.1 t n.0 n.1

  spawned_now : (w : World M O) (e : Entry) (now : M.State) (t : ℕ) → child_of e ≡ Some t → (s' : M.State) × ((world_after M O w now e).threads t ≡ Some s')
  spawned_now w e now t is = subst (λ c. (s' : M.State) × ((if e.thread.0 == t then Some (M.after now e) else (if is_child c t then Some (M.child now) else w.threads t)) ≡ Some s')) (sym is) (by_own (e.thread.0 == t))
    where
      by_own : (b : Bool) → (s' : M.State) × ((if b then Some (M.after now e) else (if t == t then Some (M.child now) else w.threads t)) ≡ Some s')
      by_own true = (M.after now e, refl)
      by_own false = (M.child now, rw (eq-eqb t t refl) refl)

  spawned_some : (w : World M O) (es : List Entry) (run : Interleaves M O A w es) (t : ℕ) (x : Entry) → Has es x → child_of x ≡ Some t → (s' : M.State) × ((last_world M O A w es run).threads t ≡ Some s')
  spawned_some w [] run t x h is = absurd h
  spawned_some w (e ∷ es) run t x (inl same) is =
      let n = spawned_now w e run.0.now t (ap child_of same ∙ is) in stays_some (world_after M O w run.0.now e) es run.1 t n.0 n.1
  spawned_some w (e ∷ es) run t x (inr h) is = spawned_some (world_after M O w run.0.now e) es run.1 t x h is

-- the log of each thread -------------------------------------------------------------------

pub record RunOf (M : Machine) (limits : Limits) (starts : ℕ → M.State) (logs : List ThreadLog) (t : ℕ) : Type 0 where
  pub last : M.State
  pub feeds : Feeds M limits.turns starts (starts t) (entries_of logs t) last
  pub ends : (log : ThreadLog) → Has logs log → log.number.0 ≡ t → EndsAs M limits last log.«end» × LimitAsked (M.ask last) log.«end»

pub number_above : (k : ℕ) (logs : List ThreadLog) (log : ThreadLog) → NumbersRiseFrom k logs → Has logs log → k ≤ log.number.0
number_above k [] log r h = absurd h
number_above k (l ∷ ls) log r (inl is) = subst (λ (z : ThreadLog). k ≤ z.number.0) is r.0
number_above k (l ∷ ls) log r (inr h) = let m = number_above (suc l.number.0) ls log r.1 h in let b = r.0 in omega (arith, m, b)

run_of : (M : Machine) (limits : Limits) (starts : ℕ → M.State) (k : ℕ) (logs : List ThreadLog) → NumbersRiseFrom k logs → (runs : (log : ThreadLog) → Has logs log → IsThreadRun M limits starts log)
    → ((log : ThreadLog) (h : Has logs log) → LimitAsked (M.ask (runs log h).last) log.«end») → (t : ℕ) → RunOf M limits starts logs t
run_of M limits starts k [] r runs asked t = record { last = starts t; feeds = (0, refl); ends = λ log h n. absurd h }
run_of M limits starts k (l ∷ ls) r runs asked t = elim (eqb_tells l.number.0 t) [
  | inl hit ↦
      let run = runs l (inl refl) in
      record {
        last = run.last;
        feeds = rw hit.0 (subst (λ n. Feeds M limits.turns starts (starts n) l.entries run.last) hit.1 run.feeds);
        ends = λ log h n. by_place log h n run hit.1;
      }
  | inr miss ↦
      let rest = run_of M limits starts (suc l.number.0) ls r.1 (λ log h. runs log (inr h)) (λ log h. asked log (inr h)) t in
      record { last = rest.last; feeds = rw miss.0 rest.feeds; ends = λ log h n. elsewhere log h n miss.1 rest.last rest.ends }
]
  where
    by_place : (log : ThreadLog) → Has (l ∷ ls) log → log.number.0 ≡ t → (run : IsThreadRun M limits starts l) → l.number.0 ≡ t → EndsAs M limits (runs l (inl refl)).last log.«end» × LimitAsked (M.ask (runs l (inl refl)).last) log.«end»
    by_place log (inl is) n run same = subst (λ (z : ThreadLog). EndsAs M limits (runs l (inl refl)).last z.«end» × LimitAsked (M.ask (runs l (inl refl)).last) z.«end») is ((runs l (inl refl)).«end», asked l (inl refl))
    by_place log (inr h) n run same = let above = number_above (suc l.number.0) ls log r.1 h in absurd (omega (arith, above, n, same))

    elsewhere : (log : ThreadLog) → Has (l ∷ ls) log → log.number.0 ≡ t → l.number.0 ≢ t → (last : M.State)
        → ((m : ThreadLog) → Has ls m → m.number.0 ≡ t → EndsAs M limits last m.«end» × LimitAsked (M.ask last) m.«end») → EndsAs M limits last log.«end» × LimitAsked (M.ask last) log.«end»
    elsewhere log (inl is) n other last ends = absurd (other (ap (λ (z : ThreadLog). z.number.0) is ∙ n))
    elsewhere log (inr h) n other last ends = ends log h n

-- ends ----------------------------------------------------------------------------------------

module _ (M P : Machine) (O Q : Memory) (E : Erases M P O Q) (alike : AsksAlike M P E.mirrors) (limits : Limits) where
  traps_plainly : (s : M.State) (p : P.State) (t : Trap) → E.mirrors s p → TrapsAs limits (M.ask s) t → LimitAsked (M.ask s) (log_end.Trapped t) → (q : P.State) × Settles P p q × EndsPlainly P q (log_end.Trapped t)
  traps_plainly s p (trap.AllocLimit d) m h asks = alike.makes s p m asks
  traps_plainly s p (trap.ThreadLimit d) m h asks = alike.spawns s p m asks
  traps_plainly s p t m (inl is) asks = E.ended s p (end.Trapped t) m is
  traps_plainly s p t m (inr none) asks = absurd none

  ends_plainly : (s : M.State) (p : P.State) (e : End) → E.mirrors s p → EndsAs M limits s e → LimitAsked (M.ask s) e → (q : P.State) × Settles P p q × EndsPlainly P q e
  ends_plainly s p (log_end.Returned v o) m h asks = E.ended s p (end.Returned v o) m h.0
  ends_plainly s p (log_end.Trapped t) m h asks = traps_plainly s p t m h.0 asks
  ends_plainly s p (log_end.StepLimit x) m h asks = (p, (0, refl), tt)
  ends_plainly s p log_end.TurnLimit m h asks = (p, (0, refl), tt)
  ends_plainly s p log_end.NoMemory m h asks = (p, (0, refl), tt)
  ends_plainly s p (log_end.ChildEnded c) m h asks = (p, (0, refl), tt)

pub right_erases : (M P : Machine) (O Q : Memory) (E : Erases M P O Q) (A : Allowed) (limits : Limits) (main : ℕ) (start : M.State) (first : P.State) (kept : RunRecord)
    → E.mirrors start first → AsksAlike M P E.mirrors → MayMerge kept.threads → (r : IsRight M O A limits main start kept) → LimitsAreAsked M limits start kept.threads r.runs
    → ErasesToPlainRun P Q A first kept.threads
right_erases M P O Q E A limits main start first kept m alike may r asked =
    let logs = kept.threads in
    let merge = merged_is_merge logs r.threads.rise may in
    let starts : ℕ → M.State = r.runs.starts in
    let own : (t : ℕ) → RunOf M limits starts logs t = run_of M limits starts 0 logs r.threads.rise r.runs.runs asked in
    let begin : (t : ℕ) → Left M limits.turns starts ((first_world M O start).threads t) t (merged logs) (own t).last = λ t.
    (let F : M.State → Type 0 = λ s. Feeds M limits.turns starts s (of_thread t (merged logs)) (own t).last in
    let log_feeds : F (starts t) = subst (λ l. Feeds M limits.turns starts (starts t) l (own t).last) (sym (merge.parts t)) (own t).feeds in
    elim (eqb_tells 0 t) [ inl hit ↦ rw hit.0 (subst F (ap starts (sym hit.1) ∙ r.runs.first) log_feeds) | inr miss ↦ rw miss.0 log_feeds ]) in
    let plain = erased_run M P O Q E A (merged logs) (first_world M O start) (first_world P Q first) (mirrors_first M P O Q E start first m) r.run.run in
    record {
      run = plain.0;
      ends = λ log h.
          let t = log.number.0 in
          let some = started logs r.threads (merged logs) merge.parts (first_world M O start) start refl r.run.run log h in
          let settled = left_at_end M O A limits.turns starts (λ k. (own k).last) (first_world M O start) (merged logs) r.run.run begin t in
          let settles : Settles M some.0 (own t).last = settles_without M limits.turns some.0 (own t).last (subst (λ o. SettlesWithin M limits.turns (unwrap_or o (starts t)) (own t).last) some.1 settled) in
          let b = some_behind M P O Q E _ _ some.0 some.1 (plain.1.threads t) in
          let now = follow_settled M P O Q E some.0 (own t).last b.0 b.2 settles in
          let e = (own t).ends log h refl in
          let over = ends_plainly M P O Q E alike limits (own t).last now.0 log.«end» now.2 e.0 e.1 in
          (b.0, over.0, b.1, settles_more P b.0 now.0 over.0 now.1 over.1, over.2);
    }
  where
    started : (logs : List ThreadLog) → HasThreads main logs → (es : List Entry) → ((t : ℕ) → of_thread t es ≡ entries_of logs t) → (w : World M O) (s : M.State) → w.threads 0 ≡ Some s
        → (run : Interleaves M O A w es) (log : ThreadLog) → Has logs log → (s' : M.State) × ((last_world M O A w es run).threads log.number.0 ≡ Some s')
    started logs threads es parts w s at run log h = elim (threads.spawned log h) [
      | inl zero_is ↦ stays_some M O A w es run log.number.0 s (subst (λ n. w.threads n ≡ Some s) (sym zero_is) at)
      | inr one ↦ spawned_some M O A w es run log.number.0 one.spawn (in_all one.parent.0 es one.spawn (subst (λ l. Has l one.spawn) (sym (parts one.parent.0)) one.stands)) one.answers
    ]
