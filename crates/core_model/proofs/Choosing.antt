-- From what the code did to a choice of the replay, and what the code then shows.
use Rattle.std.proofs.Common.{◌≡◌, ℕ, zero, suc, ◌+◌, ◌<◌, List, [], ◌∷◌, ◌++◌, Bool, true, false, refl, sym, ◌∙◌, ap, subst, inl, inr, length}
use Rattle.std.specs.Prelude.{Option, Some, None, is_none, ◌⊎◌, map, slice_get, slice_set, unwrap_or, option_map, if◌then◌else◌}
use Rattle.std.proofs.lemmas.Bool.{true≢false}
use Rattle.std.proofs.lemmas.List.{map-set, map-append}
use Rattle.bsan_ids.specs.declared.numbers.AllocNo.{AllocNo}
use Rattle.bsan_ids.specs.declared.numbers.Counters.{Counters}
use Rattle.bsan_ids.specs.declared.numbers.Limits.{Limits}
use Rattle.bsan_ids.specs.declared.numbers.ThreadNo.{ThreadNo}
use Rattle.history.specs.declared.ask.Ask.{Ask}
use Rattle.history.specs.declared.ask.Ask.TheVariants as ask
use Rattle.history.specs.declared.entry.Entry.{Entry}
use Rattle.history.specs.declared.entry.Plain.TheVariants as plain
use Rattle.history.specs.declared.entry.Reply.{Reply}
use Rattle.history.specs.declared.entry.Request.{Request}
use Rattle.history.specs.declared.entry.Request.TheVariants as request
use Rattle.history.specs.Histories.{HasBytes, replay}
use Rattle.history.specs.Objects.{clean, unmade, answer}
use Rattle.ir_ast.specs.declared.hosts.HostTable.{HostTable}
use Rattle.run_memory.specs.Memory.{Memory, log_at, keeps, object_of, GrowsAt, SameLogs, with_stamp, with_alloc, with_thread, entry_on, entry_off, Stays, Goes, Notes}
use Rattle.run_memory.specs.declared.states.Step.TheVariants.{Done, Ends as StepEnds}
use Rattle.history.specs.declared.log.End.{End}
use Rattle.history.specs.declared.log.End.TheVariants as log_end
use Rattle.runs.specs.Interleaving.{first_world}
use Rattle.runs.specs.Machine.{MayGoOn, SettlesWithin, TurnsWithin}
use Rattle.runs.specs.Objects.{objects}
use Rattle.history.specs.Replies.{Answers, IsOnNumber}
use Rattle.runs.specs.Parts.{of_alloc}
use Rattle.runs.specs.Replay as replays
use Rattle.runs.specs.Replay.{Progress, Choice, Waits, Ends, Steps, CanGoOn, DrawsStamp, EndsNext, RepliesNext, RestsAs, Chooses, picked, waits, end_at, object_at, drawn_by_end, drawn_by, drawn_stamp, drawn_number, new_fibers}
use Rattle.runs.specs.Threads.{EndsAs}
use Rattle.runs.proofs.ReplayState.{found_set}
use Rattle.runs.proofs.Tracking.{some_inj}
use Rattle.source_sem.specs.Records.{allowed}
use Rattle.source_sem.specs.Starting.{main_start}
use Rattle.source_sem.specs.Source.{Setting, Source, source, source_ask, source_site, source_answer, source_child, source_fits}
use Rattle.core_model.specs.declared.run.Pick.TheVariants as pick
use Rattle.core_model.specs.Ends.{pick_of}
use Rattle.core_model.specs.Fibers.{Seen}
use Rattle.core_model.specs.Running.{Played, UnderWay, Takes, PickedAs, fiber_in}
use Rattle.core_model.specs.Steps.{IsStep, JoinsStep}
use Rattle.core_model.specs.Turns.{Rests}
use Rattle.source_sem.proofs.RequestLaws.{requests_fit}
use Rattle.source_sem.proofs.Stepping.{counts_within}
use Rattle.source_sem.proofs.TrapLaws.{traps_are_own}
use Rattle.core_model.proofs.Coming.{AllStand, all_stand, came_on, asks_bytes, chosen_fits, join_lawful, next_own}
use Rattle.core_model.proofs.Objects.{object_after, stray_after, not_kept, grown_log, same_log}
use Rattle.core_model.proofs.Standing.{StateStands, stands_settled}
use Rattle.core_model.proofs.StepFacts.{step_answers}

-- lists ---------------------------------------------------------------------------------

module _ {X Y : Type 0} where
  pub got_map : (g : X → Y) (xs : List X) (i : ℕ) (x : X) → slice_get xs i ≡ Some x → slice_get (map g xs) i ≡ Some (g x)
  got_map g [] i x is = cc
  got_map g (y ∷ ys) zero x is = ap (λ z. Some (g z)) (some_inj is)
  got_map g (y ∷ ys) (suc i) x is = got_map g ys i x is

  pub get_map : (g : X → Y) (xs : List X) (i : ℕ) → slice_get (map g xs) i ≡ option_map g (slice_get xs i)
  get_map g [] i = refl
  get_map g (y ∷ ys) zero = refl
  get_map g (y ∷ ys) (suc i) = get_map g ys i

module _ {X : Type 0} where
  pub set_twice : (xs : List X) (i : ℕ) (y z : X) → slice_set (slice_set xs i y) i z ≡ slice_set xs i z
  set_twice [] i y z = refl
  set_twice (x ∷ xs) zero y z = refl
  set_twice (x ∷ xs) (suc i) y z = ap (λ l. x ∷ l) (set_twice xs i y z)

  pub set_same : (xs : List X) (i : ℕ) (x : X) → slice_get xs i ≡ Some x → slice_set xs i x ≡ xs
  set_same [] i x is = refl
  set_same (y ∷ ys) zero x is = ap (λ z. z ∷ ys) (sym (some_inj is))
  set_same (y ∷ ys) (suc i) x is = ap (λ l. y ∷ l) (set_same ys i x is)

  pub got_set : (xs : List X) (i : ℕ) (x y : X) → slice_get xs i ≡ Some x → slice_get (slice_set xs i y) i ≡ Some y
  got_set [] i x y is = cc
  got_set (z ∷ zs) zero x y is = refl
  got_set (z ∷ zs) (suc i) x y is = got_set zs i x y is

  pub got_either : (xs ys : List X) (i : ℕ) (y : X) → slice_get (xs ++ ys) i ≡ Some y → (slice_get xs i ≡ Some y) ⊎ ((k : ℕ) × (slice_get ys k ≡ Some y))
  got_either [] ys i y is = inr (i, is)
  got_either (x ∷ xs) ys zero y is = inl is
  got_either (x ∷ xs) ys (suc i) y is = got_either xs ys i y is

abbrev told_child : Counters → Reply
told_child w = clean (plain.Spawned (record { 0 = w.threads + 1 })) None

-- the end of the child that is joined
abbrev pub EndOf : (x : Setting) → Played x → Option End → Ask → Type 0
EndOf x p joined (ask.Join c) = joined ≡ end_at (source x) objects p c.0
EndOf x p joined other = Unit {0}

-- a thread that was open has made local turns
pub record Held (x : Setting) (limits : Limits) (hosts : HostTable) (before : List Seen) (m : Memory) (p : Played x) (t : ℕ) (f : Seen) (now : Source) : Type 0 where
  pub way : UnderWay x limits hosts before m p
  pub at : slice_get before t ≡ Some f
  pub «open» : f.«end» ≡ None
  pub turned : SettlesWithin (source x) limits.turns f.state now

module _ (x : Setting) (limits : Limits) (hosts : HostTable) (before : List Seen) (m : Memory) (p : Played x) (t : ℕ) (f : Seen) (now : Source) (s : Held x limits hosts before m p t f now) where
  abbrev fib : replays.Fiber (source x)
  fib = fiber_in x f

  pub got : slice_get p.threads t ≡ Some fib
  got = ap (λ l. slice_get l t) s.way.shows.threads ∙ got_map (fiber_in x) before t f s.at

  stand : AllStand x limits hosts s.way.runnable s.way.ranges p
  stand = all_stand x limits hosts s.way.runnable s.way.ranges p s.way.came

  pub now_stands : StateStands x limits.turns t (length p.threads) now
  now_stands = stands_settled x limits.turns (join_lawful x limits hosts s.way.runnable s.way.ranges) t (length p.threads) f.state now s.turned (stand.states t fib got)

  -- what it asks to write is of bytes
  pub asks_here : (b : AllocNo) (r : Request) → source_ask x now ≡ ask.At b r → HasBytes r
  asks_here b r asked = asks_bytes x limits hosts s.way.runnable s.way.ranges p t fib now stand.kept got s.turned b r asked

  -- it stood below its limit
  pub was_going : MayGoOn (source x) limits.turns f.state
  was_going = stand.going t fib got s.«open»

  -- the thread can go on, unless it waits where it stands
  pub can_go : (f.state ≡ now → waits (source x) objects p (source_ask x now) ≡ false) → CanGoOn (source x) objects p t
  can_go free = (fib, got, s.«open», by_turns s.turned.0 s.turned.1)
    where
      by_turns : (n : ℕ) → TurnsWithin (source x) limits.turns n f.state now → waits (source x) objects p (source_ask x f.state) ≡ false
      by_turns zero same = ap (λ z. waits (source x) objects p (source_ask x z)) same ∙ free same
      by_turns (suc n) h = ap (waits (source x) objects p) h.0

  -- allocations
  pub objects_same : (b : ℕ) → object_of m b ≡ object_at (source x) objects p b
  objects_same b = by_kept (keeps limits b) refl (s.way.shows.logs b)
    where
      tracked : object_at (source x) objects p b ≡ replay (unmade b) (of_alloc b p.merge)
      tracked = sym (stand.kept.stands.tracks.objects b) ∙ object_after (source x) (allowed limits hosts) (first_world (source x) objects (main_start x)) p.merge stand.kept.stands.run b

      stray : (b ≡ 0) ⊎ (limits.allocs < b) → object_at (source x) objects p b ≡ unmade b
      stray off = sym (stand.kept.stands.tracks.objects b) ∙ stray_after (source x) (allowed limits hosts) (first_world (source x) objects (main_start x)) p.merge stand.kept.stands.run b off refl

      by_kept : (n : Bool) → keeps limits b ≡ n → log_at m.logs b ≡ (if n then of_alloc b p.merge else []) → object_of m b ≡ object_at (source x) objects p b
      by_kept true is log = ap (replay (unmade b)) log ∙ sym tracked
      by_kept false is log = ap (replay (unmade b)) log ∙ sym (stray (not_kept limits b is))

  -- a thread that ends --------------------------------------------------------------------

  abbrev ended : End → Seen
  ended why = record f { state = now; «end» = Some why }

  settings_set : (g : Seen) → g.setting ≡ f.setting → (u : ℕ) (h : Seen) → slice_get (slice_set before t g) u ≡ Some h → h.setting ≡ x
  settings_set g same u h at = elim (found_set before t u f g h s.at at) [
    | inl hit ↦ ap (λ (z : Seen). z.setting) (sym hit.1) ∙ same ∙ s.way.shows.settings t f s.at
    | inr miss ↦ s.way.shows.settings u h miss.1
  ]

  threads_set : (g : Seen) → slice_set p.threads t (fiber_in x g) ≡ map (fiber_in x) (slice_set before t g)
  threads_set g = ap (λ l. slice_set l t (fiber_in x g)) s.way.shows.threads ∙ sym (map-set (fiber_in x) before t g)

  pub end_pick : (why : End) → EndsAs (source x) limits now why → EndsNext (source x) objects limits p (source_ask x now) why
      → (f.state ≡ now → waits (source x) objects p (source_ask x now) ≡ false)
      → (n : Memory) → Stays m n (drawn_by_end m.words (source_ask x now) why) → (after : List Seen) → after ≡ slice_set before t (ended why)
      → (q : Played x) × PickedAs x limits hosts pick.Ended p t q × UnderWay x limits hosts after n q
  end_pick why ends next free n stays after is =
      let q : Played x = picked (source x) objects p t fib (Ends now why) in
      let chosen : Chooses (source x) objects (allowed limits hosts) limits p t fib (Ends now why) = (s.turned, ends, next) in
      let can = can_go free in (
        q,
        inl (now, why, record { fiber = fib; at = got; can = can; chosen = chosen; is = refl }),
        record {
          runnable = s.way.runnable;
          ranges = s.way.ranges;
          shows = record {
            settings = λ u h at. settings_set (ended why) refl u h (subst (λ l. slice_get l u ≡ Some h) is at);
            threads = threads_set (ended why) ∙ ap (map (fiber_in x)) (sym is);
            limits_are = stays.limits ∙ s.way.shows.limits_are;
            words = stays.words_are ∙ ap (λ w. drawn_by_end w (source_ask x now) why) s.way.shows.words;
            logs = λ a. stays.logs a ∙ s.way.shows.logs a;
          };
          came = came_on x limits hosts s.way.runnable s.way.ranges p q t s.way.came (inr (fib, Ends now why, got, can, chosen, refl));
        },
      )

  -- a thread that waits --------------------------------------------------------------------

  pub wait_pick : MayGoOn (source x) limits.turns now → waits (source x) objects p (source_ask x now) ≡ true → (after : List Seen) → after ≡ slice_set before t (record f { state = now })
      → (q : Played x) × PickedAs x limits hosts pick.Rests p t q × UnderWay x limits hosts after m q
  wait_pick may w after is = by_turns s.turned.0 s.turned.1
    where
      cannot : f.state ≡ now → CanGoOn (source x) objects p t → ⊥
      cannot same can =
          let here : can.0 ≡ fib = some_inj (sym can.1 ∙ got) in
          let there : can.0.state ≡ now = ap (λ (z : replays.Fiber (source x)). z.state) here ∙ same in
          true≢false (sym w ∙ ap (λ z. waits (source x) objects p (source_ask x z)) (sym there) ∙ can.3)

      by_turns : (n : ℕ) → TurnsWithin (source x) limits.turns n f.state now → (q : Played x) × PickedAs x limits hosts pick.Rests p t q × UnderWay x limits hosts after m q
      by_turns zero same =
          let still : after ≡ before = is ∙ ap (λ z. slice_set before t (record f { state = z })) (sym same) ∙ set_same before t f s.at in
          (p, inl (cannot same, refl), subst (λ l. UnderWay x limits hosts l m p) (sym still) s.way)
      by_turns (suc n) h =
          let q : Played x = picked (source x) objects p t fib (Waits now) in
          let chosen : Chooses (source x) objects (allowed limits hosts) limits p t fib (Waits now) = (s.turned, may, w) in
          let can : CanGoOn (source x) objects p t = (fib, got, s.«open», ap (waits (source x) objects p) h.0) in
          let g : Seen = record f { state = now } in (
            q,
            inr (now, record { fiber = fib; at = got; can = can; chosen = chosen; is = refl }),
            record {
              runnable = s.way.runnable;
              ranges = s.way.ranges;
              shows = record {
                settings = λ u h at. settings_set g refl u h (subst (λ l. slice_get l u ≡ Some h) is at);
                threads = threads_set g ∙ ap (map (fiber_in x)) (sym is);
                limits_are = s.way.shows.limits_are;
                words = s.way.shows.words;
                logs = s.way.shows.logs;
              };
              came = came_on x limits hosts s.way.runnable s.way.ranges p q t s.way.came (inr (fib, Waits now, got, can, chosen, refl));
            },
          )

  -- a thread that makes a step ---------------------------------------------------------------

  module _ (number : ThreadNo) (same_number : number.0 ≡ t) (joined : Option End) (n : Memory) where
    -- what the step's entry is in the replay
    pub record Fits (a : Ask) (e : Entry) : Type 0 where
      pub draws : DrawsStamp (source x) objects limits p a
      pub within : p.words.stamps < limits.steps
      pub thread : e.thread.0 ≡ t
      pub stamp : e.stamp.0 ≡ p.words.stamps + 1
      pub site : e.site ≡ source_site now
      pub replies : RepliesNext (source x) objects (allowed limits hosts) p e e.request
      pub words : n.words ≡ drawn_by p.words e.request
      pub limits_are : n.limits ≡ limits
      pub logs : (b : ℕ) → log_at n.logs b ≡ (if keeps limits b then of_alloc b (p.merge ++ e ∷ []) else [])

    abbrev words_of : (m.words ≡ p.words)
    words_of = s.way.shows.words

    within_of : m.words.stamps < m.limits.steps → p.words.stamps < limits.steps
    within_of less = subst (λ (l : Limits). p.words.stamps < l.steps) s.way.shows.limits_are (subst (λ (w : Counters). w.stamps < m.limits.steps) words_of less)

    stamp_of : m.words.stamps + 1 ≡ p.words.stamps + 1
    stamp_of = ap (λ (w : Counters). w.stamps + 1) words_of

    logs_on : (b : AllocNo) (e : Entry) → e.alloc ≡ Some b → GrowsAt m n b.0 e → (c : ℕ) → log_at n.logs c ≡ (if keeps limits c then of_alloc c (p.merge ++ e ∷ []) else [])
    logs_on b e at grows c =
        grows c ∙ ap (λ l. Rattle.run_memory.specs.Memory.longer_if (Rattle.std.specs.Prelude.◌&&◌ (keeps l b.0) (Rattle.std.specs.Prelude.◌==◌ b.0 c)) (log_at m.logs c) e) s.way.shows.limits_are
        ∙ grown_log limits b.0 c e (log_at m.logs c) p.merge at (s.way.shows.logs c)

    logs_off : (e : Entry) → e.alloc ≡ None → SameLogs m n → (c : ℕ) → log_at n.logs c ≡ (if keeps limits c then of_alloc c (p.merge ++ e ∷ []) else [])
    logs_off e none same c = same c ∙ same_log limits c e (log_at m.logs c) p.merge none (s.way.shows.logs c)

    reply_on : (b : AllocNo) (r : Request) → (answer (object_of m b.0) r (record { 0 = m.words.stamps + 1 })).reply ≡ objects.reply (object_at (source x) objects p b.0) r (m.words.stamps + 1)
    reply_on b r = ap (λ o. objects.reply o r (m.words.stamps + 1)) (objects_same b.0)

    replies_on : (b : AllocNo) (r : Request) → IsOnNumber r → RepliesNext (source x) objects (allowed limits hosts) p (entry_on m number (source_site now) b r) r
    replies_on b (request.Load at ty prov) on = (b, refl, reply_on b (request.Load at ty prov))
    replies_on b (request.Store at ty v c prov) on = (b, refl, reply_on b (request.Store at ty v c prov))
    replies_on b (request.Modify at w o v prov) on = (b, refl, reply_on b (request.Modify at w o v prov))
    replies_on b (request.CmpXchg at w a v prov) on = (b, refl, reply_on b (request.CmpXchg at w a v prov))
    replies_on b (request.CopyOut at k prov) on = (b, refl, reply_on b (request.CopyOut at k prov))
    replies_on b (request.CopyIn at piece prov) on = (b, refl, reply_on b (request.CopyIn at piece prov))
    replies_on b (request.Free at stack prov) on = (b, refl, reply_on b (request.Free at stack prov))
    replies_on b (request.Retag at k kind guard prov) on = (b, refl, reply_on b (request.Retag at k kind guard prov))
    replies_on b (request.EndProtector tag) on = (b, refl, reply_on b (request.EndProtector tag))
    replies_on b (request.Make size place) on = absurd on
    replies_on b (request.Print v) on = absurd on
    replies_on b (request.Host k a c) on = absurd on
    replies_on b (request.Spawn k) on = absurd on
    replies_on b (request.Join c) on = absurd on

    drawn_on : (r : Request) → IsOnNumber r → with_stamp p.words ≡ drawn_by p.words r
    drawn_on (request.Make size place) on = absurd on
    drawn_on (request.Spawn k) on = absurd on
    drawn_on _ on = refl

    fits_note : (a : Ask) (r : Request) (reply : Reply) → DrawsStamp (source x) objects limits p a → RepliesNext (source x) objects (allowed limits hosts) p (entry_off m number (source_site now) r reply) r
        → with_stamp p.words ≡ drawn_by p.words r → Notes m n (with_stamp m.words) → Fits a (entry_off m number (source_site now) r reply)
    fits_note a r reply draws replies drawn notes = record {
      draws = draws;
      within = within_of notes.within;
      thread = same_number;
      stamp = stamp_of;
      site = refl;
      replies = replies;
      words = notes.stays.words_are ∙ ap with_stamp words_of ∙ drawn;
      limits_are = notes.stays.limits ∙ s.way.shows.limits_are;
      logs = logs_off (entry_off m number (source_site now) r reply) refl notes.stays.logs;
    }

    fits_join : (c : ThreadNo) (o : Option End) → o ≡ end_at (source x) objects p c.0 → (e : Entry) → JoinsStep m number (source_site now) c o n (Done e) → Fits (ask.Join c) e
    fits_join c (Some (log_end.Returned v q)) is e h =
        let ended_so : end_at (source x) objects p c.0 ≡ Some (log_end.Returned v q) = sym is in
        subst (λ z. Fits (ask.Join c) z) (sym h.0) (fits_note (ask.Join c) (request.Join c) _ (v, q, ended_so) (v, q, ended_so, refl) refl h.1)
    fits_join c (Some (log_end.Trapped w)) is e h = (let z : Done e ≡ StepEnds (log_end.ChildEnded c) = h.0 in absurd cc)
    fits_join c (Some (log_end.StepLimit w)) is e h = (let z : Done e ≡ StepEnds (log_end.ChildEnded c) = h.0 in absurd cc)
    fits_join c (Some log_end.TurnLimit) is e h = (let z : Done e ≡ StepEnds (log_end.ChildEnded c) = h.0 in absurd cc)
    fits_join c (Some log_end.NoMemory) is e h = (let z : Done e ≡ StepEnds (log_end.ChildEnded c) = h.0 in absurd cc)
    fits_join c (Some (log_end.ChildEnded d)) is e h = (let z : Done e ≡ StepEnds (log_end.ChildEnded c) = h.0 in absurd cc)
    fits_join c None is e h = absurd h

    limit_of : (k : ℕ) → k < m.limits.allocs → k < limits.allocs
    limit_of k less = subst (λ (l : Limits). k < l.allocs) s.way.shows.limits_are less

    pub step_fits : (a : Ask) (e : Entry) → ((b : AllocNo) (r : Request) → a ≡ ask.At b r → IsOnNumber r) → EndOf x p joined a → IsStep m hosts number (source_site now) joined a n (Done e) → Fits a e
    step_fits (ask.At b r) e on is h =
        subst (λ z. Fits (ask.At b r) z) (sym h.0)
        (record {
          draws = tt;
          within = within_of h.1.within;
          thread = same_number;
          stamp = stamp_of;
          site = refl;
          replies = replies_on b r (on b r refl);
          words = h.1.words_are ∙ ap with_stamp words_of ∙ drawn_on r (on b r refl);
          limits_are = h.1.limits ∙ s.way.shows.limits_are;
          logs = logs_on b (entry_on m number (source_site now) b r) refl (subst (λ z. GrowsAt m n b.0 z) h.0 h.1.logs);
        })
    step_fits (ask.Make size place) e on is h =
        let next : AllocNo = record { 0 = m.words.allocs + 1 } in
        let next_is : next ≡ record { 0 = p.words.allocs + 1 } = ap (λ (w : Counters). record { 0 = w.allocs + 1 }) words_of in
        subst (λ z. Fits (ask.Make size place) z) (sym h.1)
        (record {
          draws = subst (λ (w : Counters). w.allocs < limits.allocs) words_of (limit_of m.words.allocs h.0);
          within = within_of h.2.within;
          thread = same_number;
          stamp = stamp_of;
          site = refl;
          replies = (ap Some next_is, subst (λ (k : AllocNo). (answer (object_of m next.0) (request.Make size place) (record { 0 = m.words.stamps + 1 })).reply ≡ objects.reply (object_at (source x) objects p k.0) (request.Make size place) (m.words.stamps + 1)) next_is (reply_on next (request.Make size place)));
          words = h.2.words_are ∙ ap (λ w. with_stamp (with_alloc w)) words_of;
          limits_are = h.2.limits ∙ s.way.shows.limits_are;
          logs = logs_on next (entry_on m number (source_site now) next (request.Make size place)) refl (subst (λ z. GrowsAt m n next.0 z) h.1 h.2.logs);
        })
    step_fits (ask.Print v) e on is h = subst (λ z. Fits (ask.Print v) z) (sym h.0) (fits_note (ask.Print v) (request.Print v) _ tt refl refl h.1)
    step_fits (ask.Host k a b) e on is h =
        subst (λ z. Fits (ask.Host k a b) z) (sym h.2.0) (fits_note (ask.Host k a b) (request.Host k a b) _ tt (h.0, h.1, refl) refl h.2.1)
    step_fits (ask.Spawn k) e on is h =
        let next_is : told_child m.words ≡ told_child p.words = ap told_child words_of in
        subst (λ z. Fits (ask.Spawn k) z) (sym h.1)
        (record {
          draws = subst (λ (w : Counters). w.threads < 1023) words_of h.0;
          within = within_of h.2.within;
          thread = same_number;
          stamp = stamp_of;
          site = refl;
          replies = next_is;
          words = h.2.stays.words_are ∙ ap (λ w. with_stamp (with_thread w)) words_of;
          limits_are = h.2.stays.limits ∙ s.way.shows.limits_are;
          logs = logs_off (entry_off m number (source_site now) (request.Spawn k) _) refl h.2.stays.logs;
        })
    step_fits (ask.Join c) e on is h = fits_join c joined is e h
    step_fits ask.Turn e on is h = absurd h
    step_fits (ask.Ended w) e on is h = absurd h

    module _ (a : Ask) (e : Entry) (asked : a ≡ source_ask x now) (may : MayGoOn (source x) limits.turns now) (is_end : EndOf x p joined a) (step : IsStep m hosts number (source_site now) joined a n (Done e)) where
      on_number : (b : AllocNo) (r : Request) → a ≡ ask.At b r → IsOnNumber r
      on_number b r is = (requests_fit x).numbered now b r (sym asked ∙ is)

      facts : Fits a e
      facts = step_fits a e on_number is_end step

      step_chosen : (over : Option End) → RestsAs (source x) limits (source_answer x now e.reply) over → Chooses (source x) objects (allowed limits hosts) limits p t fib (Steps now e over)
      step_chosen over rests = (
        s.turned,
        may,
        subst (λ z. DrawsStamp (source x) objects limits p z) asked facts.draws,
        facts.within,
        facts.thread,
        facts.stamp,
        facts.site,
        subst (λ z. Answers z e) asked (step_answers m hosts number (source_site now) joined a n e on_number step),
        facts.replies,
        rests,
      )

      pub entry_fits : source_fits x now e
      entry_fits = chosen_fits x limits hosts s.way.runnable s.way.ranges p t fib now e (Some log_end.NoMemory) stand.kept got (step_chosen (Some log_end.NoMemory) (tt, tt))

      -- it rests as the code says
      rests_as : (over : Option End) → Rests x limits (source_answer x now e.reply) over → RestsAs (source x) limits (source_answer x now e.reply) over
      rests_as over rests =
          rests (counts_within x now e.reply limits.turns may now_stands.count) ((traps_are_own x).after now e.reply now_stands.own (next_own x (allowed limits hosts) p e e.request facts.replies))

      abbrev g : Option End → Seen
      g over = record f { state = source_answer x now e.reply; entries = f.entries ++ e ∷ []; «end» = over }

      pub step_pick : (over : Option End) → Rests x limits (source_answer x now e.reply) over → waits (source x) objects p (source_ask x now) ≡ false → (more : List Seen) → ((u : ℕ) (h : Seen) → slice_get more u ≡ Some h → h.setting ≡ x)
          → map (fiber_in x) more ≡ new_fibers (source x) t (source_child x now) e.request → (after : List Seen) → after ≡ slice_set before t (g over) ++ more
          → (q : Played x) × PickedAs x limits hosts (pick_of over) p t q × UnderWay x limits hosts after n q
      step_pick over rests free more settings child after is =
          let q : Played x = picked (source x) objects p t fib (Steps now e over) in
          let chosen = step_chosen over (rests_as over rests) in
          let can = can_go (λ same. free) in (
            q,
            by_end over (record { fiber = fib; at = got; can = can; chosen = chosen; is = refl }),
            record {
              runnable = s.way.runnable;
              ranges = s.way.ranges;
              shows = record {
                settings = λ u h at. by_part u h (got_either (slice_set before t (g over)) more u h (subst (λ l. slice_get l u ≡ Some h) is at));
                threads = ap (λ l. l ++ new_fibers (source x) t (source_child x now) e.request) (threads_set (g over)) ∙ ap (λ l. map (fiber_in x) (slice_set before t (g over)) ++ l) (sym child) ∙ sym (map-append (fiber_in x) (slice_set before t (g over)) more) ∙ ap (map (fiber_in x)) (sym is);
                limits_are = facts.limits_are;
                words = facts.words;
                logs = facts.logs;
              };
              came = came_on x limits hosts s.way.runnable s.way.ranges p q t s.way.came (inr (fib, Steps now e over, got, can, chosen, refl));
            },
          )
        where
          by_end : (o : Option End) → Takes x limits hosts p t (picked (source x) objects p t fib (Steps now e o)) (Steps now e o) → PickedAs x limits hosts (pick_of o) p t (picked (source x) objects p t fib (Steps now e o))
          by_end None k = (now, e, k)
          by_end (Some why) k = inr (now, e, why, k)

          by_part : (u : ℕ) (h : Seen) → (slice_get (slice_set before t (g over)) u ≡ Some h) ⊎ ((k : ℕ) × (slice_get more k ≡ Some h)) → h.setting ≡ x
          by_part u h (inl old) = settings_set (g over) refl u h old
          by_part u h (inr fresh) = settings fresh.0 h fresh.1
