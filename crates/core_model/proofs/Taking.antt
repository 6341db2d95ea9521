-- A settled thread of the code: what it asks may be asked, and what it comes to is a pick.
use Rattle.std.proofs.Common.{◌≡◌, ◌≢◌, ℕ, zero, suc, ◌+◌, ◌<◌, List, [], ◌∷◌, ◌++◌, false, refl, sym, ◌∙◌, ap, subst, inl, inr, length}
use Rattle.std.specs.Prelude.{Option, Some, None, is_none, map, slice_get, slice_set, unwrap_or, option_map}
use Rattle.bsan_ids.specs.declared.numbers.Counters.{Counters}
use Rattle.bsan_ids.specs.declared.numbers.Limits.{Limits}
use Rattle.bsan_ids.specs.declared.numbers.Prov.{Prov}
use Rattle.bsan_ids.specs.declared.numbers.Stamp.{Stamp}
use Rattle.bsan_ids.specs.declared.numbers.ThreadNo.{ThreadNo}
use Rattle.history.specs.declared.ask.Ask.{Ask}
use Rattle.history.specs.declared.ask.Ask.TheVariants as ask
use Rattle.history.specs.declared.ask.MachineEnd.{MachineEnd}
use Rattle.history.specs.declared.ask.MachineEnd.TheVariants as end
use Rattle.history.specs.declared.entry.Entry.{Entry}
use Rattle.history.specs.declared.entry.Request.{Request}
use Rattle.history.specs.declared.entry.Request.TheVariants as request
use Rattle.bsan_ids.specs.declared.numbers.AllocNo.{AllocNo}
use Rattle.history.specs.Replies.{Answers, IsOnNumber}
use Rattle.core_model.proofs.StepFacts.{on_number_makes_none, step_answers}
use Rattle.history.specs.declared.trap.Trap.{Trap}
use Rattle.history.specs.declared.trap.Trap.TheVariants as trap
use Rattle.ir_ast.specs.declared.hosts.HostTable.{HostTable}
use Rattle.run_memory.specs.Memory.{Memory, Stays}
use Rattle.run_memory.specs.declared.states.Step.TheVariants.{Done, Ends as StepEnds}
use Rattle.history.specs.declared.log.End.{End}
use Rattle.history.specs.declared.log.End.TheVariants as log_end
use Rattle.runs.specs.Objects.{objects}
use Rattle.runs.specs.Replay as replays
use Rattle.runs.specs.Replay.{waits, end_at, EndsNext, drawn_by_end, new_fibers, DrawsStamp}
use Rattle.runs.specs.Threads.{AsksStep, IsOwnTrap, EndsAs}
use Rattle.runs.proofs.Tracking.{some_inj}
use Rattle.source_sem.specs.Source.{Setting, Source, source, source_ask, source_site, source_answer, source_child, source_fits}
use Rattle.source_sem.specs.Traps.{EndIsOwn}
use Rattle.source_sem.proofs.RequestLaws.{requests_fit}
use Rattle.source_sem.proofs.TrapLaws.{traps_are_own}
use Rattle.core_model.specs.declared.run.Pick.TheVariants as pick
use Rattle.instr_sound.specs.Settling.{machine_end}
use Rattle.core_model.specs.Ends.{pick_of}
use Rattle.core_model.specs.Fibers.{Seen, EndsStep, answered, first_seen}
use Rattle.core_model.specs.Running.{Played, UnderWay, PickedAs, Settled, fiber_in}
use Rattle.core_model.specs.Steps.{IsStep, JoinsStep, IsAllowed, AsksHostOf}
use Rattle.core_model.specs.Turns.{Rests}
use Rattle.core_model.proofs.Choosing.{Held, set_twice, now_stands, asks_here, end_pick, wait_pick, step_pick, entry_fits, EndOf}
use Rattle.core_model.proofs.Coming.{host_there}
use Rattle.core_model.proofs.Standing.{StateStands}

none_got : {X B : Type 0} (u : ℕ) {h : X} → slice_get {X = X} [] u ≡ Some h → B
none_got u is = cc

step_end_inj : (a b : End) → StepEnds a ≡ StepEnds b → a ≡ b
step_end_inj a b h = cc

-- the end of a thread of the code
abbrev pub end_seen : List Seen → ℕ → Option End
end_seen fibers c = unwrap_or (option_map (λ (f : Seen). f.«end») (slice_get fibers c)) None

ends_set : (xs : List Seen) (t c : ℕ) (f g : Seen) → slice_get xs t ≡ Some f → g.«end» ≡ f.«end» → end_seen (slice_set xs t g) c ≡ end_seen xs c
ends_set [] t c f g at same = refl
ends_set (x ∷ xs) zero zero f g at same = same ∙ ap (λ (z : Seen). z.«end») (sym (some_inj at))
ends_set (x ∷ xs) zero (suc c) f g at same = refl
ends_set (x ∷ xs) (suc t) zero f g at same = refl
ends_set (x ∷ xs) (suc t) (suc c) f g at same = ends_set xs t c f g at same

ends_map : (x : Setting) (xs : List Seen) (c : ℕ) → unwrap_or (option_map (λ (f : replays.Fiber (source x)). f.«end») (slice_get (map (fiber_in x) xs) c)) None ≡ end_seen xs c
ends_map x [] c = refl
ends_map x (y ∷ ys) zero = refl
ends_map x (y ∷ ys) (suc c) = ends_map x ys c

none_false : (o : Option End) → (o ≡ None → ⊥) → is_none o ≡ false
none_false None some = absurd (some refl)
none_false (Some e) some = refl

module _ (x : Setting) (limits : Limits) (hosts : HostTable) (before : List Seen) (m : Memory) (p : Played x) (t : ℕ) (f : Seen) (now : Source) (a : Ask) (fibers : List Seen)
    (s : Settled x limits hosts before m p t f now a fibers) where
  pub held : Held x limits hosts before m p t f now
  held = record { way = s.way; at = s.at; «open» = s.«open»; turned = s.turned }

  stands : StateStands x limits.turns t (length p.threads) now
  stands = now_stands x limits hosts before m p t f now held

  pub ends_are : (c : ℕ) → end_seen fibers c ≡ end_at (source x) objects p c
  ends_are c =
      ap (λ l. end_seen l c) s.fibers_are ∙ ends_set before t c f (record f { state = now }) s.at refl
      ∙ sym (ends_map x before c) ∙ ap (λ l. unwrap_or (option_map (λ (g : replays.Fiber (source x)). g.«end») (slice_get l c)) None) (sym s.way.shows.threads)

  -- what it asks may be asked
  pub ask_allowed : IsAllowed a
  ask_allowed = by_ask a s.asks
    where
      by_ask : (b : Ask) → b ≡ source_ask x now → IsAllowed b
      by_ask (ask.At c r) is = ((requests_fit x).asks now c r stands.requests (sym is), asks_here x limits hosts before m p t f now held c r (sym is), on_number_makes_none r ((requests_fit x).numbered now c r (sym is)))
      by_ask (ask.Make size place) is = (requests_fit x).makes now size place stands.requests (sym is)
      by_ask _ is = tt

  pub ask_host : AsksHostOf hosts a
  ask_host = by_ask a s.asks
    where
      by_ask : (b : Ask) → b ≡ source_ask x now → AsksHostOf hosts b
      by_ask (ask.Host n c d) is = host_there x limits hosts s.way.runnable s.way.ranges now n c d stands.joins (sym is)
      by_ask _ is = tt

  -- the thread isn't waiting
  pub not_waiting : (joined : Option End) → EndOf x p joined a → (joined ≡ None → ⊥) → waits (source x) objects p (source_ask x now) ≡ false
  not_waiting joined is_end some = ap (waits (source x) objects p) (sym s.asks) ∙ by_ask a is_end
    where
      by_ask : (b : Ask) → EndOf x p joined b → waits (source x) objects p b ≡ false
      by_ask (ask.Join c) is = none_false (end_at (source x) objects p c.0) (λ none. some (is ∙ none))
      by_ask _ is = refl

  pub never_waiting : ((c : ThreadNo) → a ≡ ask.Join c → ⊥) → waits (source x) objects p (source_ask x now) ≡ false
  never_waiting other = ap (waits (source x) objects p) (sym s.asks) ∙ by_ask a refl
    where
      by_ask : (b : Ask) → a ≡ b → waits (source x) objects p b ≡ false
      by_ask (ask.Join c) is = absurd (other c is)
      by_ask _ is = refl

  -- how a thread ends in place of its step ------------------------------------------------

  pub record Halts (b : Ask) (n : Memory) (why : End) : Type 0 where
    pub ends : (source_ask x now ≡ b) → EndsAs (source x) limits now why
    pub next : EndsNext (source x) objects limits p b why
    pub stays : Stays m n (drawn_by_end m.words b why)

  limits_of : (l : Limits) → m.limits ≡ l → limits ≡ l
  limits_of l is = sym s.way.shows.limits_are ∙ is

  above : (k : Stamp) → m.limits.steps < k.0 → limits.steps < k.0
  above k less = subst (λ (l : Limits). l.steps < k.0) s.way.shows.limits_are less

  next_stamp : (k : Stamp) → k.0 ≡ m.words.stamps + 1 → k.0 ≡ p.words.stamps + 1
  next_stamp k is = is ∙ ap (λ (w : Counters). w.stamps + 1) s.way.shows.words

  step_limit : (b : Ask) (n : Memory) (k : Stamp) → AsksStep b → DrawsStamp (source x) objects limits p b → k.0 ≡ m.words.stamps + 1 → m.limits.steps < k.0 → Stays m n (drawn_by_end m.words b (log_end.StepLimit k)) → Halts b n (log_end.StepLimit k)
  step_limit b n k step draws is less stays = record { ends = λ z. (subst AsksStep (sym z) step, above k less, s.may); next = (next_stamp k is, draws); stays = stays }

  module _ (number : ThreadNo) (joined : Option End) (n : Memory) where
    child_ended : (c : ThreadNo) (e : End) → Some e ≡ end_at (source x) objects p c.0 → ((v : ℕ) (q : Option Prov) → e ≢ log_end.Returned v q) → (why : End) → (StepEnds why ≡ StepEnds (log_end.ChildEnded c)) × Stays m n m.words → Halts (ask.Join c) n why
    child_ended c e is other why h =
        let same : why ≡ log_end.ChildEnded c = step_end_inj why (log_end.ChildEnded c) h.0 in
        subst (λ z. Halts (ask.Join c) n z) (sym same) (record { ends = λ z. (z, s.may); next = (e, sym is, other); stays = h.1 })

    halts_join : (c : ThreadNo) (o : Option End) → o ≡ end_at (source x) objects p c.0 → (why : End) → JoinsStep m number (source_site now) c o n (StepEnds why) → Halts (ask.Join c) n why
    halts_join c (Some (log_end.Returned v q)) is (log_end.StepLimit k) h = step_limit (ask.Join c) n k tt (v, q, sym is) h.0 h.1 h.2
    halts_join c (Some (log_end.Returned v q)) is (log_end.Returned w r) h = absurd h
    halts_join c (Some (log_end.Returned v q)) is (log_end.Trapped e) h = absurd h
    halts_join c (Some (log_end.Returned v q)) is log_end.TurnLimit h = absurd h
    halts_join c (Some (log_end.Returned v q)) is log_end.NoMemory h = absurd h
    halts_join c (Some (log_end.Returned v q)) is (log_end.ChildEnded d) h = absurd h
    halts_join c (Some (log_end.Trapped e)) is why h = child_ended c (log_end.Trapped e) is (λ v q z. cc) why h
    halts_join c (Some (log_end.StepLimit k)) is why h = child_ended c (log_end.StepLimit k) is (λ v q z. cc) why h
    halts_join c (Some log_end.TurnLimit) is why h = child_ended c log_end.TurnLimit is (λ v q z. cc) why h
    halts_join c (Some log_end.NoMemory) is why h = child_ended c log_end.NoMemory is (λ v q z. cc) why h
    halts_join c (Some (log_end.ChildEnded d)) is why h = child_ended c (log_end.ChildEnded d) is (λ v q z. cc) why h
    halts_join c None is why h = absurd h

    limit_of : (k : ℕ) → k < m.limits.allocs → k < limits.allocs
    limit_of k less = subst (λ (l : Limits). k < l.allocs) s.way.shows.limits_are less

    halts_step : (b : Ask) → (source_ask x now ≡ b) → EndOf x p joined b → (why : End) → IsStep m hosts number (source_site now) joined b n (StepEnds why) → Halts b n why
    halts_step (ask.At c r) asked is (log_end.StepLimit k) h = step_limit (ask.At c r) n k tt tt h.0 h.1 h.2
    halts_step (ask.At c r) asked is log_end.NoMemory h = record { ends = λ z. tt; next = tt; stays = h }
    halts_step (ask.At c r) asked is (log_end.Returned w q) h = absurd h
    halts_step (ask.At c r) asked is (log_end.Trapped e) h = absurd h
    halts_step (ask.At c r) asked is log_end.TurnLimit h = absurd h
    halts_step (ask.At c r) asked is (log_end.ChildEnded d) h = absurd h
    halts_step (ask.Make size place) asked is (log_end.StepLimit k) h =
        step_limit (ask.Make size place) n k tt (subst (λ (w : Counters). w.allocs < limits.allocs) s.way.shows.words (limit_of m.words.allocs h.0)) h.1 h.2 h.3
    halts_step (ask.Make size place) asked is log_end.NoMemory h = record { ends = λ z. tt; next = tt; stays = h }
    halts_step (ask.Make size place) asked is (log_end.Trapped (trap.AllocLimit d)) h = record {
      ends = λ z. (inr (subst (λ b. Rattle.runs.specs.Threads.AsksMake b) (sym z) tt, subst (λ (l : Limits). l.allocs < d) s.way.shows.limits_are h.1), s.may);
      next = (tt, h.0 ∙ ap (λ (w : Counters). w.allocs + 1) s.way.shows.words);
      stays = h.2;
    }
    halts_step (ask.Make size place) asked is (log_end.Trapped (trap.ThreadLimit d)) h = absurd h
    halts_step (ask.Make size place) asked is (log_end.Trapped trap.DivZero) h = absurd h
    halts_step (ask.Make size place) asked is (log_end.Trapped trap.ShiftTooFar) h = absurd h
    halts_step (ask.Make size place) asked is (log_end.Trapped trap.NoAllocation) h = absurd h
    halts_step (ask.Make size place) asked is (log_end.Trapped trap.OutOfBounds) h = absurd h
    halts_step (ask.Make size place) asked is (log_end.Trapped trap.Freed) h = absurd h
    halts_step (ask.Make size place) asked is (log_end.Trapped trap.BadFree) h = absurd h
    halts_step (ask.Make size place) asked is (log_end.Trapped trap.BadSize) h = absurd h
    halts_step (ask.Make size place) asked is (log_end.Trapped trap.DepthLimit) h = absurd h
    halts_step (ask.Make size place) asked is (log_end.Trapped trap.Unreachable) h = absurd h
    halts_step (ask.Make size place) asked is (log_end.Returned w q) h = absurd h
    halts_step (ask.Make size place) asked is log_end.TurnLimit h = absurd h
    halts_step (ask.Make size place) asked is (log_end.ChildEnded d) h = absurd h
    halts_step (ask.Print v) asked is (log_end.StepLimit k) h = step_limit (ask.Print v) n k tt tt h.0 h.1 h.2
    halts_step (ask.Print v) asked is (log_end.Returned w q) h = absurd h
    halts_step (ask.Print v) asked is (log_end.Trapped e) h = absurd h
    halts_step (ask.Print v) asked is log_end.TurnLimit h = absurd h
    halts_step (ask.Print v) asked is log_end.NoMemory h = absurd h
    halts_step (ask.Print v) asked is (log_end.ChildEnded d) h = absurd h
    halts_step (ask.Host i b c) asked is (log_end.StepLimit k) h = step_limit (ask.Host i b c) n k tt tt h.2.0 h.2.1 h.2.2
    halts_step (ask.Host i b c) asked is (log_end.Returned w q) h = absurd h.2
    halts_step (ask.Host i b c) asked is (log_end.Trapped e) h = absurd h.2
    halts_step (ask.Host i b c) asked is log_end.TurnLimit h = absurd h.2
    halts_step (ask.Host i b c) asked is log_end.NoMemory h = absurd h.2
    halts_step (ask.Host i b c) asked is (log_end.ChildEnded d) h = absurd h.2
    halts_step (ask.Spawn j) asked is (log_end.StepLimit k) h = step_limit (ask.Spawn j) n k tt (subst (λ (w : Counters). w.threads < 1023) s.way.shows.words h.0) h.1 h.2 h.3
    halts_step (ask.Spawn j) asked is (log_end.Trapped (trap.ThreadLimit d)) h = record {
      ends = λ z. (inr (subst (λ b. Rattle.runs.specs.Threads.AsksSpawn b) (sym z) tt, h.1), s.may);
      next = (tt, h.0 ∙ ap (λ (w : Counters). w.threads + 1) s.way.shows.words);
      stays = h.2;
    }
    halts_step (ask.Spawn j) asked is (log_end.Trapped (trap.AllocLimit d)) h = absurd h
    halts_step (ask.Spawn j) asked is (log_end.Trapped trap.DivZero) h = absurd h
    halts_step (ask.Spawn j) asked is (log_end.Trapped trap.ShiftTooFar) h = absurd h
    halts_step (ask.Spawn j) asked is (log_end.Trapped trap.NoAllocation) h = absurd h
    halts_step (ask.Spawn j) asked is (log_end.Trapped trap.OutOfBounds) h = absurd h
    halts_step (ask.Spawn j) asked is (log_end.Trapped trap.Freed) h = absurd h
    halts_step (ask.Spawn j) asked is (log_end.Trapped trap.BadFree) h = absurd h
    halts_step (ask.Spawn j) asked is (log_end.Trapped trap.BadSize) h = absurd h
    halts_step (ask.Spawn j) asked is (log_end.Trapped trap.DepthLimit) h = absurd h
    halts_step (ask.Spawn j) asked is (log_end.Trapped trap.Unreachable) h = absurd h
    halts_step (ask.Spawn j) asked is (log_end.Returned w q) h = absurd h
    halts_step (ask.Spawn j) asked is log_end.TurnLimit h = absurd h
    halts_step (ask.Spawn j) asked is log_end.NoMemory h = absurd h
    halts_step (ask.Spawn j) asked is (log_end.ChildEnded d) h = absurd h
    halts_step (ask.Join c) asked is why h = halts_join c joined is why h
    halts_step ask.Turn asked is why h = absurd h
    halts_step (ask.Ended e) asked is why h = absurd h

    -- the thread ends in place of its step
    pub ends_picked : AsksStep a → EndOf x p joined a → waits (source x) objects p (source_ask x now) ≡ false → (g : Seen) → g ≡ record f { state = now } → (why : End)
        → EndsStep g m hosts number joined a n why → (after : List Seen) → after ≡ slice_set fibers t (record g { «end» = Some why })
        → (q : Played x) × PickedAs x limits hosts pick.Ended p t q × UnderWay x limits hosts after n q
    ends_picked step is_end free g same why (inl none) after is =
        let there : after ≡ slice_set before t (record f { state = now; «end» = Some why }) =
        is ∙ ap (λ (z : Seen). slice_set fibers t (record z { «end» = Some why })) same ∙ ap (λ l. slice_set l t (record f { state = now; «end» = Some why })) s.fibers_are ∙ set_twice before t (record f { state = now }) (record f { state = now; «end» = Some why }) in
        end_pick x limits hosts before m p t f now held why (subst (λ e. EndsAs (source x) limits now e) (sym none.0) tt) (subst (λ e. EndsNext (source x) objects limits p (source_ask x now) e) (sym none.0) tt) (λ still. free) n
        (subst (λ e. Stays m n (drawn_by_end m.words (source_ask x now) e)) (sym none.0) none.1) after there
    ends_picked step is_end free g same why (inr h) after is =
        let there : after ≡ slice_set before t (record f { state = now; «end» = Some why }) =
        is ∙ ap (λ (z : Seen). slice_set fibers t (record z { «end» = Some why })) same ∙ ap (λ l. slice_set l t (record f { state = now; «end» = Some why })) s.fibers_are ∙ set_twice before t (record f { state = now }) (record f { state = now; «end» = Some why }) in
        let here : IsStep m hosts number (source_site now) joined a n (StepEnds why) = subst (λ (z : Seen). IsStep m hosts number (source_site z.state) joined a n (StepEnds why)) same h in
        let halt = halts_step a (sym s.asks) is_end why here in
        end_pick x limits hosts before m p t f now held why (halt.ends (sym s.asks)) (subst (λ b. EndsNext (source x) objects limits p b why) s.asks halt.next) (λ still. free) n
        (subst (λ b. Stays m n (drawn_by_end m.words b why)) s.asks halt.stays) after there

    -- the thread makes its step -------------------------------------------------------------

    module _ (same_number : number.0 ≡ t) (is_end : EndOf x p joined a) where
      -- whatever reply it is given fits
      pub gives_fitting : (e : Entry) → IsStep m hosts number (source_site now) joined a n (Done e) → source_fits x now e
      gives_fitting e h = entry_fits x limits hosts before m p t f now held number same_number joined n a e s.asks s.may is_end h

      -- one more thread after a spawn, and none after another step
      abbrev pub NewSeen : Ask → List Seen → Type 0
      NewSeen (ask.Spawn k) more = more ≡ first_seen x now number k ∷ []
      NewSeen other more = more ≡ []

      new_settings : (b : Ask) (more : List Seen) → NewSeen b more → (u : ℕ) (h : Seen) → slice_get more u ≡ Some h → h.setting ≡ x
      new_settings (ask.Spawn k) more is u h at = only u (subst (λ l. slice_get l u ≡ Some h) is at)
        where
          only : (u : ℕ) → slice_get (first_seen x now number k ∷ []) u ≡ Some h → h.setting ≡ x
          only zero at = ap (λ (z : Seen). z.setting) (sym (some_inj at))
          only (suc u) at = cc
      new_settings ask.Turn more is u h at = none_got u (subst (λ l. slice_get l u ≡ Some h) is at)
      new_settings (ask.Ended w) more is u h at = none_got u (subst (λ l. slice_get l u ≡ Some h) is at)
      new_settings (ask.Make size place) more is u h at = none_got u (subst (λ l. slice_get l u ≡ Some h) is at)
      new_settings (ask.At b r) more is u h at = none_got u (subst (λ l. slice_get l u ≡ Some h) is at)
      new_settings (ask.Print v) more is u h at = none_got u (subst (λ l. slice_get l u ≡ Some h) is at)
      new_settings (ask.Host i b c) more is u h at = none_got u (subst (λ l. slice_get l u ≡ Some h) is at)
      new_settings (ask.Join c) more is u h at = none_got u (subst (λ l. slice_get l u ≡ Some h) is at)

      new_threads : (b : Ask) (e : Entry) (more : List Seen) → Answers b e → NewSeen b more → map (fiber_in x) more ≡ new_fibers (source x) t (source_child x now) e.request
      new_threads (ask.Spawn k) e more asks is =
          ap (map (fiber_in x)) is ∙ ap (λ (i : ℕ). record { parent = Some (record { 0 = i }); function = k; state = source_child x now; entries = []; «end» = None } ∷ []) same_number
          ∙ ap (new_fibers (source x) t (source_child x now)) (sym asks.0)
      new_threads (ask.Make size place) e more asks is = ap (map (fiber_in x)) is ∙ ap (new_fibers (source x) t (source_child x now)) (sym asks)
      new_threads (ask.At b r) e more asks is = ap (map (fiber_in x)) is ∙ none_new r asks.2 ∙ ap (new_fibers (source x) t (source_child x now)) (sym asks.0)
        where
          none_new : (r : Request) → IsOnNumber r → [] ≡ new_fibers (source x) t (source_child x now) r
          none_new (request.Spawn k) on = absurd on
          none_new _ on = refl
      new_threads (ask.Print v) e more asks is = ap (map (fiber_in x)) is ∙ ap (new_fibers (source x) t (source_child x now)) (sym asks.0)
      new_threads (ask.Host i b c) e more asks is = ap (map (fiber_in x)) is ∙ ap (new_fibers (source x) t (source_child x now)) (sym asks.0)
      new_threads (ask.Join c) e more asks is = ap (map (fiber_in x)) is ∙ ap (new_fibers (source x) t (source_child x now)) (sym asks.0)
      new_threads ask.Turn e more asks is = absurd asks
      new_threads (ask.Ended w) e more asks is = absurd asks

      pub stepped_picked : waits (source x) objects p (source_ask x now) ≡ false → (g : Seen) → g ≡ record f { state = now } → (e : Entry)
          → IsStep m hosts number (source_site g.state) joined a n (Done e) → (over : Option End) → Rests (answered g e).setting limits (answered g e).state over
          → (more : List Seen) → NewSeen a more → (after : List Seen) → after ≡ slice_set fibers t (record (answered g e) { «end» = over }) ++ more
          → (q : Played x) × PickedAs x limits hosts (pick_of over) p t q × UnderWay x limits hosts after n q
      stepped_picked free g same e h over rests more new_is after is =
          let here : IsStep m hosts number (source_site now) joined a n (Done e) = subst (λ (z : Seen). IsStep m hosts number (source_site z.state) joined a n (Done e)) same h in
          let mine : f.setting ≡ x = s.way.shows.settings t f s.at in
          let told : answered g e ≡ record f { state = source_answer x now e.reply; entries = f.entries ++ e ∷ [] } =
          ap (λ (z : Seen). answered z e) same ∙ ap (λ (y : Setting). record f { state = source_answer y now e.reply; entries = f.entries ++ e ∷ [] }) mine in
          let rested : Seen = record f { state = source_answer x now e.reply; entries = f.entries ++ e ∷ []; «end» = over } in
          let there : after ≡ slice_set before t rested ++ more =
          is ∙ ap (λ (z : Seen). slice_set fibers t (record z { «end» = over }) ++ more) told
          ∙ ap (λ l. slice_set l t rested ++ more) s.fibers_are
          ∙ ap (λ l. l ++ more) (set_twice before t (record f { state = now }) rested) in
          let rests_x : Rests x limits (source_answer x now e.reply) over =
          subst (λ (y : Setting). Rests y limits (source_answer x now e.reply) over) mine (subst (λ (z : Seen). Rests z.setting limits z.state over) told rests) in
          let on : (b : AllocNo) (r : Request) → a ≡ ask.At b r → IsOnNumber r = λ b r eq. (requests_fit x).numbered now b r (sym s.asks ∙ eq) in
          let asked : Answers a e = step_answers m hosts number (source_site now) joined a n e on here in
          step_pick x limits hosts before m p t f now held number same_number joined n a e s.asks s.may is_end here over rests_x free more (new_settings a more new_is) (new_threads a e more asked new_is) after there

  -- the thread's own end --------------------------------------------------------------------

  own_next : (w : Trap) → IsOwnTrap w → EndsNext (source x) objects limits p (source_ask x now) (log_end.Trapped w)
  own_next (trap.AllocLimit d) own = absurd own
  own_next (trap.ThreadLimit d) own = absurd own
  own_next trap.DivZero own = tt
  own_next trap.ShiftTooFar own = tt
  own_next trap.NoAllocation own = tt
  own_next trap.OutOfBounds own = tt
  own_next trap.Freed own = tt
  own_next trap.BadFree own = tt
  own_next trap.BadSize own = tt
  own_next trap.DepthLimit own = tt
  own_next trap.Unreachable own = tt

  own_draws : (w : Trap) → IsOwnTrap w → m.words ≡ drawn_by_end m.words (source_ask x now) (log_end.Trapped w)
  own_draws (trap.AllocLimit d) own = absurd own
  own_draws (trap.ThreadLimit d) own = absurd own
  own_draws trap.DivZero own = refl
  own_draws trap.ShiftTooFar own = refl
  own_draws trap.NoAllocation own = refl
  own_draws trap.OutOfBounds own = refl
  own_draws trap.Freed own = refl
  own_draws trap.BadFree own = refl
  own_draws trap.BadSize own = refl
  own_draws trap.DepthLimit own = refl
  own_draws trap.Unreachable own = refl

  pub own_picked : (e : MachineEnd) → a ≡ ask.Ended e → (after : List Seen) → after ≡ slice_set fibers t (record f { state = now; «end» = Some (machine_end e) })
      → (q : Played x) × PickedAs x limits hosts pick.Ended p t q × UnderWay x limits hosts after m q
  own_picked e is after after_is =
      end_pick x limits hosts before m p t f now held (machine_end e) (ends_by e (sym s.asks ∙ is)) (next_by e own) (λ same. never_waiting (λ c z. (let w : ask.Ended e ≡ ask.Join c = sym is ∙ z in cc))) m (stays_by e own) after
      (after_is ∙ ap (λ l. slice_set l t (record f { state = now; «end» = Some (machine_end e) })) s.fibers_are ∙ set_twice before t (record f { state = now }) (record f { state = now; «end» = Some (machine_end e) }))
    where
      own : EndIsOwn e
      own = (traps_are_own x).asks now e stands.own (sym s.asks ∙ is)

      ends_by : (e : MachineEnd) → source_ask x now ≡ ask.Ended e → EndsAs (source x) limits now (machine_end e)
      ends_by (end.Returned v q) asks = (asks, s.may)
      ends_by (end.Trapped w) asks = (inl asks, s.may)

      next_by : (e : MachineEnd) → EndIsOwn e → EndsNext (source x) objects limits p (source_ask x now) (machine_end e)
      next_by (end.Returned v q) own = tt
      next_by (end.Trapped w) own = own_next w own

      stays_by : (e : MachineEnd) → EndIsOwn e → Stays m m (drawn_by_end m.words (source_ask x now) (machine_end e))
      stays_by (end.Returned v q) own = record { limits = refl; logs = λ b. refl; words_are = refl }
      stays_by (end.Trapped w) own = record { limits = refl; logs = λ b. refl; words_are = own_draws w own }

  -- out of memory --------------------------------------------------------------------------

  pub memory_picked : ((c : ThreadNo) → a ≡ ask.Join c → ⊥) → (after : List Seen) → after ≡ slice_set fibers t (record f { state = now; «end» = Some log_end.NoMemory })
      → (q : Played x) × PickedAs x limits hosts pick.Ended p t q × UnderWay x limits hosts after m q
  memory_picked other after after_is =
      end_pick x limits hosts before m p t f now held log_end.NoMemory tt tt (λ same. never_waiting other) m (record { limits = refl; logs = λ b. refl; words_are = refl }) after
      (after_is ∙ ap (λ l. slice_set l t (record f { state = now; «end» = Some log_end.NoMemory })) s.fibers_are ∙ set_twice before t (record f { state = now }) (record f { state = now; «end» = Some log_end.NoMemory }))

  -- a wait ----------------------------------------------------------------------------------

  pub wait_picked : (c : ThreadNo) → a ≡ ask.Join c → end_seen fibers c.0 ≡ None → (q : Played x) × PickedAs x limits hosts pick.Rests p t q × UnderWay x limits hosts fibers m q
  wait_picked c is none =
      wait_pick x limits hosts before m p t f now held s.may
      (ap (waits (source x) objects p) (sym s.asks ∙ is) ∙ ap is_none (sym (ends_are c.0) ∙ none)) fibers s.fibers_are
