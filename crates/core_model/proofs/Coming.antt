-- What stands in each progress to which picks have led.
use Rattle.std.proofs.Common.{◌≡◌, ℕ, zero, suc, ◌+◌, ◌<◌, ◌≤◌, List, [], ◌∷◌, ◌++◌, refl, sym, ap, ◌∙◌, subst, inl, inr, length, arith}
use Rattle.std.specs.Prelude.{Option, Some, None, slice_get, slice_set}
use Rattle.std.proofs.lemmas.Option.{slice_get_within}
use Rattle.bsan_ids.specs.declared.numbers.AllocNo.{AllocNo}
use Rattle.bsan_ids.specs.declared.numbers.Limits.{Limits}
use Rattle.history.specs.declared.ask.Ask.TheVariants as ask
use Rattle.history.specs.declared.entry.Entry.{Entry}
use Rattle.history.specs.declared.entry.Request.{Request}
use Rattle.history.specs.declared.entry.Request.TheVariants as request
use Rattle.history.specs.declared.entry.Reply.{Reply}
use Rattle.history.specs.declared.log.End.{End}
use Rattle.history.specs.declared.log.End.TheVariants as log_end
use Rattle.history.specs.Histories.{HasBytes}
use Rattle.ir_ast.specs.declared.hosts.HostTable.{HostTable}
use Rattle.runs.specs.Interleaving.{Allowed, Event, first_world, last_world}
use Rattle.runs.specs.Machine.{MayGoOn, SettlesWithin}
use Rattle.runs.specs.Objects.{objects}
use Rattle.runs.specs.Parts.{child_of}
use Rattle.runs.specs.Replay.{Fiber, Choice, Waits, Ends, Steps, Chooses, RepliesNext, RestsAs, picked, Picks, Plays, new_fibers}
use Rattle.runs.specs.ReplayLaw.{first_progress, FitsAlways}
use Rattle.runs.proofs.Composition.{settles_without}
use Rattle.runs.proofs.ErasedRun.{settles_more}
use Rattle.runs.proofs.ObjectLaws.{objects_make_alone}
use Rattle.runs.proofs.Picking.{spawn_within, step_is_event}
use Rattle.runs.proofs.ReplayPicks.{Kept, plays_keep, first_kept}
use Rattle.runs.proofs.ReplayState.{found_set}
use Rattle.runs.proofs.ReplayStep.{After, own, other, new, after_step, child_is_spawn, long_step}
use Rattle.runs.proofs.Tracking.{some_inj, child_next, length_set}
use Rattle.source_runs.proofs.HostsAccepted.{accepted_programs_ask}
use Rattle.source_runs.proofs.JoinsAccepted.{accepted_programs_join}
use Rattle.source_runs.proofs.OwnLimits.{answer_own}
use Rattle.source_runs.proofs.Worlds.{replies_always_fit, pieces_are_bytes}
use Rattle.source_sem.specs.Joining.{JoinLaw, ThreadStands}
use Rattle.source_sem.specs.Records.{allowed}
use Rattle.source_sem.specs.Source.{Setting, Source, source, source_ask, source_fits}
use Rattle.source_sem.specs.Starting.{main_of, main_start}
use Rattle.source_sem.specs.Traps.{PlainIsOwn}
use Rattle.source_sem.proofs.JoinSteps.{join_law}
use Rattle.source_sem.proofs.Stepping.{instructions_count}
use Rattle.instr_sound.specs.Mains.{IsRunnable}
use Rattle.core_model.specs.Running.{AreLimits, Played, Came}
use Rattle.core_model.proofs.Standing.{StateStands, lt_of, stands_more, stands_settled, stands_after, stands_child, stands_start}

-- no step is answered by the end of a limit on numbers
pub next_own : (x : Setting) (A : Allowed) (p : Played x) (e : Entry) (r : Request) → RepliesNext (source x) objects A p e r → PlainIsOwn e.reply.plain
next_own x A p e (request.Make size place) h = subst (λ (y : Reply). PlainIsOwn y.plain) (sym h.1) (answer_own _ e.request e.stamp.0)
next_own x A p e (request.Print v) h = subst (λ (y : Reply). PlainIsOwn y.plain) (sym h) tt
next_own x A p e (request.Host n a b) h = subst (λ (y : Reply). PlainIsOwn y.plain) (sym h.2) tt
next_own x A p e (request.Spawn f) h = subst (λ (y : Reply). PlainIsOwn y.plain) (sym h) tt
next_own x A p e (request.Join c) h = subst (λ (y : Reply). PlainIsOwn y.plain) (sym h.3) tt
next_own x A p e _ h = subst (λ (y : Reply). PlainIsOwn y.plain) (sym h.2) (answer_own _ e.request e.stamp.0)

-- a thread that goes on after a step isn't at its limit
goes_on : (x : Setting) (limits : Limits) (s : Source) (over : Option End) → RestsAs (source x) limits s over → over ≡ None → s.count ≤ limits.turns → MayGoOn (source x) limits.turns s
goes_on x limits s None rests is within begins = lt_of s.count limits.turns within (λ full. (let z : log_end.TurnLimit ≡ log_end.NoMemory = rests log_end.TurnLimit tt (begins, full) in cc))
goes_on x limits s (Some why) rests is within begins = cc

module _ (x : Setting) (limits : Limits) (hosts : HostTable) (r : IsRunnable x hosts) (ranges : AreLimits limits) where
  abbrev A : Allowed
  A = allowed limits hosts

  pub join_lawful : JoinLaw x
  join_lawful = join_law x (accepted_programs_join x.program hosts r.program r.accepted)

  pub host_there : (s : Source) (n first second : ℕ) → ThreadStands x.program s → source_ask x s ≡ ask.Host n first second → n < length hosts.entries
  host_there = accepted_programs_ask x hosts r.accepted (ap (λ (y : Setting). y.hosts) r.setting)

  pub fits_always : FitsAlways (source x) objects A (main_start x)
  fits_always = replies_always_fit x limits hosts r.program r.accepted r.bytes (let few = ranges.few_allocs in omega (arith, few))

  abbrev pub first : Played x
  first = first_progress (source x) objects (main_of x.program) (main_start x)

  abbrev pub IsKept : Played x → Type 0
  IsKept p = Kept (source x) objects A limits (main_of x.program) (main_start x) p

  pub record AllStand (p : Played x) : Type 0 where
    pub kept : IsKept p
    pub few : length p.threads ≤ 1024
    pub states : (t : ℕ) (f : Fiber (source x)) → slice_get p.threads t ≡ Some f → StateStands x limits.turns t (length p.threads) f.state
    pub going : (t : ℕ) (f : Fiber (source x)) → slice_get p.threads t ≡ Some f → f.«end» ≡ None → MayGoOn (source x) limits.turns f.state

  -- the entry of a chosen step fits
  pub chosen_fits : (p : Played x) (t : ℕ) (f : Fiber (source x)) (now : Source) (e : Entry) (over : Option End) → IsKept p → slice_get p.threads t ≡ Some f
      → Chooses (source x) objects A limits p t f (Steps now e over) → source_fits x now e
  chosen_fits p t f now e over k at c =
      let tracks = k.stands.tracks in
      let v : Event (source x) objects A (last_world (source x) objects A (first_world (source x) objects (main_start x)) p.merge k.stands.run) e =
      step_is_event (source x) objects A limits p _ t f now e over refl tracks at c in
      fits_always p.merge k.stands.run e v

  -- what a thread asks to write is of bytes
  pub asks_bytes : (p : Played x) (t : ℕ) (f : Fiber (source x)) (now : Source) → IsKept p → slice_get p.threads t ≡ Some f → SettlesWithin (source x) limits.turns f.state now
      → (b : AllocNo) (q : Request) → source_ask x now ≡ ask.At b q → HasBytes q
  asks_bytes p t f now k at settles b q asked =
      let s = k.stands.tracks.threads t f at in
      pieces_are_bytes x limits hosts r.program r.accepted r.bytes (let few = ranges.few_allocs in omega (arith, few)) p.merge k.stands.run t s.0 now s.1
      (settles_more (source x) s.0 f.state now s.2 (settles_without (source x) limits.turns f.state now settles)) b q asked

  pick_kept : (p q : Played x) (t : ℕ) → IsKept p → Picks (source x) objects A limits p t q → IsKept q
  pick_kept p q t k h = plays_keep (source x) objects A limits (main_of x.program) (main_start x) refl objects_make_alone fits_always p q (t ∷ []) k (q, h, refl)

  -- a thread that made no step
  module _ (p : Played x) (t : ℕ) (f g : Fiber (source x)) (now : Source) (a : AllStand p) (at : slice_get p.threads t ≡ Some f) (is : g.state ≡ now) where
    aside : StateStands x limits.turns t (length p.threads) now → (u : ℕ) (h : Fiber (source x)) → slice_get (slice_set p.threads t g) u ≡ Some h → StateStands x limits.turns u (length (slice_set p.threads t g)) h.state
    aside stands u h got =
        let long : length (slice_set p.threads t g) ≡ length p.threads = length_set p.threads t g in
        subst (λ n. StateStands x limits.turns u n h.state) (sym long)
        (elim (found_set p.threads t u f g h at got) [
          | inl hit ↦
              subst (λ n. StateStands x limits.turns n (length p.threads) h.state) hit.0
              (subst (λ (z : Fiber (source x)). StateStands x limits.turns t (length p.threads) z.state) hit.1
              (subst (λ s. StateStands x limits.turns t (length p.threads) s) (sym is) stands))
          | inr miss ↦ a.states u h miss.1
        ])

    going_aside : (g.«end» ≡ None → MayGoOn (source x) limits.turns now) → (u : ℕ) (h : Fiber (source x)) → slice_get (slice_set p.threads t g) u ≡ Some h → h.«end» ≡ None → MayGoOn (source x) limits.turns h.state
    going_aside may u h got none =
        elim (found_set p.threads t u f g h at got) [
          | inl hit ↦
              let here : MayGoOn (source x) limits.turns g.state = subst (λ s. MayGoOn (source x) limits.turns s) (sym is) (may (ap (λ (z : Fiber (source x)). z.«end») hit.1 ∙ none)) in
              subst (λ (z : Fiber (source x)). MayGoOn (source x) limits.turns z.state) hit.1 here
          | inr miss ↦ a.going u h miss.1 none
        ]

  module _ (p : Played x) (t : ℕ) (f : Fiber (source x)) (now : Source) (e : Entry) (over : Option End) (a : AllStand p) (at : slice_get p.threads t ≡ Some f)
      (c : Chooses (source x) objects A limits p t f (Steps now e over)) where
    abbrev f' : Fiber (source x)
    f' = record f { state = (source x).after now e; entries = f.entries ++ e ∷ []; «end» = over }

    abbrev grown : List (Fiber (source x))
    grown = slice_set p.threads t f' ++ new_fibers (source x) t ((source x).child now) e.request

    settled_now : StateStands x limits.turns t (length p.threads) now
    settled_now = stands_settled x limits.turns join_lawful t (length p.threads) f.state now c.0 (a.states t f at)

    longer : length p.threads ≤ length grown
    longer = elim (long_step (source x) p.threads t f' ((source x).child now) p.words e.request) [
      | inl more ↦ (let l = more.0 in omega (arith, l))
      | inr same ↦ (let l = same.0 in omega (arith, l))
    ]

    -- a new thread is the next one
    count_is : p.words.threads < 1023 → length p.threads ≡ p.words.threads + 1
    count_is less = a.kept.stands.threads_are (let few = c.3 in omega (arith, few)) (omega (arith, less))

    within_is : (k : ℕ) → e.request ≡ request.Spawn k → p.words.threads < 1023
    within_is k is = spawn_within (source x) objects limits p e k ((source x).ask now) c.7 is c.2

    new_is : (n : ℕ) → child_of e ≡ Some n → (t < n) × (n < length grown)
    new_is n is =
        let spawn = child_is_spawn e.request e.reply.plain n is in
        let less = within_is spawn.0 spawn.1 in
        let number : n ≡ p.words.threads + 1 = child_next (source x) objects A p e n e.request c.8 is in
        let count = count_is less in
        let low : t < length p.threads = slice_get_within p.threads t f at in
        elim (long_step (source x) p.threads t f' ((source x).child now) p.words e.request) [
          | inl more ↦ (omega (arith, number, count, low), let l = more.0 in omega (arith, l, number, count))
          | inr same ↦ absurd (same.2 spawn.0 spawn.1)
        ]

    few_grown : length grown ≤ 1024
    few_grown = elim (long_step (source x) p.threads t f' ((source x).child now) p.words e.request) [
      | inl more ↦
          let spawn = more.2 in
          let less = within_is spawn.0 spawn.1 in
          let count = count_is less in
          let l = more.0 in
          omega (arith, l, count, less)
      | inr same ↦ (let l = same.0 in let few = a.few in omega (arith, l, few))
    ]

    after_stands : StateStands x limits.turns t (length grown) ((source x).after now e)
    after_stands =
        stands_after x limits.turns join_lawful t (length p.threads) (length grown) now e settled_now c.1 c.7
        (chosen_fits p t f now e over a.kept at c) (next_own x A p e e.request c.8) longer new_is

    grown_stand : (u : ℕ) (g : Fiber (source x)) → slice_get grown u ≡ Some g → StateStands x limits.turns u (length grown) g.state
    grown_stand u g got = by_after (after_step (source x) p.threads t f f' ((source x).child now) e.request u g at got)
      where
        by_after : After (source x) p.threads t f' ((source x).child now) e.request u g → StateStands x limits.turns u (length grown) g.state
        by_after (own here same) =
            subst (λ n. StateStands x limits.turns n (length grown) g.state) here (subst (λ (z : Fiber (source x)). StateStands x limits.turns t (length grown) z.state) same after_stands)
        by_after (other ne old) = stands_more x limits.turns join_lawful u (length p.threads) (length grown) g.state longer (a.states u g old)
        by_after (new k asked last same) =
            subst (λ (z : Fiber (source x)). StateStands x limits.turns u (length grown) z.state) same (stands_child x limits.turns join_lawful u (length grown) now)

    grown_going : (u : ℕ) (g : Fiber (source x)) → slice_get grown u ≡ Some g → g.«end» ≡ None → MayGoOn (source x) limits.turns g.state
    grown_going u g got none = by_after (after_step (source x) p.threads t f f' ((source x).child now) e.request u g at got)
      where
        by_after : After (source x) p.threads t f' ((source x).child now) e.request u g → MayGoOn (source x) limits.turns g.state
        by_after (own here same) =
            subst (λ (z : Fiber (source x)). MayGoOn (source x) limits.turns z.state) same
            (goes_on x limits ((source x).after now e) over c.9 (ap (λ (z : Fiber (source x)). z.«end») same ∙ none) after_stands.count)
        by_after (other ne old) = a.going u g old none
        by_after (new k asked last same) = subst (λ (z : Fiber (source x)). MayGoOn (source x) limits.turns z.state) same (λ begins. (let zero_is = (instructions_count x).child now in let some = ranges.some_turns in omega (arith, zero_is, some)))

  pub pick_stands : (p q : Played x) (t : ℕ) → AllStand p → Picks (source x) objects A limits p t q → AllStand q
  pick_stands p q t a (inl passed) = subst AllStand (sym passed.1) a
  pick_stands p q t a (inr h) = by_choice h.1 h.4 h.5
    where
      kept : IsKept q
      kept = pick_kept p q t a.kept (inr h)

      by_choice : (c : Choice (source x)) → Chooses (source x) objects A limits p t h.0 c → q ≡ picked (source x) objects p t h.0 c → AllStand q
      by_choice (Waits now) c is =
          let now_stands = stands_settled x limits.turns join_lawful t (length p.threads) h.0.state now c.0 (a.states t h.0 h.2) in
          let few : length (slice_set p.threads t (record h.0 { state = now })) ≤ 1024 = (let long = length_set p.threads t (record h.0 { state = now }) in let f = a.few in omega (arith, long, f)) in
          subst AllStand (sym is) (record {
            kept = subst IsKept is kept;
            few = few;
            states = aside p t h.0 (record h.0 { state = now }) now a h.2 refl now_stands;
            going = going_aside p t h.0 (record h.0 { state = now }) now a h.2 refl (λ none. c.1);
          })
      by_choice (Ends now why) c is =
          let now_stands = stands_settled x limits.turns join_lawful t (length p.threads) h.0.state now c.0 (a.states t h.0 h.2) in
          let few : length (slice_set p.threads t (record h.0 { state = now; «end» = Some why })) ≤ 1024 = (let long = length_set p.threads t (record h.0 { state = now; «end» = Some why }) in let f = a.few in omega (arith, long, f)) in
          subst AllStand (sym is) (record {
            kept = subst IsKept is kept;
            few = few;
            states = aside p t h.0 (record h.0 { state = now; «end» = Some why }) now a h.2 refl now_stands;
            going = going_aside p t h.0 (record h.0 { state = now; «end» = Some why }) now a h.2 refl (λ none. cc);
          })
      by_choice (Steps now e over) c is =
          subst AllStand (sym is) (record {
            kept = subst IsKept is kept;
            few = few_grown p t h.0 now e over a h.2 c;
            states = grown_stand p t h.0 now e over a h.2 c;
            going = grown_going p t h.0 now e over a h.2 c;
          })

  pub first_stands : AllStand first
  first_stands = record {
    kept = first_kept (source x) objects A limits (main_of x.program) (main_start x) refl objects_make_alone fits_always;
    few = omega arith;
    states = λ t f got. only t f got;
    going = λ t f got none. only_going t f got;
  }
    where
      only : (t : ℕ) (f : Fiber (source x)) → slice_get first.threads t ≡ Some f → StateStands x limits.turns t (length first.threads) f.state
      only zero f got = subst (λ (z : Fiber (source x)). StateStands x limits.turns 0 1 z.state) (some_inj got) (stands_start x limits.turns join_lawful 0 1 (main_of x.program) [])
      only (suc t) f got = cc

      only_going : (t : ℕ) (f : Fiber (source x)) → slice_get first.threads t ≡ Some f → MayGoOn (source x) limits.turns f.state
      only_going zero f got = subst (λ (z : Fiber (source x)). MayGoOn (source x) limits.turns z.state) (some_inj got) (λ begins. (let none = (instructions_count x).start (main_of x.program) [] in let some = ranges.some_turns in omega (arith, none, some)))
      only_going (suc t) f got = cc

  plays_stand : (p q : Played x) (ts : List ℕ) → AllStand p → Plays (source x) objects A limits p ts q → AllStand q
  plays_stand p q [] a h = subst AllStand (sym h) a
  plays_stand p q (t ∷ ts) a h = plays_stand h.0 q ts (pick_stands p h.0 t a h.1) h.2

  pub all_stand : (p : Played x) → Came x limits hosts p → AllStand p
  all_stand p h = plays_stand first p h.0 first_stands h.1

  plays_more : (p q z : Played x) (ts : List ℕ) (t : ℕ) → Plays (source x) objects A limits p ts q → Picks (source x) objects A limits q t z → Plays (source x) objects A limits p (ts ++ t ∷ []) z
  plays_more p q z [] t h g = (z, subst (λ w. Picks (source x) objects A limits w t z) h g, refl)
  plays_more p q z (u ∷ us) t h g = (h.0, h.1, plays_more h.0 q z us t h.2 g)

  pub came_on : (p q : Played x) (t : ℕ) → Came x limits hosts p → Picks (source x) objects A limits p t q → Came x limits hosts q
  came_on p q t h g = (h.0 ++ t ∷ [], plays_more first p q h.0 t h.1 g)
