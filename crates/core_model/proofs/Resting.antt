-- What a pick does to the other threads, when none can go on, and how far a replay still has to go.
use Rattle.std.proofs.Common.{◌≡◌, ◌≢◌, ℕ, zero, suc, ◌+◌, ◌<◌, ◌≤◌, List, [], ◌∷◌, ◌++◌, Bool, true, false, refl, sym, ◌∙◌, ap, subst, inl, inr, length, arith, get_or, take}
use Rattle.std.specs.Prelude.{Option, Some, None, ◌⊎◌, is_none, map, slice_get, slice_set, unwrap_or, option_map}
use Rattle.std.proofs.lemmas.Bool.{true≢false}
use Rattle.std.proofs.lemmas.List.{append-nil, length-map, map-append}
use Rattle.std.proofs.Math.Seq.{take-suc}
use Rattle.bsan_ids.specs.declared.numbers.ThreadNo.{ThreadNo}
use Rattle.std.proofs.lemmas.Option.{slice_get_within}
use Rattle.bsan_ids.specs.declared.numbers.Counters.{Counters}
use Rattle.bsan_ids.specs.declared.numbers.Limits.{Limits}
use Rattle.history.specs.declared.ask.Ask.{Ask}
use Rattle.history.specs.declared.ask.Ask.TheVariants as ask
use Rattle.history.specs.declared.entry.Entry.{Entry}
use Rattle.history.specs.declared.entry.Request.{Request}
use Rattle.history.specs.declared.entry.Request.TheVariants as request
use Rattle.history.specs.declared.trap.Trap.TheVariants as trap
use Rattle.ir_ast.specs.declared.hosts.HostTable.{HostTable}
use Rattle.run_memory.specs.Memory.{Memory}
use Rattle.history.specs.declared.log.End.{End}
use Rattle.history.specs.declared.log.End.TheVariants as log_end
use Rattle.runs.specs.Objects.{objects}
use Rattle.runs.specs.Replay.{Fiber, Choice, Waits, Ends, Steps, CanGoOn, Picks, Plays, PlaysLeast, picked, waits, new_fibers, drawn_by, drawn_by_end, drawn_number}
use Rattle.runs.proofs.ReplayState.{found_set}
use Rattle.runs.proofs.ReplayStep.{After, own, other, new, after_step}
use Rattle.runs.proofs.Tracking.{some_inj}
use Rattle.source_sem.specs.Records.{allowed}
use Rattle.source_sem.specs.Source.{Setting, Source, source, source_ask}
use Rattle.core_model.specs.declared.run.Pick.{Pick}
use Rattle.core_model.specs.declared.run.Pick.TheVariants as pick
use Rattle.core_model.specs.Fibers.{Seen}
use Rattle.core_model.specs.Running as running
use Rattle.instr_sound.specs.Mains.{IsRunnable}
use Rattle.core_model.specs.Running.{AreLimits, Played, UnderWay, IsUnderWay, Takes, PickedAs, fiber_in}
use Rattle.core_model.specs.Replays.{PlaysAll, NoneBelow, PlaysOn, HaveEnded, PlaysRest, open_one, unended, weight, weight_of}
use Rattle.core_model.proofs.Choosing.{got_set}
use Rattle.core_model.proofs.Coming.{AllStand, all_stand, join_lawful}

below_suc : (u t : ℕ) → u < t + 1 → (u < t) ⊎ (u ≡ t)
below_suc zero zero h = inr refl
below_suc zero (suc t) h = inl (omega arith)
below_suc (suc u) zero h = absurd (let none : 1 ≤ 0 = omega (arith, h) in omega (arith, none))
below_suc (suc u) (suc t) h = elim (below_suc u t (omega (arith, h))) [ inl l ↦ inl (omega (arith, l)) | inr e ↦ inr (ap suc e) ]

got_at : {X : Type 0} (xs : List X) (t : ℕ) → t < length xs → (y : X) × (slice_get xs t ≡ Some y)
got_at [] t h = absurd (omega (arith, h))
got_at (y ∷ ys) zero h = (y, refl)
got_at (y ∷ ys) (suc t) h = got_at ys t (omega (arith, h))

not_true : (b : Bool) → (b ≡ true → ⊥) → b ≡ false
not_true true h = absurd (h refl)
not_true false h = refl

none_is : (o : Option End) → is_none o ≡ true → o ≡ None
none_is None h = refl
none_is (Some e) h = absurd (true≢false (sym h))

module _ (x : Setting) where
  abbrev ends : List (Fiber (source x)) → ℕ → Option End
  ends fs c = unwrap_or (option_map (λ (f : Fiber (source x)). f.«end») (slice_get fs c)) None

  ends_set : (fs : List (Fiber (source x))) (t : ℕ) (f f' : Fiber (source x)) → slice_get fs t ≡ Some f → f'.«end» ≡ f.«end» → (c : ℕ) → ends (slice_set fs t f') c ≡ ends fs c
  ends_set [] t f f' at same c = cc
  ends_set (g ∷ fs) zero f f' at same zero = same ∙ ap (λ (z : Fiber (source x)). z.«end») (sym (some_inj at))
  ends_set (g ∷ fs) zero f f' at same (suc c) = refl
  ends_set (g ∷ fs) (suc t) f f' at same zero = refl
  ends_set (g ∷ fs) (suc t) f f' at same (suc c) = ends_set fs t f f' at same c

  ends_push : (fs : List (Fiber (source x))) (g : Fiber (source x)) → g.«end» ≡ None → (c : ℕ) → ends (fs ++ g ∷ []) c ≡ ends fs c
  ends_push [] g none zero = none
  ends_push [] g none (suc c) = refl
  ends_push (h ∷ fs) g none zero = refl
  ends_push (h ∷ fs) g none (suc c) = ends_push fs g none c

  ends_new : (fs : List (Fiber (source x))) (t : ℕ) (child : Source) (r : Request) (c : ℕ) → ends (fs ++ new_fibers (source x) t child r) c ≡ ends fs c
  ends_new fs t child (request.Spawn k) c = ends_push fs (record { parent = Some (record { 0 = t }); function = k; state = child; entries = []; «end» = None }) refl c
  ends_new fs t child _ c = ap (λ l. ends l c) (append-nil fs)

  abbrev SameEnds : Played x → Played x → Type 0
  SameEnds p q = (c : ℕ) → ends q.threads c ≡ ends p.threads c

  waits_same : (p q : Played x) → SameEnds p q → (a : Ask) → waits (source x) objects q a ≡ waits (source x) objects p a
  waits_same p q same (ask.Join c) = ap is_none (same c.0)
  waits_same p q same _ = refl

  rests_on : (p q : Played x) → SameEnds p q → (u : ℕ) → ((g : Fiber (source x)) → slice_get q.threads u ≡ Some g → slice_get p.threads u ≡ Some g)
      → CanGoOn (source x) objects q u → CanGoOn (source x) objects p u
  rests_on p q same u back can = (can.0, back can.0 can.1, can.2, sym (waits_same p q same (source_ask x can.0.state)) ∙ can.3)

  -- the waiting thread
  module _ (p : Played x) (t : ℕ) (f : Fiber (source x)) (now : Source) (at : slice_get p.threads t ≡ Some f) (none : NoneBelow x p t) where
    abbrev after_wait : Played x
    after_wait = picked (source x) objects p t f (Waits now)

    wait_ends : SameEnds p after_wait
    wait_ends = ends_set p.threads t f (record f { state = now }) at refl

    below_wait : waits (source x) objects p (source_ask x now) ≡ true → NoneBelow x after_wait (t + 1)
    below_wait waiting u less can = elim (below_suc u t less) [
      | inl low ↦ none u low (rests_on p after_wait wait_ends u (λ g got. elim (found_set p.threads t u f (record f { state = now }) g at got) [
        | inl hit ↦ absurd (let e = hit.0 in omega (arith, low, e))
        | inr miss ↦ miss.1
      ]) can)
      | inr hit ↦
          let here : slice_get after_wait.threads t ≡ Some can.0 = subst (λ k. slice_get after_wait.threads k ≡ Some can.0) hit can.1 in
          let same : record f { state = now } ≡ can.0 = some_inj (sym (got_set p.threads t f (record f { state = now }) at) ∙ here) in
          let state : now ≡ can.0.state = ap (λ (z : Fiber (source x)). z.state) same in
          true≢false (sym (subst (λ s. waits (source x) objects after_wait (source_ask x s) ≡ true) state (waits_same p after_wait wait_ends (source_ask x now) ∙ waiting)) ∙ can.3)
    ]

  -- the thread that made a step, and goes on
  module _ (p : Played x) (t : ℕ) (f : Fiber (source x)) (now : Source) (e : Entry) (at : slice_get p.threads t ≡ Some f) (opened : f.«end» ≡ None) (none : NoneBelow x p t) where
    abbrev after_move : Played x
    after_move = picked (source x) objects p t f (Steps now e None)

    abbrev moved : Fiber (source x)
    moved = record f { state = (source x).after now e; entries = f.entries ++ e ∷ []; «end» = None }

    move_ends : SameEnds p after_move
    move_ends c = ends_new (slice_set p.threads t moved) t ((source x).child now) e.request c ∙ ends_set p.threads t f moved at (sym opened) c

    below_step : NoneBelow x after_move t
    below_step u less can = none u less (rests_on p after_move move_ends u (λ g got. back g (after_step (source x) p.threads t f moved ((source x).child now) e.request u g at got)) can)
      where
        back : (g : Fiber (source x)) → After (source x) p.threads t moved ((source x).child now) e.request u g → slice_get p.threads u ≡ Some g
        back g (own hit same) = absurd (omega (arith, less, hit))
        back g (other ne old) = old
        back g (new k asked last same) = absurd (let low = slice_get_within p.threads t f at in omega (arith, low, last, less))

-- no thread waits for ever ------------------------------------------------------------
module _ (x : Setting) (limits : Limits) (hosts : HostTable) (r : IsRunnable x hosts) (ranges : AreLimits limits) (p : Played x) (a : AllStand x limits hosts r ranges p) (none : NoneBelow x p (length p.threads)) where
  child_stops : (t : ℕ) (f : Fiber (source x)) → slice_get p.threads t ≡ Some f → ((c : ℕ) (g : Fiber (source x)) → t < c → slice_get p.threads c ≡ Some g → g.«end» ≢ None)
      → (b : Ask) → source_ask x f.state ≡ b → waits (source x) objects p b ≡ true → ⊥
  child_stops t f at later (ask.Join c) asks w =
      let stands = a.states t f at in
      let kid = stands.kids c.0 ((join_lawful x limits hosts r ranges).asks f.state c stands.joins asks).0 in
      let child = got_at p.threads c.0 kid.1 in
      later c.0 child.0 kid.0 child.1 (none_is child.0.«end» (sym (ap (λ o. is_none (unwrap_or (option_map (λ (z : Fiber (source x)). z.«end») o) None)) child.1) ∙ w))
  child_stops t f at later _ asks w = true≢false (sym w)

  ended_by : (k t : ℕ) (f : Fiber (source x)) → length p.threads ≤ t + k → slice_get p.threads t ≡ Some f → f.«end» ≢ None
  ended_by zero t f le at is = (let low = slice_get_within p.threads t f at in omega (arith, low, le))
  ended_by (suc k) t f le at is =
      none t (slice_get_within p.threads t f at)
      (f, at, is, not_true (waits (source x) objects p (source_ask x f.state)) (child_stops t f at (λ c g low got. ended_by k c g (omega (arith, le, low)) got) (source_ask x f.state) refl))

  pub all_ended : HaveEnded x p
  all_ended t f at = ended_by (length p.threads) t f (omega arith) at

-- the picks ------------------------------------------------------------------------------
module _ (x : Setting) (limits : Limits) (hosts : HostTable) where
  takes_picks : (p q : Played x) (t : ℕ) (c : Choice (source x)) → Takes x limits hosts p t q c → Picks (source x) objects (allowed limits hosts) limits p t q
  takes_picks p q t c k = inr (k.fiber, c, k.at, k.can, k.chosen, k.is)

  pub as_picks : (came : Pick) (p q : Played x) (t : ℕ) → PickedAs x limits hosts came p t q → Picks (source x) objects (allowed limits hosts) limits p t q
  as_picks pick.Rests p q t (inl passed) = inl passed
  as_picks pick.Rests p q t (inr k) = takes_picks p q t (Waits k.0) k.1
  as_picks pick.Stepped p q t k = takes_picks p q t (Steps k.0 k.1 None) k.2
  as_picks pick.Ended p q t (inl k) = takes_picks p q t (Ends k.0 k.1) k.2
  as_picks pick.Ended p q t (inr k) = takes_picks p q t (Steps k.0 k.1 (Some k.2)) k.3

  -- the thread that is picked hasn't ended
  pub opened_at : (p q : Played x) (t : ℕ) (c : Choice (source x)) (k : Takes x limits hosts p t q c) → k.fiber.«end» ≡ None
  opened_at p q t c k = ap (λ (z : Fiber (source x)). z.«end») (some_inj (sym k.at ∙ k.can.1)) ∙ k.can.2

  can_of : (p q : Played x) (t : ℕ) → PickedAs x limits hosts pick.Ended p t q → CanGoOn (source x) objects p t
  can_of p q t (inl k) = k.2.can
  can_of p q t (inr k) = k.3.can

  pub plays_more : (p q z : Played x) (ts : List ℕ) (t : ℕ) → Plays (source x) objects (allowed limits hosts) limits p ts q → Picks (source x) objects (allowed limits hosts) limits q t z → Plays (source x) objects (allowed limits hosts) limits p (ts ++ t ∷ []) z
  plays_more p q z [] t h g = (z, subst (λ w. Picks (source x) objects (allowed limits hosts) limits w t z) h g, refl)
  plays_more p q z (u ∷ us) t h g = (h.0, h.1, plays_more h.0 q z us t h.2 g)

  least_more : (p q z : Played x) (ts : List ℕ) (t : ℕ) → PlaysLeast (source x) objects (allowed limits hosts) limits p ts q → CanGoOn (source x) objects q t → NoneBelow x q t
      → Picks (source x) objects (allowed limits hosts) limits q t z → PlaysLeast (source x) objects (allowed limits hosts) limits p (ts ++ t ∷ []) z
  least_more p q z [] t h can none g =
      (subst (λ w. CanGoOn (source x) objects w t) h can, subst (λ w. NoneBelow x w t) h none, (z, subst (λ w. Picks (source x) objects (allowed limits hosts) limits w t z) h g, refl))
  least_more p q z (u ∷ us) t h can none g = (h.0, h.1, (h.2.0, h.2.1, least_more h.2.0 q z us t h.2.2 can none g))

module _ (limits : Limits) (hosts : HostTable) where
  pub way_on : (F F' : List Seen) (m m' : Memory) (t : ℕ) (came : Pick) → IsUnderWay limits hosts F m → running.Picks limits hosts F m t F' m' came → IsUnderWay limits hosts F' m'
  way_on F F' m m' t came w g = (let b = g w.0 w.1 w.2 in (w.0, b.0, b.2))

  pub few_threads : (F : List Seen) (m : Memory) → IsUnderWay limits hosts F m → length F ≤ 1024
  few_threads F m w =
      let few = (all_stand w.0 limits hosts w.2.runnable w.2.ranges w.1 w.2.came).few in
      let same : length w.1.threads ≡ length F = ap length w.2.shows.threads ∙ length-map F (fiber_in w.0) in
      omega (arith, few, same)

  pub plays_pick : (F0 F F' : List Seen) (m0 m m' : Memory) (ts : List ℕ) (t : ℕ) (came : Pick) → PlaysAll limits hosts F0 m0 ts F m → running.Picks limits hosts F m t F' m' came
      → PlaysAll limits hosts F0 m0 (ts ++ t ∷ []) F' m'
  plays_pick F0 F F' m0 m m' ts t came h g = λ x p w.
      let a = h x p w in
      let b = g x a.0 a.2 in
      (b.0, plays_more x limits hosts p a.0 b.0 ts t a.1 (as_picks x limits hosts came a.0 b.0 t b.1), b.2)

  pub rests_pick : (F0 F F' : List Seen) (m0 m m' : Memory) (t : ℕ) → PlaysOn limits hosts F0 m0 t F m → running.Picks limits hosts F m t F' m' pick.Rests → PlaysOn limits hosts F0 m0 (t + 1) F' m'
  rests_pick F0 F F' m0 m m' t h g = λ x p w.
      let a = h x p w in
      let b = g x a.0 a.4 in
      elim b.1 [
        | inl passed ↦ (
          b.0,
          a.1,
          subst (λ z. PlaysLeast (source x) objects (allowed limits hosts) limits p a.1 z) (sym passed.1) a.2,
          (λ u less can. elim (below_suc u t less) [
            | inl low ↦ a.3 u low (subst (λ z. CanGoOn (source x) objects z u) passed.1 can)
            | inr hit ↦ passed.0 (subst (λ k. CanGoOn (source x) objects a.0 k) hit (subst (λ z. CanGoOn (source x) objects z u) passed.1 can))
          ]),
          b.2,
        )
        | inr k ↦ (
          b.0,
          a.1 ++ t ∷ [],
          least_more x limits hosts p a.0 b.0 a.1 t a.2 k.1.can a.3 (takes_picks x limits hosts a.0 b.0 t (Waits k.0) k.1),
          subst (λ z. NoneBelow x z (t + 1)) (sym k.1.is) (below_wait x a.0 t k.1.fiber k.0 k.1.at a.3 k.1.chosen.2),
          b.2,
        )
      ]

  pub step_pick : (F0 F F' : List Seen) (m0 m m' : Memory) (t : ℕ) → PlaysOn limits hosts F0 m0 t F m → running.Picks limits hosts F m t F' m' pick.Stepped → PlaysOn limits hosts F0 m0 t F' m'
  step_pick F0 F F' m0 m m' t h g = λ x p w.
      let a = h x p w in
      let b = g x a.0 a.4 in
      let k = b.1.2 in (
        b.0,
        a.1 ++ t ∷ [],
        least_more x limits hosts p a.0 b.0 a.1 t a.2 k.can a.3 (takes_picks x limits hosts a.0 b.0 t (Steps b.1.0 b.1.1 None) k),
        subst (λ z. NoneBelow x z t) (sym k.is) (below_step x a.0 t k.fiber b.1.0 b.1.1 k.at (opened_at x limits hosts a.0 b.0 t (Steps b.1.0 b.1.1 None) k) a.3),
        b.2,
      )

  pub ended_pick : (F0 F F' : List Seen) (m0 m m' : Memory) (t : ℕ) → PlaysOn limits hosts F0 m0 t F m → running.Picks limits hosts F m t F' m' pick.Ended → PlaysOn limits hosts F0 m0 0 F' m'
  ended_pick F0 F F' m0 m m' t h g = λ x p w.
      let a = h x p w in
      let b = g x a.0 a.4 in (
        b.0,
        a.1 ++ t ∷ [],
        least_more x limits hosts p a.0 b.0 a.1 t a.2 (can_of x limits hosts a.0 b.0 t b.1) a.3 (as_picks x limits hosts pick.Ended a.0 b.0 t b.1),
        (λ u less can. omega (arith, less)),
        b.2,
      )

  pub rest_done : (F0 F : List Seen) (m0 m : Memory) (t : ℕ) → PlaysOn limits hosts F0 m0 t F m → length F ≤ t → PlaysRest limits hosts F0 m0 F m
  rest_done F0 F m0 m t h le = λ x p w.
      let a = h x p w in
      let same : length a.0.threads ≡ length F = ap length a.4.shows.threads ∙ length-map F (fiber_in x) in (
        a.0,
        a.1,
        a.2,
        all_ended x limits hosts a.4.runnable a.4.ranges a.0 (all_stand x limits hosts a.4.runnable a.4.ranges a.0 a.4.came) (λ u less can. a.3 u (omega (arith, less, same, le)) can),
        a.4,
      )

-- how far a replay still has to go ----------------------------------------------------------
module _ {X : Type 0} (ended : X → Option End) where
  unended_set : (xs : List X) (t : ℕ) (f g : X) → slice_get xs t ≡ Some f → unended ended (slice_set xs t g) + open_one (ended f) ≡ unended ended xs + open_one (ended g)
  unended_set [] t f g at = cc
  unended_set (y ∷ ys) zero f g at = (let same : open_one (ended y) ≡ open_one (ended f) = ap (λ z. open_one (ended z)) (some_inj at) in omega (arith, same))
  unended_set (y ∷ ys) (suc t) f g at = (let more = unended_set ys t f g at in omega (arith, more))

  unended_append : (xs ys : List X) → unended ended (xs ++ ys) ≡ unended ended xs + unended ended ys
  unended_append [] ys = omega arith
  unended_append (x ∷ xs) ys = (let more = unended_append xs ys in omega (arith, more))

module _ (x : Setting) where
  abbrev far : Played x → ℕ
  far p = unended (λ (f : Fiber (source x)). f.«end») p.threads

  unended_map : (F : List Seen) → unended (λ (f : Fiber (source x)). f.«end») (map (fiber_in x) F) ≡ unended (λ (f : Seen). f.«end») F
  unended_map [] = refl
  unended_map (f ∷ fs) = ap (λ n. open_one f.«end» + n) (unended_map fs)

  unended_new : (t : ℕ) (child : Source) (r : Request) → unended (λ (f : Fiber (source x)). f.«end») (new_fibers (source x) t child r) ≤ 1
  unended_new t child (request.Spawn k) = omega arith
  unended_new t child _ = omega arith

  weight_is : (limits : Limits) (hosts : HostTable) (F : List Seen) (m : Memory) (p : Played x) (t : ℕ) → UnderWay x limits hosts F m p → weight_of limits F m t ≡ weight limits.steps p.words.stamps (far p) t
  weight_is limits hosts F m p t w =
      ap (λ (c : Counters). weight limits.steps c.stamps (unended (λ (f : Seen). f.«end») F) t) w.shows.words
      ∙ ap (λ n. weight limits.steps p.words.stamps n t) (sym (unended_map F) ∙ ap (unended (λ (f : Fiber (source x)). f.«end»)) (sym w.shows.threads))

stamps_step : (words : Counters) (r : Request) → (drawn_by words r).stamps ≡ words.stamps + 1
stamps_step words (request.Make size place) = refl
stamps_step words (request.Spawn f) = refl
stamps_step words _ = refl

stamps_number : (words : Counters) (a : Ask) → (drawn_number words a).stamps ≡ words.stamps
stamps_number words (ask.Make size place) = refl
stamps_number words (ask.Spawn f) = refl
stamps_number words _ = refl

stamps_end : (words : Counters) (a : Ask) (e : End) → words.stamps ≤ (drawn_by_end words a e).stamps
stamps_end words a (log_end.StepLimit s) = (let same = stamps_number words a in omega (arith, same))
stamps_end words a (log_end.Trapped (trap.AllocLimit d)) = omega arith
stamps_end words a (log_end.Trapped (trap.ThreadLimit d)) = omega arith
stamps_end words a (log_end.Trapped _) = omega arith
stamps_end words a _ = omega arith

down_at : (s k n t : ℕ) → t < 1025 → weight s k n (t + 1) < weight s k n t
down_at s k n t less = omega (arith, less)

down_step : (s k n n' t : ℕ) → k < s → n' ≤ n + 1 → weight s (k + 1) n' t < weight s k n t
down_step s k n n' t less few = omega (arith, less, few)

down_ended : (s k n n' t : ℕ) → k < s → n' ≤ n + 0 → weight s (k + 1) n' 0 < weight s k n t
down_ended s k n n' t less few = omega (arith, less, few)

down_end : (s k k' n n' t : ℕ) → k ≤ k' → n' + 1 ≡ n → weight s k' n' 0 < weight s k n t
down_end s k k' n n' t more one = omega (arith, more, one)

module _ (limits : Limits) (hosts : HostTable) where
  weigh : (F F' : List Seen) (m m' : Memory) (x : Setting) (p q : Played x) (t u : ℕ) → UnderWay x limits hosts F m p → UnderWay x limits hosts F' m' q
      → weight limits.steps q.words.stamps (far x q) u < weight limits.steps p.words.stamps (far x p) t → weight_of limits F' m' u < weight_of limits F m t
  weigh F F' m m' x p q t u w v less =
      subst (λ a. a < weight_of limits F m t) (sym (weight_is x limits hosts F' m' q u v)) (subst (λ b. weight limits.steps q.words.stamps (far x q) u < b) (sym (weight_is x limits hosts F m p t w)) less)

  pub weight_rests : (F F' : List Seen) (m m' : Memory) (t : ℕ) → IsUnderWay limits hosts F m → running.Picks limits hosts F m t F' m' pick.Rests → t < length F → weight_of limits F' m' (t + 1) < weight_of limits F m t
  weight_rests F F' m m' t w g less =
      let few = few_threads limits hosts F m w in
      let b = g w.0 w.1 w.2 in
      let down = down_at limits.steps w.1.words.stamps (far w.0 w.1) t (omega (arith, few, less)) in
      weigh F F' m m' w.0 w.1 b.0 t (t + 1) w.2 b.2 (elim b.1 [
        | inl passed ↦ subst (λ (z : Played w.0). weight limits.steps z.words.stamps (far w.0 z) (t + 1) < weight limits.steps w.1.words.stamps (far w.0 w.1) t) (sym passed.1) down
        | inr k ↦
            let set = unended_set (λ (f : Fiber (source w.0)). f.«end») w.1.threads t k.1.fiber (record k.1.fiber { state = k.0 }) k.1.at in
            let same : unended (λ (f : Fiber (source w.0)). f.«end») (slice_set w.1.threads t (record k.1.fiber { state = k.0 })) ≡ far w.0 w.1 = omega (arith, set) in
            subst (λ (z : Played w.0). weight limits.steps z.words.stamps (far w.0 z) (t + 1) < weight limits.steps w.1.words.stamps (far w.0 w.1) t) (sym k.1.is)
            (subst (λ n. weight limits.steps w.1.words.stamps n (t + 1) < weight limits.steps w.1.words.stamps (far w.0 w.1) t) (sym same) down)
      ])

  -- a thread that made a step
  step_weighs : (x : Setting) (p : Played x) (t : ℕ) (fiber : Fiber (source x)) (now : Source) (e : Entry) (over : Option End) → slice_get p.threads t ≡ Some fiber → fiber.«end» ≡ None
      → far x (picked (source x) objects p t fiber (Steps now e over)) ≤ far x p + open_one over
  step_weighs x p t fiber now e over at opened =
      let moved : Fiber (source x) = record fiber { state = (source x).after now e; entries = fiber.entries ++ e ∷ []; «end» = over } in
      let set = unended_set (λ (f : Fiber (source x)). f.«end») p.threads t fiber moved at in
      let both = unended_append (λ (f : Fiber (source x)). f.«end») (slice_set p.threads t moved) (new_fibers (source x) t ((source x).child now) e.request) in
      let few = unended_new x t ((source x).child now) e.request in
      let one : open_one fiber.«end» ≡ 1 = ap open_one opened in
      omega (arith, set, both, few, one)

  pub weight_steps : (F F' : List Seen) (m m' : Memory) (t : ℕ) → IsUnderWay limits hosts F m → running.Picks limits hosts F m t F' m' pick.Stepped → weight_of limits F' m' t < weight_of limits F m t
  weight_steps F F' m m' t w g =
      let b = g w.0 w.1 w.2 in
      let now = b.1.0 in
      let e = b.1.1 in
      let k = b.1.2 in
      let after : Played w.0 = picked (source w.0) objects w.1 t k.fiber (Steps now e None) in
      let few = step_weighs w.0 w.1 t k.fiber now e None k.at (opened_at w.0 limits hosts w.1 b.0 t (Steps now e None) k) in
      let stamps = stamps_step w.1.words e.request in
      weigh F F' m m' w.0 w.1 b.0 t t w.2 b.2
      (subst (λ (z : Played w.0). weight limits.steps z.words.stamps (far w.0 z) t < weight limits.steps w.1.words.stamps (far w.0 w.1) t) (sym k.is)
      (subst (λ n. weight limits.steps n (far w.0 after) t < weight limits.steps w.1.words.stamps (far w.0 w.1) t) (sym stamps)
      (down_step limits.steps w.1.words.stamps (far w.0 w.1) (far w.0 after) t k.chosen.3 few)))

  pub weight_ends : (F F' : List Seen) (m m' : Memory) (t : ℕ) → IsUnderWay limits hosts F m → running.Picks limits hosts F m t F' m' pick.Ended → weight_of limits F' m' 0 < weight_of limits F m t
  weight_ends F F' m m' t w g =
      let b = g w.0 w.1 w.2 in
      weigh F F' m m' w.0 w.1 b.0 t 0 w.2 b.2 (by_choice w.0 w.1 b.0 b.1)
    where
      by_choice : (x : Setting) (p q : Played x) → PickedAs x limits hosts pick.Ended p t q → weight limits.steps q.words.stamps (far x q) 0 < weight limits.steps p.words.stamps (far x p) t
      by_choice x p q (inl h) =
          let now = h.0 in
          let why = h.1 in
          let k = h.2 in
          let shut : Fiber (source x) = record k.fiber { state = now; «end» = Some why } in
          let set = unended_set (λ (f : Fiber (source x)). f.«end») p.threads t k.fiber shut k.at in
          let one : open_one k.fiber.«end» ≡ 1 = ap open_one (opened_at x limits hosts p q t (Ends now why) k) in
          subst (λ (z : Played x). weight limits.steps z.words.stamps (far x z) 0 < weight limits.steps p.words.stamps (far x p) t) (sym k.is)
          (down_end limits.steps p.words.stamps (drawn_by_end p.words (source_ask x now) why).stamps (far x p) (unended (λ (f : Fiber (source x)). f.«end») (slice_set p.threads t shut)) t
          (stamps_end p.words (source_ask x now) why) (omega (arith, set, one)))
      by_choice x p q (inr h) =
          let now = h.0 in
          let e = h.1 in
          let why = h.2 in
          let k = h.3 in
          let after : Played x = picked (source x) objects p t k.fiber (Steps now e (Some why)) in
          let few = step_weighs x p t k.fiber now e (Some why) k.at (opened_at x limits hosts p q t (Steps now e (Some why)) k) in
          let stamps = stamps_step p.words e.request in
          subst (λ (z : Played x). weight limits.steps z.words.stamps (far x z) 0 < weight limits.steps p.words.stamps (far x p) t) (sym k.is)
          (subst (λ n. weight limits.steps n (far x after) 0 < weight limits.steps p.words.stamps (far x p) t) (sym stamps)
          (down_ended limits.steps p.words.stamps (far x p) (far x after) t k.chosen.3 few))

-- the first elements, and one more
pub more_taken : (xs : List ThreadNo) (i : ℕ) (d : ThreadNo) → i < length xs → map (λ (k : ThreadNo). k.0) (take (i + 1) xs) ≡ map (λ (k : ThreadNo). k.0) (take i xs) ++ (get_or xs i d).0 ∷ []
more_taken xs i d low =
    let one : i + 1 ≡ suc i = omega arith in
    ap (λ m. map (λ (k : ThreadNo). k.0) (take m xs)) one ∙ ap (map (λ (k : ThreadNo). k.0)) (take-suc xs i d low)
    ∙ map-append (λ (k : ThreadNo). k.0) (take i xs) (get_or xs i d ∷ [])

pub all_taken : (xs : List ThreadNo) (i : ℕ) → length xs ≤ i → take i xs ≡ xs
all_taken [] zero le = refl
all_taken [] (suc i) le = refl
all_taken (x ∷ xs) zero le = absurd (omega (arith, le))
all_taken (x ∷ xs) (suc i) le = ap (λ l. x ∷ l) (all_taken xs i (omega (arith, le)))
