-- Each pick of a replay keeps what stands, from its beginning on.
use Rattle.std.proofs.Common.{◌≡◌, ℕ, zero, suc, ◌+◌, ◌<◌, ◌≤◌, List, [], ◌∷◌, refl, sym, ◌∙◌, ap, subst, ◌≢◌, inl, inr, arith, length}
use Rattle.std.specs.Prelude.{Some, None, slice_get, slice_set, ◌==◌, if◌then◌else◌}
use Rattle.std.specs.List.{IsDistinct}
use Rattle.std.proofs.lemmas.Bool.Decides.{eqb_tells}
use Rattle.std.proofs.lemmas.List.Sorted.{IsPermutation-refl}
use Rattle.bsan_ids.specs.declared.numbers.Counters.{Counters}
use Rattle.bsan_ids.specs.declared.numbers.Limits.{Limits}
use Rattle.bsan_ids.specs.declared.numbers.Stamp.{Stamp}
use Rattle.bsan_ids.specs.declared.numbers.ThreadNo.{ThreadNo}
use Rattle.history.specs.declared.ask.Ask.{Ask}
use Rattle.history.specs.declared.ask.Ask.TheVariants as ask
use Rattle.history.specs.declared.trap.Trap.TheVariants as trap
use Rattle.history.specs.declared.log.End.{End}
use Rattle.history.specs.declared.log.End.TheVariants as log_end
use Rattle.runs.specs.Machine.{Machine, Memory}
use Rattle.runs.specs.Threads.{Feeds, AsksMake, AsksSpawn, TrapsAs, EndsAs}
use Rattle.runs.specs.Interleaving.{Allowed}
use Rattle.runs.specs.Replay.{Fiber, Progress, Choice, Waits, Ends, Steps, object_at, EndsNext, Chooses, drawn_by_end, picked, Picks, Plays, PlaysLeast}
use Rattle.runs.specs.ReplayLaw.{first_progress, MakesAlone, FitsAlways}
use Rattle.runs.proofs.Tracking.{some_inj}
use Rattle.runs.proofs.ReplayState.{entries_in, end_in, NotReturned, Stands, Aside, stands_aside}
use Rattle.runs.proofs.ReplayGoes.{stands_step}
use Rattle.runs.proofs.ReplaySums.{Sums, sums_aside, sums_step, waits_draw, end_draws, none_beyond}

pub record Kept (M : Machine) (O : Memory) (A : Allowed) (limits : Limits) (main : ℕ) (start : M.State) (p : Progress M O) : Type 0 where
  pub stands : Stands M O A limits main start p
  pub sums : Sums M O limits p

-- what an end draws ------------------------------------------------------------

more_threads : (words : Counters) (a : Ask) (why : End) → words.threads ≤ (drawn_by_end words a why).threads
more_threads words (ask.Make size place) (log_end.StepLimit s) = omega arith
more_threads words (ask.Spawn f) (log_end.StepLimit s) = omega arith
more_threads words _ (log_end.StepLimit s) = omega arith
more_threads words a (log_end.Trapped (trap.AllocLimit d)) = omega arith
more_threads words a (log_end.Trapped (trap.ThreadLimit d)) = omega arith
more_threads words a (log_end.Trapped _) = omega arith
more_threads words a _ = omega arith

more_allocs : (words : Counters) (a : Ask) (why : End) → words.allocs ≤ (drawn_by_end words a why).allocs
more_allocs words (ask.Make size place) (log_end.StepLimit s) = omega arith
more_allocs words (ask.Spawn f) (log_end.StepLimit s) = omega arith
more_allocs words _ (log_end.StepLimit s) = omega arith
more_allocs words a (log_end.Trapped (trap.AllocLimit d)) = omega arith
more_allocs words a (log_end.Trapped (trap.ThreadLimit d)) = omega arith
more_allocs words a (log_end.Trapped _) = omega arith
more_allocs words a _ = omega arith

step_limit_draws : (words : Counters) (a : Ask) (why : End) → ((s : Stamp) → why ≢ log_end.StepLimit s) → (drawn_by_end words a why).stamps ≡ words.stamps
step_limit_draws words a (log_end.StepLimit s) other = absurd (other s refl)
step_limit_draws words a (log_end.Trapped (trap.AllocLimit d)) other = refl
step_limit_draws words a (log_end.Trapped (trap.ThreadLimit d)) other = refl
step_limit_draws words a (log_end.Trapped _) other = refl
step_limit_draws words a _ other = refl

stamp_more : (words : Counters) (a : Ask) (s : Stamp) → (drawn_by_end words a (log_end.StepLimit s)).stamps ≡ words.stamps + 1
stamp_more words (ask.Make size place) s = refl
stamp_more words (ask.Spawn f) s = refl
stamp_more words _ s = refl

-- a number above its limit was drawn by who asked for one
alloc_beyond : (limits : Limits) (a : Ask) (d : ℕ) → AsksMake a → TrapsAs limits a (trap.AllocLimit d) → limits.allocs < d
alloc_beyond limits a d asks (inl is) = absurd (subst AsksMake is asks)
alloc_beyond limits a d asks (inr h) = h.1

thread_beyond : (limits : Limits) (a : Ask) (d : ℕ) → AsksSpawn a → TrapsAs limits a (trap.ThreadLimit d) → 1023 < d
thread_beyond limits a d asks (inl is) = absurd (subst AsksSpawn is asks)
thread_beyond limits a d asks (inr h) = h.1

module _ (M : Machine) (O : Memory) (limits : Limits) (p : Progress M O) (now : M.State) where
  threads_exact : (why : End) → EndsAs M limits now why → EndsNext M O limits p (M.ask now) why
      → (drawn_by_end p.words (M.ask now) why).stamps ≤ limits.steps → (drawn_by_end p.words (M.ask now) why).threads ≤ 1023
      → (p.words.stamps ≤ limits.steps) × ((drawn_by_end p.words (M.ask now) why).threads ≡ p.words.threads)
  threads_exact (log_end.StepLimit s) ends h less few = (let m = stamp_more p.words (M.ask now) s in let l = ends.1 in absurd (omega (arith, h.0, l, less, m)))
  threads_exact (log_end.Trapped (trap.AllocLimit d)) ends h less few = (less, refl)
  threads_exact (log_end.Trapped (trap.ThreadLimit d)) ends h less few = (let l = thread_beyond limits (M.ask now) d h.0 ends.0 in absurd (omega (arith, h.1, l, few)))
  threads_exact (log_end.Trapped _) ends h less few = (less, refl)
  threads_exact _ ends h less few = (less, refl)

  allocs_exact : (why : End) → EndsAs M limits now why → EndsNext M O limits p (M.ask now) why
      → (drawn_by_end p.words (M.ask now) why).stamps ≤ limits.steps → (drawn_by_end p.words (M.ask now) why).allocs ≤ limits.allocs
      → (p.words.stamps ≤ limits.steps) × ((drawn_by_end p.words (M.ask now) why).allocs ≡ p.words.allocs)
  allocs_exact (log_end.StepLimit s) ends h less few = (let m = stamp_more p.words (M.ask now) s in let l = ends.1 in absurd (omega (arith, h.0, l, less, m)))
  allocs_exact (log_end.Trapped (trap.AllocLimit d)) ends h less few = (let l = alloc_beyond limits (M.ask now) d h.0 ends.0 in absurd (omega (arith, h.1, l, few)))
  allocs_exact (log_end.Trapped (trap.ThreadLimit d)) ends h less few = (less, refl)
  allocs_exact (log_end.Trapped _) ends h less few = (less, refl)
  allocs_exact _ ends h less few = (less, refl)

  ended_next : (why : End) (c : ThreadNo) → EndsNext M O limits p (M.ask now) why → why ≡ log_end.ChildEnded c → NotReturned (end_in (slice_get p.threads c.0))
  ended_next why c h is =
      let n : EndsNext M O limits p (M.ask now) (log_end.ChildEnded c) = subst (λ e. EndsNext M O limits p (M.ask now) e) is h in
      record { why = n.0; is = n.1; other = n.2 }

-- picks ---------------------------------------------------------------------------

no_end : {B : Type 0} (e : End) → None ≡ Some e → B
no_end e h = cc

module _ (M : Machine) (O : Memory) (A : Allowed) (limits : Limits) (main : ℕ) (start : M.State) (limit : limits.allocs ≡ A.allocs) (laws : MakesAlone O) (fits : FitsAlways M O A start) where
  by_choice : (p : Progress M O) (t : ℕ) (f : Fiber M) (c : Choice M) → Kept M O A limits main start p → slice_get p.threads t ≡ Some f → f.«end» ≡ None
      → Chooses M O A limits p t f c → Kept M O A limits main start (picked M O p t f c)
  by_choice p t f (Waits now) k at opened c =
      let same : record f { state = now; «end» = None } ≡ record f { state = now } = ap (λ e. record f { state = now; «end» = e }) (sym opened) in
      let a : Aside M O limits p t f now None p.words = record {
        at = at;
        «open» = opened;
        settles = c.0;
        ends = λ e is. no_end e is;
        ended = λ n is. no_end (log_end.ChildEnded n) is;
        more_threads = omega arith;
        more_allocs = omega arith;
        threads_are = λ less few. (less, refl);
        allocs_are = λ less few. (less, refl);
      } in
      subst (λ g. Kept M O A limits main start (record p { threads = slice_set p.threads t g })) same
      (record {
        stands = stands_aside M O A limits main start p t f now None p.words k.stands a;
        sums = sums_aside M O limits p t f now None p.words k.sums at opened (waits_draw M O limits p now);
      })
  by_choice p t f (Ends now why) k at opened c =
      let words = drawn_by_end p.words (M.ask now) why in
      let a : Aside M O limits p t f now (Some why) words = record {
        at = at;
        «open» = opened;
        settles = c.0;
        ends = λ e is. subst (λ x. EndsAs M limits now x) (some_inj is) c.1;
        ended = λ n is. ended_next M O limits p now why n c.2 (some_inj is);
        more_threads = more_threads p.words (M.ask now) why;
        more_allocs = more_allocs p.words (M.ask now) why;
        threads_are = threads_exact M O limits p now why c.1 c.2;
        allocs_are = allocs_exact M O limits p now why c.1 c.2;
      } in
      record {
        stands = stands_aside M O A limits main start p t f now (Some why) words k.stands a;
        sums = sums_aside M O limits p t f now (Some why) words k.sums at opened (end_draws M O limits p now why c.1 c.2);
      }
  by_choice p t f (Steps now e over) k at opened c =
      let none = none_beyond limits.steps (length p.merge) _ p.words.stamps k.sums.stamps c.3 k.sums.full in
      let stamps = k.sums.stamps in
      let stamp = c.5 in
      record {
        stands = stands_step M O A limits main start p t f now e over (record { limit = limit; laws = laws; fits = fits; stands = k.stands; at = at; «open» = opened; chosen = c; place = omega (arith, none, stamps, stamp) });
        sums = sums_step M O A limits p t f now e over laws k.stands.objects_fewer k.sums at opened c.3 c.8 c.9;
      }

  pub pick_keeps : (p q : Progress M O) (t : ℕ) → Kept M O A limits main start p → Picks M O A limits p t q → Kept M O A limits main start q
  pick_keeps p q t k (inl passed) = subst (λ z. Kept M O A limits main start z) (sym passed.1) k
  pick_keeps p q t k (inr h) =
      let can = h.3 in
      let same : can.0 ≡ h.0 = some_inj (sym can.1 ∙ h.2) in
      let opened : h.0.«end» ≡ None = ap (λ (g : Fiber M). g.«end») (sym same) ∙ can.2 in
      subst (λ z. Kept M O A limits main start z) (sym h.5) (by_choice p t h.0 h.1 k h.2 opened h.4)

  pub plays_keep : (p q : Progress M O) (ts : List ℕ) → Kept M O A limits main start p → Plays M O A limits p ts q → Kept M O A limits main start q
  plays_keep p q [] k h = subst (λ z. Kept M O A limits main start z) (sym h) k
  plays_keep p q (t ∷ ts) k h = plays_keep h.0 q ts (pick_keeps p h.0 t k h.1) h.2

  pub least_keeps : (p q : Progress M O) (ts : List ℕ) → Kept M O A limits main start p → PlaysLeast M O A limits p ts q → Kept M O A limits main start q
  least_keeps p q [] k h = subst (λ z. Kept M O A limits main start z) (sym h) k
  least_keeps p q (t ∷ ts) k h = let rest = h.2 in least_keeps rest.0 q ts (pick_keeps p rest.0 t k rest.1) rest.2

  -- the beginning ---------------------------------------------------------------------

  abbrev first : Progress M O
  first = first_progress M O main start

  abbrev root : Fiber M
  root = record { parent = None; function = main; state = start; entries = []; «end» = None }

  only_root : (t : ℕ) (f : Fiber M) → slice_get (root ∷ []) t ≡ Some f → (t ≡ 0) × (root ≡ f)
  only_root zero f got = (refl, some_inj got)
  only_root (suc t) f got = cc

  root_open : (t : ℕ) (f : Fiber M) (e : End) → slice_get (root ∷ []) t ≡ Some f → f.«end» ≡ Some e → ⊥
  root_open t f e got is = let r = only_root t f got in no_end e (ap (λ (g : Fiber M). g.«end») r.1 ∙ is)

  none_ended : (t : ℕ) (e : End) → end_in (slice_get (root ∷ []) t) ≡ Some e → ⊥
  none_ended zero e is = no_end e is
  none_ended (suc t) e is = no_end e is

  no_object : (a : ℕ) → O.unmade a ≡ object_at M O first a
  no_object zero = refl
  no_object (suc k) = refl

  none_of_new : (t : ℕ) → 0 < t → (if 0 == t then Some start else None) ≡ None
  none_of_new zero less = absurd (omega (arith, less))
  none_of_new (suc t) less = elim (eqb_tells 0 (suc t)) [ inl hit ↦ absurd (omega (arith, hit.1)) | inr miss ↦ rw miss.0 refl ]

  no_part : (t : ℕ) → [] ≡ entries_in (slice_get (root ∷ []) t)
  no_part zero = refl
  no_part (suc t) = refl

  pub first_kept : Kept M O A limits main start (first_progress M O main start)
  unfolding IsDistinct
  first_kept = record {
    stands = record {
      starts = λ t. start;
      first = refl;
      run = tt;
      tracks = record {
        threads = λ t f got. (
            let r = only_root t f got in
            (start, subst (λ n. (if 0 == n then Some start else None) ≡ Some start) (sym r.0) refl, (0, ap (λ (g : Fiber M). g.state) r.1)));
        unused = none_of_new;
        objects = no_object;
        unmade = λ a less. ap O.made (sym (no_object a)) ∙ laws.first a;
        returned = λ t v q is. absurd (none_ended t (log_end.Returned v q) is);
      };
      numbered = tt;
      parts = no_part;
      feeds = λ t f got. (let r = only_root t f got in subst (λ (g : Fiber M). Feeds M limits.turns (λ n. start) start g.entries g.state) r.1 (0, refl));
      ends = λ t f why got is. absurd (root_open t f why got is);
      roots = λ t f got. (let r = only_root t f got in inl (record { zero_is = r.0; none = ap (λ (g : Fiber M). g.parent) (sym r.1); first = ap (λ (g : Fiber M). g.function) (sym r.1) }));
      ended = λ t f c got is. absurd (root_open t f (log_end.ChildEnded c) got is);
      joins = λ e c in_ is. absurd in_;
      spawns = λ e f in_ is. absurd in_;
      once = λ c. omega arith;
      below = λ x c in_ is. absurd in_;
      has_main = omega arith;
      fewer = omega arith;
      threads_are = λ less few. refl;
      objects_fewer = omega arith;
      objects_are = λ less few. refl;
    };
    sums = record {
      stamps = refl;
      above = IsPermutation-refl [];
      full = λ some. absurd (omega (arith, some));
      within = omega arith;
      allocs = omega arith;
      threads = omega arith;
      made = (tt, tt);
      spawned = (tt, tt);
    };
  }
