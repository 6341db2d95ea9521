-- The record that a replay leaves is right.
use Rattle.std.proofs.Common.{◌≡◌, ℕ, zero, suc, ◌+◌, ◌<◌, ◌≤◌, Bool, true, false, List, [], ◌∷◌, ◌++◌, refl, sym, ◌∙◌, ap, subst, ◌≢◌, inl, inr, arith, length}
use Rattle.std.specs.Prelude.{Some, None, slice_get, unwrap_or, ◌==◌, ◌⊎◌, if◌then◌else◌, All, count_by, IsPermutation, nat_eq, nat_le}
use Rattle.std.specs.List.{flat_map, AllByRecursion, IsDistinct}
use Rattle.std.specs.declared.option.Option.{Option}
use Rattle.std.proofs.lemmas.Bool.{true≢false, eq-eqb, eqb-true}
use Rattle.std.proofs.lemmas.Bool.Decides.{eqb_tells, nat_tests}
use Rattle.std.proofs.lemmas.List.Elements.{All-from_recursion}
use Rattle.std.proofs.lemmas.Option.{slice_get_within}
use Rattle.bsan_ids.specs.declared.numbers.AllocNo.{AllocNo}
use Rattle.bsan_ids.specs.declared.numbers.Limits.{Limits}
use Rattle.history.specs.declared.ask.Ask.{Ask}
use Rattle.history.specs.declared.ask.Ask.TheVariants as ask
use Rattle.history.specs.declared.entry.Entry.{Entry}
use Rattle.history.specs.declared.entry.Reply.{Reply}
use Rattle.history.specs.declared.entry.Request.{Request}
use Rattle.history.specs.declared.entry.Request.TheVariants as request
use Rattle.history.specs.declared.log.AllocLog.{AllocLog}
use Rattle.history.specs.declared.log.End.{End}
use Rattle.history.specs.declared.log.End.TheVariants as log_end
use Rattle.history.specs.declared.log.ThreadLog.{ThreadLog}
use Rattle.runs.specs.Parts.{Has, of_thread, of_alloc, names, Answers, IsOnNumber}
use Rattle.runs.specs.Machine.{Machine, Memory}
use Rattle.runs.specs.Threads.{Feeds, IsThreadRun, EndsAs}
use Rattle.runs.specs.Interleaving.{World, first_world, world_after, Allowed, Replies, Interleaves, Legal, MakesUnmade}
use Rattle.runs.specs.Merge.{merged, entries_of, IsOwn, MayMerge, no_logs, one_more}
use Rattle.runs.specs.Stamps.{RisesFrom}
use Rattle.history.specs.Histories.{is_make_step}
use Rattle.runs.specs.Right.{NumbersRiseFrom, end_of, IsSpawnedOnce, HasThreads, HasRuns, MergesToRun, HasHistories, HasCounts, IsRight, AllocsRiseFrom, history_of, starts_thread, IsReached, is_main, is_spawned, StandsAsking, AtLeast, asks_make, asks_spawn, beyond, beyond_of, alloc_numbers, thread_numbers, counting_from, is_spawn}
use Rattle.runs.specs.Replay.{Fiber, Progress}
use Rattle.runs.specs.ReplayLaw.{log_of, logs_from, with_history, histories_from, record_of, makes, ReplayIsRight}
use Rattle.runs.proofs.MergeLaws.{above_first, merged_is_merge, rises_lower}
use Rattle.runs.proofs.Merges.{in_own_thread, in_all, same_by_threads, restrictions_swap, alloc_rises}
use Rattle.runs.proofs.Picking.{not_on_number}
use Rattle.runs.proofs.Tracking.{some_inj}
use Rattle.runs.proofs.Counting.{count_there, at_least_later}
use Rattle.runs.proofs.Tying.{log_of_entry, starts_one}
use Rattle.runs.proofs.FiberLists.{numbered_rises, total}
use Rattle.runs.proofs.ReplayState.{entries_in, end_in, HasParent, Stands, has_end}
use Rattle.runs.proofs.ReplaySums.{ended_by, beyond_at, beyond_in, allocs_at, threads_at, ended_at}
use Rattle.runs.proofs.ReplayPicks.{Kept, plays_keep, least_keeps, first_kept}

-- each number's part of a run is a legal history --------------------------------------

on_none : (a : Ask) (e : Entry) (r : Request) → Answers a e → e.request ≡ r → (IsOnNumber r → ⊥) → makes r ≡ false → e.alloc ≡ None
on_none (ask.Make n k) e r h is off other = absurd (true≢false (ap makes (sym h ∙ is) ∙ other))
on_none (ask.At a s) e r h is off other = absurd (not_on_number s r e h.0 is h.2 off)
on_none ask.Turn e r h is off other = absurd h
on_none (ask.Ended o) e r h is off other = absurd h
on_none (ask.Print v) e r h is off other = h.1
on_none (ask.Host n x y) e r h is off other = h.1
on_none (ask.Spawn f) e r h is off other = h.1
on_none (ask.Join c) e r h is off other = h.1

named : (o : Option AllocNo) (a : ℕ) (b : AllocNo) → names o a ≡ true → o ≡ Some b → b.0 ≡ a
named o a b hit is = eqb-true b.0 a (ap (λ x. names x a) (sym is) ∙ hit)

unnamed : {B : Type 0} (o : Option AllocNo) (a : ℕ) → names o a ≡ true → o ≡ None → B
unnamed o a hit is = absurd (true≢false (sym hit ∙ ap (λ x. names x a) is))

module _ (M : Machine) (O : Memory) (A : Allowed) where
  says : (w : World M O) (e : Entry) (a : ℕ) (now : Ask) (r : Request) → names e.alloc a ≡ true → Answers now e → e.request ≡ r → Replies M O A w e r
      → MakesUnmade O (w.objects a) r × (e.reply ≡ O.reply (w.objects a) e.request e.stamp.0)
  says w e a now (request.Make size place) hit asks is h =
      let at = named e.alloc a h.0 hit h.1 in
      (subst (λ n. O.made (w.objects n) ≡ false) at h.4, subst (λ n. e.reply ≡ O.reply (w.objects n) e.request e.stamp.0) at h.5)
  says w e a now (request.Print v) hit asks is h = unnamed e.alloc a hit (on_none now e (request.Print v) asks is (λ x. x) refl)
  says w e a now (request.Host n x y) hit asks is h = unnamed e.alloc a hit (on_none now e (request.Host n x y) asks is (λ x. x) refl)
  says w e a now (request.Spawn f) hit asks is h = unnamed e.alloc a hit (on_none now e (request.Spawn f) asks is (λ x. x) refl)
  says w e a now (request.Join c) hit asks is h = unnamed e.alloc a hit (on_none now e (request.Join c) asks is (λ x. x) refl)
  says w e a now _ hit asks is h =
      let at = named e.alloc a h.0 hit h.1 in (tt, subst (λ n. e.reply ≡ O.reply (w.objects n) e.request e.stamp.0) at h.2)

  pub run_legal : (w : World M O) (es : List Entry) (a : ℕ) → Interleaves M O A w es → Legal O (w.objects a) (of_alloc a es)
  run_legal w [] a run = tt
  run_legal w (e ∷ es) a run = by_name (names e.alloc a) refl (run_legal (world_after M O w run.0.now e) es a run.1)
    where
      by_name : (b : Bool) → names e.alloc a ≡ b → Legal O ((world_after M O w run.0.now e).objects a) (of_alloc a es) → Legal O (w.objects a) (of_alloc a (e ∷ es))
      by_name true is rest =
          let here = says w e a (M.ask run.0.now) e.request is run.0.asks refl run.0.replies in
          let later : Legal O (O.next (w.objects a) e.request e.stamp.0) (of_alloc a es) = subst (λ b. Legal O (if b then O.next (w.objects a) e.request e.stamp.0 else w.objects a) (of_alloc a es)) is rest in
          rw is (here.0, here.1, later)
      by_name false is rest =
          let later : Legal O (w.objects a) (of_alloc a es) = subst (λ b. Legal O (if b then O.next (w.objects a) e.request e.stamp.0 else w.objects a) (of_alloc a es)) is rest in
          rw is later

-- the logs of allocations ---------------------------------------------------------------

some_entries : (x : Entry) (xs : List Entry) → x ∷ xs ≢ []
some_entries x xs h = cc

-- the log of a number in front of others
rise_by : (n limit a : ℕ) (es : List Entry) (logs : List AllocLog) → n < a → a ≤ limit → AllocsRiseFrom n limit logs → AllocsRiseFrom a limit logs → AllocsRiseFrom n limit (with_history a es logs)
rise_by n limit a [] logs less within without more = without
rise_by n limit a (e ∷ es) logs less within without more = (less, within, some_entries e es, more)

other_by : (b a : ℕ) (es rest : List Entry) (logs : List AllocLog) → (b == a) ≡ false → history_of logs a ≡ rest → history_of (with_history b es logs) a ≡ rest
other_by b a [] rest logs miss is = is
other_by b a (e ∷ es) rest logs miss is = rw miss is

own_by : (b : ℕ) (es : List Entry) (logs : List AllocLog) → history_of logs b ≡ [] → history_of (with_history b es logs) b ≡ es
own_by b [] logs none = none
own_by b (e ∷ es) logs none = rw (eq-eqb b b refl) refl

off : (a b : ℕ) → a ≢ b → (a == b) ≡ false
off a b ne = elim (eqb_tells a b) [ inl hit ↦ absurd (ne hit.1) | inr miss ↦ miss.0 ]

module _ (merge : List Entry) where
  logs_rise : (n limit a more : ℕ) → n < a → a + more ≤ limit + 1 → AllocsRiseFrom n limit (histories_from a more merge)
  logs_rise n limit a zero less within = tt
  logs_rise n limit a (suc more) less within =
      rise_by n limit a (of_alloc a merge) (histories_from (suc a) more merge) less (omega (arith, within))
      (logs_rise n limit (suc a) more (omega (arith, less)) (omega (arith, within))) (logs_rise a limit (suc a) more (omega arith) (omega (arith, within)))

  below_none : (b more a : ℕ) → a < b → history_of (histories_from b more merge) a ≡ []
  below_none b zero a less = refl
  below_none b (suc more) a less = other_by b a (of_alloc b merge) [] (histories_from (suc b) more merge) (off b a (λ z. omega (arith, z, less))) (below_none (suc b) more a (omega (arith, less)))

  above_none : (b more a : ℕ) → b + more ≤ a → history_of (histories_from b more merge) a ≡ []
  above_none b zero a le = refl
  above_none b (suc more) a le = other_by b a (of_alloc b merge) [] (histories_from (suc b) more merge) (off b a (λ z. omega (arith, z, le))) (above_none (suc b) more a (omega (arith, le)))

  history_is : (b more a : ℕ) → b ≤ a → a < b + more → history_of (histories_from b more merge) a ≡ of_alloc a merge
  history_is b zero a low high = absurd (omega (arith, low, high))
  history_is b (suc more) a low high = elim (eqb_tells b a) [
    | inl hit ↦ subst (λ n. history_of (histories_from b (suc more) merge) n ≡ of_alloc n merge) hit.1 (own_by b (of_alloc b merge) (histories_from (suc b) more merge) (below_none (suc b) more b (omega arith)))
    | inr miss ↦
        let apart = miss.1 in
        other_by b a (of_alloc b merge) (of_alloc a merge) (histories_from (suc b) more merge) miss.0 (history_is (suc b) more a (omega (arith, low, apart)) (omega (arith, high)))
  ]

-- the logs of threads --------------------------------------------------------------------

pub own_part : (t : ℕ) (es : List Entry) → IsOwn t (of_thread t es)
own_part t [] = tt
own_part t (e ∷ es) = elim (eqb_tells e.thread.0 t) [ inl hit ↦ rw hit.0 (hit.1, own_part t es) | inr miss ↦ rw miss.0 (own_part t es) ]

pub own_has : (t : ℕ) (es : List Entry) (x : Entry) → IsOwn t es → Has es x → x.thread.0 ≡ t
own_has t [] x h g = absurd g
own_has t (e ∷ es) x h (inl is) = subst (λ (y : Entry). y.thread.0 ≡ t) is h.0
own_has t (e ∷ es) x h (inr g) = own_has t es x h.1 g

pub part_rises : (t n : ℕ) (es : List Entry) → RisesFrom n es → RisesFrom n (of_thread t es)
part_rises t n [] r = tt
part_rises t n (e ∷ es) r =
    elim (e.thread.0 == t) as (λ b. RisesFrom n (if b then e ∷ of_thread t es else of_thread t es)) [
      | true ↦ (r.0, part_rises t e.stamp.0 es r.1)
      | false ↦ rises_lower n e.stamp.0 (of_thread t es) (let l = r.0 in omega (arith, l)) (part_rises t e.stamp.0 es r.1)
    ]

pub same_stamp : (n : ℕ) (es : List Entry) (x y : Entry) → RisesFrom n es → Has es x → Has es y → y.stamp.0 ≡ x.stamp.0 → x ≡ y
same_stamp n [] x y r h g is = absurd h
same_stamp n (e ∷ es) x y r (inl h) (inl g) is = sym h ∙ g
same_stamp n (e ∷ es) x y r (inl h) (inr g) is =
    let above = above_first e.stamp.0 es y r.1 g in let at = ap (λ (z : Entry). z.stamp.0) h in absurd (omega (arith, above, at, is))
same_stamp n (e ∷ es) x y r (inr h) (inl g) is =
    let above = above_first e.stamp.0 es x r.1 h in let at = ap (λ (z : Entry). z.stamp.0) g in absurd (omega (arith, above, at, is))
same_stamp n (e ∷ es) x y r (inr h) (inr g) is = same_stamp e.stamp.0 es x y r.1 h g is

pub got_within : {X : Type 0} (xs : List X) (i : ℕ) → i < length xs → (x : X) × (slice_get xs i ≡ Some x)
got_within [] i less = absurd (omega (arith, less))
got_within (x ∷ xs) zero less = (x, refl)
got_within (x ∷ xs) (suc i) less = got_within xs i (omega (arith, less))

plus_zero : (k : ℕ) → 0 + k ≡ k
plus_zero k = omega arith

zero_right : (n : ℕ) → n + 0 ≡ n
zero_right n = omega arith

plus_suc : (i k : ℕ) → i + suc k ≡ suc i + k
plus_suc i k = omega arith

ended_as : (o : Option End) (e : End) → o ≢ None → unwrap_or o log_end.NoMemory ≡ e → o ≡ Some e
ended_as None e some is = absurd (some refl)
ended_as (Some x) e some is = ap Some is

module _ (M : Machine) where
  pub log_found : (fs : List (Fiber M)) (k : ℕ) (log : ThreadLog) → Has (logs_from M k fs) log → (i : ℕ) × (f : Fiber M) × (slice_get fs i ≡ Some f) × (log_of M (i + k) f ≡ log)
  log_found [] k log h = absurd h
  log_found (f ∷ fs) k log (inl is) = (0, f, refl, ap (λ n. log_of M n f) (plus_zero k) ∙ is)
  log_found (f ∷ fs) k log (inr h) = let r = log_found fs (suc k) log h in (suc r.0, r.1, r.2, ap (λ n. log_of M n r.1) (sym (plus_suc r.0 k)) ∙ r.3)

  log_put : (fs : List (Fiber M)) (k i : ℕ) (f : Fiber M) → slice_get fs i ≡ Some f → Has (logs_from M k fs) (log_of M (i + k) f)
  log_put [] k i f got = cc
  log_put (g ∷ fs) k zero f got = inl (ap (λ n. log_of M n g) (sym (plus_zero k)) ∙ ap (λ h. log_of M (0 + k) h) (some_inj got))
  log_put (g ∷ fs) k (suc i) f got = inr (subst (λ n. Has (logs_from M (suc k) fs) (log_of M n f)) (plus_suc i k) (log_put fs (suc k) i f got))

  entries_are : (fs : List (Fiber M)) (k t : ℕ) → entries_of (logs_from M k fs) (t + k) ≡ entries_in (slice_get fs t)
  entries_are [] k t = refl
  entries_are (f ∷ fs) k zero = rw (eq-eqb k (0 + k) (sym (plus_zero k))) refl
  entries_are (f ∷ fs) k (suc t) =
      let miss : (k == (suc t + k)) ≡ false = elim (eqb_tells k (suc t + k)) [ inl hit ↦ absurd (omega (arith, hit.1)) | inr off ↦ off.0 ] in
      rw miss (ap (entries_of (logs_from M (suc k) fs)) (sym (plus_suc t k)) ∙ entries_are fs (suc k) t)

  end_is : (fs : List (Fiber M)) (k t : ℕ) → end_of (logs_from M k fs) (t + k) ≡ unwrap_or (end_in (slice_get fs t)) log_end.NoMemory
  end_is [] k t = refl
  end_is (f ∷ fs) k zero = rw (eq-eqb k (0 + k) (sym (plus_zero k))) refl
  end_is (f ∷ fs) k (suc t) =
      let miss : (k == (suc t + k)) ≡ false = elim (eqb_tells k (suc t + k)) [ inl hit ↦ absurd (omega (arith, hit.1)) | inr off ↦ off.0 ] in
      rw miss (ap (end_of (logs_from M (suc k) fs)) (sym (plus_suc t k)) ∙ end_is fs (suc k) t)

  numbers_rise : (fs : List (Fiber M)) (k : ℕ) → NumbersRiseFrom k (logs_from M k fs)
  numbers_rise [] k = tt
  numbers_rise (f ∷ fs) k = (omega arith, numbers_rise fs (suc k))

  pub may_merge : (merge : List Entry) → RisesFrom 0 merge → (fs : List (Fiber M)) (k : ℕ) → ((i : ℕ) (f : Fiber M) → slice_get fs i ≡ Some f → of_thread (i + k) merge ≡ f.entries) → MayMerge (logs_from M k fs)
  may_merge merge r [] k parts = no_logs
  may_merge merge r (f ∷ fs) k parts =
      let part : of_thread k merge ≡ f.entries = ap (λ n. of_thread n merge) (sym (plus_zero k)) ∙ parts 0 f refl in
      one_more
      (subst (λ l. IsOwn k l) part (own_part k merge))
      (subst (λ l. RisesFrom 0 l) part (part_rises k 0 merge r))
      (λ x y in_x in_y same.
      let l = log_of_entry (logs_from M (suc k) fs) y in_y in
      let g = log_found fs (suc k) l.0 l.1 in
      let own_x : Has (of_thread k merge) x = subst (λ z. Has z x) (sym part) in_x in
      let in_g : Has g.1.entries y = subst (λ (z : ThreadLog). Has z.entries y) (sym g.3) l.2 in
      let part_y : of_thread (g.0 + suc k) merge ≡ g.1.entries = ap (λ n. of_thread n merge) (plus_suc g.0 k) ∙ parts (suc g.0) g.1 g.2 in
      let own_y : Has (of_thread (g.0 + suc k) merge) y = subst (λ z. Has z y) (sym part_y) in_g in
      let one : x ≡ y = same_stamp 0 merge x y r (in_all k merge x own_x) (in_all (g.0 + suc k) merge y own_y) same in
      let thread_x = own_has k (of_thread k merge) x (own_part k merge) own_x in
      let thread_y = own_has (g.0 + suc k) (of_thread (g.0 + suc k) merge) y (own_part (g.0 + suc k) merge) own_y in
      let at = ap (λ (z : Entry). z.thread.0) one in
      omega (arith, thread_x, thread_y, at))
      (may_merge merge r fs (suc k) (λ i g got. ap (λ n. of_thread n merge) (plus_suc i k) ∙ parts (suc i) g got))

  over_logs : (G : ThreadLog → List ℕ) (g : Fiber M → List ℕ) → ((k : ℕ) (f : Fiber M) → G (log_of M k f) ≡ g f) → (fs : List (Fiber M)) (k : ℕ) → flat_map G (logs_from M k fs) ≡ flat_map g fs
  over_logs G g same [] k = refl
  over_logs G g same (f ∷ fs) k = ap (λ l. l ++ flat_map G (logs_from M (suc k) fs)) (same k f) ∙ ap (λ l. g f ++ l) (over_logs G g same fs (suc k))

-- the runs of the logs, with their last states ----------------------------------------------

-- a thread's run to where its fiber stands
pub record Ran (M : Machine) (limits : Limits) (starts : ℕ → M.State) (t : ℕ) (f : Fiber M) : Type 0 where
  pub run : IsThreadRun M limits starts (log_of M t f)
  pub last : run.last ≡ f.state
  pub over : f.«end» ≢ None

-- the same run of an equal log
abbrev run_along : (M : Machine) (limits : Limits) (starts : ℕ → M.State) (l m : ThreadLog) → l ≡ m → IsThreadRun M limits starts l → IsThreadRun M limits starts m
run_along M limits starts l m is r = record {
  last = r.last;
  own = subst (λ (z : ThreadLog). All (λ (e : Entry). e.thread ≡ z.number) z.entries) is r.own;
  rises = subst (λ (z : ThreadLog). RisesFrom 0 z.entries) is r.rises;
  feeds = subst (λ (z : ThreadLog). Feeds M limits.turns starts (starts z.number.0) z.entries r.last) is r.feeds;
  «end» = subst (λ (z : ThreadLog). EndsAs M limits r.last z.«end») is r.«end»;
  count = subst (λ (z : ThreadLog). z.instructions ≡ M.count r.last) is r.count;
  site = subst (λ (z : ThreadLog). z.last ≡ M.site r.last) is r.site;
}

-- all these threads ran, the first of them as thread k
abbrev AllRan : (M : Machine) → Limits → (ℕ → M.State) → List (Fiber M) → ℕ → Type 0
AllRan M limits starts fs k = (i : ℕ) (f : Fiber M) → slice_get fs i ≡ Some f → (t : ℕ) → t ≡ i + k → Ran M limits starts t f

module _ (M : Machine) (limits : Limits) (starts : ℕ → M.State) where
  abbrev ran_first : (f : Fiber M) (fs : List (Fiber M)) (k : ℕ) → AllRan M limits starts (f ∷ fs) k → Ran M limits starts k f
  ran_first f fs k all = all 0 f refl k (sym (plus_zero k))

  abbrev ran_rest : (f : Fiber M) (fs : List (Fiber M)) (k : ℕ) → AllRan M limits starts (f ∷ fs) k → AllRan M limits starts fs (suc k)
  ran_rest f fs k all = λ i g got t is. all (suc i) g got t (is ∙ plus_suc i k)

  abbrev runs_of : (fs : List (Fiber M)) (k : ℕ) → AllRan M limits starts fs k → (log : ThreadLog) → Has (logs_from M k fs) log → IsThreadRun M limits starts log
  runs_of [] k all log h = absurd h
  runs_of (f ∷ fs) k all log (inl is) = run_along M limits starts (log_of M k f) log is (ran_first f fs k all).run
  runs_of (f ∷ fs) k all log (inr h) = runs_of fs (suc k) (ran_rest f fs k all) log h

  stands_asking : (asks : Ask → Bool) (f : Fiber M) (k : ℕ) → Ran M limits starts k f → asks (M.ask f.state) ≡ true → StandsAsking M asks limits starts (log_of M k f)
  stands_asking asks f k mine is = record {
    last = f.state;
    feeds = subst (λ s. Feeds M limits.turns starts (starts k) f.entries s) mine.last mine.run.feeds;
    count = refl;
    asking = is;
  }

  -- one log more
  asking_more : (asks : Ask → Bool) (f : Fiber M) (k more : ℕ) (logs : List ThreadLog) → Ran M limits starts k f → AtLeast (StandsAsking M asks limits starts) more logs
      → AtLeast (StandsAsking M asks limits starts) (ended_at M asks f + more) (log_of M k f ∷ logs)
  asking_more asks f k more logs mine rest = by_end f.«end» refl
    where
      by_ask : (b : Bool) → asks (M.ask f.state) ≡ b → AtLeast (StandsAsking M asks limits starts) ((if b then 1 else 0) + more) (log_of M k f ∷ logs)
      by_ask true is =
          let one : suc more ≡ 1 + more = omega arith in
          subst (λ n. AtLeast (StandsAsking M asks limits starts) n (log_of M k f ∷ logs)) one (inl (stands_asking asks f k mine is, rest))
      by_ask false is =
          let none : more ≡ 0 + more = omega arith in
          subst (λ n. AtLeast (StandsAsking M asks limits starts) n (log_of M k f ∷ logs)) none (at_least_later (StandsAsking M asks limits starts) more (log_of M k f) logs rest)

      by_end : (o : Option End) → f.«end» ≡ o → AtLeast (StandsAsking M asks limits starts) (ended_by asks (M.ask f.state) o + more) (log_of M k f ∷ logs)
      by_end None is = absurd (mine.over is)
      by_end (Some e) is = by_ask (asks (M.ask f.state)) refl

  -- the logs of fibers that ended while they asked so
  asking : (asks : Ask → Bool) (fs : List (Fiber M)) (k : ℕ) → AllRan M limits starts fs k → AtLeast (StandsAsking M asks limits starts) (total (λ f. ended_at M asks f) fs) (logs_from M k fs)
  asking asks [] k all = tt
  asking asks (f ∷ fs) k all = asking_more asks f k (total (λ g. ended_at M asks g) fs) (logs_from M (suc k) fs) (ran_first f fs k all) (asking asks fs (suc k) (ran_rest f fs k all))

-- all of it ----------------------------------------------------------------------------------

module _ (M : Machine) (O : Memory) (A : Allowed) (limits : Limits) (main : ℕ) (start : M.State) (p : Progress M O) (kept : Kept M O A limits main start p) (over : (t : ℕ) (f : Fiber M) → slice_get p.threads t ≡ Some f → f.«end» ≢ None) where
  abbrev s : Stands M O A limits main start p
  s = kept.stands

  abbrev logs : List ThreadLog
  logs = logs_from M 0 p.threads

  in_log : (log : ThreadLog) → Has logs log → (f : Fiber M) × (slice_get p.threads log.number.0 ≡ Some f) × (log_of M log.number.0 f ≡ log)
  in_log log h =
      let r = log_found M p.threads 0 log h in
      let sum : r.0 + 0 ≡ log.number.0 = ap (λ (l : ThreadLog). l.number.0) r.3 in
      (r.1, subst (λ n. slice_get p.threads n ≡ Some r.1) (sym (zero_right r.0) ∙ sum) r.2, subst (λ n. log_of M n r.1 ≡ log) sum r.3)

  entries_is : (t : ℕ) → entries_of logs t ≡ of_thread t p.merge
  entries_is t = subst (λ n. entries_of logs n ≡ entries_in (slice_get p.threads t)) (zero_right t) (entries_are M p.threads 0 t) ∙ sym (s.parts t)

  ends_is : (t : ℕ) → end_of logs t ≡ unwrap_or (end_in (slice_get p.threads t)) log_end.NoMemory
  ends_is t = subst (λ n. end_of logs n ≡ unwrap_or (end_in (slice_get p.threads t)) log_end.NoMemory) (zero_right t) (end_is M p.threads 0 t)

  -- a log's entries are its part of the merge
  log_part : (log : ThreadLog) → Has logs log → of_thread log.number.0 p.merge ≡ log.entries
  log_part log h = let f = in_log log h in s.parts log.number.0 ∙ ap entries_in f.1 ∙ ap (λ (l : ThreadLog). l.entries) f.2

  in_merge : (log : ThreadLog) (x : Entry) → Has logs log → Has log.entries x → Has p.merge x
  in_merge log x h g = in_all log.number.0 p.merge x (subst (λ l. Has l x) (sym (log_part log h)) g)

  has_log : (t : ℕ) (f : Fiber M) → slice_get p.threads t ≡ Some f → Has logs (log_of M t f)
  has_log t f got = subst (λ n. Has logs (log_of M n f)) (zero_right t) (log_put M p.threads 0 t f got)

  rising : RisesFrom 0 p.merge
  rising = numbered_rises 0 p.merge s.numbered

  merge_is : merged logs ≡ p.merge
  merge_is =
      let may : MayMerge logs = may_merge M p.merge rising p.threads 0 (λ i f got. ap (λ n. of_thread n p.merge) (zero_right i) ∙ s.parts i ∙ ap entries_in got) in
      let m = merged_is_merge logs (numbers_rise M p.threads 0) may in
      same_by_threads (merged logs) p.merge 0 0 m.rises rising (λ t. m.parts t ∙ entries_is t)

  spawned_once : (log : ThreadLog) (f : Fiber M) → Has logs log → log_of M log.number.0 f ≡ log → HasParent p.merge log.number.0 f.parent f.function → IsSpawnedOnce logs log
  spawned_once log f h is parent =
      let at : Has (of_thread parent.number.0 p.merge) parent.spawn = subst (λ n. Has (of_thread n p.merge) parent.spawn) parent.own (in_own_thread p.merge parent.spawn parent.stands) in
      record {
        parent = parent.number;
        spawn = parent.spawn;
        names_parent = ap (λ (l : ThreadLog). l.parent) (sym is) ∙ parent.names;
        stands = subst (λ l. Has l parent.spawn) (sym (entries_is parent.number.0)) at;
        request = parent.request ∙ ap (λ (l : ThreadLog). request.Spawn l.entry_function) is;
        answers = parent.answers;
        once =
            let few = s.once log.number.0 in
            let some = count_there (starts_thread log.number.0) p.merge parent.spawn parent.stands (starts_one parent.spawn log.number.0 parent.answers) in
            subst (λ l. count_by (starts_thread log.number.0) l ≡ 1) (sym merge_is) (omega (arith, few, some));
      }

  threads_right : HasThreads main logs
  threads_right = record {
    rise = numbers_rise M p.threads 0;
    first = λ log h zero_is.
        let f = in_log log h in
        elim (s.roots log.number.0 f.0 f.1) [
          | inl root ↦ (ap (λ (l : ThreadLog). l.parent) (sym f.2) ∙ root.none, ap (λ (l : ThreadLog). l.entry_function) (sym f.2) ∙ root.first)
          | inr parent ↦ absurd (let a = parent.below in omega (arith, a, zero_is))
        ];
    has_first = (let f = got_within p.threads 0 s.has_main in (log_of M 0 f.0, has_log 0 f.0 f.1, refl));
    spawned = λ log h.
        let f = in_log log h in
        elim (s.roots log.number.0 f.0 f.1) [ inl root ↦ inl root.zero_is | inr parent ↦ inr (spawned_once log f.0 h f.2 parent) ];
    children = λ log e k h in_ is.
        let one = s.spawns e k (in_merge log e h in_) is in
        let f = got_within p.threads one.child.0 one.below in
        (log_of M one.child.0 f.0, has_log one.child.0 f.0 f.1, one.reply);
  }

  ran : (t : ℕ) (f : Fiber M) → slice_get p.threads t ≡ Some f → Ran M limits s.starts t f
  ran t f got = by_end f.«end» refl (over t f got)
    where
      by_end : (o : Option End) → f.«end» ≡ o → f.«end» ≢ None → Ran M limits s.starts t f
      by_end None is some = absurd (some is)
      by_end (Some e) is some =
          let part : of_thread t p.merge ≡ f.entries = s.parts t ∙ ap entries_in got in
          let ends : EndsAs M limits f.state (unwrap_or f.«end» log_end.NoMemory) = subst (λ o. EndsAs M limits f.state (unwrap_or o log_end.NoMemory)) (sym is) (s.ends t f e got is) in
          record {
            run = record {
              last = f.state;
              rises = subst (λ l. RisesFrom 0 l) part (part_rises t 0 p.merge rising);
              own = All-from_recursion _ _ (subst (λ l. AllByRecursion (λ (x : Entry). x.thread ≡ record { 0 = t }) l) part (own_all (of_thread t p.merge) (own_part t p.merge)));
              feeds = s.feeds t f got;
              «end» = ends;
              count = refl;
              site = refl;
            };
            last = refl;
            over = some;
          }
        where
          own_all : (es : List Entry) → IsOwn t es → AllByRecursion (λ (x : Entry). x.thread ≡ record { 0 = t }) es
          own_all [] h = tt
          own_all (x ∷ es) h = (ap (λ (n : ℕ). record { 0 = n }) h.0, own_all es h.1)

  abbrev all_ran : AllRan M limits s.starts p.threads 0
  all_ran = λ i f got t is. ran t f (subst (λ n. slice_get p.threads n ≡ Some f) (sym (is ∙ zero_right i)) got)

  -- each thread was started by one of a smaller number
  reached : (bound t : ℕ) (f : Fiber M) → t < bound → slice_get p.threads t ≡ Some f → IsReached logs t
  reached zero t f less got = absurd (omega (arith, less))
  reached (suc bound) t f less got = elim (s.roots t f got) [
    | inl root ↦ subst (λ n. IsReached logs n) (sym root.zero_is) is_main
    | inr parent ↦
        let l = slice_get_within p.threads t f got in
        let b = parent.below in
        let above = got_within p.threads parent.number.0 (omega (arith, l, b)) in
        let at : Has (of_thread parent.number.0 p.merge) parent.spawn = subst (λ n. Has (of_thread n p.merge) parent.spawn) parent.own (in_own_thread p.merge parent.spawn parent.stands) in
        is_spawned parent.spawn (reached bound parent.number.0 above.0 (omega (arith, less, b)) above.1) (subst (λ l. Has l parent.spawn) (sym (entries_is parent.number.0)) at) parent.answers
  ]

  abbrev runs_right : HasRuns M limits start logs
  runs_right = record {
    starts = s.starts;
    first = s.first;
    reached = λ log h. let f = in_log log h in reached (suc log.number.0) log.number.0 f.0 (omega arith) f.1;
    runs = runs_of M limits s.starts p.threads 0 all_ran;
    joined = λ log e c h in_ is.
        let j = s.joins e c (in_merge log e h in_) is in
        let f = has_end (slice_get p.threads c.0) (log_end.Returned j.value j.carried) j.is in (
          j.value,
          ap (λ (r : Reply). r.plain) j.reply,
          ends_is c.0 ∙ ap (λ o. unwrap_or o log_end.NoMemory) j.is ∙ ap (λ (r : Reply). log_end.Returned j.value r.carried) (sym j.reply),
          (log_of M c.0 f.0, has_log c.0 f.0 f.1, refl),
        );
    ended = λ log c h is.
        let f = in_log log h in
        let ended : f.0.«end» ≡ Some (log_end.ChildEnded c) = ended_as f.0.«end» (log_end.ChildEnded c) (over log.number.0 f.0 f.1) (ap (λ (l : ThreadLog). l.«end») f.2 ∙ is) in
        let n = s.ended log.number.0 f.0 c f.1 ended in
        let g = has_end (slice_get p.threads c.0) n.why n.is in
        let end_c : end_of logs c.0 ≡ n.why = ends_is c.0 ∙ ap (λ o. unwrap_or o log_end.NoMemory) n.is in
        ((log_of M c.0 g.0, has_log c.0 g.0 g.1, refl), λ v q z. n.other v q (sym end_c ∙ z));
  }

  run_right : MergesToRun M O A limits start (merged logs)
  run_right = subst (λ l. MergesToRun M O A limits start l) (sym merge_is) (record { numbered = s.numbered; within = kept.sums.within; run = s.run })

  abbrev allocs : List AllocLog
  allocs = histories_from 1 limits.allocs p.merge

  within_or_not : (a : ℕ) → ((0 < a) × (a ≤ limits.allocs)) ⊎ (history_of (histories_from 1 limits.allocs p.merge) a ≡ [])
  within_or_not zero = inr (below_none p.merge 1 limits.allocs zero (omega arith))
  within_or_not (suc k) = by_test (nat_le (suc k) limits.allocs) refl
    where
      by_test : (b : Bool) → nat_le (suc k) limits.allocs ≡ b → ((0 < suc k) × (suc k ≤ limits.allocs)) ⊎ (history_of (histories_from 1 limits.allocs p.merge) (suc k) ≡ [])
      by_test true is = inl (omega arith, grind (arith, nat_tests))
      by_test false is =
          let more : limits.allocs < suc k = grind (arith, nat_tests) in
          inr (above_none p.merge 1 limits.allocs (suc k) (omega (arith, more)))

  histories_right : HasHistories O limits logs allocs
  histories_right = record {
    rise = logs_rise p.merge 0 limits.allocs 1 limits.allocs (omega arith) (omega arith);
    stamps = λ a. elim (within_or_not a) [
      | inl inside ↦ subst (λ l. RisesFrom 0 l) (sym (history_is p.merge 1 limits.allocs a (omega (arith, inside.0)) (omega (arith, inside.1)))) (alloc_rises a 0 p.merge rising)
      | inr none ↦ subst (λ l. RisesFrom 0 l) (sym none) tt
    ];
    legal = λ a. elim (within_or_not a) [
      | inl inside ↦ subst (λ l. Legal O (O.unmade a) l) (sym (history_is p.merge 1 limits.allocs a (omega (arith, inside.0)) (omega (arith, inside.1)))) (run_legal M O A (first_world M O start) p.merge a s.run)
      | inr none ↦ subst (λ l. Legal O (O.unmade a) l) (sym none) tt
    ];
    parts = λ a t above le.
        ap (of_thread t) (history_is p.merge 1 limits.allocs a (omega (arith, above)) (omega (arith, le)))
        ∙ restrictions_swap t a p.merge ∙ ap (of_alloc a) (sym (entries_is t));
  }

  beyond_is : beyond logs ≡ beyond_in M p.threads
  beyond_is = over_logs M (λ l. beyond_of l.«end») (λ f. beyond_at M f) (λ k f. refl) p.threads 0

  counts_right : HasCounts M limits s.starts logs p.words
  counts_right =
      let c = kept.sums in
      let made = over_logs M alloc_numbers (λ f. allocs_at M f) (λ k f. refl) p.threads 0 in
      let spawned = over_logs M thread_numbers (λ f. threads_at M f) (λ k f. refl) p.threads 0 in
      record {
        stamps = c.stamps ∙ ap (λ l. length l + length (beyond_in M p.threads)) (sym merge_is) ∙ ap (λ l. length (merged logs) + length l) (sym beyond_is);
        above = subst (λ l. IsPermutation l (counting_from (limits.steps + 1) (length l))) (sym beyond_is) c.above;
        full = λ some. ap length merge_is ∙ c.full (subst (λ l. 0 < length l) beyond_is some);
        allocs = (total (λ f. ended_at M asks_make f) p.threads, asking M limits s.starts asks_make p.threads 0 all_ran, subst (λ l. p.words.allocs ≤ count_by is_make_step l + total (λ f. ended_at M asks_make f) p.threads) (sym merge_is) c.allocs);
        threads = (total (λ f. ended_at M asks_spawn f) p.threads, asking M limits s.starts asks_spawn p.threads 0 all_ran, subst (λ l. p.words.threads ≤ count_by is_spawn l + total (λ f. ended_at M asks_spawn f) p.threads) (sym merge_is) c.threads);
        made_within = All-from_recursion _ _ (subst (λ l. AllByRecursion (λ n. n ≤ p.words.allocs) l) (sym made) c.made.0);
        made_differ = subst (λ l. IsDistinct nat_eq l) (sym made) c.made.1;
        spawned_within = All-from_recursion _ _ (subst (λ l. AllByRecursion (λ n. n ≤ p.words.threads) l) (sym spawned) c.spawned.0);
        spawned_differ = subst (λ l. IsDistinct nat_eq l) (sym spawned) c.spawned.1;
      }

  pub kept_right : IsRight M O A limits main start (record_of M O limits p)
  kept_right = record { threads = threads_right; runs = runs_right; run = run_right; histories = histories_right; counts = counts_right }

pub replay_is_right : (M : Machine) (O : Memory) (A : Allowed) → ReplayIsRight M O A
replay_is_right M O A limits schedule main start last limit laws fits r =
    let first = first_kept M O A limits main start limit laws fits in
    let mid = plays_keep M O A limits main start limit laws fits _ r.mid schedule first r.scheduled in
    let end_ = least_keeps M O A limits main start limit laws fits r.mid last r.picks mid r.least in
    kept_right M O A limits main start last end_ r.over
