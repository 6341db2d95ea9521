-- The record of two threads keeps every promise, and each promise is needed.
use Rattle.std.proofs.Common.{◌≡◌, ℕ, zero, suc, ◌+◌, ◌<◌, ◌≤◌, Bool, true, false, List, [], ◌∷◌, refl, sym, ◌∙◌, ap, subst, ◌≢◌, inl, inr, arith, length, sum_by}
use Rattle.std.specs.Prelude.{Some, None, count_by, ◌==◌, ◌⊎◌}
use Rattle.std.specs.List.{IsDistinct}
use Rattle.std.proofs.lemmas.Bool.{true≢false}
use Rattle.std.proofs.lemmas.Bool.Decides.{eqb_tells}
use Rattle.std.proofs.lemmas.List.Elements.{All-from_recursion}
use Rattle.std.proofs.lemmas.List.Sorted.{IsPermutation-refl}
use Rattle.std.proofs.lemmas.List.Sums.{sum_by-cons}
use Rattle.bsan_ids.specs.declared.numbers.AllocNo.{AllocNo}
use Rattle.bsan_ids.specs.declared.numbers.Prov.{Prov}
use Rattle.std.specs.declared.option.Option.{Option}
use Rattle.ir_ast.specs.declared.types.Place.TheVariants.{Heap}
use Rattle.bsan_ids.specs.declared.numbers.ThreadNo.{ThreadNo}
use Rattle.history.specs.declared.ask.Ask.TheVariants as ask
use Rattle.history.specs.declared.ask.MachineEnd.TheVariants as end
use Rattle.history.specs.declared.entry.Entry.{Entry}
use Rattle.history.specs.declared.entry.Plain.TheVariants as plain
use Rattle.history.specs.declared.entry.Reply.{Reply}
use Rattle.history.specs.declared.entry.Request.{Request}
use Rattle.history.specs.declared.entry.Request.TheVariants as request
use Rattle.history.specs.declared.entry.Verdict.{Verdict}
use Rattle.history.specs.declared.entry.Verdict.TheVariants as verdict
use Rattle.history.specs.declared.log.AllocLog.{AllocLog}
use Rattle.history.specs.declared.log.End.TheVariants as log_end
use Rattle.history.specs.declared.log.ThreadLog.{ThreadLog}
use Rattle.history.specs.Objects.{clean}
use Rattle.runs.specs.Parts.{Has, of_thread, of_alloc, names, child_of}
use Rattle.runs.specs.Machine.{TurnsTo}
use Rattle.runs.specs.Threads.{IsThreadRun}
use Rattle.runs.specs.Interleaving.{Event, HasReturned, Legal, World, first_world, world_after}
use Rattle.runs.specs.Merge.{all_entries, merged, MayMerge, no_logs, one_more, entries_of}
use Rattle.runs.specs.Objects.{objects}
use Rattle.runs.specs.Stamps.{RisesFrom}
use Rattle.runs.specs.Right.{HasThreads, HasRuns, HasHistories, HasCounts, IsSpawnedOnce, starts_thread, IsReached, is_main, is_spawned, AllocsRiseFrom, history_of, end_of}
use Rattle.runs.specs.Tree.{IsEntryRight, EndAbove, IsFamily, IsStarted, IsJoined, IsStepRight, Agrees, AreRuns, IsClosedHistory, IsWholeRun}
use Rattle.runs.proofs.Assembly.{promises_make_one_run}
use Rattle.runs.proofs.Counting.{one_if, weigh_with}
use Rattle.runs.proofs.MergeLaws.{in_merged_with}
use Rattle.runs.proofs.Feeding.{run_agree}
use Rattle.runs.proofs.Order.{none_is_some}
use Rattle.source_sem.specs.Source.{Source, source, source_ask, source_turn, source_answer, source_child}
use Rattle.source_sem.specs.Traces.{alloc}
use Rattle.source_sem.specs.Starting.{main_of}
use Rattle.source_sem.specs.Records.{no_hosts, allowed}
use Rattle.source_runs.specs.TwoThreads.{program, limits, x, Told, make_x, make_y, spawn_f, store_y, store_x, join_f, main_log, child_log, thread_logs, alloc_logs, short_logs, right, early, late, twice, kept_away, misjoined, kept, start, Promises, IsOneRun, AfterSpawn, BeforeJoin, SpawnBeforeJoin, JoinsGiveResults, HasParts, Promise, same, Kept, Spawning, Joining, OneStamp, Restriction, JoinedValue, BreaksAlone, EachIsNeeded, IsMet}

-- cases over the logs and their entries ------------------------------------------

for_logs : (t : Told) (P : ThreadLog → Type 0) → P (main_log t) → P (child_log t) → (log : ThreadLog) → Has (thread_logs t) log → P log
for_logs t P a b log (inl is) = subst P is a
for_logs t P a b log (inr (inl is)) = subst P is b
for_logs t P a b log (inr (inr h)) = absurd h

for_main : (t : Told) (P : Entry → Type 0) → P make_x → P make_y → P (spawn_f t) → P (store_y t) → P (join_f t) → (y : Entry) → Has (main_log t).entries y → P y
for_main t P a b c d e y (inl is) = subst P is a
for_main t P a b c d e y (inr (inl is)) = subst P is b
for_main t P a b c d e y (inr (inr (inl is))) = subst P is c
for_main t P a b c d e y (inr (inr (inr (inl is)))) = subst P is d
for_main t P a b c d e y (inr (inr (inr (inr (inl is))))) = subst P is e
for_main t P a b c d e y (inr (inr (inr (inr (inr h))))) = absurd h

for_child : (t : Told) (P : Entry → Type 0) → P (store_x t) → (y : Entry) → Has (child_log t).entries y → P y
for_child t P a y (inl is) = subst P is a
for_child t P a y (inr h) = absurd h

abbrev spawns : Request → Bool
spawns (request.Spawn f) = true
spawns other = false

abbrev joins : Request → Bool
joins (request.Join c) = true
joins other = false

no_spawn : {A : Type 0} (r : Request) (f : ℕ) → spawns r ≡ false → r ≡ request.Spawn f → A
no_spawn r f off is = absurd (true≢false (sym (ap spawns is) ∙ off))

no_join : {A : Type 0} (r : Request) (c : ThreadNo) → joins r ≡ false → r ≡ request.Join c → A
no_join r c off is = absurd (true≢false (sym (ap joins is) ∙ off))

-- cases over numbers: the two allocations and any other, the two threads and any other
by_alloc : (P : ℕ → Type 0) → P 1 → P 2 → ((a : ℕ) → (1 == a) ≡ false → (2 == a) ≡ false → P a) → (a : ℕ) → P a
by_alloc P one two other a = elim (eqb_tells 1 a) [
  | inl hit ↦ subst P hit.1 one
  | inr miss ↦ elim (eqb_tells 2 a) [ inl hit ↦ subst P hit.1 two | inr off ↦ other a miss.0 off.0 ]
]

by_thread : (P : ℕ → Type 0) → P 0 → P 1 → ((t : ℕ) → (0 == t) ≡ false → (1 == t) ≡ false → P t) → (t : ℕ) → P t
by_thread P zero_ one other t = elim (eqb_tells 0 t) [
  | inl hit ↦ subst P hit.1 zero_
  | inr miss ↦ elim (eqb_tells 1 t) [ inl hit ↦ subst P hit.1 one | inr off ↦ other t miss.0 off.0 ]
]

-- which stamps are above which -----------------------------------------------------

record Stamped (t : Told) : Type 0 where
  after_makes : 2 < t.spawn
  stored : t.spawn < t.store
  joined : t.store < t.join
  made : 1 < t.child
  last : t.join ≤ 6
  last_child : t.child ≤ 6

main_rises : (t : Told) → Stamped t → RisesFrom 0 (main_log t).entries
main_rises t s = (omega arith, (omega arith, (s.after_makes, (s.stored, (s.joined, tt)))))

child_rises : (t : Told) → Stamped t → RisesFrom 0 (child_log t).entries
child_rises t s = (let h = s.made in omega (arith, h), tt)

-- the threads -----------------------------------------------------------------------

abbrev m1 : Source
m1 = source_answer x start make_x.reply

abbrev m2 : Source
m2 = source_answer x m1 make_y.reply

abbrev c0 : Source
c0 = source_child x m2

abbrev m3 : Told → Source
m3 t = source_answer x m2 (spawn_f t).reply

abbrev m4 : Told → Source
m4 t = source_answer x (m3 t) (store_y t).reply

abbrev m5 : Told → Source
m5 t = source_answer x (m4 t) (join_f t).reply

abbrev c1 : Told → Source
c1 t = source_answer x c0 (store_x t).reply

abbrev c2 : Told → Source
c2 t = source_turn x (c1 t)

abbrev starts : ℕ → Source
starts zero = start
starts (suc n) = c0

below : (n : ℕ) → n < 1000 → n < limits.turns
below n h = h

main_run : (t : Told) → Stamped t → IsThreadRun (source x) limits starts (main_log t)
main_run t s = record {
  last = m5 t;
  own = All-from_recursion (λ (e : Entry). e.thread ≡ (main_log t).number) (main_log t).entries (refl, (refl, (refl, (refl, (refl, tt)))));
  rises = main_rises t s;
  feeds = (
    record { now = start; settles = (0, refl); may = λ h. below 0 (omega arith); site = refl; asks = refl; fits = (refl, refl); child = tt },
    (
      record { now = m1; settles = (0, refl); may = λ h. below 1 (omega arith); site = refl; asks = refl; fits = (refl, refl); child = tt },
      (
        record { now = m2; settles = (0, refl); may = λ h. below 2 (omega arith); site = refl; asks = (refl, refl); fits = omega arith; child = refl },
        (
          record { now = m3 t; settles = (0, refl); may = λ h. below 3 (omega arith); site = refl; asks = (refl, refl, tt); fits = inl tt; child = tt },
          (
            record { now = m4 t; settles = (0, refl); may = λ h. below 4 (omega arith); site = refl; asks = (refl, refl); fits = (tt, λ h. h); child = tt },
            (0, refl),
          ),
        ),
      ),
    ),
  );
  «end» = (refl, λ h. absurd (true≢false (sym h)));
  count = refl;
  site = refl;
}

child_run : (t : Told) → Stamped t → IsThreadRun (source x) limits starts (child_log t)
child_run t s = record {
  last = c2 t;
  own = All-from_recursion (λ (e : Entry). e.thread ≡ (child_log t).number) (child_log t).entries (refl, tt);
  rises = child_rises t s;
  feeds = (
    record { now = c0; settles = (0, refl); may = λ h. below 0 (omega arith); site = refl; asks = (refl, refl, tt); fits = inl tt; child = tt },
    (1, (refl, λ h. below 1 (omega arith), refl)),
  );
  «end» = (refl, λ h. absurd (true≢false (sym h)));
  count = refl;
  site = refl;
}

started_once : (t : Told) → count_by (starts_thread 1) (merged (thread_logs t)) ≡ 1
started_once t =
    let main : count_by (starts_thread 1) (main_log t).entries ≡ 1 = refl in
    let child : count_by (starts_thread 1) (store_x t ∷ []) ≡ 0 = refl in
    omega (arith, main, child, weigh_with (one_if (starts_thread 1)) (main_log t).entries (store_x t ∷ []))

threads : (t : Told) → HasThreads 1 (thread_logs t)
threads t = record {
  rise = (omega arith, (omega arith, tt));
  first = for_logs t (λ log. log.number.0 ≡ 0 → (log.parent ≡ None) × (log.entry_function ≡ 1)) (λ is. (refl, refl)) (λ is. absurd (omega (arith, is)));
  has_first = (main_log t, inl refl, refl);
  spawned = for_logs t (λ log. (log.number.0 ≡ 0) ⊎ IsSpawnedOnce (thread_logs t) log) (inl refl)
      (inr (record {
        parent = record { 0 = 0 };
        spawn = spawn_f t;
        names_parent = refl;
        stands = inr (inr (inl refl));
        request = refl;
        answers = refl;
        once = started_once t;
      }));
  children = λ log e f in_log in_e is. for_logs t (λ l. Has l.entries e → (child : ThreadLog) × Has (thread_logs t) child × (e.reply.plain ≡ plain.Spawned child.number))
      (λ h. for_main t (λ z. z.request ≡ request.Spawn f → (child : ThreadLog) × Has (thread_logs t) child × (z.reply.plain ≡ plain.Spawned child.number))
      (no_spawn _ f refl) (no_spawn _ f refl) (λ k. (child_log t, inr (inl refl), refl)) (no_spawn _ f refl) (no_spawn _ f refl) e h is)
      (λ h. for_child t (λ z. z.request ≡ request.Spawn f → (child : ThreadLog) × Has (thread_logs t) child × (z.reply.plain ≡ plain.Spawned child.number)) (no_spawn _ f refl) e h is)
      log in_log in_e;
}

join_inj : (a b : ThreadNo) → request.Join a ≡ request.Join b → a ≡ b
join_inj a b h = cc

joins_give : (t : Told) → t.joined ≡ 0 → JoinsGiveResults (thread_logs t)
joins_give t zero_is log e c in_log in_e is =
    for_logs t (λ l. Has l.entries e → P e) (λ h. for_main t Q (no_join _ c refl) (no_join _ c refl) (no_join _ c refl) (no_join _ c refl) joined e h is) (λ h. for_child t Q (no_join _ c refl) e h is) log in_log in_e
  where
    P : Entry → Type 0
    P z = (v : ℕ) × (z.reply.plain ≡ plain.Value v) × (end_of (thread_logs t) c.0 ≡ log_end.Returned v z.reply.carried) × ((child : ThreadLog) × Has (thread_logs t) child × (child.number ≡ c))

    Q : Entry → Type 0
    Q z = z.request ≡ request.Join c → P z

    joined : Q (join_f t)
    joined k =
        let c_is : record { 0 = 1 } ≡ c = join_inj (record { 0 = 1 }) c k in
        (0, ap plain.Value zero_is, subst (λ (n : ThreadNo). end_of (thread_logs t) n.0 ≡ log_end.Returned 0 None) c_is refl, (child_log t, inr (inl refl), c_is))

no_child_ended : (t : Told) (log : ThreadLog) (c : ThreadNo) → Has (thread_logs t) log → log.«end» ≡ log_end.ChildEnded c
    → ((child : ThreadLog) × Has (thread_logs t) child × (child.number ≡ c)) × ((v : ℕ) (p : Option Prov) → end_of (thread_logs t) c.0 ≢ log_end.Returned v p)
no_child_ended t log c in_log is = absurd (for_logs t (λ l. l.«end» ≡ log_end.ChildEnded c → ⊥) (λ h. cc) (λ h. cc) log in_log is)

-- the allocations --------------------------------------------------------------------

numbers : (t : Told) → (history : List Entry) → history ≢ [] → (other : List Entry) → other ≢ []
    → AllocsRiseFrom 0 limits.allocs (record { number = alloc 1; entries = history } ∷ record { number = alloc 2; entries = other } ∷ [])
numbers t history some other some' = (omega arith, omega arith, some, (omega arith, omega arith, some', tt))

some_entries : (e : Entry) (es : List Entry) → e ∷ es ≢ []
some_entries e es h = cc

parts_are : (t : Told) → HasParts (thread_logs t) (alloc_logs t)
parts_are t a u above le = by_alloc (λ n. of_thread u (history_of (alloc_logs t) n) ≡ of_alloc n (entries_of (thread_logs t) u)) (first u) (second u) (λ n one two. other n one two u) a
  where
    first : (v : ℕ) → of_thread v (history_of (alloc_logs t) 1) ≡ of_alloc 1 (entries_of (thread_logs t) v)
    first v = by_thread (λ n. of_thread n (history_of (alloc_logs t) 1) ≡ of_alloc 1 (entries_of (thread_logs t) n)) refl refl (λ n zero_ one. rw (zero_, one) refl) v

    second : (v : ℕ) → of_thread v (history_of (alloc_logs t) 2) ≡ of_alloc 2 (entries_of (thread_logs t) v)
    second v = by_thread (λ n. of_thread n (history_of (alloc_logs t) 2) ≡ of_alloc 2 (entries_of (thread_logs t) n)) refl refl (λ n zero_ one. rw (zero_, one) refl) v

    other : (n : ℕ) → (1 == n) ≡ false → (2 == n) ≡ false → (v : ℕ) → of_thread v (history_of (alloc_logs t) n) ≡ of_alloc n (entries_of (thread_logs t) v)
    other n one two v = by_thread (λ k. of_thread k (history_of (alloc_logs t) n) ≡ of_alloc n (entries_of (thread_logs t) k)) (rw (one, two) refl) (rw (one, two) refl) (λ k zero_ one'. rw (one, two, zero_, one') refl) v

-- the order of stamps -----------------------------------------------------------------

rises : (t : Told) → Stamped t → (log : ThreadLog) → Has (thread_logs t) log → RisesFrom 0 log.entries
rises t s = for_logs t (λ log. RisesFrom 0 log.entries) (main_rises t s) (child_rises t s)

after_spawn : (t : Told) → t.spawn < t.child → AfterSpawn (thread_logs t)
after_spawn t less a b s y in_a in_b in_s in_y is =
    for_logs t (λ l. Has l.entries s → s.stamp.0 < y.stamp.0)
    (λ h. for_main t (λ z. child_of z ≡ Some b.number.0 → z.stamp.0 < y.stamp.0) none none
    (λ k. for_logs t (λ l. Has l.entries y → 1 ≡ l.number.0 → t.spawn < y.stamp.0) (λ g n. absurd (omega (arith, n))) (λ g n. for_child t (λ z. t.spawn < z.stamp.0) less y g) b in_b in_y (inj k))
    none none s h is)
    (λ h. for_child t (λ z. child_of z ≡ Some b.number.0 → z.stamp.0 < y.stamp.0) none s h is)
    a in_a in_s
  where
    none : {B : Type 0} → None ≡ Some b.number.0 → B
    none k = absurd (none_is_some b.number.0 k)

    inj : Some 1 ≡ Some b.number.0 → 1 ≡ b.number.0
    inj k = cc

before_join : (t : Told) → t.child < t.join → BeforeJoin (thread_logs t)
before_join t less a b j y in_a in_b in_j in_y is =
    for_logs t (λ l. Has l.entries j → y.stamp.0 < j.stamp.0)
    (λ h. for_main t (λ z. z.request ≡ request.Join b.number → y.stamp.0 < z.stamp.0) (no_join _ b.number refl) (no_join _ b.number refl) (no_join _ b.number refl) (no_join _ b.number refl)
    (λ k. for_logs t (λ l. Has l.entries y → record { 0 = 1 } ≡ l.number → y.stamp.0 < t.join)
    (λ g n. absurd (let m : 1 ≡ 0 = ap (λ (z : ThreadNo). z.0) n in omega (arith, m)))
    (λ g n. for_child t (λ z. z.stamp.0 < t.join) less y g) b in_b in_y (join_inj (record { 0 = 1 }) b.number k))
    j h is)
    (λ h. for_child t (λ z. z.request ≡ request.Join b.number → y.stamp.0 < z.stamp.0) (no_join _ b.number refl) j h is)
    a in_a in_j

spawn_before_join : (t : Told) → Stamped t → SpawnBeforeJoin (thread_logs t)
spawn_before_join t o a b s j c in_a in_b in_s in_j ch is =
    for_logs t (λ l. Has l.entries s → s.stamp.0 < j.stamp.0)
    (λ h. for_main t (λ z. child_of z ≡ Some c.0 → z.stamp.0 < j.stamp.0) none none
    (λ k. for_logs t (λ l. Has l.entries j → t.spawn < j.stamp.0)
    (λ g. for_main t (λ z. z.request ≡ request.Join c → t.spawn < z.stamp.0) (no_join _ c refl) (no_join _ c refl) (no_join _ c refl) (no_join _ c refl)
    (λ q. (let p = o.stored in let r = o.joined in omega (arith, p, r))) j g is)
    (λ g. for_child t (λ z. z.request ≡ request.Join c → t.spawn < z.stamp.0) (no_join _ c refl) j g is)
    b in_b in_j)
    none none s h ch)
    (λ h. for_child t (λ z. child_of z ≡ Some c.0 → z.stamp.0 < j.stamp.0) none s h ch)
    a in_a in_s
  where
    none : {B : Type 0} → None ≡ Some c.0 → B
    none k = absurd (none_is_some c.0 k)

may_merge : (t : Told) → Stamped t → t.child ≢ 2 → t.child ≢ t.spawn → t.child ≢ t.store → t.child ≢ t.join → MayMerge (thread_logs t)
may_merge t s not2 not_spawn not_store not_join =
    one_more (refl, (refl, (refl, (refl, (refl, tt))))) (rises t s (main_log t) (inl refl))
    (λ y z in_y in_z. for_main t (λ w. z.stamp.0 ≢ w.stamp.0) (apart z in_z 1 (λ n. (let h = s.made in omega (arith, n, h)))) (apart z in_z 2 not2) (apart z in_z t.spawn not_spawn) (apart z in_z t.store not_store) (apart z in_z t.join not_join) y in_y)
    (one_more (refl, tt) (rises t s (child_log t) (inr (inl refl))) (λ y z in_y in_z. absurd in_z) no_logs)
  where
    apart : (z : Entry) → Has (store_x t ∷ []) z → (n : ℕ) → t.child ≢ n → z.stamp.0 ≢ n
    apart z in_z n ne = for_child t (λ w. w.stamp.0 ≢ n) ne z in_z

entries_right : (t : Told) (log : ThreadLog) (e : Entry) → Has (thread_logs t) log → Has log.entries e → IsEntryRight (allowed limits no_hosts) e e.request
entries_right t log e in_log in_e =
    for_logs t (λ l. Has l.entries e → IsEntryRight (allowed limits no_hosts) e e.request)
    (λ h. for_main t (λ z. IsEntryRight (allowed limits no_hosts) z z.request)
    (alloc 1, refl, omega arith, omega arith) (alloc 2, refl, omega arith, omega arith) (record { 0 = 1 }, omega arith, omega arith, refl) (alloc 2, refl) (omega arith, refl) e h)
    (λ h. for_child t (λ z. IsEntryRight (allowed limits no_hosts) z z.request) (alloc 1, refl) e h)
    log in_log in_e

at_most_six : (t : Told) → Stamped t → (e : Entry) → Has (merged (thread_logs t)) e → e.stamp.0 ≤ 6
at_most_six t s e h =
    elim (in_merged_with (main_log t).entries (all_entries (child_log t ∷ [])) e h) [
      | inl main ↦ for_main t (λ z. z.stamp.0 ≤ 6) (omega arith) (omega arith)
          (let a = s.stored in let b = s.joined in let c = s.last in omega (arith, a, b, c))
          (let b = s.joined in let c = s.last in omega (arith, b, c)) s.last e main
      | inr child ↦ for_child t (λ z. z.stamp.0 ≤ 6) s.last_child e child
    ]

-- legal histories, and numbers that no entry names ------------------------------------------

abbrev judged : Verdict → Reply
judged v = record { plain = plain.Done; carried = None; verdict = v }

is_clean : (v : Verdict) → v ≡ verdict.Clean → judged v ≡ judged verdict.Clean
is_clean v is = ap judged is

legal : (t : Told) → t.verdict ≡ verdict.Clean → (a : ℕ) → Legal objects (objects.unmade a) (history_of (alloc_logs t) a)
legal t is = by_alloc (λ a. Legal objects (objects.unmade a) (history_of (alloc_logs t) a)) (refl, refl, (tt, is_clean t.verdict is, tt)) (refl, refl, (tt, refl, tt)) (λ a one two. rw (one, two) tt)

short_legal : (t : Told) → (a : ℕ) → Legal objects (objects.unmade a) (history_of (short_logs t) a)
short_legal t = by_alloc (λ a. Legal objects (objects.unmade a) (history_of (short_logs t) a)) (refl, refl, tt) (refl, refl, (tt, refl, tt)) (λ a one two. rw (one, two) tt)

histories_rise : (t : Told) → Stamped t → (a : ℕ) → RisesFrom 0 (history_of (alloc_logs t) a)
histories_rise t s =
    let a = s.after_makes in
    let b = s.stored in
    by_alloc (λ n. RisesFrom 0 (history_of (alloc_logs t) n)) (omega arith, (s.made, tt)) (omega arith, (omega (arith, a, b), tt)) (λ n one two. rw (one, two) tt)

short_rise : (t : Told) → Stamped t → (a : ℕ) → RisesFrom 0 (history_of (short_logs t) a)
short_rise t s =
    let a = s.after_makes in
    let b = s.stored in
    by_alloc (λ n. RisesFrom 0 (history_of (short_logs t) n)) (omega arith, tt) (omega arith, (omega (arith, a, b), tt)) (λ n one two. rw (one, two) tt)

none_named : (a : ℕ) (es : List Entry) → ((e : Entry) → Has es e → names e.alloc a ≡ false) → of_alloc a es ≡ []
none_named a [] none = refl
none_named a (e ∷ es) none = rw (none e (inl refl)) (none_named a es (λ y h. none y (inr h)))

no_name : (t : Told) (a : ℕ) → (1 == a) ≡ false → (2 == a) ≡ false → of_alloc a (merged (thread_logs t)) ≡ []
no_name t a one two = none_named a (merged (thread_logs t)) (λ e h.
    elim (in_merged_with (main_log t).entries (all_entries (child_log t ∷ [])) e h) [
      | inl main ↦ for_main t (λ z. names z.alloc a ≡ false) one two refl two refl e main
      | inr child ↦ for_child t (λ z. names z.alloc a ≡ false) one e child
    ])

unslotted : (t : Told) (a : ℕ) → ((0 < a) × (a ≤ limits.allocs)) ⊎ Legal objects (objects.unmade a) (of_alloc a (merged (thread_logs t)))
unslotted t =
    by_alloc (λ a. ((0 < a) × (a ≤ limits.allocs)) ⊎ Legal objects (objects.unmade a) (of_alloc a (merged (thread_logs t)))) (inl (omega arith, omega arith)) (inl (omega arith, omega arith))
    (λ a one two. inr (subst (λ l. Legal objects (objects.unmade a) l) (sym (no_name t a one two)) tt))

-- one promise broken ----------------------------------------------------------------------

breaks : (broken : Promise) (t : Told) (allocs : List AllocLog) → Stamped t → length (merged (thread_logs t)) ≡ 6
    → AllocsRiseFrom 0 limits.allocs allocs → ((a : ℕ) → RisesFrom 0 (history_of allocs a)) → ((a : ℕ) → Legal objects (objects.unmade a) (history_of allocs a))
    → Kept (same broken JoinedValue) (JoinsGiveResults (thread_logs t))
    → Kept (same broken Restriction) (HasParts (thread_logs t) allocs)
    → Kept (same broken Spawning) (AfterSpawn (thread_logs t))
    → Kept (same broken Joining) (BeforeJoin (thread_logs t))
    → Kept (same broken OneStamp) (MayMerge (thread_logs t))
    → BreaksAlone broken (thread_logs t) allocs
breaks broken t allocs s six rise rising lawful joined parts after before merges = record {
  threads = threads t;
  starts = starts;
  first = refl;
  runs = for_logs t (λ log. IsThreadRun (source x) limits starts log) (main_run t s) (child_run t s);
  joined = joined;
  ended = no_child_ended t;
  numbers = rise;
  histories_rise = rising;
  legal = lawful;
  parts = parts;
  rises = rises t s;
  after_spawn = after;
  before_join = before;
  spawned_before_join = spawn_before_join t s;
  merges = merges;
  entries = entries_right t;
  stamps = λ e h. subst (λ n. e.stamp.0 ≤ n) (sym six) (at_most_six t s e h);
  within = subst (λ n. n ≤ limits.steps) (sym six) (omega arith);
  unslotted = unslotted t;
}

all_numbers : (t : Told) → AllocsRiseFrom 0 limits.allocs (alloc_logs t)
all_numbers t = numbers t (make_x ∷ store_x t ∷ []) (some_entries make_x (store_x t ∷ [])) (make_y ∷ store_y t ∷ []) (some_entries make_y (store_y t ∷ []))

short_numbers : (t : Told) → AllocsRiseFrom 0 limits.allocs (short_logs t)
short_numbers t = numbers t (make_x ∷ []) (some_entries make_x []) (make_y ∷ store_y t ∷ []) (some_entries make_y (store_y t ∷ []))

in_order : (t : Told) → 2 < t.spawn → t.spawn < t.store → t.store < t.join → 1 < t.child → t.join ≤ 6 → t.child ≤ 6 → Stamped t
in_order t a b c d e f = record { after_makes = a; stored = b; joined = c; made = d; last = e; last_child = f }

early_order : Stamped early
early_order = in_order early (omega arith) (omega arith) (omega arith) (omega arith) (omega arith) (omega arith)

late_order : Stamped late
late_order = in_order late (omega arith) (omega arith) (omega arith) (omega arith) (omega arith) (omega arith)

twice_order : Stamped twice
twice_order = in_order twice (omega arith) (omega arith) (omega arith) (omega arith) (omega arith) (omega arith)

right_order : Stamped right
right_order = in_order right (omega arith) (omega arith) (omega arith) (omega arith) (omega arith) (omega arith)

kept_away_order : Stamped kept_away
kept_away_order = in_order kept_away (omega arith) (omega arith) (omega arith) (omega arith) (omega arith) (omega arith)

misjoined_order : Stamped misjoined
misjoined_order = in_order misjoined (omega arith) (omega arith) (omega arith) (omega arith) (omega arith) (omega arith)

not_after : AfterSpawn (thread_logs early) → ⊥
not_after h =
    let less : 4 < 3 = h (main_log early) (child_log early) (spawn_f early) (store_x early) (inl refl) (inr (inl refl)) (inr (inr (inl refl))) (inl refl) refl in
    omega (arith, less)

not_before : BeforeJoin (thread_logs late) → ⊥
not_before h =
    let less : 6 < 5 = h (main_log late) (child_log late) (join_f late) (store_x late) (inl refl) (inr (inl refl)) (inr (inr (inr (inr (inl refl))))) (inl refl) refl in
    omega (arith, less)

not_merging : MayMerge (thread_logs twice) → ⊥
not_merging (one_more own r apart more) = apart (store_y twice) (store_x twice) (inr (inr (inr (inl refl)))) (inl refl) refl

not_parts : HasParts (thread_logs kept_away) (short_logs kept_away) → ⊥
not_parts h =
    let none : [] ≡ store_x kept_away ∷ [] = h 1 1 (omega arith) (omega arith) in cc

not_results : JoinsGiveResults (thread_logs misjoined) → ⊥
not_results h =
    let r = h (main_log misjoined) (join_f misjoined) (record { 0 = 1 }) (inl refl) (inr (inr (inr (inr (inl refl))))) refl in
    let seven : plain.Value 7 ≡ plain.Value r.0 = r.1 in
    let zero_is : log_end.Returned 0 None ≡ log_end.Returned r.0 None = r.2 in
    cc

-- no run -----------------------------------------------------------------------------------

never_turns : (n : ℕ) (s t : Source) → TurnsTo (source x) n s t → (source_ask x s ≡ ask.Turn → ⊥) → t ≡ s
never_turns zero s t h other = sym h
never_turns (suc n) s t h other = absurd (other h.0)

opt_inj : (s t : Source) → Some s ≡ Some t → s ≡ t
opt_inj s t h = cc

now_is : (w : World (source x) objects) (e : Entry) (v : Event (source x) objects (allowed limits no_hosts) w e) (s : Source) → w.threads e.thread.0 ≡ Some s → (source_ask x s ≡ ask.Turn → ⊥) → v.now ≡ s
now_is w e v s at other =
    let same : v.before ≡ s = opt_inj v.before s (sym v.started ∙ at) in
    never_turns v.settles.0 s v.now (subst (λ b. TurnsTo (source x) v.settles.0 b v.now) same v.settles.1) other

no_run_early : IsOneRun (thread_logs early) → ⊥
no_run_early r = let v = r.run.1.1.0 in not_there v.before v.started
  where
    not_there : (s : Source) → None ≡ Some s → ⊥
    not_there s h = cc

no_run_twice : IsOneRun (thread_logs twice) → ⊥
no_run_twice r = let five : 4 ≡ 5 = r.numbered.1.1.1.1.0 in omega (arith, five)

abbrev made_one : objects.Object
made_one = objects.next (objects.unmade 1) (request.Make 8 Heap) 1

closed_not_clean : (v : Verdict) → verdict.Closed ≡ v → v ≡ verdict.Clean → ⊥
closed_not_clean v h g = cc

not_so : (o : ℕ → objects.Object) → o 1 ≡ made_one → (a : AllocNo) → Some (alloc 1) ≡ Some a
    → (store_x kept_away).reply ≡ objects.reply (o a.0) (store_x kept_away).request 5 → ⊥
not_so o at a is h =
    let number : 1 ≡ a.0 = same_number (alloc 1) a is in
    let clean_one : (objects.reply (o 1) (store_x kept_away).request 5).verdict ≡ verdict.Clean =
    subst (λ z. (objects.reply z (store_x kept_away).request 5).verdict ≡ verdict.Clean) (sym at) refl in
    closed_not_clean _ (ap (λ (r : Reply). r.verdict) h) (subst (λ n. (objects.reply (o n) (store_x kept_away).request 5).verdict ≡ verdict.Clean) number clean_one)
  where
    same_number : (b c : AllocNo) → Some b ≡ Some c → b.0 ≡ c.0
    same_number b c k = let e : b ≡ c = cc in ap (λ (n : AllocNo). n.0) e

no_run_by : (w : World (source x) objects) → Event (source x) objects (allowed limits no_hosts) w (store_x kept_away) → w.objects 1 ≡ made_one → ⊥
no_run_by w v at = let a = v.replies in not_so w.objects at a.0 a.1 a.2

no_run_kept_away : IsOneRun (thread_logs kept_away) → ⊥
no_run_kept_away r = no_run_by _ r.run.1.1.1.1.0 refl

child_of_second : (w0 : World (source x) objects) → w0.threads 0 ≡ Some start → (t : Told)
    → (v0 : Event (source x) objects (allowed limits no_hosts) w0 make_x)
    → (v1 : Event (source x) objects (allowed limits no_hosts) (world_after (source x) objects w0 v0.now make_x) make_y)
    → (v2 : Event (source x) objects (allowed limits no_hosts) (world_after (source x) objects (world_after (source x) objects w0 v0.now make_x) v1.now make_y) (spawn_f t))
    → source_child x v2.now ≡ c0
child_of_second w0 at t v0 v1 v2 =
    let n0 : v0.now ≡ start = now_is w0 make_x v0 start at (λ h. cc) in
    let n1 : v1.now ≡ m1 = now_is _ make_y v1 m1 (ap (λ s. Some (source_answer x s make_x.reply)) n0) (λ h. cc) in
    let n2 : v2.now ≡ m2 = now_is _ (spawn_f t) v2 m2 (ap (λ s. Some (source_answer x s make_y.reply)) n1) (λ h. cc) in
    ap (source_child x) n2

still_runs : (at : Option Source) (v : ℕ) (p : Option Prov) → at ≡ Some c0 → HasReturned (source x) at v p → ⊥
still_runs at v p is h =
    let same : h.before ≡ c0 = opt_inj h.before c0 (sym h.started ∙ is) in
    let now : h.now ≡ c0 = never_turns h.settles.0 c0 h.now (subst (λ b. TurnsTo (source x) h.settles.0 b h.now) same h.settles.1) (λ k. cc) in
    let over : source_ask x c0 ≡ ask.Ended (end.Returned v p) = ap (source_ask x) (sym now) ∙ h.returned in
    cc

no_run_late : IsOneRun (thread_logs late) → ⊥
no_run_late r =
    let child = child_of_second (first_world (source x) objects start) refl late r.run.0 r.run.1.0 r.run.1.1.0 in
    let v = r.run.1.1.1.1.0 in
    let j = v.replies in
    still_runs _ j.0 j.1 (ap Some child) j.2

returned_zero : (at : Option Source) (v : ℕ) (p : Option Prov) → at ≡ Some (c1 misjoined) → HasReturned (source x) at v p → v ≡ 0
returned_zero at v p is h =
    let same : h.before ≡ c1 misjoined = opt_inj h.before (c1 misjoined) (sym h.started ∙ is) in
    by_turns h.settles.0 h.now (subst (λ b. TurnsTo (source x) h.settles.0 b h.now) same h.settles.1) h.returned
  where
    by_turns : (n : ℕ) (s : Source) → TurnsTo (source x) n (c1 misjoined) s → source_ask x s ≡ ask.Ended (end.Returned v p) → v ≡ 0
    by_turns zero s k over = absurd (let turn : ask.Turn ≡ ask.Ended (end.Returned v p) = ap (source_ask x) k ∙ over in cc)
    by_turns (suc zero) s k over = (let ends : ask.Ended (end.Returned 0 None) ≡ ask.Ended (end.Returned v p) = ap (source_ask x) k.1 ∙ over in cc)
    by_turns (suc (suc n)) s k over = absurd (let ends : ask.Ended (end.Returned 0 None) ≡ ask.Turn = k.1.0 in cc)

seven_not : (v : ℕ) (p : Option Prov) → v ≡ 0 → clean (plain.Value 7) None ≡ clean (plain.Value v) p → ⊥
seven_not v p is h =
    let same : plain.Value 7 ≡ plain.Value v = ap (λ (r : Reply). r.plain) h in
    let seven : 7 ≡ v = cc in omega (arith, is, seven)

no_run_misjoined : IsOneRun (thread_logs misjoined) → ⊥
no_run_misjoined r =
    let child = child_of_second (first_world (source x) objects start) refl misjoined r.run.0 r.run.1.0 r.run.1.1.0 in
    let v4 = r.run.1.1.1.1.0 in
    let stored : v4.now ≡ c0 = now_is _ (store_x misjoined) v4 c0 (ap Some child) (λ h. cc) in
    let v5 = r.run.1.1.1.1.1.0 in
    let j = v5.replies in
    let zero_is : j.0 ≡ 0 = returned_zero _ j.0 j.1 (ap (λ s. Some (source_answer x s (store_x misjoined).reply)) stored) j.2 in
    seven_not j.0 j.1 zero_is j.3

pub needed : EachIsNeeded
needed = record {
  spawning = breaks Spawning early (alloc_logs early) early_order refl (all_numbers early) (histories_rise early early_order) (legal early refl) (joins_give early refl) (parts_are early)
      not_after (before_join early (omega arith)) (may_merge early early_order (omega arith) (omega arith) (omega arith) (omega arith));
  spawning_no_run = no_run_early;
  joining = breaks Joining late (alloc_logs late) late_order refl (all_numbers late) (histories_rise late late_order) (legal late refl) (joins_give late refl) (parts_are late)
      (after_spawn late (omega arith)) not_before (may_merge late late_order (omega arith) (omega arith) (omega arith) (omega arith));
  joining_no_run = no_run_late;
  one_stamp = breaks OneStamp twice (alloc_logs twice) twice_order refl (all_numbers twice) (histories_rise twice twice_order) (legal twice refl) (joins_give twice refl) (parts_are twice)
      (after_spawn twice (omega arith)) (before_join twice (omega arith)) not_merging;
  one_stamp_no_run = no_run_twice;
  restriction = breaks Restriction kept_away (short_logs kept_away) kept_away_order refl (short_numbers kept_away) (short_rise kept_away kept_away_order) (short_legal kept_away) (joins_give kept_away refl) not_parts
      (after_spawn kept_away (omega arith)) (before_join kept_away (omega arith)) (may_merge kept_away kept_away_order (omega arith) (omega arith) (omega arith) (omega arith));
  restriction_no_run = no_run_kept_away;
  joined_value = breaks JoinedValue misjoined (alloc_logs misjoined) misjoined_order refl (all_numbers misjoined) (histories_rise misjoined misjoined_order) (legal misjoined refl) not_results (parts_are misjoined)
      (after_spawn misjoined (omega arith)) (before_join misjoined (omega arith)) (may_merge misjoined misjoined_order (omega arith) (omega arith) (omega arith) (omega arith));
  joined_value_no_run = no_run_misjoined;
}

-- the right record ---------------------------------------------------------------------------

abbrev right_runs : HasRuns (source x) limits start (thread_logs right)
right_runs = record {
  starts = starts;
  first = refl;
  reached = for_logs right (λ log. IsReached (thread_logs right) log.number.0) is_main (is_spawned (spawn_f right) is_main (inr (inr (inl refl))) refl);
  runs = for_logs right (λ log. IsThreadRun (source x) limits starts log) (main_run right right_order) (child_run right right_order);
  joined = joins_give right refl;
  ended = no_child_ended right;
}

right_histories : HasHistories objects limits (thread_logs right) (alloc_logs right)
right_histories = record { rise = all_numbers right; stamps = histories_rise right right_order; legal = legal right refl; parts = parts_are right }

pub promises : Promises (thread_logs right) (alloc_logs right)
promises = record {
  threads = threads right;
  runs = right_runs;
  histories = right_histories;
  order = record { after_spawn = after_spawn right (omega arith); before_join = before_join right (omega arith); spawned_before_join = spawn_before_join right right_order };
  merges = may_merge right right_order (omega arith) (omega arith) (omega arith) (omega arith);
  entries = entries_right right;
  stamps = at_most_six right right_order;
  within = omega arith;
  unslotted = unslotted right;
}

at_least : (n k : ℕ) → n ≤ n + k
at_least n k = omega arith

right_counts : HasCounts (source x) limits starts (thread_logs right) kept.words
unfolding IsDistinct
right_counts = record {
  stamps = refl;
  above = IsPermutation-refl [];
  full = λ h. absurd (omega (arith, h));
  allocs = (0, tt, at_least 2 0);
  threads = (0, tt, at_least 1 0);
  made_within = All-from_recursion (λ n. n ≤ 2) (1 ∷ 2 ∷ []) (omega arith, (omega arith, tt));
  made_differ = ((refl, tt), (tt, tt));
  spawned_within = All-from_recursion (λ n. n ≤ 1) (1 ∷ []) (omega arith, tt);
  spawned_differ = (tt, tt);
}

-- the whole run --------------------------------------------------------------------------------

step_on : (z : Entry) (n : ℕ) → z.alloc ≡ Some (alloc n) → 0 < n → n ≤ limits.allocs → IsEntryRight (allowed limits no_hosts) z z.request → z.stamp.0 ≤ limits.steps → IsStepRight objects (allowed limits no_hosts) limits z
step_on z n at low high right_ less = record { right = right_; within = less; outside = λ a is out. (let same : alloc n ≡ a = some_alloc (sym at ∙ is) in by_side out (ap (λ (b : AllocNo). b.0) same)) }
  where
    some_alloc : {b c : AllocNo} → Some b ≡ Some c → b ≡ c
    some_alloc h = cc

    by_side : {a : ℕ} {B : Type 0} → (a ≡ 0) ⊎ (limits.allocs < a) → n ≡ a → B
    by_side (inl z) same = absurd (omega (arith, z, same, low))
    by_side (inr more) same = absurd (omega (arith, more, same, high))

step_off : (z : Entry) → z.alloc ≡ None → IsEntryRight (allowed limits no_hosts) z z.request → z.stamp.0 ≤ limits.steps → IsStepRight objects (allowed limits no_hosts) limits z
step_off z at right_ less = record { right = right_; within = less; outside = λ a is out. absurd (none_some (sym at ∙ is)) }
  where
    none_some : {a : AllocNo} → None ≡ Some a → ⊥
    none_some h = cc

small : (n : ℕ) → n < 1000 → n ≤ limits.steps
small n less = omega (arith, less)

whole_steps : (log : ThreadLog) (e : Entry) → Has (thread_logs right) log → Has log.entries e → IsStepRight objects (allowed limits no_hosts) limits e
whole_steps log e in_log in_e = for_logs right (λ l. Has l.entries e → IsStepRight objects (allowed limits no_hosts) limits e)
    (λ h. for_main right (IsStepRight objects (allowed limits no_hosts) limits)
    (step_on make_x 1 refl (omega arith) (omega arith) (alloc 1, refl, omega arith, omega arith) (small 1 (omega arith)))
    (step_on make_y 2 refl (omega arith) (omega arith) (alloc 2, refl, omega arith, omega arith) (small 2 (omega arith)))
    (step_off (spawn_f right) refl (record { 0 = 1 }, omega arith, omega arith, refl) (small 3 (omega arith)))
    (step_on (store_y right) 2 refl (omega arith) (omega arith) (alloc 2, refl) (small 4 (omega arith)))
    (step_off (join_f right) refl (omega arith, refl) (small 6 (omega arith))) e h)
    (λ h. for_child right (IsStepRight objects (allowed limits no_hosts) limits) (step_on (store_x right) 1 refl (omega arith) (omega arith) (alloc 1, refl) (small 5 (omega arith))) e h)
    log in_log in_e

only_child : (log : ThreadLog) → Has (child_log right ∷ []) log → (P : ThreadLog → Type 0) → P (child_log right) → P log
only_child log (inl is) P h = subst P is h
only_child log (inr more) P h = absurd more

child_family : IsFamily (thread_logs right) (child_log right) (child_log right ∷ [])
child_family = record {
  own = inl refl;
  among = λ log h. inr h;
  closed = λ log e c in_log in_e is. only_child log in_log (λ l. Has l.entries e → (child : ThreadLog) × Has (child_log right ∷ []) child × (child.number.0 ≡ c))
      (λ h. for_child right (λ z. child_of z ≡ Some c → (child : ThreadLog) × Has (child_log right ∷ []) child × (child.number.0 ≡ c)) (λ k. absurd (none_is_some c k)) e h is) in_e;
}

child_started : IsStarted (thread_logs right) (child_log right)
child_started = record {
  parent = main_log right;
  there = inl refl;
  names_parent = refl;
  above = omega arith;
  spawn = spawn_f right;
  stands = inr (inr (inl refl));
  request = refl;
  answers = refl;
  family = child_log right ∷ [];
  is_family = child_family;
  later = λ log h. only_child log h (λ l. RisesFrom 3 l.entries × EndAbove 3 l.«end») ((omega arith, tt), tt);
}

child_joined : (log : ThreadLog) (e : Entry) (c : ThreadNo) → Has (thread_logs right) log → Has log.entries e → e.request ≡ request.Join c → IsJoined (thread_logs right) log.entries e c
child_joined log e c in_log in_e is = for_logs right (λ l. Has l.entries e → IsJoined (thread_logs right) l.entries e c)
    (λ h. for_main right Q (no_join _ c refl) (no_join _ c refl) (no_join _ c refl) (no_join _ c refl) joined e h is)
    (λ h. for_child right (λ z. z.request ≡ request.Join c → IsJoined (thread_logs right) (child_log right).entries z c) (no_join _ c refl) e h is) log in_log in_e
  where
    Q : Entry → Type 0
    Q z = z.request ≡ request.Join c → IsJoined (thread_logs right) (main_log right).entries z c

    joined : Q (join_f right)
    joined k =
        let c_is : record { 0 = 1 } ≡ c = join_inj (record { 0 = 1 }) c k in
        record {
          child = child_log right;
          number = c_is;
          word = 0;
          value = refl;
          returned = refl;
          spawn = spawn_f right;
          stands = inr (inr (inl refl));
          answers = ap (λ (n : ThreadNo). Some n.0) c_is;
          after_spawn = omega arith;
          family = child_log right ∷ [];
          is_family = child_family;
          earlier = λ l y h g. only_child l h (λ m. Has m.entries y → y.stamp.0 < 6) (λ q. for_child right (λ z. z.stamp.0 < 6) (omega arith) y q) g;
        }

whole_runs : (others : ℕ → Source) → others 0 ≡ start → Agrees others ((1, c0) ∷ []) → AreRuns (source x) limits others (thread_logs right) [] []
whole_runs others first same = record {
  each = for_logs right (λ log. IsThreadRun (source x) limits others log)
      (run_agree (source x) limits starts others (main_log right) (sym first)
      (λ e c h is. for_main right (λ z. child_of z ≡ Some c → starts c ≡ others c) none none (λ k. started k) none none e h is) (main_run right right_order))
      (run_agree (source x) limits starts others (child_log right) (sym same.0)
      (λ e c h is. for_child right (λ z. child_of z ≡ Some c → starts c ≡ others c) none e h is) (child_run right right_order));
  made = tt;
  spawned = tt;
}
  where
    none : {c : ℕ} → None ≡ Some c → starts c ≡ others c
    none {c} k = absurd (none_is_some c k)

    started : {c : ℕ} → Some 1 ≡ Some c → starts c ≡ others c
    started {c} k = subst (λ n. starts n ≡ others n) (one_is k) (sym same.0)
      where
        one_is : Some 1 ≡ Some c → 1 ≡ c
        one_is h = cc

whole_stamps : (h : ℕ → ℕ) → sum_by h (1 ∷ 2 ∷ 3 ∷ 4 ∷ 6 ∷ 5 ∷ []) ≡ sum_by h (1 ∷ 2 ∷ 3 ∷ 4 ∷ 5 ∷ 6 ∷ [])
whole_stamps h = omega (
  arith,
  sum_by-cons h 1 (2 ∷ 3 ∷ 4 ∷ 6 ∷ 5 ∷ []),
  sum_by-cons h 2 (3 ∷ 4 ∷ 6 ∷ 5 ∷ []),
  sum_by-cons h 3 (4 ∷ 6 ∷ 5 ∷ []),
  sum_by-cons h 4 (6 ∷ 5 ∷ []),
  sum_by-cons h 6 (5 ∷ []),
  sum_by-cons h 5 [],
  sum_by-cons h 1 (2 ∷ 3 ∷ 4 ∷ 5 ∷ 6 ∷ []),
  sum_by-cons h 2 (3 ∷ 4 ∷ 5 ∷ 6 ∷ []),
  sum_by-cons h 3 (4 ∷ 5 ∷ 6 ∷ []),
  sum_by-cons h 4 (5 ∷ 6 ∷ []),
  sum_by-cons h 5 (6 ∷ []),
  sum_by-cons h 6 [],
)

whole_histories : (a : ℕ) → 0 < a → a ≤ limits.allocs → IsClosedHistory objects (thread_logs right) a (history_of (alloc_logs right) a)
whole_histories a low high =
    let r = histories_rise right right_order in
    let l = legal right refl in
    by_alloc (λ n. IsClosedHistory objects (thread_logs right) n (history_of (alloc_logs right) n))
    (record { rises = r 1; legal = l 1; exact = λ h. refl }) (record { rises = r 2; legal = l 2; exact = λ h. refl })
    (λ n one two. record { rises = r n; legal = l n; exact = λ h. rw (one, two) refl }) a

whole : IsWholeRun (source x) objects (allowed limits no_hosts) limits (main_of program) start (thread_logs right) (alloc_logs right) kept.words
whole = record {
  idle_allocs = [];
  idle_threads = [];
  tree = record {
    own = main_log right;
    below = child_log right ∷ [];
    parts = refl;
    own_number = refl;
    own_parent = refl;
    own_function = refl;
    later = for_logs right (λ log. RisesFrom 0 log.entries × EndAbove 0 log.«end») (main_rises right right_order, tt) (child_rises right right_order, tt);
    steps = whole_steps;
    started = λ log h. only_child log h (IsStarted (thread_logs right)) child_started;
    children = λ h. refl;
    joined = child_joined;
    ended = λ log c h is. absurd (for_logs right (λ l. l.«end» ≡ log_end.ChildEnded c → ⊥) (λ k. cc) (λ k. cc) log h is);
    firsts = (1, c0) ∷ [];
    firsts_below = λ h. refl;
    runs = whole_runs;
  };
  stamps_drawn = whole_stamps;
  allocs_drawn = λ h. refl;
  threads_drawn = λ h. refl;
  rise = all_numbers right;
  histories = whole_histories;
}

pub met : IsMet
met = record {
  promises = promises;
  whole = whole;
  is_right = record {
    threads = threads right;
    runs = right_runs;
    run = promises_make_one_run (source x) objects (allowed limits no_hosts) limits (main_of program) start (thread_logs right) (alloc_logs right) promises;
    histories = right_histories;
    counts = right_counts;
  };
}
