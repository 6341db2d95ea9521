-- What one native thread answers: its log and those of all threads below it, in a list, with what it drew.
use Rattle.std.specs.Prelude.{◌≡◌, ◌≢◌, ℕ, ◌+◌, ◌<◌, ◌≤◌, ◌⊎◌, List, [], ◌∷◌, ◌++◌, length, map, sum_by, Some, None}
use Rattle.std.specs.List.{flat_map}
use Rattle.std.specs.declared.option.Option.{Option}
use Rattle.bsan_ids.specs.declared.numbers.AllocNo.{AllocNo}
use Rattle.bsan_ids.specs.declared.numbers.Counters.{Counters}
use Rattle.bsan_ids.specs.declared.numbers.Limits.{Limits}
use Rattle.bsan_ids.specs.declared.numbers.Prov.{Prov}
use Rattle.bsan_ids.specs.declared.numbers.ThreadNo.{ThreadNo}
use Rattle.history.specs.declared.entry.Entry.{Entry}
use Rattle.history.specs.declared.entry.Plain.TheVariants as plain
use Rattle.history.specs.declared.entry.Request.{Request}
use Rattle.history.specs.declared.entry.Request.TheVariants as request
use Rattle.history.specs.declared.entry.Verdict.TheVariants as verdict
use Rattle.history.specs.declared.log.AllocLog.{AllocLog}
use Rattle.history.specs.declared.log.End.{End}
use Rattle.history.specs.declared.log.End.TheVariants as log_end
use Rattle.history.specs.declared.log.ThreadLog.{ThreadLog}
use Rattle.history.specs.Objects.{clean}
use Rattle.runs.specs.Parts.{Has, child_of, of_alloc}
use Rattle.runs.specs.Machine.{Machine, Memory}
use Rattle.runs.specs.Interleaving.{Allowed, ByRequest, Legal}
use Rattle.runs.specs.Merge.{all_entries}
use Rattle.runs.specs.Threads.{IsThreadRun}
use Rattle.runs.specs.Stamps.{RisesFrom}
use Rattle.runs.specs.Right.{beyond_of, alloc_limit_of, thread_limit_of, alloc_numbers, thread_numbers, asks_make, asks_spawn, StandsAsking, AtLeast, counting_from, AllocsRiseFrom, history_of}

-- a child's stamps are above its Spawn entry's, and below each join's, as is the Spawn entry's
pub record HasStampOrder (logs : List ThreadLog) : Type 0 where
  pub after_spawn : (a b : ThreadLog) (s x : Entry) → Has logs a → Has logs b → Has a.entries s → Has b.entries x
      → child_of s ≡ Some b.number.0 → s.stamp.0 < x.stamp.0
  pub before_join : (a b : ThreadLog) (j x : Entry) → Has logs a → Has logs b → Has a.entries j → Has b.entries x
      → j.request ≡ request.Join b.number → x.stamp.0 < j.stamp.0
  pub spawned_before_join : (a b : ThreadLog) (s j : Entry) (c : ThreadNo) → Has logs a → Has logs b → Has a.entries s → Has b.entries j
      → child_of s ≡ Some c.0 → j.request ≡ request.Join c → s.stamp.0 < j.stamp.0

-- what an entry says besides, by itself
abbrev pub IsEntryRight : Allowed → Entry → Request → Type 0
IsEntryRight A e =
    ByRequest A e ((a : AllocNo) × (e.alloc ≡ Some a) × (0 < a.0) × (a.0 ≤ A.allocs))
    ((c : ThreadNo) × (0 < c.0) × (c.0 ≤ 1023) × (e.reply ≡ clean (plain.Spawned c) None))
    (λ c. ((0 < c.0) × (e.reply.verdict ≡ verdict.Clean)))
    ((a : AllocNo) × (e.alloc ≡ Some a))

-- lists of logs ------------------------------------------------------------------

abbrev pub numbers_of : List ThreadLog → List ℕ
numbers_of logs = map (λ log. log.number.0) logs

-- the stamps that a thread drew: those of its entries, and one above the limit that ended it
abbrev pub stamps_of : ThreadLog → List ℕ
stamps_of log = map (λ e. e.stamp.0) log.entries ++ beyond_of log.«end»

-- the threads that a thread started
abbrev pub started_by : Option ℕ → List ℕ
started_by None = []
started_by (Some c) = c ∷ []

abbrev pub children_of : ThreadLog → List ℕ
children_of log = flat_map (λ e. started_by (child_of e)) log.entries

-- each number stands as often in the one list as in the other: they weigh the same in every way
abbrev pub WeighAlike : List ℕ → List ℕ → Type 0
WeighAlike xs ys = (h : ℕ → ℕ) → sum_by h xs ≡ sum_by h ys

abbrev pub EndAbove : ℕ → End → Type 0
EndAbove n (log_end.StepLimit s) = n < s.0
EndAbove n other = Unit {0}

-- all stamps that these threads drew are above n, and rise along each log
abbrev pub AreAbove : ℕ → List ThreadLog → Type 0
AreAbove n logs = (log : ThreadLog) → Has logs log → RisesFrom n log.entries × EndAbove n log.«end»

-- the stamps of all their entries are below n
abbrev pub AreBelow : ℕ → List ThreadLog → Type 0
AreBelow n logs = (log : ThreadLog) (e : Entry) → Has logs log → Has log.entries e → e.stamp.0 < n

-- what is said of a log by others --------------------------------------------------

-- of these logs, those of a thread and of all threads below it: whom one of them starts is one of them
pub record IsFamily (logs : List ThreadLog) (first : ThreadLog) (family : List ThreadLog) : Type 0 where
  pub own : Has family first
  pub among : (log : ThreadLog) → Has family log → Has logs log
  pub closed : (log : ThreadLog) (e : Entry) (c : ℕ) → Has family log → Has log.entries e → child_of e ≡ Some c → (child : ThreadLog) × Has family child × (child.number.0 ≡ c)

-- the thread was started by an entry of its parent, whose number is smaller; what it and all below it drew is later
pub record IsStarted (logs : List ThreadLog) (log : ThreadLog) : Type 0 where
  pub parent : ThreadLog
  pub there : Has logs parent
  pub names_parent : log.parent ≡ Some parent.number
  pub above : parent.number.0 < log.number.0
  pub spawn : Entry
  pub stands : Has parent.entries spawn
  pub request : spawn.request ≡ request.Spawn log.entry_function
  pub answers : child_of spawn ≡ Some log.number.0
  pub family : List ThreadLog
  pub is_family : IsFamily logs log family
  pub later : AreAbove spawn.stamp.0 family

-- the joined thread returned what the entry answers; its Spawn entry stands among these, and that and all entries of it and
-- of all below it are earlier
pub record IsJoined (logs : List ThreadLog) (entries : List Entry) (e : Entry) (c : ThreadNo) : Type 0 where
  pub child : ThreadLog
  pub number : child.number ≡ c
  pub word : ℕ
  pub value : e.reply.plain ≡ plain.Value word
  pub returned : child.«end» ≡ log_end.Returned word e.reply.carried
  pub spawn : Entry
  pub stands : Has entries spawn
  pub answers : child_of spawn ≡ Some c.0
  pub after_spawn : spawn.stamp.0 < e.stamp.0
  pub family : List ThreadLog
  pub is_family : IsFamily logs child family
  pub earlier : AreBelow e.stamp.0 family

-- the thread c is there, and hasn't returned
pub record HasStopped (logs : List ThreadLog) (c : ThreadNo) : Type 0 where
  pub child : ThreadLog
  pub there : Has logs child
  pub number : child.number ≡ c
  pub other : (v : ℕ) (p : Option Prov) → child.«end» ≢ log_end.Returned v p

-- an entry by itself: its stamp is within the limit, and on a number outside the limit it is told what an unmade object answers
pub record IsStepRight (O : Memory) (A : Allowed) (limits : Limits) (e : Entry) : Type 0 where
  pub right : IsEntryRight A e e.request
  pub within : e.stamp.0 ≤ limits.steps
  pub outside : (a : AllocNo) → e.alloc ≡ Some a → (a.0 ≡ 0) ⊎ (limits.allocs < a.0) → e.reply ≡ O.reply (O.unmade a.0) e.request e.stamp.0

-- trees ---------------------------------------------------------------------------

-- threads with the states in which they start
abbrev pub Firsts : Type 0 → Type 0
Firsts S = List (ℕ × S)

abbrev pub Agrees : {S : Type 0} → (ℕ → S) → Firsts S → Type 0
Agrees starts [] = Unit {0}
Agrees starts (p ∷ ps) = (starts p.0 ≡ p.1) × Agrees starts ps

abbrev pub first_numbers : {S : Type 0} → Firsts S → List ℕ
first_numbers [] = []
first_numbers (p ∷ ps) = p.0 ∷ first_numbers ps

-- the logs are runs; and so many of them ended while they asked Make, or Spawn, as there are numbers above a limit and numbers drawn in vain
pub record AreRuns (M : Machine) (limits : Limits) (starts : ℕ → M.State) (logs : List ThreadLog) (idle_allocs idle_threads : List ℕ) : Type 0 where
  pub each : (log : ThreadLog) → Has logs log → IsThreadRun M limits starts log
  pub made : AtLeast (StandsAsking M asks_make limits starts) (length (flat_map (λ log. alloc_limit_of log.«end») logs) + length idle_allocs) logs
  pub spawned : AtLeast (StandsAsking M asks_spawn limits starts) (length (flat_map (λ log. thread_limit_of log.«end») logs) + length idle_threads) logs

-- The logs of a thread, its own first, and of all threads below it. All stamps are above those that had been seen when it
-- began. First states are a list, and the logs are runs from any states that agree with it: so a child's tree is put below its
-- parent without a change. Numbers that were drawn in vain stand beside the logs.
pub record IsTree (M : Machine) (O : Memory) (A : Allowed) (limits : Limits) (number : ThreadNo) (parent : Option ThreadNo) (function : ℕ) (first : M.State) (seen : ℕ) (logs : List ThreadLog) (idle_allocs idle_threads : List ℕ) : Type 0 where
  pub own : ThreadLog
  pub below : List ThreadLog
  pub parts : logs ≡ own ∷ below
  pub own_number : own.number ≡ number
  pub own_parent : own.parent ≡ parent
  pub own_function : own.entry_function ≡ function
  pub later : AreAbove seen logs
  pub steps : (log : ThreadLog) (e : Entry) → Has logs log → Has log.entries e → IsStepRight O A limits e
  pub started : (log : ThreadLog) → Has below log → IsStarted logs log
  pub children : WeighAlike (flat_map children_of logs) (numbers_of below)
  pub joined : (log : ThreadLog) (e : Entry) (c : ThreadNo) → Has logs log → Has log.entries e → e.request ≡ request.Join c → IsJoined logs log.entries e c
  pub ended : (log : ThreadLog) (c : ThreadNo) → Has logs log → log.«end» ≡ log_end.ChildEnded c → HasStopped logs c
  pub firsts : Firsts M.State
  pub firsts_below : WeighAlike (first_numbers firsts) (numbers_of below)
  pub runs : (starts : ℕ → M.State) → starts number.0 ≡ first → Agrees starts firsts → AreRuns M limits starts logs idle_allocs idle_threads

-- the whole run ---------------------------------------------------------------------

-- each number from 1 to n stands once
abbrev pub AreUpTo : List ℕ → ℕ → Type 0
AreUpTo numbers n = WeighAlike numbers (counting_from 1 n)

-- the log of a number is a legal history, of exactly the entries on it
pub record IsClosedHistory (O : Memory) (logs : List ThreadLog) (a : ℕ) (history : List Entry) : Type 0 where
  pub rises : RisesFrom 0 history
  pub legal : Legal O (O.unmade a) history
  pub exact : (h : Entry → ℕ) → sum_by h history ≡ sum_by h (of_alloc a (all_entries logs))

-- the tree of thread 0, with what was drawn in all, and the closed logs of allocations
pub record IsWholeRun (M : Machine) (O : Memory) (A : Allowed) (limits : Limits) (main : ℕ) (start : M.State) (logs : List ThreadLog) (allocs : List AllocLog) (words : Counters) : Type 0 where
  pub idle_allocs : List ℕ
  pub idle_threads : List ℕ
  pub tree : IsTree M O A limits (record { 0 = 0 }) None main start 0 logs idle_allocs idle_threads
  pub stamps_drawn : AreUpTo (flat_map stamps_of logs) words.stamps
  pub allocs_drawn : AreUpTo (flat_map alloc_numbers logs ++ idle_allocs) words.allocs
  pub threads_drawn : AreUpTo (flat_map thread_numbers logs ++ idle_threads) words.threads
  pub rise : AllocsRiseFrom 0 limits.allocs allocs
  pub histories : (a : ℕ) → 0 < a → a ≤ limits.allocs → IsClosedHistory O logs a (history_of allocs a)
