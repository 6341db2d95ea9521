-- When a record is right for a kind of thread and of memory.
use Rattle.std.specs.Prelude.{◌≡◌, ℕ, zero, suc, ◌+◌, ◌<◌, ◌≤◌, ◌⊎◌, ◌==◌, ◌≢◌, Bool, if◌then◌else◌, List, [], ◌∷◌, ◌++◌, length, Some, None, All, nat_eq, count_by, true, false, IsPermutation}
use Rattle.std.specs.declared.option.Option.{Option}
use Rattle.std.specs.List.{flat_map, IsDistinct}
use Rattle.history.specs.declared.log.AllocLog.{AllocLog}
use Rattle.history.specs.declared.ask.Ask.{Ask}
use Rattle.history.specs.declared.ask.Ask.TheVariants as ask
use Rattle.bsan_ids.specs.declared.numbers.Counters.{Counters}
use Rattle.history.specs.declared.log.End.{End}
use Rattle.history.specs.declared.log.End.TheVariants as log_end
use Rattle.history.specs.declared.entry.Entry.{Entry}
use Rattle.history.specs.Histories.{is_make_step}
use Rattle.bsan_ids.specs.declared.numbers.Limits.{Limits}
use Rattle.history.specs.declared.ask.MachineEnd.TheVariants as end
use Rattle.history.specs.declared.entry.Plain.{Plain}
use Rattle.history.specs.declared.entry.Plain.TheVariants as plain
use Rattle.bsan_ids.specs.declared.numbers.Prov.{Prov}
use Rattle.history.specs.declared.entry.Request.{Request}
use Rattle.history.specs.declared.entry.Request.TheVariants as request
use Rattle.history.specs.declared.record.RunRecord.{RunRecord}
use Rattle.history.specs.declared.log.ThreadLog.{ThreadLog}
use Rattle.bsan_ids.specs.declared.numbers.ThreadNo.{ThreadNo}
use Rattle.history.specs.declared.trap.Trap.{Trap}
use Rattle.history.specs.declared.trap.Trap.TheVariants as trap
use Rattle.runs.specs.Parts.{Has, of_thread, of_alloc, child_of, is_child}
use Rattle.runs.specs.Machine.{Machine, Memory, Settles}
use Rattle.runs.specs.Threads.{Feeds, IsThreadRun, AsksMake, AsksSpawn}
use Rattle.runs.specs.Interleaving.{first_world, Allowed, Interleaves, Legal, last_world}
use Rattle.runs.specs.Erasure.{erasure}
use Rattle.runs.specs.Stamps.{RisesFrom}
use Rattle.runs.specs.Merge.{merged, entries_of}

-- the numbers of the logs rise, from n on
abbrev pub NumbersRiseFrom : ℕ → List ThreadLog → Type 0
NumbersRiseFrom n [] = Unit {0}
NumbersRiseFrom n (l ∷ ls) = (n ≤ l.number.0) × NumbersRiseFrom (suc l.number.0) ls

-- the end of the log with this number; a thread without a log has none
abbrev pub end_of : List ThreadLog → ℕ → End
end_of [] t = log_end.NoMemory
end_of (l ∷ ls) t = if l.number.0 == t then l.«end» else end_of ls t

-- the entry starts this thread
abbrev pub starts_thread : ℕ → Entry → Bool
starts_thread t e = is_child (child_of e) t

-- a thread other than main has exactly one Spawn entry among all entries, in its parent's log and of its function
pub record IsSpawnedOnce (logs : List ThreadLog) (log : ThreadLog) : Type 0 where
  pub parent : ThreadNo
  pub spawn : Entry
  pub names_parent : log.parent ≡ Some parent
  pub stands : Has (entries_of logs parent.0) spawn
  pub request : spawn.request ≡ request.Spawn log.entry_function
  pub answers : child_of spawn ≡ Some log.number.0
  pub once : count_by (starts_thread log.number.0) (merged logs) ≡ 1

-- (a) the threads
pub record HasThreads (main : ℕ) (logs : List ThreadLog) : Type 0 where
  pub rise : NumbersRiseFrom 0 logs
  pub first : (log : ThreadLog) → Has logs log → log.number.0 ≡ 0 → (log.parent ≡ None) × (log.entry_function ≡ main)
  pub has_first : (log : ThreadLog) × Has logs log × (log.number.0 ≡ 0)
  pub spawned : (log : ThreadLog) → Has logs log → (log.number.0 ≡ 0) ⊎ IsSpawnedOnce logs log
  pub children : (log : ThreadLog) (e : Entry) (f : ℕ) → Has logs log → Has log.entries e → e.request ≡ request.Spawn f
      → (child : ThreadLog) × Has logs child × (e.reply.plain ≡ plain.Spawned child.number)

-- a chain of Spawn entries leads from log 0 to the log of this thread
pub data IsReached : List ThreadLog → ℕ → Type 0 where
  is_main : {logs : List ThreadLog} → IsReached logs 0
  is_spawned : {logs : List ThreadLog} {t c : ℕ} → (spawn : Entry) → IsReached logs t → Has (entries_of logs t) spawn → child_of spawn ≡ Some c → IsReached logs c

-- (b) each log is a run of its thread, from the first state that a chain of Spawn entries gives it; who is joined has returned
-- that, and who ended its joiner has not
pub record HasRuns (M : Machine) (limits : Limits) (main : M.State) (logs : List ThreadLog) : Type 0 where
  pub starts : ℕ → M.State
  pub first : starts 0 ≡ main
  pub reached : (log : ThreadLog) → Has logs log → IsReached logs log.number.0
  pub runs : (log : ThreadLog) → Has logs log → IsThreadRun M limits starts log
  pub joined : (log : ThreadLog) (e : Entry) (c : ThreadNo) → Has logs log → Has log.entries e → e.request ≡ request.Join c
      → (v : ℕ) × (e.reply.plain ≡ plain.Value v) × (end_of logs c.0 ≡ log_end.Returned v e.reply.carried) × ((child : ThreadLog) × Has logs child × (child.number ≡ c))
  pub ended : (log : ThreadLog) (c : ThreadNo) → Has logs log → log.«end» ≡ log_end.ChildEnded c
      → ((child : ThreadLog) × Has logs child × (child.number ≡ c)) × ((v : ℕ) (p : Option Prov) → end_of logs c.0 ≢ log_end.Returned v p)

-- the k-th entry has the stamp k
abbrev pub Numbered : ℕ → List Entry → Type 0
Numbered n [] = Unit {0}
Numbered n (e ∷ es) = (e.stamp.0 ≡ n) × Numbered (n + 1) es

-- (c) the merge is an interleaving run
pub record MergesToRun (M : Machine) (O : Memory) (A : Allowed) (limits : Limits) (main : M.State) (entries : List Entry) : Type 0 where
  pub numbered : Numbered 1 entries
  pub within : length entries ≤ limits.steps
  pub run : Interleaves M O A (first_world M O main) entries

-- the entries of the allocation log with this number
abbrev pub history_of : List AllocLog → ℕ → List Entry
history_of [] a = []
history_of (l ∷ ls) a = if l.number.0 == a then l.entries else history_of ls a

-- the numbers of the allocation logs rise above n, up to the limit, and no log is empty
abbrev pub AllocsRiseFrom : ℕ → ℕ → List AllocLog → Type 0
AllocsRiseFrom n limit [] = Unit {0}
AllocsRiseFrom n limit (l ∷ ls) = (n < l.number.0) × (l.number.0 ≤ limit) × (l.entries ≢ []) × AllocsRiseFrom l.number.0 limit ls

-- (d) the allocation logs: a log stands there exactly where an entry names its number
pub record HasHistories (O : Memory) (limits : Limits) (logs : List ThreadLog) (allocs : List AllocLog) : Type 0 where
  pub rise : AllocsRiseFrom 0 limits.allocs allocs
  pub stamps : (a : ℕ) → RisesFrom 0 (history_of allocs a)
  pub legal : (a : ℕ) → Legal O (O.unmade a) (history_of allocs a)
  pub parts : (a t : ℕ) → 0 < a → a ≤ limits.allocs → of_thread t (history_of allocs a) ≡ of_alloc a (entries_of logs t)

-- the plain thread ends as the log does
abbrev pub TrapsPlainly : (P : Machine) → P.State → Trap → Type 0
TrapsPlainly P q (trap.AllocLimit d) = AsksMake (P.ask q)
TrapsPlainly P q (trap.ThreadLimit d) = AsksSpawn (P.ask q)
TrapsPlainly P q t = P.ask q ≡ ask.Ended (end.Trapped t)

-- the plain thread returns the same word, meets the same trap, or asks for the number that its log's end names
abbrev pub EndsPlainly : (P : Machine) → P.State → End → Type 0
EndsPlainly P q (log_end.Returned v p) = P.ask q ≡ ask.Ended (end.Returned v None)
EndsPlainly P q (log_end.Trapped t) = TrapsPlainly P q t
EndsPlainly P q e = Unit {0}

-- (e) the erasure of the merge is a run of the plain program, in which each thread ends alike
pub record ErasesToPlainRun (P : Machine) (Q : Memory) (A : Allowed) (main : P.State) (logs : List ThreadLog) : Type 0 where
  pub run : Interleaves P Q A (first_world P Q main) (erasure (merged logs))
  pub ends : (log : ThreadLog) → Has logs log
      → (p q : P.State) × ((last_world P Q A (first_world P Q main) (erasure (merged logs)) run).threads log.number.0 ≡ Some p) × Settles P p q × EndsPlainly P q log.«end»

-- (f) the stamps above the limit, and the numbers that Make and Spawn drew
abbrev pub beyond_of : End → List ℕ
beyond_of (log_end.StepLimit s) = s.0 ∷ []
beyond_of _ = []

-- the stamps above the limit that ended threads
abbrev pub beyond : List ThreadLog → List ℕ
beyond logs = flat_map (λ l. beyond_of l.«end») logs

-- n, n + 1, .., as many as the second number says
abbrev pub counting_from : ℕ → ℕ → List ℕ
counting_from n zero = []
counting_from n (suc k) = n ∷ counting_from (n + 1) k

-- the numbers that replies and ends name
abbrev pub made_by : Plain → List ℕ
made_by (plain.Made a) = a.0 ∷ []
made_by _ = []

-- the thread that a reply names
abbrev pub spawned_by_reply : Plain → List ℕ
spawned_by_reply (plain.Spawned c) = c.0 ∷ []
spawned_by_reply _ = []

-- the allocation number that an end names
abbrev pub alloc_limit_of : End → List ℕ
alloc_limit_of (log_end.Trapped (trap.AllocLimit d)) = d ∷ []
alloc_limit_of _ = []

-- the thread number that an end names
abbrev pub thread_limit_of : End → List ℕ
thread_limit_of (log_end.Trapped (trap.ThreadLimit d)) = d ∷ []
thread_limit_of _ = []

-- all allocation numbers that a log names as made or drawn, and all thread numbers
abbrev pub alloc_numbers : ThreadLog → List ℕ
alloc_numbers log = flat_map (λ e. made_by e.reply.plain) log.entries ++ alloc_limit_of log.«end»

abbrev pub thread_numbers : ThreadLog → List ℕ
thread_numbers log = flat_map (λ e. spawned_by_reply e.reply.plain) log.entries ++ thread_limit_of log.«end»

-- is the entry a Spawn
abbrev pub is_spawn : Entry → Bool
is_spawn e = is_spawn_request e.request where
  is_spawn_request : Request → Bool
  is_spawn_request (request.Spawn f) = true
  is_spawn_request _ = false

-- does the thread ask for an allocation number, or for a thread number
abbrev pub asks_make : Ask → Bool
asks_make (ask.Make size place) = true
asks_make _ = false

abbrev pub asks_spawn : Ask → Bool
asks_spawn (ask.Spawn f) = true
asks_spawn _ = false

-- the thread of the log stands where it asks so, fed with all entries, at the log's count of instructions
pub record StandsAsking (M : Machine) (asks : Ask → Bool) (limits : Limits) (starts : ℕ → M.State) (log : ThreadLog) : Type 0 where
  pub last : M.State
  pub feeds : Feeds M limits.turns starts (starts log.number.0) log.entries last
  pub count : log.instructions ≡ M.count last
  pub asking : asks (M.ask last) ≡ true

-- n of the logs are so, or more
abbrev pub AtLeast : (ThreadLog → Type 0) → ℕ → List ThreadLog → Type 0
AtLeast P zero logs = Unit {0}
AtLeast P (suc n) [] = ⊥
AtLeast P (suc n) (l ∷ ls) = (P l × AtLeast P n ls) ⊎ AtLeast P (suc n) ls

-- at most so many numbers were drawn: one for each of these entries, and one for each log that ended while it asked so
abbrev pub DrawnAtMost : (M : Machine) → (Ask → Bool) → (Entry → Bool) → Limits → (ℕ → M.State) → List ThreadLog → ℕ → Type 0
DrawnAtMost M asks is_one limits starts logs drawn = (n : ℕ) × AtLeast (StandsAsking M asks limits starts) n logs × (drawn ≤ count_by is_one (merged logs) + n)

-- (f) the counters of the record against its logs
pub record HasCounts (M : Machine) (limits : Limits) (starts : ℕ → M.State) (logs : List ThreadLog) (words : Counters) : Type 0 where
  pub stamps : words.stamps ≡ length (merged logs) + length (beyond logs)
  pub above : IsPermutation (beyond logs) (counting_from (limits.steps + 1) (length (beyond logs)))
  pub full : 0 < length (beyond logs) → length (merged logs) ≡ limits.steps
  pub allocs : DrawnAtMost M asks_make is_make_step limits starts logs words.allocs
  pub threads : DrawnAtMost M asks_spawn is_spawn limits starts logs words.threads
  pub made_within : All (λ n. n ≤ words.allocs) (flat_map alloc_numbers logs)
  pub made_differ : IsDistinct nat_eq (flat_map alloc_numbers logs)
  pub spawned_within : All (λ n. n ≤ words.threads) (flat_map thread_numbers logs)
  pub spawned_differ : IsDistinct nat_eq (flat_map thread_numbers logs)

-- the record is right, its erasure aside: for threads that begin main in this state, over this memory
pub record IsRight (M : Machine) (O : Memory) (A : Allowed) (limits : Limits) (main : ℕ) (start : M.State) (kept : RunRecord) : Type 0 where
  pub threads : HasThreads main kept.threads
  pub runs : HasRuns M limits start kept.threads
  pub run : MergesToRun M O A limits start (merged kept.threads)
  pub histories : HasHistories O limits kept.threads kept.allocs
  pub counts : HasCounts M limits runs.starts kept.threads kept.words
