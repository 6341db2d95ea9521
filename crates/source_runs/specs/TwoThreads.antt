-- A whole record of two threads and two allocations, and records that each break one promise alone.
use Rattle.std.specs.Prelude.{codes, ◌≡◌, ◌≢◌, ℕ, ◌<◌, ◌≤◌, ◌⊎◌, Bool, true, false, List, [], ◌∷◌, length, Option, Some, None}
use Rattle.bsan_ids.specs.declared.numbers.AllocNo.{AllocNo}
use Rattle.bsan_ids.specs.declared.numbers.Limits.{Limits}
use Rattle.bsan_ids.specs.declared.numbers.Prov.{Prov}
use Rattle.bsan_ids.specs.declared.numbers.ThreadNo.{ThreadNo}
use Rattle.history.specs.declared.entry.Entry.{Entry}
use Rattle.history.specs.declared.entry.Plain.TheVariants as plain
use Rattle.history.specs.declared.entry.Reply.{Reply}
use Rattle.history.specs.declared.entry.Request.{Request}
use Rattle.history.specs.declared.entry.Request.TheVariants as request
use Rattle.history.specs.declared.entry.Verdict.{Verdict}
use Rattle.history.specs.declared.entry.Verdict.TheVariants as verdict
use Rattle.ir_ast.specs.declared.program.Function.{Function}
use Rattle.ir_ast.specs.declared.program.Op.TheVariants as op
use Rattle.ir_ast.specs.declared.program.Program.{Program}
use Rattle.ir_ast.specs.declared.program.Val.TheVariants.{Num}
use Rattle.ir_ast.specs.declared.types.Place.TheVariants.{Heap}
use Rattle.ir_ast.specs.declared.types.Ty.TheVariants.{Int, Ptr}
use Rattle.ir_ast.specs.declared.types.Width.TheVariants.{W64}
use Rattle.history.specs.declared.log.AllocLog.{AllocLog}
use Rattle.history.specs.declared.log.End.TheVariants as log_end
use Rattle.history.specs.declared.log.ThreadLog.{ThreadLog}
use Rattle.history.specs.declared.record.RunRecord.{RunRecord}
use Rattle.runs.specs.Interleaving.{Legal}
use Rattle.runs.specs.Merge.{merged, MayMerge, entries_of}
use Rattle.runs.specs.Objects.{objects}
use Rattle.history.specs.Objects.{clean}
use Rattle.runs.specs.Parts.{Has, of_thread, of_alloc, child_of}
use Rattle.runs.specs.Right.{HasThreads, MergesToRun, AllocsRiseFrom, history_of, end_of}
use Rattle.runs.specs.Stamps.{RisesFrom}
use Rattle.runs.specs.Theorem.{HasPromises}
use Rattle.runs.specs.Threads.{IsThreadRun}
use Rattle.runs.specs.Tree.{IsEntryRight, IsWholeRun}
use Rattle.source_sem.specs.Source.{Source, Setting, source}
use Rattle.source_sem.specs.Traces.{named, no_result, gives, ptr_param, reg, number, def, does, block, function, ret_void, ret_of, prov, alloc}
use Rattle.source_sem.specs.Starting.{setting_of, main_of, main_start}
use Rattle.source_sem.specs.Records.{no_hosts, allowed, IsRightFor}

-- func @f(ptr %x) -> void: 0 store i64 1, %x   1 ret void
abbrev pub f : Function
f = function (102 ∷ []) (ptr_param 120 ∷ []) no_result (block 101 [] (does (op.Store (Int W64) (Num 1) (named 120)) ∷ []) ret_void ∷ [])

-- func @main() -> i64: 2 %x = malloc 8   3 %y = malloc 8   4 %h = spawn @f(ptr %x)   5 store i64 2, %y   6 ret i64 0
abbrev pub main : Function
main =
    function (codes "main") [] (gives (Int W64))
    (block 101 []
    (def 120 (op.Make Heap (Num 8))
    ∷ def 121 (op.Make Heap (Num 8))
    ∷ def 104 (op.Spawn (named 102) (reg Ptr 120 ∷ []))
    ∷ does (op.Store (Int W64) (Num 2) (named 121))
    ∷ [])
    (ret_of (number 0)) ∷ [])

abbrev pub program : Program
program = record { version = 1; functions = f ∷ main ∷ []; end = 0 }

abbrev pub limits : Limits
limits = record { steps = 1000; turns = 1000; allocs = 100 }

abbrev pub x : Setting
x = setting_of program [] no_hosts

-- what differs from record to record: four stamps, the joined value, and what the child's store is told
pub record Told : Type 0 where
  pub spawn : ℕ
  pub store : ℕ
  pub child : ℕ
  pub join : ℕ
  pub joined : ℕ
  pub verdict : Verdict

abbrev pub entry : ℕ → ℕ → ℕ → Option AllocNo → Request → Reply → Entry
entry thread stamp site on request reply = record { thread = record { 0 = thread }; stamp = record { 0 = stamp }; site = site; alloc = on; request = request; reply = reply }

abbrev pub make_x : Entry
make_x = entry 0 1 2 (Some (alloc 1)) (request.Make 8 Heap) (clean (plain.Made (alloc 1)) (Some (prov 1 1)))

abbrev pub make_y : Entry
make_y = entry 0 2 3 (Some (alloc 2)) (request.Make 8 Heap) (clean (plain.Made (alloc 2)) (Some (prov 2 2)))

abbrev pub spawn_f : Told → Entry
spawn_f t = entry 0 t.spawn 4 None (request.Spawn 0) (clean (plain.Spawned (record { 0 = 1 })) None)

abbrev pub store_y : Told → Entry
store_y t = entry 0 t.store 5 (Some (alloc 2)) (request.Store 0 (Int W64) 2 None (Some (prov 2 2))) (clean plain.Done None)

abbrev pub store_x : Told → Entry
store_x t = entry 1 t.child 0 (Some (alloc 1)) (request.Store 0 (Int W64) 1 None (Some (prov 1 1))) (record { plain = plain.Done; carried = None; verdict = t.verdict })

abbrev pub join_f : Told → Entry
join_f t = entry 0 t.join 6 None (request.Join (record { 0 = 1 })) (clean (plain.Value t.joined) None)

abbrev pub main_log : Told → ThreadLog
main_log t = record {
  number = record { 0 = 0 };
  parent = None;
  entry_function = 1;
  entries = make_x ∷ make_y ∷ spawn_f t ∷ store_y t ∷ join_f t ∷ [];
  instructions = 5;
  last = 6;
  «end» = log_end.Returned 0 None;
}

abbrev pub child_log : Told → ThreadLog
child_log t = record {
  number = record { 0 = 1 };
  parent = Some (record { 0 = 0 });
  entry_function = 0;
  entries = store_x t ∷ [];
  instructions = 2;
  last = 1;
  «end» = log_end.Returned 0 None;
}

abbrev pub thread_logs : Told → List ThreadLog
thread_logs t = main_log t ∷ child_log t ∷ []

abbrev pub alloc_log : ℕ → List Entry → AllocLog
alloc_log a entries = record { number = alloc a; entries = entries }

abbrev pub alloc_logs : Told → List AllocLog
alloc_logs t = alloc_log 1 (make_x ∷ store_x t ∷ []) ∷ alloc_log 2 (make_y ∷ store_y t ∷ []) ∷ []

-- the same without the child's store
abbrev pub short_logs : Told → List AllocLog
short_logs t = alloc_log 1 (make_x ∷ []) ∷ alloc_log 2 (make_y ∷ store_y t ∷ []) ∷ []

abbrev pub right : Told
right = record { spawn = 3; store = 4; child = 5; join = 6; joined = 0; verdict = verdict.Clean }

-- the child's store stands before the step that starts the child
abbrev pub early : Told
early = record { spawn = 4; store = 5; child = 3; join = 6; joined = 0; verdict = verdict.Clean }

-- it comes after the join
abbrev pub late : Told
late = record { spawn = 3; store = 4; child = 6; join = 5; joined = 0; verdict = verdict.Clean }

-- two steps have one stamp
abbrev pub twice : Told
twice = record { spawn = 3; store = 4; child = 4; join = 5; joined = 0; verdict = verdict.Clean }

-- the child's store is told what the allocation doesn't answer, and is kept from the allocation's log
abbrev pub kept_away : Told
kept_away = record { spawn = 3; store = 4; child = 5; join = 6; joined = 0; verdict = verdict.Closed }

-- the join is told what the child didn't return
abbrev pub misjoined : Told
misjoined = record { spawn = 3; store = 4; child = 5; join = 6; joined = 7; verdict = verdict.Clean }

abbrev pub kept : RunRecord
kept = record { threads = thread_logs right; allocs = alloc_logs right; words = record { stamps = 6; allocs = 2; threads = 1 } }

abbrev pub start : Source
start = main_start x

abbrev pub Promises : List ThreadLog → List AllocLog → Type 0
Promises logs allocs = HasPromises (source x) objects (allowed limits no_hosts) limits (main_of program) start logs allocs

abbrev pub IsOneRun : List ThreadLog → Type 0
IsOneRun logs = MergesToRun (source x) objects (allowed limits no_hosts) limits start (merged logs)

-- the promises one by one -------------------------------------------------------

abbrev pub AfterSpawn : List ThreadLog → Type 0
AfterSpawn logs = (a b : ThreadLog) (s y : Entry) → Has logs a → Has logs b → Has a.entries s → Has b.entries y → child_of s ≡ Some b.number.0 → s.stamp.0 < y.stamp.0

abbrev pub BeforeJoin : List ThreadLog → Type 0
BeforeJoin logs = (a b : ThreadLog) (j y : Entry) → Has logs a → Has logs b → Has a.entries j → Has b.entries y → j.request ≡ request.Join b.number → y.stamp.0 < j.stamp.0

abbrev pub SpawnBeforeJoin : List ThreadLog → Type 0
SpawnBeforeJoin logs =
    (a b : ThreadLog) (s j : Entry) (c : ThreadNo) → Has logs a → Has logs b → Has a.entries s → Has b.entries j
    → child_of s ≡ Some c.0 → j.request ≡ request.Join c → s.stamp.0 < j.stamp.0

abbrev pub JoinsGiveResults : List ThreadLog → Type 0
JoinsGiveResults logs =
    (log : ThreadLog) (e : Entry) (c : ThreadNo) → Has logs log → Has log.entries e → e.request ≡ request.Join c
    → (v : ℕ) × (e.reply.plain ≡ plain.Value v) × (end_of logs c.0 ≡ log_end.Returned v e.reply.carried) × ((child : ThreadLog) × Has logs child × (child.number ≡ c))

abbrev pub HasParts : List ThreadLog → List AllocLog → Type 0
HasParts logs allocs = (a t : ℕ) → 0 < a → a ≤ limits.allocs → of_thread t (history_of allocs a) ≡ of_alloc a (entries_of logs t)

pub data Promise : Type 0 where
  Spawning : Promise
  Joining : Promise
  OneStamp : Promise
  Restriction : Promise
  JoinedValue : Promise

abbrev pub same : Promise → Promise → Bool
same Spawning Spawning = true
same Joining Joining = true
same OneStamp OneStamp = true
same Restriction Restriction = true
same JoinedValue JoinedValue = true
same _ _ = false

-- a promise is broken, or kept
abbrev pub Kept : Bool → Type 0 → Type 0
Kept true P = P → ⊥
Kept false P = P

-- one promise is broken, and every other is kept
pub record BreaksAlone (broken : Promise) (logs : List ThreadLog) (allocs : List AllocLog) : Type 0 where
  pub threads : HasThreads (main_of program) logs
  pub starts : ℕ → Source
  pub first : starts 0 ≡ start
  pub runs : (log : ThreadLog) → Has logs log → IsThreadRun (source x) limits starts log
  pub joined : Kept (same broken JoinedValue) (JoinsGiveResults logs)
  pub ended : (log : ThreadLog) (c : ThreadNo) → Has logs log → log.«end» ≡ log_end.ChildEnded c
      → ((child : ThreadLog) × Has logs child × (child.number ≡ c)) × ((v : ℕ) (p : Option Prov) → end_of logs c.0 ≢ log_end.Returned v p)
  pub numbers : AllocsRiseFrom 0 limits.allocs allocs
  pub histories_rise : (a : ℕ) → RisesFrom 0 (history_of allocs a)
  pub legal : (a : ℕ) → Legal objects (objects.unmade a) (history_of allocs a)
  pub parts : Kept (same broken Restriction) (HasParts logs allocs)
  pub rises : (log : ThreadLog) → Has logs log → RisesFrom 0 log.entries
  pub after_spawn : Kept (same broken Spawning) (AfterSpawn logs)
  pub before_join : Kept (same broken Joining) (BeforeJoin logs)
  pub spawned_before_join : SpawnBeforeJoin logs
  pub merges : Kept (same broken OneStamp) (MayMerge logs)
  pub entries : (log : ThreadLog) (e : Entry) → Has logs log → Has log.entries e → IsEntryRight (allowed limits no_hosts) e e.request
  pub stamps : (e : Entry) → Has (merged logs) e → e.stamp.0 ≤ length (merged logs)
  pub within : length (merged logs) ≤ limits.steps
  pub unslotted : (a : ℕ) → ((0 < a) × (a ≤ limits.allocs)) ⊎ Legal objects (objects.unmade a) (of_alloc a (merged logs))

-- each of five promises is needed: a record breaks it alone, and its merge is no run
pub record EachIsNeeded : Type 0 where
  pub spawning : BreaksAlone Spawning (thread_logs early) (alloc_logs early)
  pub spawning_no_run : IsOneRun (thread_logs early) → ⊥
  pub joining : BreaksAlone Joining (thread_logs late) (alloc_logs late)
  pub joining_no_run : IsOneRun (thread_logs late) → ⊥
  pub one_stamp : BreaksAlone OneStamp (thread_logs twice) (alloc_logs twice)
  pub one_stamp_no_run : IsOneRun (thread_logs twice) → ⊥
  pub restriction : BreaksAlone Restriction (thread_logs kept_away) (short_logs kept_away)
  pub restriction_no_run : IsOneRun (thread_logs kept_away) → ⊥
  pub joined_value : BreaksAlone JoinedValue (thread_logs misjoined) (alloc_logs misjoined)
  pub joined_value_no_run : IsOneRun (thread_logs misjoined) → ⊥

-- the record keeps every promise, is that of a whole run, and is right
pub record IsMet : Type 0 where
  pub promises : Promises (thread_logs right) (alloc_logs right)
  pub whole : IsWholeRun (source x) objects (allowed limits no_hosts) limits (main_of program) start (thread_logs right) (alloc_logs right) kept.words
  pub is_right : IsRightFor program [] no_hosts limits kept
