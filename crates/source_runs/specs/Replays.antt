-- Worked replays: what small programs do under chosen schedules.
use Rattle.std.specs.Prelude.{codes, map, ◌≡◌, ℕ, true, false, List, [], ◌∷◌, Option, Some, None}
use Rattle.bsan_ids.specs.declared.numbers.AllocNo.{AllocNo}
use Rattle.bsan_ids.specs.declared.numbers.Counters.{Counters}
use Rattle.bsan_ids.specs.declared.numbers.Limits.{Limits}
use Rattle.history.specs.declared.entry.Entry.{Entry}
use Rattle.history.specs.declared.entry.Plain.TheVariants as plain
use Rattle.history.specs.declared.entry.Reply.{Reply}
use Rattle.history.specs.declared.entry.Request.{Request}
use Rattle.history.specs.declared.entry.Request.TheVariants as request
use Rattle.history.specs.declared.entry.Verdict.TheVariants as verdict
use Rattle.history.specs.declared.log.End.{End}
use Rattle.history.specs.declared.log.End.TheVariants as log_end
use Rattle.history.specs.declared.trap.Trap.TheVariants as trap
use Rattle.ir_ast.specs.declared.program.Function.{Function}
use Rattle.ir_ast.specs.declared.program.Op.TheVariants as op
use Rattle.ir_ast.specs.declared.program.Program.{Program}
use Rattle.ir_ast.specs.declared.program.Val.TheVariants.{Num}
use Rattle.ir_ast.specs.declared.types.Place.TheVariants.{Stack, Heap}
use Rattle.ir_ast.specs.declared.types.Ty.TheVariants.{Int, Ptr}
use Rattle.ir_ast.specs.declared.types.Width.TheVariants.{W64}
use Rattle.perm_table.specs.declared.Guard.TheVariants.{Free, Strong}
use Rattle.perm_table.specs.declared.Perm.TheVariants.{Frozen}
use Rattle.perm_table.specs.declared.RetagKind.TheVariants.{Mut}
use Rattle.eager_tree.specs.declared.violation.Violation.TheVariants.{Denied}
use Rattle.runs.specs.Objects.{objects}
use Rattle.runs.specs.Replay.{Progress, IsReplay}
use Rattle.runs.specs.ReplayLaw.{first_progress}
use Rattle.history.specs.Objects.{clean}
use Rattle.source_sem.specs.Source.{source}
use Rattle.source_sem.specs.Starting.{setting_of, main_of, main_start}
use Rattle.source_sem.specs.Traces.{named, no_result, gives, ptr_param, mut_param, reg, number, def, does, block, function, ret_void, ret_of, prov, alloc, tag}
use Rattle.source_sem.specs.Records.{no_hosts, allowed}

abbrev pub limits : Limits
limits = record { steps = 1000; turns = 1000; allocs = 100 }

-- the program without input has a replay by this schedule within these limits, in which these are the steps, the counters at
-- the end, and the ends of the threads
pub record ReplaysAs (program : Program) (limits : Limits) (schedule : List ℕ) (steps : List Entry) (words : Counters) (ends : List End) : Type 0 where
  pub last : Progress (source (setting_of program [] no_hosts)) objects
  pub replay : IsReplay (source (setting_of program [] no_hosts)) objects (allowed limits no_hosts) limits schedule (first_progress (source (setting_of program [] no_hosts)) objects (main_of program) (main_start (setting_of program [] no_hosts))) last
  pub merge : last.merge ≡ steps
  pub drawn : last.words ≡ words
  pub ended : map (λ f. f.«end») last.threads ≡ map (λ e. Some e) ends

abbrev pub counters : ℕ → ℕ → ℕ → Counters
counters stamps allocs threads = record { stamps = stamps; allocs = allocs; threads = threads }

abbrev pub returned : End
returned = log_end.Returned 0 None

abbrev pub entry : ℕ → ℕ → ℕ → Option AllocNo → Request → Reply → Entry
entry thread stamp site on request reply = record { thread = record { 0 = thread }; stamp = record { 0 = stamp }; site = site; alloc = on; request = request; reply = reply }

-- A load by another thread, before or after a write through a retagged pointer.
-- func @f(ptr %x) -> void: 0 %v = load i64, %x   1 ret void
-- func @main() -> i64: 2 %x = alloca 8   3 %y = retag mut %x, 8   4 store i64 1, %y   5 %h = spawn @f(ptr %x)   6 store i64 2, %y   7 join void %h   8 ret i64 0
abbrev pub loads : Function
loads = function (102 ∷ []) (ptr_param 120 ∷ []) no_result (block 101 [] (def 118 (op.Load (Int W64) (named 120)) ∷ []) ret_void ∷ [])

abbrev pub writes : Function
writes =
    function (codes "main") [] (gives (Int W64))
    (block 101 []
    (def 120 (op.Make Stack (Num 8))
    ∷ def 121 (op.Retag Mut (named 120) 8)
    ∷ does (op.Store (Int W64) (Num 1) (named 121))
    ∷ def 104 (op.Spawn (named 102) (reg Ptr 120 ∷ []))
    ∷ does (op.Store (Int W64) (Num 2) (named 121))
    ∷ does (op.Join None 0 (named 104))
    ∷ [])
    (ret_of (number 0)) ∷ [])

abbrev pub racing : Program
racing = record { version = 1; functions = loads ∷ writes ∷ []; end = 0 }

abbrev pub made : Entry
made = entry 0 1 2 (Some (alloc 1)) (request.Make 8 Stack) (clean (plain.Made (alloc 1)) (Some (prov 1 1)))

abbrev pub retagged : Entry
retagged = entry 0 2 3 (Some (alloc 1)) (request.Retag 0 8 Mut Free (Some (prov 1 1))) (clean (plain.Retagged true) (Some (prov 1 2)))

abbrev pub stored : Entry
stored = entry 0 3 4 (Some (alloc 1)) (request.Store 0 (Int W64) 1 None (Some (prov 1 2))) (clean plain.Done None)

abbrev pub started : Entry
started = entry 0 4 5 None (request.Spawn 0) (clean (plain.Spawned (record { 0 = 1 })) None)

-- the load is first: it freezes the node through which main then writes
abbrev pub load_first : List Entry
load_first =
    made ∷ retagged ∷ stored ∷ started
    ∷ entry 1 5 0 (Some (alloc 1)) (request.Load 0 (Int W64) (Some (prov 1 1))) (clean (plain.Value 1) None)
    ∷ entry 0 6 6 (Some (alloc 1)) (request.Store 0 (Int W64) 2 None (Some (prov 1 2))) (record { plain = plain.Done; carried = None; verdict = verdict.Violated (Denied 0 (tag 2) Frozen true) })
    ∷ entry 0 7 7 None (request.Join (record { 0 = 1 })) (clean (plain.Value 0) None)
    ∷ entry 0 8 8 (Some (alloc 1)) (request.Free 0 true (Some (prov 1 1))) (record { plain = plain.Done; carried = None; verdict = verdict.Closed })
    ∷ []

-- the write is first, and nothing is violated
abbrev pub write_first : List Entry
write_first =
    made ∷ retagged ∷ stored ∷ started
    ∷ entry 0 5 6 (Some (alloc 1)) (request.Store 0 (Int W64) 2 None (Some (prov 1 2))) (clean plain.Done None)
    ∷ entry 1 6 0 (Some (alloc 1)) (request.Load 0 (Int W64) (Some (prov 1 1))) (clean (plain.Value 2) None)
    ∷ entry 0 7 7 None (request.Join (record { 0 = 1 })) (clean (plain.Value 0) None)
    ∷ entry 0 8 8 (Some (alloc 1)) (request.Free 0 true (Some (prov 1 1))) (clean plain.Done None)
    ∷ []

-- A thread ends with its last step, before another pick of it: so its joiner needn't wait.
-- func @f(ptr mut(8) %y) -> void: 0 ret void
-- func @g(ptr %x) -> void: 1 %v = load i64, %x   2 ret void
-- func @main() -> i64: 3 %x = malloc 8   4 %h = spawn @f(ptr %x)   5 %k = spawn @g(ptr %x)   6 join void %h   7 ret i64 0
abbrev pub protects : Function
protects = function (102 ∷ []) (mut_param 121 8 ∷ []) no_result (block 101 [] [] ret_void ∷ [])

abbrev pub loads_too : Function
loads_too = function (103 ∷ []) (ptr_param 120 ∷ []) no_result (block 101 [] (def 118 (op.Load (Int W64) (named 120)) ∷ []) ret_void ∷ [])

abbrev pub joins_first : Function
joins_first =
    function (codes "main") [] (gives (Int W64))
    (block 101 []
    (def 120 (op.Make Heap (Num 8))
    ∷ def 104 (op.Spawn (named 102) (reg Ptr 120 ∷ []))
    ∷ def 107 (op.Spawn (named 103) (reg Ptr 120 ∷ []))
    ∷ does (op.Join None 0 (named 104))
    ∷ [])
    (ret_of (number 0)) ∷ [])

abbrev pub ending : Program
ending = record { version = 1; functions = protects ∷ loads_too ∷ joins_first ∷ []; end = 0 }

-- step 5 is the last of thread 1, so that thread 0 makes its join in its next pick, as step 6
abbrev pub join_at_once : List Entry
join_at_once =
    entry 0 1 3 (Some (alloc 1)) (request.Make 8 Heap) (clean (plain.Made (alloc 1)) (Some (prov 1 1)))
    ∷ entry 0 2 4 None (request.Spawn 0) (clean (plain.Spawned (record { 0 = 1 })) None)
    ∷ entry 0 3 5 None (request.Spawn 1) (clean (plain.Spawned (record { 0 = 2 })) None)
    ∷ entry 1 4 0 (Some (alloc 1)) (request.Retag 0 8 Mut Strong (Some (prov 1 1))) (clean (plain.Retagged true) (Some (prov 1 4)))
    ∷ entry 1 5 0 (Some (alloc 1)) (request.EndProtector (tag 4)) (clean plain.Done None)
    ∷ entry 0 6 6 None (request.Join (record { 0 = 1 })) (clean (plain.Value 0) None)
    ∷ entry 2 7 1 (Some (alloc 1)) (request.Load 0 (Int W64) (Some (prov 1 1))) (clean (plain.Value 0) None)
    ∷ entry 0 8 7 None (request.Join (record { 0 = 2 })) (clean (plain.Value 0) None)
    ∷ []

-- A step limit at a Spawn, by no schedule and at most one step. The spawn draws its thread number first, which is 1, and then its
-- stamp: that is 2, above the limit, and ends main. So no thread is started, and both numbers stay drawn: the counters stand at
-- stamp 2, allocation 1 and thread 1.
-- func @f() -> void: 0 ret void
-- func @main() -> i64: 1 %x = malloc 8   2 %h = spawn @f()   3 ret i64 0
abbrev pub idles : Function
idles = function (102 ∷ []) [] no_result (block 101 [] [] ret_void ∷ [])

abbrev pub spawns_late : Function
spawns_late = function (codes "main") [] (gives (Int W64)) (block 101 [] (def 120 (op.Make Heap (Num 8)) ∷ def 104 (op.Spawn (named 102) []) ∷ []) (ret_of (number 0)) ∷ [])

abbrev pub limiting : Program
limiting = record { version = 1; functions = idles ∷ spawns_late ∷ []; end = 0 }

abbrev pub one_step : Limits
one_step = record { steps = 1; turns = 1000; allocs = 100 }

abbrev pub made_alone : List Entry
made_alone = entry 0 1 1 (Some (alloc 1)) (request.Make 8 Heap) (clean (plain.Made (alloc 1)) (Some (prov 1 1))) ∷ []

abbrev pub limit_reached : End
limit_reached = log_end.StepLimit (record { 0 = 2 })

-- A child that ended early is joined. The fourth pick of main is passed over, since main waits for thread 1. That traps with its
-- load of freed memory, which is step 4 and its last. Main then ends with ChildEnded in place of its join, for which it draws no
-- stamp: the counters stand at stamp 4, allocation 1 and thread 1.
-- func @f(ptr %x) -> void: 0 %v = load i64, %x   1 ret void
-- func @main() -> i64: 2 %x = malloc 8   3 free %x   4 %h = spawn @f(ptr %x)   5 join void %h   6 ret i64 0
abbrev pub joins_stopped : Function
joins_stopped =
    function (codes "main") [] (gives (Int W64))
    (block 101 []
    (def 120 (op.Make Heap (Num 8))
    ∷ does (op.Free (named 120))
    ∷ def 104 (op.Spawn (named 102) (reg Ptr 120 ∷ []))
    ∷ does (op.Join None 0 (named 104))
    ∷ [])
    (ret_of (number 0)) ∷ [])

abbrev pub stopping : Program
stopping = record { version = 1; functions = loads ∷ joins_stopped ∷ []; end = 0 }

abbrev pub load_freed : List Entry
load_freed =
    entry 0 1 2 (Some (alloc 1)) (request.Make 8 Heap) (clean (plain.Made (alloc 1)) (Some (prov 1 1)))
    ∷ entry 0 2 3 (Some (alloc 1)) (request.Free 0 false (Some (prov 1 1))) (clean plain.Done None)
    ∷ entry 0 3 4 None (request.Spawn 0) (clean (plain.Spawned (record { 0 = 1 })) None)
    ∷ entry 1 4 0 (Some (alloc 1)) (request.Load 0 (Int W64) (Some (prov 1 1))) (clean (plain.Trapped trap.Freed) None)
    ∷ []

abbrev pub child_stopped : End
child_stopped = log_end.ChildEnded (record { 0 = 1 })

abbrev pub freed_trap : End
freed_trap = log_end.Trapped trap.Freed

pub record ReplaysByExample : Type 0 where
  pub load_first : ReplaysAs racing limits (0 ∷ 0 ∷ 0 ∷ 0 ∷ 1 ∷ 0 ∷ []) load_first (counters 8 1 1) (returned ∷ returned ∷ [])
  pub write_first : ReplaysAs racing limits (0 ∷ 0 ∷ 0 ∷ 0 ∷ 0 ∷ 1 ∷ []) write_first (counters 8 1 1) (returned ∷ returned ∷ [])
  pub ended_at_once : ReplaysAs ending limits (0 ∷ 0 ∷ 0 ∷ 1 ∷ 1 ∷ 0 ∷ 2 ∷ []) join_at_once (counters 8 1 2) (returned ∷ returned ∷ returned ∷ [])
  pub limited_spawn : ReplaysAs limiting one_step [] made_alone (counters 2 1 1) (limit_reached ∷ [])
  pub stopped_child : ReplaysAs stopping limits (0 ∷ 0 ∷ 0 ∷ 0 ∷ []) load_freed (counters 4 1 1) (child_stopped ∷ freed_trap ∷ [])
