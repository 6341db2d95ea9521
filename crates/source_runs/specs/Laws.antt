-- What holds of all runs of source threads over allocations.
use Rattle.std.specs.Prelude.{◌≡◌, ℕ, List, ◌++◌, nat_eq, IsPermutation}
use Rattle.std.specs.List.{IsDistinct}
use Rattle.bsan_ids.specs.declared.numbers.Counters.{Counters}
use Rattle.history.specs.declared.entry.Entry.{Entry}
use Rattle.bsan_ids.specs.declared.numbers.Limits.{Limits}
use Rattle.ir_ast.specs.declared.hosts.HostTable.{HostTable}
use Rattle.ir_ast.specs.declared.program.Program.{Program}
use Rattle.history.specs.declared.log.AllocLog.{AllocLog}
use Rattle.history.specs.declared.log.ThreadLog.{ThreadLog}
use Rattle.history.specs.declared.record.RunRecord.{RunRecord}
use Rattle.runs.specs.Parts.{Has}
use Rattle.runs.specs.Interleaving.{World, Interleaves}
use Rattle.runs.specs.Objects.{objects}
use Rattle.runs.specs.Replay.{Progress, IsReplay}
use Rattle.runs.specs.ReplayLaw.{first_progress, record_of, FitsAlways}
use Rattle.runs.specs.Right.{HasRuns, NumbersRiseFrom, IsRight}
use Rattle.runs.specs.Theorem.{LogsMakeOneRun, PromisesMakeOneRun}
use Rattle.runs.specs.Tree.{numbers_of, IsWholeRun}
use Rattle.runs.specs.Threads.{StandsOnce}
use Rattle.source_sem.specs.Source.{Setting, Source, source}
use Rattle.source_sem.specs.Starting.{setting_of, main_of, main_start}
use Rattle.source_sem.specs.Records.{allowed, IsRightRecord}

-- entries whose parts are runs of the threads and legal histories of the allocations are one run
abbrev pub LogsAreOneRun : Type 0
LogsAreOneRun = (x : Setting) (limits : Limits) (hosts : HostTable) → LogsMakeOneRun (source x) objects (allowed limits hosts)

-- what threads and desks promise of a record's logs makes the merge one run
abbrev pub PromisesAreOneRun : Type 0
PromisesAreOneRun = (x : Setting) (limits : Limits) (hosts : HostTable) → PromisesMakeOneRun (source x) objects (allowed limits hosts)

-- each beginning of a run is a run
abbrev pub BeginningsAreRuns : Type 0
BeginningsAreRuns = (x : Setting) (limits : Limits) (hosts : HostTable) (w : World (source x) objects) (es more : List Entry)
    → Interleaves (source x) objects (allowed limits hosts) w (es ++ more) → Interleaves (source x) objects (allowed limits hosts) w es

-- where each thread is always given a reply that fits, a replay leaves a right record, its erasure aside
abbrev pub ReplaysAreRight : Type 0
ReplaysAreRight =
    (x : Setting) (limits : Limits) (hosts : HostTable) (schedule : List ℕ) (last : Progress (source x) objects)
    → FitsAlways (source x) objects (allowed limits hosts) (main_start x)
    → IsReplay (source x) objects (allowed limits hosts) limits schedule (first_progress (source x) objects (main_of x.program) (main_start x)) last
    → IsRight (source x) objects (allowed limits hosts) limits (main_of x.program) (main_start x) (record_of (source x) objects limits last)

-- a whole run, by its tree of logs, what was drawn in all and the closed logs of allocations: its record, with the logs in the
-- order of their numbers, is right
abbrev pub WholeRunsLeaveRightRecords : Type 0
WholeRunsLeaveRightRecords =
    (program : Program) (input : List ℕ) (hosts : HostTable) (limits : Limits) (logs : List ThreadLog) (kept : RunRecord)
    → IsWholeRun (source (setting_of program input hosts)) objects (allowed limits hosts) limits (main_of program) (main_start (setting_of program input hosts)) logs kept.allocs kept.words
    → IsPermutation logs kept.threads → NumbersRiseFrom 0 kept.threads → IsRightRecord program input hosts limits kept

-- and no two of its logs have one number
abbrev pub ThreadsDiffer : Type 0
ThreadsDiffer =
    (program : Program) (input : List ℕ) (hosts : HostTable) (limits : Limits) (logs : List ThreadLog) (allocs : List AllocLog) (words : Counters)
    → IsWholeRun (source (setting_of program input hosts)) objects (allowed limits hosts) limits (main_of program) (main_start (setting_of program input hosts)) logs allocs words
    → IsDistinct nat_eq (numbers_of logs)

-- a thread's last state is told by its log and its count of instructions, and its first state by the chain of Spawn entries
pub record LogsTellStates : Type 0 where
  pub last : (x : Setting) (limit : ℕ) (starts : ℕ → Source) → StandsOnce (source x) limit starts
  pub first : (x : Setting) (limits : Limits) (main : Source) (logs : List ThreadLog) (r q : HasRuns (source x) limits main logs) (log : ThreadLog) → Has logs log → r.starts log.number.0 ≡ q.starts log.number.0
