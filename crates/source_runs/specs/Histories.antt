-- The allocation logs of a right record are legal histories.
use Rattle.std.specs.Prelude.{ℕ, ◌<◌, ◌≤◌}
use Rattle.bsan_ids.specs.declared.numbers.Limits.{Limits}
use Rattle.history.specs.Histories.{IsHistory}
use Rattle.ir_ast.specs.declared.hosts.HostTable.{HostTable}
use Rattle.history.specs.declared.record.RunRecord.{RunRecord}
use Rattle.runs.specs.Objects.{objects}
use Rattle.runs.specs.Right.{IsRight, history_of}
use Rattle.source_sem.specs.Source.{Setting, source}
use Rattle.source_sem.specs.Starting.{main_of, main_start}
use Rattle.source_sem.specs.Records.{allowed}

-- their stamps rise, they name their number, their requests fit, they make it once, and each reply is its answer
abbrev pub HistoriesAreLegal : Type 0
HistoriesAreLegal =
    (x : Setting) (limits : Limits) (hosts : HostTable) (kept : RunRecord) → IsRight (source x) objects (allowed limits hosts) limits (main_of x.program) (main_start x) kept
    → (a : ℕ) → 0 < a → a ≤ limits.allocs → IsHistory a (history_of kept.allocs a)
