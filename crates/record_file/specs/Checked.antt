-- What is answered of a record: that it is right, or the first of its parts that is not.
use Rattle.std.specs.Prelude.{ℕ, List}
use Rattle.bsan_ids.specs.declared.numbers.Limits.{Limits}
use Rattle.history.specs.declared.record.RunRecord.{RunRecord}
use Rattle.ir_ast.specs.declared.hosts.HostTable.{HostTable}
use Rattle.ir_ast.specs.declared.program.Program.{Program}
use Rattle.runs.specs.Merge.{merged}
use Rattle.runs.specs.Objects.{objects}
use Rattle.runs.specs.Right.{HasCounts, HasHistories, HasThreads, MergesToRun}
use Rattle.source_sem.specs.Records.{allowed, IsRightRecord}
use Rattle.source_sem.specs.Source.{source}
use Rattle.source_sem.specs.Starting.{main_of, main_start, setting_of}
use Rattle.record_file.specs.AsWritten.{HasRunsAsWritten, StampsRise}
use Rattle.record_file.specs.declared.clauses.Checked.{Checked}
use Rattle.record_file.specs.declared.clauses.Checked.TheVariants.{Holds, Fails}
use Rattle.record_file.specs.declared.clauses.Clause.TheVariants.{A, B, C, D, F}

module _ (program : Program) (input : List ℕ) (hosts : HostTable) (limits : Limits) (kept : RunRecord) where
  -- the threads started each other
  abbrev pub ThreadsHold : Type 0
  ThreadsHold = HasThreads (main_of program) kept.threads

  -- each log is a run of its thread, as it is written
  abbrev pub RunsHold : Type 0
  RunsHold = HasRunsAsWritten (source (setting_of program input hosts)) limits (main_start (setting_of program input hosts)) kept.threads

  -- stamps rise along each log, and the merge is an interleaving run
  abbrev pub MergeHolds : Type 0
  MergeHolds = StampsRise kept.threads × MergesToRun (source (setting_of program input hosts)) objects (allowed limits hosts) limits (main_start (setting_of program input hosts)) (merged kept.threads)

  -- the allocation logs are the histories
  abbrev pub HistoriesHold : Type 0
  HistoriesHold = HasHistories objects limits kept.threads kept.allocs

  -- the counters are those of the logs
  abbrev pub CountersHold : Type 0
  CountersHold = (r : RunsHold) × HasCounts (source (setting_of program input hosts)) limits r.starts kept.threads kept.words

  -- the record is right; or this clause is broken, and those before it are not
  abbrev pub IsAnswer : Checked → Type 0
  IsAnswer Holds = IsRightRecord program input hosts limits kept
  IsAnswer (Fails A) = ThreadsHold → ⊥
  IsAnswer (Fails B) = ThreadsHold × (RunsHold → ⊥)
  IsAnswer (Fails C) = ThreadsHold × RunsHold × (MergeHolds → ⊥)
  IsAnswer (Fails D) = ThreadsHold × RunsHold × MergeHolds × (HistoriesHold → ⊥)
  IsAnswer (Fails F) = ThreadsHold × RunsHold × MergeHolds × HistoriesHold × (CountersHold → ⊥)
