-- A right record is one of which a report can be made.
use Rattle.std.specs.Prelude.{ℕ, List}
use Rattle.bsan_ids.specs.declared.numbers.Limits.{Limits}
use Rattle.ir_ast.specs.declared.hosts.HostTable.{HostTable}
use Rattle.ir_ast.specs.declared.program.Program.{Program}
use Rattle.report.specs.Report.{IsReportable}
use Rattle.history.specs.declared.record.RunRecord.{RunRecord}
use Rattle.source_sem.specs.Records.{IsRightFor}

-- no stamp stands twice in it, and each violation can be described
abbrev pub RightRecordsAreReportable : Type 0
RightRecordsAreReportable = (program : Program) (input : List ℕ) (hosts : HostTable) (limits : Limits) (kept : RunRecord) → IsRightFor program input hosts limits kept → IsReportable kept
