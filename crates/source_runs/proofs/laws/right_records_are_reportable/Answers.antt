use Rattle.source_runs.proofs.Reporting.{right_records_are_reportable}
use Rattle.source_runs.proofs.laws.right_records_are_reportable.Goals as goal

pub returns : goal.returns
returns c = right_records_are_reportable
