use Rattle.source_runs.proofs.Erasing.{erasure_is_a_run, right_records_erase}
use Rattle.source_runs.proofs.SiblingRuns.{erased_run}
use Rattle.source_runs.proofs.laws.erasures_are_runs.Goals as goal

pub returns-clause-runs : goal.returns-clause-runs
returns-clause-runs c = erasure_is_a_run

pub returns-clause-records : goal.returns-clause-records
returns-clause-records c = right_records_erase

pub returns-clause-example : goal.returns-clause-example
returns-clause-example c = erased_run
