use Rattle.source_runs.proofs.TwoRecords.{met, needed}
use Rattle.source_runs.proofs.laws.two_threads_by_example.Goals as goal

pub returns-clause-met : goal.returns-clause-met
returns-clause-met c = met

pub returns-clause-needed : goal.returns-clause-needed
returns-clause-needed c = needed
