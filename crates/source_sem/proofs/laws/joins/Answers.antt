use Rattle.source_sem.proofs.JoinSteps.{join_law}
use Rattle.source_sem.proofs.Loopings.{program_joins}
use Rattle.source_sem.proofs.laws.joins.Goals as goal

pub returns-clause-law : goal.returns-clause-law
returns-clause-law c = join_law

pub returns-clause-example : goal.returns-clause-example
returns-clause-example c = program_joins
