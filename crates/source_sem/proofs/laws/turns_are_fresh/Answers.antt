use Rattle.source_sem.proofs.Fresh.{turns_are_fresh}
use Rattle.source_sem.proofs.Stepping.{instructions_count}
use Rattle.source_sem.proofs.laws.turns_are_fresh.Goals as goal

pub returns-clause-fresh : goal.returns-clause-fresh
returns-clause-fresh c = turns_are_fresh

pub returns-clause-counts : goal.returns-clause-counts
returns-clause-counts c = instructions_count
