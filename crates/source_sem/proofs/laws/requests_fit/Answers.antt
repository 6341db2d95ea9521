use Rattle.source_sem.proofs.RequestLaws.{requests_fit}
use Rattle.source_sem.proofs.TrapLaws.{traps_are_own}
use Rattle.source_sem.proofs.laws.requests_fit.Goals as goal

pub returns-clause-requests : goal.returns-clause-requests
returns-clause-requests c = requests_fit

pub returns-clause-traps : goal.returns-clause-traps
returns-clause-traps c = traps_are_own
