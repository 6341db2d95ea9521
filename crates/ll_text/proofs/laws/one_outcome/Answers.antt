use Rattle.ll_text.proofs.Unique.{some_outcome, one_outcome}
use Rattle.ll_text.proofs.laws.one_outcome.Goals as goal

pub returns-clause-some : goal.returns-clause-some
returns-clause-some c = some_outcome

pub returns-clause-only : goal.returns-clause-only
returns-clause-only c = one_outcome
