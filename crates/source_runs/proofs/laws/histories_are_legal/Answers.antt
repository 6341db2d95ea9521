use Rattle.source_runs.proofs.LegalHistories.{histories_are_legal}
use Rattle.source_runs.proofs.laws.histories_are_legal.Goals as goal

pub returns : goal.returns
returns c = histories_are_legal
