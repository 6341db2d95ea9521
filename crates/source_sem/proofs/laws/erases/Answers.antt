use Rattle.source_sem.proofs.Ending.{erases}
use Rattle.source_sem.proofs.laws.erases.Goals as goal

pub returns : goal.returns
returns c = erases
