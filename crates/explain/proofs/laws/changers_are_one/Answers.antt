use Rattle.explain.proofs.Single.{changers_one}
use Rattle.explain.proofs.laws.changers_are_one.Goals as goal

pub returns : goal.returns
returns c = changers_one
