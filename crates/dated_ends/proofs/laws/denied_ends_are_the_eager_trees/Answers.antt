use Rattle.dated_ends.proofs.WholeLemmas.{end-denied}
use Rattle.dated_ends.proofs.laws.denied_ends_are_the_eager_trees.Goals as goal

pub returns : goal.returns
returns c = end-denied
