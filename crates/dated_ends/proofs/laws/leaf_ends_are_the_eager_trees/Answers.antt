use Rattle.dated_ends.proofs.WholeLemmas.{end-leaf}
use Rattle.dated_ends.proofs.laws.leaf_ends_are_the_eager_trees.Goals as goal

pub returns : goal.returns
returns c = end-leaf
