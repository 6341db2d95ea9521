use Rattle.dated_ends.proofs.WholeLemmas.{end-noted}
use Rattle.dated_ends.proofs.laws.noted_ends_are_the_eager_trees.Goals as goal

pub returns : goal.returns
returns c = end-noted
