use Rattle.dated_nodes.proofs.AddedLemmas.{tree-added}
use Rattle.dated_nodes.proofs.laws.new_nodes_are_the_eager_trees.Goals as goal

pub returns : goal.returns
returns c = tree-added
