use Rattle.dated_tree.proofs.WholeLemmas.{access-done}
use Rattle.dated_tree.proofs.access_laws.accesses_are_the_eager_trees.Goals as goal

pub returns : goal.returns
returns c = access-done
