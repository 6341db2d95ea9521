use Rattle.dated_tree.proofs.WholeLemmas.{access-refused}
use Rattle.dated_tree.proofs.access_laws.denials_are_the_eager_trees.Goals as goal

pub returns : goal.returns
returns c = access-refused
