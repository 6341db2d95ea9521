use Rattle.std.proofs.Common.{rules}
use Rattle.eager_tree.proofs.tree.EagerTree.denial_of_free.Goals as goal

pub returns-in-None : goal.returns-in-None
returns-in-None c = search rules
