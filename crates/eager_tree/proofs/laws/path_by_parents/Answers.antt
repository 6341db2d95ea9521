use Rattle.eager_tree.proofs.Paths.{path-by_parents}
use Rattle.eager_tree.proofs.laws.path_by_parents.Goals as goal

pub returns : goal.returns
returns c = path-by_parents
