use Rattle.dated_tree.proofs.PathLemmas.{path-places}
use Rattle.dated_tree.proofs.access_laws.paths_by_places.Goals as goal

pub returns : goal.returns
returns c = path-places
