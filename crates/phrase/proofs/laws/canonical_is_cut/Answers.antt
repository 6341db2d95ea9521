use Rattle.phrase.proofs.Cut.{canonical_is_cut}
use Rattle.phrase.proofs.laws.canonical_is_cut.Goals as goal

pub returns : goal.returns
returns c = canonical_is_cut
