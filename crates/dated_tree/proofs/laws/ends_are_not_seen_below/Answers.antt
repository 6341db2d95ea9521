use Rattle.dated_tree.proofs.EndedLemmas.{seen-ended}
use Rattle.dated_tree.proofs.laws.ends_are_not_seen_below.Goals as goal

pub returns : goal.returns
returns c = seen-ended
