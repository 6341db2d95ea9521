use Rattle.dated_ends.proofs.GuardLemmas.{guard-gone-tree}
use Rattle.dated_ends.proofs.laws.guards_go.Goals as goal

pub returns : goal.returns
returns c = guard-gone-tree
