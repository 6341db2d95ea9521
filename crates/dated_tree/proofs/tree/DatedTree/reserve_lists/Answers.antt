use Rattle.std.proofs.Common.{refl}
use Rattle.dated_tree.specs.Stored.{shape_of}
use Rattle.dated_tree.proofs.StoredLemmas.{stored-same}
use Rattle.dated_tree.proofs.tree.DatedTree.reserve_lists.Goals as goal

pub invariant_of-self-in_err-reserve-2 : goal.invariant_of-self-in_err-reserve-2
invariant_of-self-in_err-reserve-2 c = stored-same (shape_of c.self.inside) _ c.self.invariant refl refl refl refl c.reserve.ensures.items c.reserve-2.ensures.items c.self.invariant.made

pub invariant_of-self-2 : goal.invariant_of-self-2
invariant_of-self-2 c = stored-same (shape_of c.self.inside) _ c.self.invariant refl refl refl refl c.reserve.ensures.items c.reserve-2.ensures.items c.self.invariant.made
