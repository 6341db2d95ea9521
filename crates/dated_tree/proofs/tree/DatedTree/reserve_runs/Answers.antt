use Rattle.std.proofs.Common.{◌≤◌, ◌-◌, length, ap, arith}
use Rattle.dated_tree.specs.Stored.{shape_of}
use Rattle.dated_tree.proofs.StoredLemmas.{stored-put}
use Rattle.dated_tree.proofs.tree.DatedTree.reserve_runs.Goals as goal

pub invariant_of-self : goal.invariant_of-self
invariant_of-self c =
    let stored : c.args.place ≤ length c.self.inside.nodes.items = rw (← c.self.view_is) at c.requires.stored in
    stored-put (shape_of c.self.inside) (c.args.place - 1) c.self.inside.visits c.index_mut-changed.result.now c.reserve.new.self c.self.invariant (omega (arith, stored, c.requires.some)) c.index_mut-changed.ensures.value (ap length c.reserve.ensures.bytes)
