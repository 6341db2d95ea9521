use Rattle.std.proofs.Common.{◌≤◌, ◌-◌, length, arith}
use Rattle.dated_tree.specs.Stored.{shape_of}
use Rattle.dated_tree.proofs.StoredLemmas.{stored-marked}
use Rattle.dated_tree.proofs.tree.DatedTree.mark_parent.Goals as goal

pub invariant_of-self : goal.invariant_of-self
invariant_of-self c =
    let stored : c.args.place ≤ length c.self.inside.nodes.items = rw (← c.self.view_is) at c.requires in
    stored-marked (shape_of c.self.inside) (c.args.place - 1) c.index_mut.result.now c.self.invariant (omega (arith, stored, c.if-place-gt0.true)) c.index_mut.ensures.value
