use Rattle.std.proofs.Common.{◌≤◌, ◌-◌, length, arith}
use Rattle.dated_tree.specs.Stored.{shape_of}
use Rattle.dated_tree.proofs.StoredLemmas.{stored-put}
use Rattle.dated_tree.proofs.tree.DatedTree.put.Goals as goal

pub invariant_of-self : goal.invariant_of-self
invariant_of-self c =
    let stored : c.args.place ≤ length c.self.inside.nodes.items = rw (← c.self.view_is) at c.requires.stored in
    stored-put (shape_of c.self.inside) (c.args.place - 1) _ c.index_mut-changed.result.now c.set_run.new.self c.self.invariant (omega (arith, stored, c.requires.some)) c.index_mut-changed.ensures.value c.set_run.ensures.size
