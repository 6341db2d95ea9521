use Rattle.std.proofs.Common.{◌≤◌, ◌-◌, length, refl, arith}
use Rattle.dated_tree.specs.Stored.{shape_of}
use Rattle.dated_tree.proofs.StoredLemmas.{stored-set}
use Rattle.dated_tree.proofs.tree.DatedTree.note.Goals as goal

pub invariant_of-self : goal.invariant_of-self
invariant_of-self c =
    let stored : c.args.place ≤ length c.self.inside.nodes.items = rw (← c.self.view_is) at c.requires.stored in
    stored-set (shape_of c.self.inside) (c.args.place - 1) c.index_mut-noted.result.now _ c.self.invariant (omega (arith, stored, c.requires.some)) c.index_mut-noted.ensures.value
    (record { tag = refl; parent = refl; child = refl; sized = refl }) _ refl refl refl refl refl c.self.invariant.guarded c.self.invariant.made
