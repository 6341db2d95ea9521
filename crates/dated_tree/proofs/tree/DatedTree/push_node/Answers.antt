use Rattle.std.proofs.Common.{refl}
use Rattle.dated_tree.specs.Stored.{shape_of}
use Rattle.dated_tree.proofs.StoredLemmas.{stored-push}
use Rattle.dated_tree.proofs.tree.DatedTree.push_node.Goals as goal

pub invariant_of-self : goal.invariant_of-self
invariant_of-self c =
    stored-push (shape_of c.self.inside) _ c.args.node c.self.invariant (rw (← c.self.view_is) at c.requires.parent) (rw (← c.self.view_is) at c.requires.known) (rw (← c.self.view_is) at c.requires.newest) (rw (← c.self.view_is) at c.requires.sized)
    refl refl refl refl refl refl c.push_reserved.ensures.items
