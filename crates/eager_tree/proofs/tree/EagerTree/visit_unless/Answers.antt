use Rattle.eager_tree.proofs.Trees.{visited_back}
use Rattle.eager_tree.proofs.tree.EagerTree.visit_unless.Goals as goal

pub invariant_of-self : goal.invariant_of-self
invariant_of-self c =
    record { tree = visited_back c.args.sweep c.args.tag c.self.inside.size c.self.inside.nodes.len c.self.inside.nodes.items c.deref_mut.result.now c.apply.new.nodes c.self.invariant.tree c.deref_mut.ensures.value c.deref_mut.ensures.len c.apply.ensures; room = c.self.invariant.room }
