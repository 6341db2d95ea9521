use Rattle.std.proofs.Common.{take, drop, length, ◌++◌}
use Rattle.eager_tree.specs.declared.sweep.Sweep.TheVariants.{EndProtector}
use Rattle.eager_tree.proofs.Trees.{visited_back, freed_back}
use Rattle.eager_tree.proofs.tree.EagerTree.end_protector.Goals as goal

pub invariant_of-self : goal.invariant_of-self
invariant_of-self c =
    let items = c.self.inside.nodes.items in
    let new = c.apply.new.nodes in
    let later = c.deref_mut-then-is_none in
    record {
      tree = freed_back c.args.tag c.self.inside.size c.self.inside.nodes.len (take c.self.inside.nodes.len (new ++ drop (length new) items)) later.result.now c.free_guard.new.nodes
          (visited_back EndProtector c.args.tag c.self.inside.size c.self.inside.nodes.len items c.deref_mut.result.now new c.self.invariant.tree c.deref_mut.ensures.value c.deref_mut.ensures.len c.apply.ensures)
          later.ensures.value later.ensures.len c.free_guard.ensures;
      room = c.self.invariant.room;
    }
