use Rattle.std.proofs.Common.{Some, refl, ap, ◌∙◌, sym, length, subst, All, IsTrue, ◌<◌}
use Rattle.perm_table.specs.declared.Kind.TheVariants.{Read}
use Rattle.eager_tree.specs.declared.node.Node.{Node}
use Rattle.eager_tree.specs.declared.sweep.Sweep.TheVariants.{Access}
use Rattle.eager_tree.specs.Tree.{is_node}
use Rattle.eager_tree.specs.Roomy.{Roomy}
use Rattle.eager_tree.proofs.Trees.{grown, length-new_cells}
use Rattle.eager_tree.proofs.tree.EagerTree.retag_reserved.Goals as goal

pub invariant_of-self : goal.invariant_of-self
invariant_of-self c =
    let size = c.self.inside.size in
    let known = subst (λ (t : Roomy). IsTrue (is_node t.tree c.args.parent)) (sym c.self.view_is) c.requires.node in
    let newest = subst (λ (t : Roomy). All (λ (n : Node). n.tag.0 < c.args.tag.0) t.tree.nodes) (sym c.self.view_is) c.requires.newest in
    record {
      tree = grown (Access c.args.span Read) c.args.parent size c.self.inside.nodes.items c.add_child.new.nodes.items
          (record { tag = c.args.tag; parent = Some c.args.parent; guard = c.args.guard; cells = c.fill.new.cells })
          c.self.invariant.tree
          (rw c.child-child.ensures at c.add_child.ensures.items) refl (ap length c.fill.ensures ∙ length-new_cells _ _ 0 _)
          known newest;
      room = rw c.take.ensures.after tt;
    }
