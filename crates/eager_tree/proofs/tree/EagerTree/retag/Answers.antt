use Rattle.std.proofs.Common.{Some, refl, ap, ◌∙◌, sym, length, ◌≡◌, subst, List, All, IsTrue, ◌<◌, arith, vec_len, vec_capacity}
use Rattle.perm_table.specs.declared.Kind.TheVariants.{Read}
use Rattle.eager_tree.specs.declared.node.Node.{Node}
use Rattle.eager_tree.specs.declared.sweep.Sweep.TheVariants.{Access}
use Rattle.eager_tree.specs.Tree.{IsTree, is_node, has_tag, links}
use Rattle.eager_tree.specs.Roomy.{Roomy}
use Rattle.eager_tree.proofs.Trees.{grown, length-new_cells, room_kept}
use Rattle.eager_tree.proofs.tree.EagerTree.retag.Goals as goal

pub invariant_of-self-2 : goal.invariant_of-self-2
invariant_of-self-2 c =
    let size = c.self.inside.size in
    let stays : c.reserve.new.self.items ≡ c.self.inside.nodes.items = c.in_ok-reserve.ensures.items in
    let known = subst (λ (t : Roomy). IsTrue (is_node t.tree c.args.parent)) (sym c.self.view_is) c.requires.node in
    let newest = subst (λ (t : Roomy). All (λ (n : Node). n.tag.0 < c.args.tag.0) t.tree.nodes) (sym c.self.view_is) c.requires.newest in
    let roomy : vec_len c.add_child.new.nodes < vec_capacity c.add_child.new.nodes = omega (arith, c.add_child.ensures.len, c.add_child.ensures.capacity, c.in_ok-reserve.ensures.ok) in
    record {
      tree = grown (Access c.args.span Read) c.args.parent size c.reserve.new.self.items c.add_child.new.nodes.items
          (record { tag = c.args.tag; parent = Some c.args.parent; guard = c.args.guard; cells = c.in_ok-cells.cells })
          (subst (λ (ns : List Node). IsTree (record { size = size; nodes = ns })) (sym stays) c.self.invariant.tree)
          (rw c.child-child.ensures at c.add_child.ensures.items) refl (ap length c.in_ok-cells.ensures ∙ length-new_cells _ _ 0 _)
          (subst (λ (ns : List Node). IsTrue (has_tag (links ns) c.args.parent)) (sym stays) known)
          (subst (λ (ns : List Node). All (λ (n : Node). n.tag.0 < c.args.tag.0) ns) (sym stays) newest);
      room = room_kept c.self.inside.ready size (vec_len c.self.inside.nodes < vec_capacity c.self.inside.nodes) (vec_len c.add_child.new.nodes < vec_capacity c.add_child.new.nodes) c.self.invariant.room roomy;
    }
