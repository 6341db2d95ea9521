use Rattle.std.proofs.Common.{◌∙◌, ap, ◌++◌, ◌∷◌, [], List}
use Rattle.eager_tree.specs.declared.node.Node.{Node}
use Rattle.eager_tree.proofs.Trees.{visited_items}
use Rattle.eager_tree.proofs.tree.add_child.Goals as goal

pub returns-clause-items : goal.returns-clause-items
returns-clause-items c =
    c.push_reserved.ensures.items
    ∙ ap (λ (ns : List Node). ns ++ c.args.child ∷ []) (visited_items c.args.sweep c.args.parent _ c.args.nodes.now.items c.deref_mut.result.now c.apply.new.nodes c.deref_mut.ensures.value c.deref_mut.ensures.len c.apply.ensures)
