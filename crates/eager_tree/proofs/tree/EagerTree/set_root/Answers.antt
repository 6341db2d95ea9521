use Rattle.std.proofs.Common.{◌≡◌, ap, sym, subst, length, List}
use Rattle.eager_tree.specs.declared.node.Node.{Node}
use Rattle.eager_tree.specs.Tree.{IsTree, with_root}
use Rattle.eager_tree.specs.Roomy.{Roomy}
use Rattle.eager_tree.proofs.Trees.{IsTree-retagged, set-retagged}
use Rattle.eager_tree.proofs.tree.EagerTree.set_root.Goals as goal

pub invariant_of-self : goal.invariant_of-self
invariant_of-self c =
    let items = c.self.inside.nodes.items in
    let one : length items ≡ 1 = subst (λ (t : Roomy). length t.tree.nodes ≡ 1) (sym c.self.view_is) c.requires.alone in
    record {
      tree = subst (λ (ns : List Node). IsTree (record { size = c.self.inside.size; nodes = ns })) (sym (set-retagged items c.args.root c.index_mut.result.now one c.index_mut.ensures.value))
          (IsTree-retagged c.self.inside.size items c.args.root c.self.invariant.tree one);
      room = c.self.invariant.room;
    }

pub returns : goal.returns
returns c =
    let items = c.self.inside.nodes.items in
    let one : length items ≡ 1 = subst (λ (t : Roomy). length t.tree.nodes ≡ 1) (sym c.self.view_is) c.requires.alone in
    rw (set-retagged items c.args.root c.index_mut.result.now one c.index_mut.ensures.value) (ap (λ (t : Roomy). record t { tree = with_root c.args.root t.tree }) c.self.view_is)
