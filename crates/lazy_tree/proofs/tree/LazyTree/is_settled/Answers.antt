use Rattle.std.proofs.lemmas.List.Elements.{All-contains}
use Rattle.lazy_tree.specs.declared.tree.Settled.{Settled}
use Rattle.lazy_tree.specs.Shape.{shape_of}
use Rattle.lazy_tree.specs.Settled.{IsSettled, bare}
use Rattle.lazy_tree.proofs.Settling.{bare-settled}
use Rattle.lazy_tree.proofs.tree.LazyTree.is_settled.Goals as goal

pub returns-then-known-clause-settled : goal.returns-then-known-clause-settled
returns-then-known-clause-settled c = λ yes.
    let s = c.self.inside in
    let here : IsSettled (bare s.root s.size s.nodes.items) c.args.tag c.args.span c.args.kind =
    All-contains (λ (k : Settled). IsSettled (bare s.root s.size s.nodes.items) k.tag k.span k.kind) s.settled.items (record { tag = c.args.tag; span = c.args.span; kind = c.args.kind }) c.self.invariant.settled.each
    (rw c.deref.ensures.value at (c.is_among-known.ensures yes)) in
    rw (← c.self.view_is) (bare-settled (shape_of s) c.args.tag c.args.span c.args.kind here)
