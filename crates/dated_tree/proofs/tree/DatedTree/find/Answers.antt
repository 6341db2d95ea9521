use Rattle.std.proofs.Common.{◌≡◌, ◌<◌, ◌≤◌, ◌-◌, suc, length, ap, sym, subst, ◌∙◌, arith, inl, inr}
use Rattle.std.proofs.lemmas.List.{get_or_default}
use Rattle.std.proofs.lemmas.Bool.{cases_eq}
use Rattle.dated_tree.specs.declared.node.Node.{Node}
use Rattle.bsan_ids.specs.declared.numbers.Tag.{Tag}
use Rattle.dated_tree.specs.Shape.{Shape, no_node}
use Rattle.dated_tree.specs.Eager.{tag_at}
use Rattle.dated_tree.specs.Stored.{shape_of}
use Rattle.dated_tree.proofs.Finding.{nth, not-found}
use Rattle.dated_tree.proofs.StoredLemmas.{rising-nodes, tag-suc}
use Rattle.dated_tree.proofs.tree.DatedTree.find.Goals.{else-at-len-via-then-at-len+else-index-tag, else-at-len-via-else-at-len}
use Rattle.dated_tree.proofs.tree.DatedTree.find.Goals as goal

pub first_from-at-requires : goal.first_from-at-requires
first_from-at-requires c = rw c.deref.ensures.value (rising-nodes (shape_of c.self.inside) c.self.invariant)

none_here : (c : goal.Joined-else-at-len) → c.first_from-at.result < length c.self.inside.nodes.items → (nth c.self.inside.nodes.items c.first_from-at.result).tag.0 ≡ c.args.tag.0 → ⊥
none_here c lt e = elim c.else-at-len.branch [
  | else-at-len-via-then-at-len+else-index-tag w ↦ w.if-index-tag.false (ap (λ (n : Node). n.tag.0) (w.index.ensures ∙ get_or_default c.self.inside.nodes.items c.first_from-at.result w.index.result.now no_node lt) ∙ e)
  | else-at-len-via-else-at-len w ↦ absurd (omega (arith, lt, w.if-at-len.false, c.len.ensures, c.self.inside.nodes.ok.0))
]

pub returns-else-at-len-clause-none : goal.returns-else-at-len-clause-none
returns-else-at-len-clause-none c = λ none place le e.
    let t : Shape = shape_of c.self.inside in
    let stored : place ≤ length t.nodes = rw (← c.self.view_is) at le in
    let same : tag_at t place ≡ c.args.tag = rw (← c.self.view_is) at e in
    elim (cases_eq place 0) [
      | inl top ↦ c.if-self-tag.false (ap (λ (n : Tag). n.0) (subst (λ k. tag_at t k ≡ c.args.tag) top same))
      | inr other ↦
          let k : place ≡ suc (place - 1) = omega (arith, other) in
          not-found t.nodes c.args.tag c.first_from-at.result (place - 1) (rising-nodes t c.self.invariant) (rw c.deref.ensures.value at c.first_from-at.ensures.below) (rw c.deref.ensures.value at c.first_from-at.ensures.above) (none_here c) (omega (arith, stored, other))
          (ap (λ (n : Tag). n.0) (sym (tag-suc t (place - 1)) ∙ ap (λ i. tag_at t i) (sym k) ∙ same))
    ]
