use Rattle.std.proofs.Common.{◌≡◌, ℕ, true, inl, List, length, Option, Some, None, OnSome, refl, sym, ap, subst, ◌∙◌, arith}
use Rattle.eager_tree.specs.declared.violation.Violation.{Violation}
use Rattle.eager_tree.specs.declared.violation.Violation.TheVariants.{Denied}
use Rattle.eager_tree.specs.Tree.{Tree}
use Rattle.lazy_tree.specs.declared.tree.Node.{Node}
use Rattle.bsan_ids.specs.declared.numbers.Span.{Span}
use Rattle.range_map.specs.Ranges.{has_start}
use Rattle.lazy_tree.specs.Shape.{Shape}
use Rattle.lazy_access.specs.Change.{AddsStarts}
use Rattle.lazy_tree.specs.Skip.{node_at, IsSound}
use Rattle.lazy_tree.specs.Eager.{eager_with}
use Rattle.lazy_access.specs.declared.check.Found.{Found}
use Rattle.lazy_access.specs.Requests.{violation_in}
use Rattle.lazy_access.proofs.Accessing.{access-tie, quiet-after, node-there}
use Rattle.lazy_access.proofs.Joining.{joined-none}
use Rattle.lazy_access.proofs.Ringing.{ring-bound}
use Rattle.lazy_tree.specs.Ring.{pieces}
use Rattle.lazy_access.proofs.accesses.access_at.Goals as goal

-- the violation names the node by the same tag before and after
violation-same : (before after : List Node) (o : Option Found) → ((i : ℕ) → (node_at after i).tag ≡ (node_at before i).tag) → violation_in after o ≡ violation_in before o
violation-same before after None h = refl
violation-same before after (Some f) h = ap (λ t. Some (Denied f.offset t f.perm f.local)) (h f.node)

mid-tags : (before mid : List Node) (size x : ℕ) (o : Option Found) → OnSome o (mid ≡ before) → (o ≡ None → (i : ℕ) → (node_at mid i).tag ≡ (node_at before i).tag) → (i : ℕ) → (node_at mid i).tag ≡ (node_at before i).tag
mid-tags before mid size x None h done i = done refl i
mid-tags before mid size x (Some f) same done i = ap (λ (ns : List Node). (node_at ns i).tag) same

tags_kept : (c : goal.After-violation_of) → (i : ℕ) → (node_at c.visit-found.new.tree.nodes i).tag ≡ (node_at c.args.tree.now.nodes i).tag
tags_kept c i =
    mid-tags c.args.tree.now.nodes c.visit-found.new.tree.nodes c.args.tree.now.size c.args.x c.visit-found.result c.visit-found.ensures.denied (λ none k. (c.visit-found.ensures.done none).links.tag k) i

pub returns-clause-tags : goal.returns-clause-tags
returns-clause-tags c = tags_kept c

count-mid : (before mid : List Node) (o : Option Found) → OnSome o (mid ≡ before) → (o ≡ None → length mid ≡ length before) → length mid ≡ length before
count-mid before mid None h done = done refl
count-mid before mid (Some f) same done = ap length same

pub returns-clause-count : goal.returns-clause-count
returns-clause-count c = count-mid c.args.tree.now.nodes c.visit-found.new.tree.nodes c.visit-found.result c.visit-found.ensures.denied (λ none. (c.visit-found.ensures.done none).links.count)

pub returns-clause-answer : goal.returns-clause-answer
returns-clause-answer c =
    let t = c.args.tree.now in
    let size : c.visit-found.new.tree.size ≡ t.size = ap (λ (s : Shape). s.size) c.visit-found.ensures.tree in
    ap (λ (o : Option Violation). (let p : Option Violation × Tree = (o, eager_with t.root t.size c.visit-found.new.tree.nodes) in p)) (c.violation_of.ensures ∙ violation-same t.nodes c.visit-found.new.tree.nodes c.visit-found.result (tags_kept c))
    ∙ access-tie t.root t.size t.nodes c.visit-found.new.tree.nodes c.visit-found.new.tree.nodes c.args.x (node_at t.nodes c.args.x).tag c.args.kind c.args.span c.visit-found.result c.soundness.ensures.sound
    (subst (λ s. IsSound s c.visit-found.new.tree.nodes) size c.soundness-2.ensures.sound) c.requires.node c.requires.within refl c.visit-found.ensures.found c.visit-found.ensures.denied c.visit-found.ensures.done (joined-none c.visit-found.new.tree.nodes)

none-found : (nodes : List Node) (o : Option Found) → violation_in nodes o ≡ None → o ≡ None
none-found nodes None e = refl
none-found nodes (Some f) e = cc

pub returns-clause-quiet : goal.returns-clause-quiet
returns-clause-quiet c = λ none.
    let t = c.args.tree.now in
    let clean : c.visit-found.result ≡ None = none-found c.visit-found.new.tree.nodes c.visit-found.result (sym c.violation_of.ensures ∙ none) in
    let size : c.visit-found.new.tree.size ≡ t.size = ap (λ (s : Shape). s.size) c.visit-found.ensures.tree in
    let d = c.visit-found.ensures.done clean in
    record {
      node = node-there c.visit-found.new.tree.root c.visit-found.new.tree.size c.visit-found.new.tree.nodes c.args.x (node_at t.nodes c.args.x).tag (omega (arith, c.requires.node, d.links.count)) (d.links.tag c.args.x);
      within = omega (arith, c.requires.within, size);
      still = quiet-after t.size t.nodes c.visit-found.new.tree.nodes c.visit-found.new.tree.nodes c.args.x (node_at t.nodes c.args.x).tag c.args.kind c.args.span c.soundness.ensures.sound refl d (joined-none c.visit-found.new.tree.nodes);
    }

adds-of : (before mid : List Node) (span : Span) (o : Option Found) → OnSome o (mid ≡ before) → (o ≡ None → AddsStarts before mid span) → AddsStarts before mid span
adds-of before mid span None h done = done refl
adds-of before mid span (Some f) same done = λ j s h. inl (subst (λ (ns : List Node). has_start s (node_at ns j).runs.starts ≡ true) same h)

pub returns-clause-adds : goal.returns-clause-adds
returns-clause-adds c = adds-of c.args.tree.now.nodes c.visit-found.new.tree.nodes c.args.span c.visit-found.result c.visit-found.ensures.denied (λ none. (c.visit-found.ensures.done none).adds)

pub returns-clause-ring : goal.returns-clause-ring
returns-clause-ring c = λ quiet.
    let t = c.args.tree.now in
    ring-bound t.root t.size t.nodes c.args.x (node_at t.nodes c.args.x).tag (pieces t.nodes c.args.span) t.visits c.visit-found.new.tree.visits c.soundness.ensures.sound c.requires.node refl (c.visit-found.ensures.ring refl quiet.still)
