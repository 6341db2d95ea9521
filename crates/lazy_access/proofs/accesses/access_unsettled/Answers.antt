use Rattle.std.proofs.Common.{◌≡◌, ◌+◌, ◌*◌, ◌≤◌, inl, sym, true, length, Option, ap, subst, ◌∙◌, arith}
use Rattle.eager_tree.specs.declared.violation.Violation.{Violation}
use Rattle.eager_tree.specs.Tree.{Tree, links}
use Rattle.lazy_tree.specs.Ring.{ring_size, pieces}
use Rattle.lazy_access.proofs.Ringing.{cuts-added}
use Rattle.eager_tree.specs.Steps.{access}
use Rattle.lazy_tree.specs.Shape.{Shape}
use Rattle.lazy_tree.specs.Eager.{eager_with}
use Rattle.lazy_tree.specs.Quiet.{IsQuiet}
use Rattle.lazy_access.proofs.Accessing.{root-alone, access-none}
use Rattle.lazy_access.proofs.Reserving.{cuts-room}
use Rattle.lazy_access.proofs.accesses.access_unsettled.Goals as goal

pub returns-in-None-clause-answer : goal.returns-in-None-clause-answer
returns-in-None-clause-answer c =
    let t = c.args.tree.now in
    let empty = root-alone t.root t.size t.nodes c.args.tag c.requires.node (c.find.ensures.none c.in-None.is) in
    access-none t.root t.size t.nodes c.args.tag c.args.span c.args.kind empty.0 empty.1

pub returns-in-None-clause-quiet : goal.returns-in-None-clause-quiet
returns-in-None-clause-quiet c = λ none. record {
  node = c.requires.node;
  within = c.requires.within;
  still = λ i lt.
      let t = c.args.tree.now in
      let empty = root-alone t.root t.size t.nodes c.args.tag c.requires.node (c.find.ensures.none c.in-None.is) in
      let zero : length t.nodes ≡ 0 = ap length empty.0 in absurd (omega (arith, lt, zero));
}

pub returns-in-Some-clause-answer : goal.returns-in-Some-clause-answer
returns-in-Some-clause-answer c =
    let root : c.access_at.new.tree.root ≡ c.args.tree.now.root = ap (λ (s : Shape). s.root) c.access_at.ensures.tree in
    let size : c.access_at.new.tree.size ≡ c.args.tree.now.size = ap (λ (s : Shape). s.size) c.access_at.ensures.tree in
    ap (λ r. (let p : Option Violation × Tree = (c.access_at.result, eager_with r c.access_at.new.tree.size c.access_at.new.tree.nodes) in p)) root
    ∙ ap (λ s. (let p : Option Violation × Tree = (c.access_at.result, eager_with c.args.tree.now.root s c.access_at.new.tree.nodes) in p)) size
    ∙ c.access_at.ensures.answer
    ∙ ap (λ t. access (eager_with c.args.tree.now.root c.args.tree.now.size c.args.tree.now.nodes) t c.args.span c.args.kind) c.in-Some.ensures.some.1

pub returns-in-Some-clause-quiet : goal.returns-in-Some-clause-quiet
returns-in-Some-clause-quiet c = λ none.
    subst (λ t. IsQuiet c.access_at.new.tree t c.args.span c.args.kind) c.in-Some.ensures.some.1 (c.access_at.ensures.quiet none)

pub access_at-requires-clause-cuts : goal.access_at-requires-clause-cuts
access_at-requires-clause-cuts c =
    cuts-room c.args.tree.now.size c.args.tree.now.nodes c.in-Some.x true c.args.span c.args.kind (c.requires.ready.cuts c.in-Some.x c.in-Some.ensures.some.0 c.in-Some.ensures.some.1)

pub returns-in-None-clause-cuts : goal.returns-in-None-clause-cuts
returns-in-None-clause-cuts c = λ s e. inl e

pub returns-in-Some-clause-cuts : goal.returns-in-Some-clause-cuts
returns-in-Some-clause-cuts c = λ s e. cuts-added c.args.tree.now.nodes c.access_at.new.tree.nodes c.args.span s c.access_at.ensures.count c.access_at.ensures.adds e

pub returns-in-Some-clause-ring : goal.returns-in-Some-clause-ring
returns-in-Some-clause-ring c = λ quiet.
    let t = c.args.tree.now in
    let tag = c.in-Some.ensures.some.1 in
    subst (λ g. c.access_at.new.tree.visits ≤ t.visits + ring_size (links (eager_with t.root t.size t.nodes).nodes) g * pieces t.nodes c.args.span) tag
    (c.access_at.ensures.ring (subst (λ g. IsQuiet t g c.args.span c.args.kind) (sym tag) quiet))
