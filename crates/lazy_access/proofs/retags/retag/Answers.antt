use Rattle.std.proofs.Common.{◌≡◌, true, ◌<◌, length, Option, Some, None, MatchOption, IfSome, sym, ap, subst, ◌∙◌, arith, inl, inr}
use Rattle.range_map.specs.Ranges.{Ranges}
use Rattle.perm_table.specs.declared.Perm.{Perm}
use Rattle.perm_table.specs.declared.Kind.TheVariants.{Read}
use Rattle.eager_tree.specs.declared.violation.Violation.{Violation}
use Rattle.eager_tree.specs.Tree.{Tree}
use Rattle.eager_tree.specs.Steps.{access}
use Rattle.lazy_tree.specs.declared.slot.Slot.{Slot}
use Rattle.lazy_tree.specs.Shape.{Shape}
use Rattle.lazy_tree.specs.Skip.{node_at, own_rank, IsSound, MayAdd, with_child}
use Rattle.lazy_tree.specs.Eager.{eager_with}
use Rattle.lazy_access.specs.Change.{IsLowered}
use Rattle.lazy_access.specs.Requests.{local_in, IsChild}
use Rattle.lazy_access.proofs.Accessing.{root-alone}
use Rattle.lazy_access.proofs.Retagging.{retag-end, retag-denied, may-add-made, nodes-lowered, newest-stored}
use Rattle.lazy_access.proofs.Reserving.{cuts-room}
use Rattle.lazy_access.proofs.Ringing.{cuts-added, cut-starts, cut-child}
use Rattle.lazy_access.proofs.retags.retag.Goals as goal

pub returns-in_default : goal.returns-in_default
returns-in_default c =
    let t = c.args.tree.now in
    let empty = root-alone t.root t.size t.nodes c.args.parent c.requires.node (c.find.ensures.none c.in_default.is) in
    let none : length t.nodes ≡ 0 = ap length empty.0 in absurd (omega (arith, none, c.requires.ready.stored))

pub add-requires-clause-newest : goal.add-requires-clause-newest
add-requires-clause-newest c = λ i lt.
    let t = c.args.tree.now in
    let low : i < length t.nodes = omega (arith, lt, c.lower.ensures.lowered.links.count, c.access_at.ensures.count) in
    let less = newest-stored t.root t.size t.nodes c.args.tag c.requires.ready.stored c.requires.newest i low in
    let one : (node_at c.lower.new.tree.nodes i).tag.0 ≡ (node_at c.access_at.new.tree.nodes i).tag.0 = ap (λ t. t.0) (c.lower.ensures.lowered.links.tag i) in
    let two : (node_at c.access_at.new.tree.nodes i).tag.0 ≡ (node_at t.nodes i).tag.0 = ap (λ t. t.0) (c.access_at.ensures.tags i) in
    omega (arith, less, one, two)

pub add-requires-clause-may : goal.add-requires-clause-may
add-requires-clause-may c =
    let t = c.args.tree.now in
    let ready : c.lower.new.tree.ready ≡ t.ready = ap (λ (s : Shape). s.ready) c.lower.ensures.tree ∙ ap (λ (s : Shape). s.ready) c.access_at.ensures.tree in
    let now : c.access_at.new.tree.size ≡ t.size = ap (λ (s : Shape). s.size) c.access_at.ensures.tree in
    let size : c.lower.new.tree.size ≡ c.access_at.new.tree.size = ap (λ (s : Shape). s.size) c.lower.ensures.tree in
    let lt : c.in-Some.x < length c.access_at.new.tree.nodes = omega (arith, c.in-Some.ensures.some.0, c.access_at.ensures.count) in
    subst (λ (o : Option (Ranges Slot)). MatchOption o ⊥ (MayAdd c.lower.new.tree.size c.lower.new.tree.nodes c.in-Some.x c.args.guard)) (sym ready)
    (subst (λ s. MatchOption t.ready ⊥ (MayAdd s c.lower.new.tree.nodes c.in-Some.x c.args.guard)) (sym size)
    (may-add-made c.access_at.new.tree.size c.access_at.new.tree.nodes c.lower.new.tree.nodes c.in-Some.x c.args.span c.args.kind c.args.guard c.of.result t.ready c.soundness.ensures.sound lt c.lower.ensures.lowered
    (subst (λ s. MatchOption t.ready ⊥ (IsChild s c.args.span c.args.kind c.args.guard)) (sym now) c.requires.ready.child)
    (c.of.ensures ∙ ap (λ (p : Perm). own_rank p c.args.guard) c.start.ensures)))

pub returns-in-Some-access_at-clause-answer : goal.returns-in-Some-access_at-clause-answer
returns-in-Some-access_at-clause-answer c =
    let t = c.args.tree.now in
    let v : Violation = c.in-Some-access_at.violation in
    let root : c.access_at.new.tree.root ≡ t.root = ap (λ (s : Shape). s.root) c.access_at.ensures.tree in
    let size : c.access_at.new.tree.size ≡ t.size = ap (λ (s : Shape). s.size) c.access_at.ensures.tree in
    retag-denied (eager_with t.root t.size t.nodes) (eager_with c.access_at.new.tree.root c.access_at.new.tree.size c.access_at.new.tree.nodes) c.args.parent c.args.tag c.args.span c.args.kind c.args.guard v
    (ap (λ r. (let p : Option Violation × Tree = (Some v, eager_with r c.access_at.new.tree.size c.access_at.new.tree.nodes) in p)) root
    ∙ ap (λ s. (let p : Option Violation × Tree = (Some v, eager_with t.root s c.access_at.new.tree.nodes) in p)) size
    ∙ ap (λ (o : Option Violation). (let p : Option Violation × Tree = (o, eager_with t.root t.size c.access_at.new.tree.nodes) in p)) (sym c.in-Some-access_at.is) ∙ c.access_at.ensures.answer
    ∙ ap (λ g. access (eager_with t.root t.size t.nodes) g c.args.span Read) c.in-Some.ensures.some.1)

pub returns-clause-answer : goal.returns-clause-answer
returns-clause-answer c =
    let t = c.args.tree.now in
    let ready : c.lower.new.tree.ready ≡ t.ready = ap (λ (s : Shape). s.ready) c.lower.ensures.tree ∙ ap (λ (s : Shape). s.ready) c.access_at.ensures.tree in
    let now : c.access_at.new.tree.size ≡ t.size = ap (λ (s : Shape). s.size) c.access_at.ensures.tree in
    let size : c.lower.new.tree.size ≡ t.size = ap (λ (s : Shape). s.size) c.lower.ensures.tree ∙ now in
    let sum : c.add.new.self.size ≡ t.size = ap (λ (s : Shape). s.size) c.add.ensures.tree ∙ size in
    let root : c.add.new.self.root ≡ t.root = ap (λ (s : Shape). s.root) c.add.ensures.tree ∙ ap (λ (s : Shape). s.root) c.lower.ensures.tree ∙ ap (λ (s : Shape). s.root) c.access_at.ensures.tree in
    let lt : c.in-Some.x < length c.lower.new.tree.nodes = omega (arith, c.in-Some.ensures.some.0, c.access_at.ensures.count, c.lower.ensures.lowered.links.count) in
    let lowered : IsLowered t.size c.access_at.new.tree.nodes c.lower.new.tree.nodes (local_in c.access_at.new.tree.nodes c.in-Some.x) c.of.result (length c.access_at.new.tree.nodes) =
    subst (λ s. IsLowered s c.access_at.new.tree.nodes c.lower.new.tree.nodes (local_in c.access_at.new.tree.nodes c.in-Some.x) c.of.result (length c.access_at.new.tree.nodes)) now c.lower.ensures.lowered in
    let read = ap (λ (o : Option Violation). (let p : Option Violation × Tree = (o, eager_with t.root t.size c.access_at.new.tree.nodes) in p)) (sym c.in_default-access_at.is) ∙ c.access_at.ensures.answer
    ∙ ap (λ g. access (eager_with t.root t.size t.nodes) g c.args.span Read) c.in-Some.ensures.some.1 in
    ap (λ r. (let p : Option Violation × Tree = (None, eager_with r c.add.new.self.size c.add.new.self.nodes) in p)) root
    ∙ ap (λ s. (let p : Option Violation × Tree = (None, eager_with t.root s c.add.new.self.nodes) in p)) sum
    ∙ retag-end t.root t.size t.nodes c.access_at.new.tree.nodes c.lower.new.tree.nodes c.add.new.self.nodes c.in-Some.x c.args.parent c.args.tag c.args.span c.args.kind c.args.guard t.ready
    (omega (arith, c.requires.ready.stored, c.access_at.ensures.count)) (subst (λ s. IsSound s c.lower.new.tree.nodes) size c.soundness-2.ensures.sound) lt
    (c.lower.ensures.lowered.links.tag c.in-Some.x ∙ c.access_at.ensures.tags c.in-Some.x ∙ c.in-Some.ensures.some.1)
    (nodes-lowered t.size c.access_at.new.tree.nodes c.lower.new.tree.nodes (local_in c.access_at.new.tree.nodes c.in-Some.x) c.of.result (subst (λ s. IsSound s c.access_at.new.tree.nodes) now c.soundness.ensures.sound) (subst (λ s. IsSound s c.lower.new.tree.nodes) size c.soundness-2.ensures.sound) lowered)
    c.requires.ready.child
    (subst (λ (o : Option (Ranges Slot)). IfSome o (λ runs. c.add.new.self.nodes ≡ with_child c.lower.new.tree.nodes c.in-Some.x c.args.tag c.args.guard runs)) ready c.add.ensures.nodes)
    read

pub access_at-requires-clause-cuts : goal.access_at-requires-clause-cuts
access_at-requires-clause-cuts c =
    cuts-room c.args.tree.now.size c.args.tree.now.nodes c.in-Some.x true c.args.span Read (c.requires.ready.access.cuts c.in-Some.x c.in-Some.ensures.some.0 c.in-Some.ensures.some.1)

pub returns-in-Some-access_at-clause-cuts : goal.returns-in-Some-access_at-clause-cuts
returns-in-Some-access_at-clause-cuts c = λ s e. cuts-added c.args.tree.now.nodes c.access_at.new.tree.nodes c.args.span s c.access_at.ensures.count c.access_at.ensures.adds e

pub returns-clause-cuts : goal.returns-clause-cuts
returns-clause-cuts c = λ s e.
    let t = c.args.tree.now in
    let ready : c.lower.new.tree.ready ≡ t.ready = ap (λ (s : Shape). s.ready) c.lower.ensures.tree ∙ ap (λ (s : Shape). s.ready) c.access_at.ensures.tree in
    let lt : c.in-Some.x < length c.lower.new.tree.nodes = omega (arith, c.in-Some.ensures.some.0, c.access_at.ensures.count, c.lower.ensures.lowered.links.count) in
    elim (cut-child t.size c.args.span c.args.kind c.args.guard c.lower.new.tree.nodes c.add.new.self.nodes c.in-Some.x s c.args.tag t.ready lt c.requires.ready.child
    (subst (λ (o : Option (Ranges Slot)). IfSome o (λ runs. c.add.new.self.nodes ≡ with_child c.lower.new.tree.nodes c.in-Some.x c.args.tag c.args.guard runs)) ready c.add.ensures.nodes) e) [
      | inl old ↦ cuts-added t.nodes c.access_at.new.tree.nodes c.args.span s c.access_at.ensures.count c.access_at.ensures.adds
          (cut-starts c.access_at.new.tree.nodes c.lower.new.tree.nodes s c.lower.ensures.lowered.links.count c.lower.ensures.lowered.starts old)
      | inr new ↦ inr new
    ]
