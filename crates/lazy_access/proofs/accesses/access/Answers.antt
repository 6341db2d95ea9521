use Rattle.std.proofs.Common.{Option, None, ap, ◌∙◌}
use Rattle.eager_tree.specs.declared.violation.Violation.{Violation}
use Rattle.eager_tree.specs.Tree.{Tree}
use Rattle.lazy_tree.specs.Eager.{eager_of}
use Rattle.lazy_access.proofs.Settling.{settled-answer, settled-ring}
use Rattle.lazy_access.proofs.accesses.access.Goals as goal

pub returns-then-is_settled-clause-answer : goal.returns-then-is_settled-clause-answer
returns-then-is_settled-clause-answer c =
    ap (λ (t : Tree). (let p : Option Violation × Tree = (None, t) in p)) (ap eager_of c.is_settled.ensures.tree)
    ∙ settled-answer c.args.tree.now c.args.tag c.args.span c.args.kind c.soundness.ensures.sound (c.is_settled.ensures.settled c.if-is_settled.true)

pub returns-then-is_settled-clause-ring : goal.returns-then-is_settled-clause-ring
returns-then-is_settled-clause-ring c = λ quiet.
    settled-ring c.args.tree.now c.args.tag c.args.span c.args.kind c.is_settled.new.self.visits c.soundness.ensures.sound (c.is_settled.ensures.settled c.if-is_settled.true) c.is_settled.ensures.by_one
