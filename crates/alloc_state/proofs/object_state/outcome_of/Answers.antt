use Rattle.std.proofs.Common.{Option, subst}
use Rattle.alloc_state.specs.PlainValues.{PlainValue}
use Rattle.alloc_state.specs.Prepared.{IsFreshFor}
use Rattle.alloc_state.proofs.Answering.{make-answers}
use Rattle.alloc_state.proofs.object_state.outcome_of.Goals as goal

pub returns-in-Some-clause-answer : goal.returns-in-Some-clause-answer
returns-in-Some-clause-answer c = λ piece bytes.
    make-answers c.args.number.0 c.args.made.now c.new.result c.args.request.now c.in-Some.fresh c.args.stamp piece
    (subst (λ (f : Option PlainValue). IsFreshFor c.args.request.now f) c.in-Some.is c.requires.fresh)
    c.new.ensures.plain c.new.ensures.tree c.new.ensures.closed
