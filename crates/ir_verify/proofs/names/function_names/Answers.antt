use Rattle.std.proofs.Common.{◌∙◌, ap, map}
use Rattle.ir_ast.specs.declared.program.Function.{Function}
use Rattle.ir_rules.proofs.Any.{take_whole}
use Rattle.ir_verify.proofs.Steps.{mapped-next}
use Rattle.ir_verify.proofs.names.function_names.Goals as goal

pub loop-function-preserved : goal.loop-function-preserved
loop-function-preserved c = mapped-next (λ r. r.now) (λ (z : Function). z.name) c.loop-function.names.items _ c.args.functions.now c.loop-function.function-index c.function-item.result _ c.loop-function-test.true c.loop-function.invariant c.in_ok-push.ensures.items (ap (λ (z : Function). z.name) c.function-item.is)

pub returns : goal.returns
returns c = c.loop-function.invariant ∙ ap (map (λ (z : Function). z.name)) (take_whole c.args.functions.now c.loop-function.function-index c.loop-function-test.false)
