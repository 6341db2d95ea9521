use Rattle.std.proofs.Common.{◌∙◌, ap, map}
use Rattle.ir_ast.specs.declared.program.Block.{Block}
use Rattle.ir_rules.proofs.Any.{take_whole}
use Rattle.ir_verify.proofs.Steps.{mapped-next}
use Rattle.ir_verify.proofs.names.label_names.Goals as goal

pub loop-block-preserved : goal.loop-block-preserved
loop-block-preserved c = mapped-next (λ r. r.now) (λ (z : Block). z.label) c.loop-block.labels.items _ c.args.blocks.now c.loop-block.block-index c.block-item.result _ c.loop-block-test.true c.loop-block.invariant c.in_ok-push.ensures.items (ap (λ (z : Block). z.label) c.block-item.is)

pub returns : goal.returns
returns c = c.loop-block.invariant ∙ ap (map (λ (z : Block). z.label)) (take_whole c.args.blocks.now c.loop-block.block-index c.loop-block-test.false)
