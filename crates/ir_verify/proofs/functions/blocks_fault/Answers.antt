use Rattle.std.proofs.Common.{◌+◌, List, Option, take, sym, subst}
use Rattle.ir_ast.specs.declared.program.Block.{Block}
use Rattle.ir_rules.specs.declared.rule.Fault.{Fault}
use Rattle.ir_rules.specs.Least.{IsLeast, AnyOf}
use Rattle.ir_verify.specs.Faults.{BlockFault}
use Rattle.ir_rules.proofs.Any.{any-next, any-all, none_in}
use Rattle.ir_verify.proofs.functions.blocks_fault.Goals as goal

pub loop-block-init : goal.loop-block-init
loop-block-init c = λ x h. none_in h.0 h.1

pub loop-block-preserved : goal.loop-block-preserved
loop-block-preserved c =
    let S = BlockFault c.args.table.now.functions.now c.args.table.now.hosts.now c.args.function.now in
    let blocks = c.as_slice-blocks.result.now in
    let i = c.loop-block.block-index in
    subst (λ (z : Option Fault). IsLeast (AnyOf S (take (i + 1) blocks)) z) (sym c.lesser_fault-first.ensures)
    (any-next S blocks i c.block-item.result c.loop-block.first c.block_fault.result c.loop-block-test.true c.loop-block.invariant
    (subst (λ (z : Block). IsLeast (S z) c.block_fault.result) c.block-item.is c.block_fault.ensures))

pub returns : goal.returns
returns c =
    let S = BlockFault c.args.table.now.functions.now c.args.table.now.hosts.now c.args.function.now in
    subst (λ (z : List Block). IsLeast (AnyOf S z) c.loop-block.first) c.as_slice-blocks.ensures
    (any-all S c.as_slice-blocks.result.now c.loop-block.block-index c.loop-block.first c.loop-block-test.false c.loop-block.invariant)
