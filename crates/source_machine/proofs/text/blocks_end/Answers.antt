use Rattle.ir_ast.specs.Numbers.{blocks_end}
use Rattle.source_machine.proofs.Numbers.{block_room}
use Rattle.source_machine.proofs.text.blocks_end.Goals as goal

pub block_end-number-requires : goal.block_end-number-requires
block_end-number-requires c =
    block_room c.args.blocks.now c.loop-block.block-index c.block-item.result c.loop-block.number (blocks_end c.args.first c.args.blocks.now) c.loop-block-test.true c.block-item.is c.loop-block.invariant c.requires
