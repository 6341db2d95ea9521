use Rattle.std.proofs.Common.{arith}
use Rattle.ir_ast.specs.Numbers.{blocks_end}
use Rattle.instrument.proofs.Ends.{block_room}
use Rattle.instrument.proofs.functions.end_of.Goals as goal

pub after-number-requires : goal.after-number-requires
after-number-requires c =
    block_room c.args.blocks.now c.loop-block.block-index c.block-item.result c.loop-block.number (blocks_end c.args.first c.args.blocks.now) (omega arith) c.block-item.is c.loop-block.invariant c.requires
