use Rattle.std.proofs.Common.{◌≡◌, drop}
use Rattle.ir_ast.specs.Numbers.{blocks_end}
use Rattle.source_machine.proofs.Numbers.{Seeks}
use Rattle.source_machine.proofs.text.find_block.Given as goal

abbrev pub invariant-loop-block : goal.invariant-loop-block
invariant-loop-block l =
    Seeks l.label l.fn.first l.blocks l.number (drop l.block-index l.blocks)
    × (blocks_end l.number (drop l.block-index l.blocks) ≡ blocks_end l.fn.first l.blocks)
