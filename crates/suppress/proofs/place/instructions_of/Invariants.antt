use Rattle.std.proofs.Common.{◌≡◌, take}
use Rattle.std.specs.List.{sum_by}
use Rattle.ir_ast.specs.Lines.{block_instructions}
use Rattle.suppress.proofs.place.instructions_of.Given as goal

abbrev pub invariant-loop-block : goal.invariant-loop-block
invariant-loop-block l = l.total ≡ sum_by block_instructions (take l.block-index l.blocks)
