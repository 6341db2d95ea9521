use Rattle.std.proofs.Common.{take}
use Rattle.std.specs.List.{flat_map}
use Rattle.ir_ast.specs.Written.{AddsText, block_text}
use Rattle.ir_ast.proofs.printer.write_blocks.Given as goal

abbrev pub invariant-loop-block : goal.invariant-loop-block
invariant-loop-block l = AddsText l.fn.to l.to (flat_map block_text (take l.block-index l.blocks))
