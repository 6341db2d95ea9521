use Rattle.std.proofs.Common.{take}
use Rattle.std.specs.List.{flat_map}
use Rattle.ir_ast.specs.Attributes.{block_definitions}
use Rattle.instrument.specs.Sets.{Defines}
use Rattle.instrument.proofs.scope.Definitions.define_blocks.Given as goal

abbrev pub invariant-loop-block : goal.invariant-loop-block
invariant-loop-block l = Defines l.fn.self l.self (flat_map (block_definitions l.functions) (take l.block-index l.blocks))
