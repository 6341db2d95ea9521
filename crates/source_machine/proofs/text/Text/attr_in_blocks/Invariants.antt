use Rattle.std.proofs.Common.{◌≡◌, drop}
use Rattle.std.specs.List.{flat_map}
use Rattle.ir_ast.specs.Attributes.{attr_of_handle, block_definitions}
use Rattle.source_machine.proofs.text.Text.attr_in_blocks.Given as goal

abbrev pub invariant-loop-block : goal.invariant-loop-block
invariant-loop-block l =
    attr_of_handle (flat_map (block_definitions l.self.program.functions) (drop l.block-index l.blocks)) l.handle ≡ attr_of_handle (flat_map (block_definitions l.self.program.functions) l.blocks) l.handle
