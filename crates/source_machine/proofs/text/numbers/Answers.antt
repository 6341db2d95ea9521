use Rattle.std.proofs.Common.{◌≤◌, sym, subst, List}
use Rattle.ir_ast.specs.Lines.{most_instructions}
use Rattle.ir_ast.specs.declared.program.Block.{Block}
use Rattle.ir_ast.specs.Numbers.{blocks_end}
use Rattle.source_machine.specs.Texts.{program_end}
use Rattle.source_machine.proofs.Numbers.{function_room}
use Rattle.source_machine.proofs.text.numbers.Goals as goal

pub blocks_end-number-requires : goal.blocks_end-number-requires
blocks_end-number-requires c =
    subst (λ (z : List Block). blocks_end c.loop-function.number z ≤ most_instructions) (sym c.as_slice.ensures)
    (function_room c.args.functions.now c.loop-function.function-index c.function-item.result c.loop-function.number (program_end 0 c.args.functions.now) c.loop-function-test.true c.function-item.is c.loop-function.invariant.1 c.requires)
