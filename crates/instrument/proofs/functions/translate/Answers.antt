use Rattle.std.proofs.Common.{◌≡◌, ◌<◌, ◌^◌, List, length, get_or, sym, ap, subst, arith}
use Rattle.ir_ast.specs.declared.program.Block.{Block}
use Rattle.ir_ast.specs.declared.program.Function.{Function}
use Rattle.ir_ast.specs.Numbers.{blocks_end}
use Rattle.instrument.specs.Names.{program_end}
use Rattle.instrument.proofs.Ends.{function_room}
use Rattle.instrument.proofs.functions.translate.Goals as goal

pub function_code-requires-clause-end : goal.function_code-requires-clause-end
function_code-requires-clause-end c =
    let same : c.as_slice-function-items.result.now ≡ c.args.program.now.functions = c.as_slice-function-items.ensures in
    let is : c.function-item.result ≡ get_or c.args.program.now.functions c.loop-function.function-index c.function-item.result = cc in
    function_room c.args.program.now.functions c.loop-function.function-index c.function-item.result c.loop-function.number (program_end 0 c.args.program.now.functions)
    (omega (arith, ap (λ (z : List Function). length z) same)) is c.loop-function.invariant.end c.requires.few_instructions

pub end_of-number-requires : goal.end_of-number-requires
end_of-number-requires c =
    let same : c.as_slice-function-items.result.now ≡ c.args.program.now.functions = c.as_slice-function-items.ensures in
    let is : c.function-item.result ≡ get_or c.args.program.now.functions c.loop-function.function-index c.function-item.result = cc in
    subst (λ (z : List Block). blocks_end c.loop-function.number z < 2 ^ 32) (sym c.as_slice-in-loop-function-2.ensures)
    (function_room c.args.program.now.functions c.loop-function.function-index c.function-item.result c.loop-function.number (program_end 0 c.args.program.now.functions)
    (omega (arith, ap (λ (z : List Function). length z) same)) is c.loop-function.invariant.end c.requires.few_instructions)
