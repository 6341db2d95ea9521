use Rattle.std.proofs.Common.{take}
use Rattle.std.specs.List.{flat_map}
use Rattle.ir_ast.specs.Written.{AddsText, function_text}
use Rattle.ir_ast.proofs.printer.write_functions.Given as goal

abbrev pub invariant-loop-function : goal.invariant-loop-function
invariant-loop-function l = AddsText l.fn.to l.to (flat_map function_text (take l.function-index l.functions))
