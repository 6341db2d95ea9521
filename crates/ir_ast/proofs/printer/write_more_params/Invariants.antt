use Rattle.std.proofs.Common.{take}
use Rattle.std.specs.List.{flat_map}
use Rattle.ir_ast.specs.Tokens.{forms}
use Rattle.ir_ast.specs.Written.{Adds, next_param}
use Rattle.ir_ast.proofs.printer.write_more_params.Given as goal

abbrev pub invariant-loop-param : goal.invariant-loop-param
invariant-loop-param l = Adds l.fn.to l.to (forms (flat_map next_param (take l.param-index l.params)))
