use Rattle.std.proofs.Common.{take}
use Rattle.std.specs.List.{flat_map}
use Rattle.ir_ast.specs.Tokens.{forms}
use Rattle.ir_ast.specs.Grammar.{next_tokens}
use Rattle.ir_ast.specs.Written.{Adds}
use Rattle.ir_ast.proofs.printer.write_more.Given as goal

abbrev pub invariant-loop-val : goal.invariant-loop-val
invariant-loop-val l = Adds l.fn.to l.to (forms (flat_map next_tokens (take l.val-index l.vals)))
