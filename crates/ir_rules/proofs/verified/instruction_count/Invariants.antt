use Rattle.std.proofs.Common.{◌≡◌, take}
use Rattle.std.specs.List.{sum_by}
use Rattle.ir_ast.specs.Programs.{function_instructions}
use Rattle.ir_rules.proofs.verified.instruction_count.Given as goal

abbrev pub invariant-loop-function : goal.invariant-loop-function
invariant-loop-function l = l.total ≡ sum_by function_instructions (take l.function-index l.functions)
