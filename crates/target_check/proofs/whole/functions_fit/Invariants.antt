use Rattle.std.proofs.Common.{drop, length}
use Rattle.std.specs.Prelude.{◌↔◌}
use Rattle.ir_ast.specs.Tokens.{Each}
use Rattle.target_check.specs.Stretches.{FunctionFits}
use Rattle.target_check.proofs.whole.functions_fit.Given as goal

abbrev pub invariant-loop-function : goal.invariant-loop-function
invariant-loop-function l = Each (FunctionFits (length l.functions)) (drop l.function-index l.functions) ↔ Each (FunctionFits (length l.functions)) l.functions
