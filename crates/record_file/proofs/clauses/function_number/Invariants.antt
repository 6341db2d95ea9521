use Rattle.std.proofs.Common.{◌≡◌, ◌+◌, drop}
use Rattle.ir_ast.specs.Numbers.{function_place}
use Rattle.record_file.proofs.clauses.function_number.Given as goal

abbrev pub invariant-loop-at : goal.invariant-loop-at
invariant-loop-at l = l.at + function_place (drop l.at l.functions) l.name ≡ function_place l.functions l.name
