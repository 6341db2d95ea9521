-- The limits of a program that the grammar can give.
use Rattle.std.proofs.Common.{◌≡◌, ◌≤◌, List, length, sym, subst}
use Rattle.std.specs.List.{sum_by}
use Rattle.ir_ast.specs.Lines.{most_instructions}
use Rattle.ir_ast.specs.Programs.{IsProgram, function_instructions}
use Rattle.ir_ast.specs.declared.program.Function.{Function}
use Rattle.ir_ast.specs.declared.program.Program.{Program}
use Rattle.ir_ast.proofs.Limits.{keeps_limits}

pub few_functions : (p : Program) → IsProgram p → length p.functions ≤ 256
few_functions p h = (keeps_limits p h).functions

pub few_instructions : (p : Program) (fs : List Function) → IsProgram p → fs ≡ p.functions → sum_by function_instructions fs ≤ most_instructions
few_instructions p fs h e = subst (λ (z : List Function). sum_by function_instructions z ≤ most_instructions) (sym e) (keeps_limits p h).instructions
