use Rattle.std.proofs.Common.{List, map, ◌∙◌, ap, subst, Bor}
use Rattle.std.specs.Prelude.{IfOk}
use Rattle.ir_ast.specs.declared.program.Named.{Named}
use Rattle.ir_ast.specs.declared.program.Function.{Function}
use Rattle.ir_rules.specs.Least.{IsLeast}
use Rattle.ir_verify.specs.Faults.{TwiceFault}
use Rattle.ir_verify.proofs.programs.twice_fault.Goals as goal

pub returns : goal.returns
returns c = subst (λ (z : List Named). IfOk c.second_definitions.result (λ o. IsLeast (TwiceFault z) o))
    (ap (map (λ (n : Bor Named). n.now)) c.as_slice-2.ensures.value ∙ c.in_ok-names.ensures ∙ ap (map (λ (z : Function). z.name)) c.as_slice.ensures) c.second_definitions.ensures
