use Rattle.std.proofs.Common.{Option, map, sym, subst, ◌⊎◌}
use Rattle.ir_ast.specs.declared.program.Function.{Function}
use Rattle.ir_rules.specs.declared.rule.Fault.{Fault}
use Rattle.ir_rules.specs.Least.{IsLeast, AnyOf}
use Rattle.ir_rules.proofs.Least.{least-or}
use Rattle.ir_verify.specs.Faults.{TwiceFault, NoMainFault, FunctionFault, ProgramFault}
use Rattle.ir_verify.proofs.Said.{least_main}
use Rattle.ir_verify.proofs.programs.program_fault.Goals as goal

pub returns : goal.returns
returns c =
    let p = c.args.program.now in
    let hosts = c.args.hosts.now.entries in
    let T = TwiceFault (map (λ (f : Function). f.name) p.functions) in
    let F = AnyOf (FunctionFault p.functions hosts) p.functions in
    let twice = c.in_ok-twice.twice in
    let main = c.main_fault-main.result in
    let of_main : IsLeast (NoMainFault p) main = subst (λ (z : Option Fault). IsLeast (NoMainFault p) z) (sym c.main_fault-main.ensures) (least_main p) in
    let of_names : IsLeast (λ x. T x ⊎ NoMainFault p x) c.lesser_fault-of_names.result =
    subst (λ (z : Option Fault). IsLeast (λ x. T x ⊎ NoMainFault p x) z) (sym c.lesser_fault-of_names.ensures) (least-or T (NoMainFault p) twice main c.in_ok-twice.ensures of_main) in
    subst (λ (z : Option Fault). IsLeast (ProgramFault p hosts) z) (sym c.lesser_fault.ensures) (least-or (λ x. T x ⊎ NoMainFault p x) F c.lesser_fault-of_names.result c.in_ok-of_functions.of_functions of_names c.in_ok-of_functions.ensures)
