use Rattle.std.proofs.Common.{◌+◌, List, Option, take, sym, subst}
use Rattle.ir_ast.specs.declared.program.Function.{Function}
use Rattle.ir_rules.specs.declared.rule.Fault.{Fault}
use Rattle.ir_rules.specs.Least.{IsLeast, AnyOf}
use Rattle.ir_verify.specs.Faults.{FunctionFault}
use Rattle.ir_rules.proofs.Any.{any-next, any-all, none_in}
use Rattle.ir_verify.proofs.programs.functions_fault.Goals as goal

pub loop-function-init : goal.loop-function-init
loop-function-init c = λ x h. none_in h.0 h.1

pub loop-function-preserved : goal.loop-function-preserved
loop-function-preserved c =
    let S = FunctionFault c.args.table.now.functions.now c.args.table.now.hosts.now in
    let functions = c.as_slice-functions.result.now in
    let i = c.loop-function.function-index in
    subst (λ (z : Option Fault). IsLeast (AnyOf S (take (i + 1) functions)) z) (sym c.lesser_fault-first.ensures)
    (any-next S functions i c.function-item.result c.loop-function.first c.in_ok-found.found c.loop-function-test.true c.loop-function.invariant
    (subst (λ (z : Function). IsLeast (S z) c.in_ok-found.found) c.function-item.is c.in_ok-found.ensures))

pub returns : goal.returns
returns c =
    let S = FunctionFault c.args.table.now.functions.now c.args.table.now.hosts.now in
    subst (λ (z : List Function). IsLeast (AnyOf S z) c.loop-function.first) c.as_slice-functions.ensures
    (any-all S c.as_slice-functions.result.now c.loop-function.function-index c.loop-function.first c.loop-function-test.false c.loop-function.invariant)
