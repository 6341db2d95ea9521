use Rattle.std.proofs.Common.{◌+◌, Option, List, take, sym, subst}
use Rattle.ir_ast.specs.declared.program.Function.{Function}
use Rattle.ir_rules.specs.declared.rule.Fault.{Fault}
use Rattle.ir_rules.specs.Least.{IsLeast, AnyOf}
use Rattle.ir_assigned.specs.Faults.{FunctionFault}
use Rattle.ir_rules.proofs.Any.{any-next, any-all}
use Rattle.ir_assigned.proofs.Found.{program_least}
use Rattle.ir_assigned.proofs.unassigned.Goals as goal

pub loop-function-preserved : goal.loop-function-preserved
loop-function-preserved c =
    let fs = c.as_slice-functions.result.now in
    let i = c.loop-function.function-index in
    let f = c.function-item.result in
    let o = c.in_ok-fault.fault in
    subst (λ (z : Option Fault). IsLeast (AnyOf FunctionFault (take (i + 1) fs)) z) (sym c.lesser_fault-first.ensures)
    (any-next FunctionFault fs i f c.loop-function.first o c.loop-function-test.true c.loop-function.invariant
    (subst (λ (z : Function). IsLeast (FunctionFault z) o) c.function-item.is c.in_ok-fault.ensures))

pub returns : goal.returns
returns c =
    let fs = c.as_slice-functions.result.now in
    program_least c.args.program.now c.loop-function.first
    (subst (λ (z : List Function). IsLeast (AnyOf FunctionFault z) c.loop-function.first) c.as_slice-functions.ensures
    (any-all FunctionFault fs c.loop-function.function-index c.loop-function.first c.loop-function-test.false c.loop-function.invariant))
