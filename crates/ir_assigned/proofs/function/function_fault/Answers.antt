use Rattle.std.proofs.Common.{ap, ◌∙◌}
use Rattle.ir_rules.specs.Least.{IsLeast, AnyOf}
use Rattle.ir_rules.specs.Seen.{seen}
use Rattle.ir_assigned.specs.Faults.{EventFault, FunctionFault}
use Rattle.ir_assigned.proofs.Found.{function_least, no_blocks, if_ok_map, some_blocks}
use Rattle.ir_assigned.proofs.function.function_fault.Goals as goal

pub returns-then-is_empty : goal.returns-then-is_empty
returns-then-is_empty c = no_blocks c.args.function.now (c.is_empty.ensures.0 c.if-is_empty.true)

pub defined_faults-requires : goal.defined_faults-requires
defined_faults-requires c = some_blocks c.args.function.now.blocks (λ e. let z = c.is_empty.ensures.1 e in absurd cc)

pub returns : goal.returns
returns c =
    let f = c.args.function.now in
    let os = c.deref.result.now in
    if_ok_map c.defined_faults.result (IsLeast (AnyOf (EventFault f) (seen os))) (IsLeast (FunctionFault f))
    (λ o. function_least f (seen os) o (ap seen c.deref.ensures.value ∙ c.in_ok-occurrences.ensures)) c.defined_faults.ensures
