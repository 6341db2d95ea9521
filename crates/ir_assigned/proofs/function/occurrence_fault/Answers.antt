use Rattle.std.proofs.Common.{List, None, sym, subst}
use Rattle.std.specs.Prelude.{IfOk}
use Rattle.ir_rules.specs.Least.{IsLeast}
use Rattle.ir_rules.specs.Seen.{event_by}
use Rattle.ir_rules.specs.declared.events.Role.{Role}
use Rattle.ir_assigned.specs.Faults.{EventFault, RegisterFault}
use Rattle.ir_assigned.proofs.function.occurrence_fault.Goals as goal

pub returns-in-Defines : goal.returns-in-Defines
returns-in-Defines c =
    let o = c.args.occurrence.now in
    let f = c.args.function.now in
    subst (λ (z : Role). IfOk c.register_fault.result (IsLeast (EventFault f (event_by o.register.now z)))) (sym c.in-Defines.is)
    (subst (λ (z : List _). IfOk c.register_fault.result (IsLeast (RegisterFault f z))) c.as_slice.ensures c.register_fault.ensures)

pub returns-in-Uses : goal.returns-in-Uses
returns-in-Uses c =
    let o = c.args.occurrence.now in
    let f = c.args.function.now in
    subst (λ (z : Role). IsLeast (EventFault f (event_by o.register.now z)) None) (sym c.in-Uses.is) (λ x h. absurd h)
