use Rattle.std.proofs.Common.{◌+◌, Option, take, sym, subst}
use Rattle.ir_rules.specs.declared.rule.Fault.{Fault}
use Rattle.ir_rules.specs.Least.{IsLeast, AnyOf}
use Rattle.ir_rules.specs.Seen.{event_of, seen}
use Rattle.ir_rules.specs.declared.events.Occurrence.{Occurrence}
use Rattle.ir_rules.proofs.Least.{least-same}
use Rattle.ir_assigned.specs.Faults.{EventFault}
use Rattle.ir_rules.proofs.Any.{any-next, any-all, any-map, map-any}
use Rattle.ir_assigned.proofs.function.defined_faults.Goals as goal

pub loop-occurrence-preserved : goal.loop-occurrence-preserved
loop-occurrence-preserved c =
    let os = c.args.occurrences.now in
    let i = c.loop-occurrence.occurrence-index in
    let d = c.occurrence-item.result in
    let o = c.in_ok-fault.fault in
    let S : Occurrence → Fault → Type 0 = λ p. EventFault c.args.function.now (event_of p) in
    subst (λ (z : Option Fault). IsLeast (AnyOf S (take (i + 1) os)) z) (sym c.lesser_fault-first.ensures)
    (any-next S os i d c.loop-occurrence.first o c.loop-occurrence-test.true c.loop-occurrence.invariant
    (subst (λ (z : Occurrence). IsLeast (S z) o) c.occurrence-item.is c.in_ok-fault.ensures))

pub returns : goal.returns
returns c =
    let os = c.args.occurrences.now in
    let f = c.args.function.now in
    let S : Occurrence → Fault → Type 0 = λ p. EventFault f (event_of p) in
    least-same (AnyOf S os) (AnyOf (EventFault f) (seen os)) c.loop-occurrence.first
    (any-map (EventFault f) event_of os) (map-any (EventFault f) event_of os)
    (any-all S os c.loop-occurrence.occurrence-index c.loop-occurrence.first c.loop-occurrence-test.false c.loop-occurrence.invariant)
