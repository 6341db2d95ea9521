use Rattle.std.proofs.Common.{◌≡◌, ◌+◌, Option, Some, get_or, take, sym, ap, subst, ◌∙◌}
use Rattle.ir_rules.specs.Seen.{event_of}
use Rattle.ir_rules.specs.declared.events.Occurrence.{Occurrence}
use Rattle.ir_rules.specs.declared.rule.Fault.{Fault}
use Rattle.ir_rules.specs.Least.{IsLeast, lesser}
use Rattle.ir_rules.specs.Walk.{held_in, event_fault, AnyGives}
use Rattle.ir_rules.proofs.Any.{any-next}
use Rattle.ir_rules.proofs.Least.{least-one}
use Rattle.ir_rules.proofs.Uses.{least_at_end}
use Rattle.ir_rules.proofs.misuse.wrong_uses.Goals as goal

pub loop-event-preserved : goal.loop-event-preserved
loop-event-preserved c =
    let os = c.args.events.now in
    let i = c.loop-event.event-index in
    let f : Occurrence → Option Fault = λ o. event_fault (held_in c.args.table.now) (event_of o) in
    subst (λ (z : Option Fault). IsLeast (AnyGives f (take (i + 1) os)) z) (sym (c.lesser_fault-first.ensures ∙ ap (lesser c.loop-event.first) (c.event_fault.ensures ∙ ap f c.event-item.is)))
    (any-next (λ o x. f o ≡ Some x) os i c.event-item.result c.loop-event.first (f (get_or os i c.event-item.result)) c.loop-event-test.true c.loop-event.invariant (least-one (f (get_or os i c.event-item.result))))

pub returns : goal.returns
returns c = least_at_end event_of (held_in c.args.table.now) c.args.events.now c.loop-event.event-index c.loop-event.first c.loop-event-test.false c.requires c.loop-event.invariant
