use Rattle.std.proofs.Common.{take}
use Rattle.ir_rules.specs.Seen.{event_of}
use Rattle.ir_rules.specs.Least.{IsLeast}
use Rattle.ir_rules.specs.Walk.{held_in, event_fault, AnyGives}
use Rattle.ir_rules.proofs.misuse.wrong_uses.Given as goal

abbrev pub invariant-loop-event : goal.invariant-loop-event
invariant-loop-event l = IsLeast (AnyGives (λ o. event_fault (held_in l.table) (event_of o)) (take l.event-index l.events)) l.first
