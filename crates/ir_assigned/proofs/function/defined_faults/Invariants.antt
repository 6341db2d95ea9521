use Rattle.std.proofs.Common.{take}
use Rattle.ir_rules.specs.Least.{IsLeast, AnyOf}
use Rattle.ir_rules.specs.Seen.{event_of}
use Rattle.ir_assigned.specs.Faults.{EventFault}
use Rattle.ir_assigned.proofs.function.defined_faults.Given as goal

abbrev pub invariant-loop-occurrence : goal.invariant-loop-occurrence
invariant-loop-occurrence l = IsLeast (AnyOf (λ o. EventFault l.function (event_of o)) (take l.occurrence-index l.occurrences)) l.first
