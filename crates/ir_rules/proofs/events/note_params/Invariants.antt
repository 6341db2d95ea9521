use Rattle.std.proofs.Common.{take, map}
use Rattle.ir_rules.specs.Occurrences.{param_event}
use Rattle.ir_rules.specs.Seen.{Adds}
use Rattle.ir_rules.proofs.events.note_params.Given as goal

abbrev pub invariant-loop-param : goal.invariant-loop-param
invariant-loop-param l = Adds l.fn.events.items l.events.items (map param_event (take l.param-index l.params))
