use Rattle.std.proofs.Common.{◌≡◌, map, drop}
use Rattle.ir_rules.specs.Occurrences.{param_event}
use Rattle.ir_assigned.specs.Graph.{assigns}
use Rattle.ir_assigned.proofs.function.is_param.Given as goal

abbrev pub invariant-loop-param : goal.invariant-loop-param
invariant-loop-param l = assigns l.register (map param_event l.params) ≡ assigns l.register (map param_event (drop l.param-index l.params))
