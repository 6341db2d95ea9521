use Rattle.std.proofs.Common.{◌≡◌, ◌+◌, drop}
use Rattle.ir_ast.specs.Numbers.{place, host_names}
use Rattle.instrument.proofs.scope.host_place.Given as goal

abbrev pub invariant-loop-at : goal.invariant-loop-at
invariant-loop-at l = l.at + place (host_names (drop l.at l.hosts)) l.name ≡ place (host_names l.hosts) l.name
