use Rattle.std.proofs.Common.{◌≡◌, ◌+◌, drop}
use Rattle.ir_ast.specs.Numbers.{host_names, place}
use Rattle.source_machine.proofs.text.place_of_host.Given as goal

abbrev pub invariant-loop-at : goal.invariant-loop-at
invariant-loop-at l = l.at + place (host_names (drop l.at l.hosts)) l.name ≡ place (host_names l.hosts) l.name
