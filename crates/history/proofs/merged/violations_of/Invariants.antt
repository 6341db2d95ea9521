use Rattle.std.proofs.Common.{◌≡◌, ◌++◌, drop}
use Rattle.std.specs.List.{filter_map}
use Rattle.history.specs.Records.{first_violation}
use Rattle.history.proofs.merged.violations_of.Given as goal

abbrev pub invariant-loop-log : goal.invariant-loop-log
invariant-loop-log l = l.found.items ++ filter_map first_violation (drop l.log-index l.logs)
    ≡ filter_map first_violation l.logs
