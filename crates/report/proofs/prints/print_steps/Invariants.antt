use Rattle.std.proofs.Common.{◌≡◌, ◌++◌, drop}
use Rattle.std.specs.Prelude.{filter}
use Rattle.std.specs.List.{flat_map}
use Rattle.history.specs.declared.log.ThreadLog.{ThreadLog}
use Rattle.report.specs.Report.{is_print}
use Rattle.report.proofs.prints.print_steps.Given as goal

abbrev pub invariant-loop-log : goal.invariant-loop-log
invariant-loop-log l =
    l.found.items ++ filter is_print (flat_map (λ (log : ThreadLog). log.entries) (drop l.log-index l.logs)) ≡ filter is_print (flat_map (λ (log : ThreadLog). log.entries) l.logs)
