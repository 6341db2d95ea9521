use Rattle.std.proofs.Common.{◌≡◌, ◌≤◌, take}
use Rattle.report.specs.Report as report
use Rattle.report.proofs.counts.violation_count.Given as goal

abbrev pub invariant-loop-log : goal.invariant-loop-log
invariant-loop-log l = record { count : l.violations ≡ report.violations_of (take l.log-index l.logs); small : l.violations ≤ l.log-index }
