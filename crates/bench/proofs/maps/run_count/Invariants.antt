use Rattle.std.proofs.Common.{◌≤◌, ◌-◌}
use Rattle.bench.proofs.maps.run_count.Given as goal

abbrev pub invariant-loop-at : goal.invariant-loop-at
invariant-loop-at l = (l.at ≤ l.len) × (l.runs ≤ l.at)

abbrev pub decreases-loop-at : goal.decreases-loop-at
decreases-loop-at l = l.len - l.at
