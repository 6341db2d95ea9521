use Rattle.std.proofs.Common.{◌-◌, ◌+◌, ◌≤◌}
use Rattle.lazy_access.specs.Ends.{runs_from}
use Rattle.lazy_access.proofs.reserve.count_runs.Given as goal

abbrev pub invariant-runs : goal.invariant-runs
invariant-runs l = record {
  within : l.at ≤ l.initial.tree.size;
  few : l.runs ≤ l.at;
  counted : runs_from l.initial.tree.size l.initial.tree.nodes l.node 0 ≤ l.runs + runs_from l.initial.tree.size l.initial.tree.nodes l.node l.at;
}

abbrev pub decreases-runs : goal.decreases-runs
decreases-runs l = l.size - l.at
