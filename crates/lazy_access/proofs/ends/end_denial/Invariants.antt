use Rattle.std.proofs.Common.{◌-◌, ◌≡◌, ◌≤◌}
use Rattle.lazy_access.specs.Ends.{NoEndDenial}
use Rattle.lazy_access.proofs.ends.end_denial.Given as goal

abbrev pub invariant-runs : goal.invariant-runs
invariant-runs l = record {
  tree : l.tree ≡ record l.initial.tree { visits = l.tree.visits };
  rises : l.initial.tree.visits ≤ l.tree.visits;
  within : l.at ≤ l.initial.tree.size;
  none : NoEndDenial l.initial.tree.nodes l.x 0 l.at;
}

abbrev pub decreases-runs : goal.decreases-runs
decreases-runs l = l.size - l.at
