use Rattle.std.proofs.Common.{◌-◌, ◌≡◌, ◌≤◌}
use Rattle.lazy_access.specs.Change.{IsRoomier}
use Rattle.lazy_access.specs.Ends.{HasEndRoomOn}
use Rattle.lazy_access.proofs.reserve.reserve_ends.Given as goal

abbrev pub invariant-runs : goal.invariant-runs
invariant-runs l = record {
  tree : l.tree ≡ record l.initial.tree { nodes = l.tree.nodes; visits = l.tree.visits };
  rises : l.initial.tree.visits ≤ l.tree.visits;
  within : l.at ≤ l.initial.tree.size;
  same : IsRoomier l.initial.tree.nodes l.tree.nodes;
  room : HasEndRoomOn l.tree.nodes l.x 0 l.at l.runs;
}

abbrev pub decreases-runs : goal.decreases-runs
decreases-runs l = l.size - l.at
