use Rattle.std.proofs.Common.{◌-◌, ◌≡◌, ◌<◌, ◌≤◌, ℕ, true}
use Rattle.lazy_access.specs.Ends.{IsEnded}
use Rattle.lazy_tree.specs.Ring.{is_cut}
use Rattle.lazy_access.proofs.Ending.{HasRoomLeft}
use Rattle.lazy_access.proofs.ends.end_runs.Given as goal

abbrev pub invariant-runs : goal.invariant-runs
invariant-runs l = record {
  tree : l.tree ≡ record l.initial.tree { nodes = l.tree.nodes; visits = l.tree.visits };
  rises : l.initial.tree.visits ≤ l.tree.visits;
  within : l.at ≤ l.initial.tree.size;
  ended : IsEnded l.initial.tree.size l.initial.tree.nodes l.tree.nodes l.x 0 l.at;
  left : HasRoomLeft l.initial.tree.size l.initial.tree.nodes l.tree.nodes l.x l.at;
  begins : l.at < l.initial.tree.size → 1 ≤ l.at → is_cut l.initial.tree.nodes l.at ≡ true;
  cuts : (s : ℕ) → s < l.initial.tree.size → is_cut l.tree.nodes s ≡ true → is_cut l.initial.tree.nodes s ≡ true;
}

abbrev pub decreases-runs : goal.decreases-runs
decreases-runs l = l.size - l.at
