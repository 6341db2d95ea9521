use Rattle.std.proofs.Common.{◌≡◌, ◌+◌, ◌*◌, ◌≤◌}
use Rattle.dated_access.specs.Change.{HasChanged, AfterForeign}
use Rattle.dated_access.proofs.change.meet_of_others.Given as goal

abbrev pub invariant-loop-place : goal.invariant-loop-place
invariant-loop-place l = record {
  tree : l.tree ≡ record l.fn.tree { nodes = l.tree.nodes; visits = l.tree.visits };
  changed : HasChanged (AfterForeign l.fn.tree l.kind) l.fn.tree l.tree l.others l.place-index l.span;
  visits : l.tree.visits ≤ l.fn.tree.visits + 2 * l.place-index;
}
