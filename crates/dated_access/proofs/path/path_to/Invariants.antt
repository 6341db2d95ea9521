use Rattle.std.proofs.Common.{◌≡◌, ◌≤◌, ◌+◌, ◌++◌, length, vec_capacity}
use Rattle.dated_access.specs.Path.{ups_to}
use Rattle.dated_tree.specs.Stored.{IsStored}
use Rattle.dated_access.proofs.path.path_to.Given as goal

abbrev pub invariant-up : goal.invariant-up
invariant-up l = record {
  tree : IsStored l.tree;
  ups : l.path.items ++ ups_to l.tree.nodes l.here ≡ ups_to l.tree.nodes l.x;
  room : length l.path.items + l.here ≤ l.x;
  capacity : vec_capacity l.path ≡ vec_capacity l.fn.path;
}

abbrev pub decreases-up : goal.decreases-up
decreases-up l = l.here
