use Rattle.std.proofs.Common.{◌≡◌, ◌+◌, ◌*◌, ◌≤◌}
use Rattle.dated_tree.specs.Dates.{seen}
use Rattle.dated_access.specs.Path.{above_entry}
use Rattle.dated_access.specs.Change.{HasChanged, AfterLocal}
use Rattle.dated_access.proofs.change.meet_on_path.Given as goal

abbrev pub invariant-loop-place : goal.invariant-loop-place
invariant-loop-place l = record {
  tree : l.tree ≡ record l.fn.tree { nodes = l.tree.nodes; visits = l.tree.visits };
  seen : l.seen ≡ seen l.fn.tree (above_entry l.path l.place-index) l.span.start;
  changed : HasChanged (AfterLocal l.fn.tree l.kind) l.fn.tree l.tree l.path l.place-index l.span;
  visits : l.tree.visits ≤ l.fn.tree.visits + 1 + 2 * l.place-index;
}
