use Rattle.std.proofs.Common.{◌≡◌, ℕ, ◌+◌, ◌<◌, ◌≤◌, false}
use Rattle.dated_tree.specs.Dates.{seen}
use Rattle.dated_access.specs.Path.{entry, above_entry}
use Rattle.dated_access.specs.Denial.{refuses_local}
use Rattle.dated_access.proofs.denial.denial_on_path.Given as goal

abbrev pub invariant-loop-place : goal.invariant-loop-place
invariant-loop-place l = record {
  tree : l.tree ≡ record l.fn.tree { visits = l.tree.visits };
  seen : l.seen ≡ seen l.fn.tree (above_entry l.path l.place-index) l.at;
  none : (k : ℕ) → k < l.place-index → refuses_local l.fn.tree l.kind l.at (entry l.path k) ≡ false;
  visits : l.tree.visits ≤ l.fn.tree.visits + 1 + l.place-index;
}
