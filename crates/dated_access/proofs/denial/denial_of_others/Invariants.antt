use Rattle.std.proofs.Common.{◌≡◌, ℕ, ◌+◌, ◌<◌, ◌≤◌, false}
use Rattle.dated_access.specs.Path.{entry}
use Rattle.dated_access.specs.Denial.{refuses_foreign}
use Rattle.dated_access.proofs.denial.denial_of_others.Given as goal

abbrev pub invariant-loop-place : goal.invariant-loop-place
invariant-loop-place l = record {
  tree : l.tree ≡ record l.fn.tree { visits = l.tree.visits };
  none : (k : ℕ) → k < l.place-index → refuses_foreign l.fn.tree l.kind l.at (entry l.others k) ≡ false;
  visits : l.tree.visits ≤ l.fn.tree.visits + l.place-index;
}
