use Rattle.std.proofs.Common.{◌≡◌, ◌+◌, ◌*◌, ◌-◌, ◌≤◌, length, vec_capacity}
use Rattle.dated_access.specs.Pieces.{visited}
use Rattle.dated_access.proofs.DeniedLemmas.{DoneTo}
use Rattle.dated_access.proofs.denied.first_denial.Given as goal

abbrev pub invariant-pieces : goal.invariant-pieces
invariant-pieces l = record {
  tree : l.tree ≡ record l.fn.tree { visits = l.tree.visits };
  done : DoneTo l.fn.tree l.access.node l.path l.others l.access.span l.access.kind l.ends.items l.at;
  capacity : vec_capacity l.ends ≡ vec_capacity l.fn.ends;
  visits : l.tree.visits ≤ l.fn.tree.visits + length l.ends.items * visited l.path l.others;
}

abbrev pub decreases-pieces : goal.decreases-pieces
decreases-pieces l = l.access.span.start + l.access.span.len - l.at
