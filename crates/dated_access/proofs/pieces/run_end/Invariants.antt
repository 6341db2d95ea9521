use Rattle.dated_access.proofs.PieceLemmas.{UpTo}
use Rattle.dated_access.proofs.pieces.run_end.Given as goal

abbrev pub invariant-loop-place : goal.invariant-loop-place
invariant-loop-place l = record {
  runs : UpTo l.tree l.places l.place-index l.at l.end l.next;
}
