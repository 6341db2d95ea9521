use Rattle.history.proofs.Same.{AgreeBelow}
use Rattle.record_file.proofs.same.are_same_entries.Given as goal

abbrev pub invariant-loop-at : goal.invariant-loop-at
invariant-loop-at l = AgreeBelow l.at l.entries l.others
