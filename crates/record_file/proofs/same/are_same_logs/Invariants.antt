use Rattle.history.proofs.Same.{AgreeBelow}
use Rattle.record_file.proofs.same.are_same_logs.Given as goal

abbrev pub invariant-loop-at : goal.invariant-loop-at
invariant-loop-at l = AgreeBelow l.at l.logs l.others
