use Rattle.history.proofs.Same.{AgreeBelow}
use Rattle.history.proofs.piece.Piece.equals.Given as goal

abbrev pub invariant-loop-at : goal.invariant-loop-at
invariant-loop-at l = AgreeBelow l.at l.self l.other
