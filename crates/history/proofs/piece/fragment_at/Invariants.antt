use Rattle.std.proofs.Common.{◌≡◌, ◌<◌, drop, length, slice_get}
use Rattle.history.specs.Pieces.{fragments_of}
use Rattle.history.proofs.piece.fragment_at.Given as goal

abbrev pub invariant-loop-run : goal.invariant-loop-run
invariant-loop-run l =
    (slice_get (fragments_of l.runs) l.at ≡ slice_get (fragments_of (drop l.run-index l.runs)) l.left)
    × (l.left < length (fragments_of (drop l.run-index l.runs)))
