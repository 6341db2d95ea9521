use Rattle.std.proofs.Common.{◌≡◌, ◌==◌, ◌≤◌, length}
use Rattle.std.specs.List.{slice_split}
use Rattle.record_text.specs.Reading.{left}
use Rattle.record_text.specs.Parts.{bytes_in}
use Rattle.record_text.proofs.PieceLoop.{onto, length_left}
use Rattle.record_text.proofs.pieces.bytes_in.Given as goal

abbrev pub invariant-loop-left : goal.invariant-loop-left
invariant-loop-left l = record {
  read : onto l.piece (bytes_in (left 44 l.left)) ≡ bytes_in (slice_split (λ b. b == 44) l.text);
  small : length l.piece ≤ 32;
}

abbrev pub decreases-loop-left : goal.decreases-loop-left
decreases-loop-left l = length_left l.left
