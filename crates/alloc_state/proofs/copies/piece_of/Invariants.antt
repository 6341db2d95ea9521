use Rattle.std.proofs.Common.{◌≡◌}
use Rattle.history.specs.Fragments.{piece_at}
use Rattle.alloc_state.proofs.copies.piece_of.Given as goal

abbrev pub invariant-loop-i : goal.invariant-loop-i
invariant-loop-i l = l.piece ≡ piece_at l.memory l.shadow.frags l.at l.i
