use Rattle.std.proofs.Common.{◌≡◌, length}
use Rattle.store_examples.proofs.allocations.half.Given as goal

abbrev pub invariant-loop-i : goal.invariant-loop-i
invariant-loop-i l = length l.piece ≡ l.i
