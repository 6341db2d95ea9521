use Rattle.std.proofs.Common.{length}
use Rattle.record_text.proofs.Beginnings.{AreRead}
use Rattle.record_text.proofs.record.told.Given as goal

abbrev pub invariant-loop-more : goal.invariant-loop-more
invariant-loop-more l = AreRead l.bytes l.rest l.state l.line

abbrev pub decreases-loop-more : goal.decreases-loop-more
decreases-loop-more l = length l.rest
