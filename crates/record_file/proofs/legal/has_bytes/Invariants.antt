use Rattle.std.proofs.Common.{take}
use Rattle.record_file.specs.Replaying.{HaveBytes}
use Rattle.record_file.proofs.legal.has_bytes.Given as goal

abbrev pub invariant-loop-at : goal.invariant-loop-at
invariant-loop-at l = HaveBytes (take l.at l.piece)
