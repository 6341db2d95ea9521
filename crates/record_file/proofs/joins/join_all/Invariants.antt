use Rattle.std.proofs.Common.{take}
use Rattle.record_file.specs.Joins.{JoinAll}
use Rattle.record_file.proofs.joins.join_all.Given as goal

abbrev pub invariant-loop-entry : goal.invariant-loop-entry
invariant-loop-entry l = JoinAll l.logs (take l.entry-index l.entries)
