use Rattle.std.proofs.Common.{◌≡◌, ◌++◌, drop, replicate, None}
use Rattle.thread_machine.proofs.row.blank_provs.Given as goal

abbrev pub invariant-loop-at : goal.invariant-loop-at
invariant-loop-at l = l.provs ≡ replicate l.at None ++ drop l.at l.fn.provs
