use Rattle.std.proofs.Common.{◌≢◌, ℕ, ◌<◌, [], get_or}
use Rattle.history.specs.declared.log.ThreadLog.{ThreadLog}
use Rattle.runs.specs.Parts.{Has}
use Rattle.interp.specs.Flatten.{root_of}
use Rattle.interp.proofs.running.Running.end_of_root.Given as goal

abbrev pub invariant-loop-at : goal.invariant-loop-at
invariant-loop-at g l = (k : ℕ) (log : ThreadLog) → k < l.at → Has (root_of (get_or l.self.trees.items k [])) log → log.number ≢ l.child
