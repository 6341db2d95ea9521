use Rattle.std.proofs.Common.{◌+◌, length}
use Rattle.flow_paths.specs.Paths.{unmarked}
use Rattle.flow_paths.proofs.Marks.{Sound}
use Rattle.flow_paths.proofs.entered.Given as goal

abbrev pub invariant-loop-node : goal.invariant-loop-node
invariant-loop-node l = Sound l.graph l.stops l.marked.items l.work.items

abbrev pub decreases-loop-node : goal.decreases-loop-node
decreases-loop-node l = unmarked l.marked.items + length l.work.items
