use Rattle.std.proofs.Common.{◌≡◌, map, take}
use Rattle.ir_assigned.specs.Graph.{successors}
use Rattle.ir_assigned.proofs.graph.graph.Given as goal

abbrev pub invariant-loop-block : goal.invariant-loop-block
invariant-loop-block l = l.nodes.items ≡ map (successors l.blocks) (take l.block-index l.blocks)
