use Rattle.std.proofs.Common.{take}
use Rattle.ir_rules.specs.Least.{IsLeast, AnyOf}
use Rattle.ir_verify.specs.Faults.{BlockFault}
use Rattle.ir_verify.proofs.functions.blocks_fault.Given as goal

abbrev pub invariant-loop-block : goal.invariant-loop-block
invariant-loop-block l = IsLeast (AnyOf (BlockFault l.table.functions.now l.table.hosts.now l.function) (take l.block-index l.blocks)) l.first
