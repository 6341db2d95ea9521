use Rattle.std.proofs.Common.{take}
use Rattle.ir_rules.specs.Least.{IsLeast, AnyOf}
use Rattle.ir_rules.specs.Occurrences.{function_events}
use Rattle.ir_verify.specs.Faults.{InstFault}
use Rattle.ir_verify.proofs.functions.block_fault.Given as goal

abbrev pub invariant-loop-inst : goal.invariant-loop-inst
invariant-loop-inst l = IsLeast (AnyOf (InstFault l.table.functions.now l.table.hosts.now (function_events l.function)) (take l.inst-index l.insts)) l.first
