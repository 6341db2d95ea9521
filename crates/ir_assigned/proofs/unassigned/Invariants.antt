use Rattle.std.proofs.Common.{take}
use Rattle.ir_rules.specs.Least.{IsLeast, AnyOf}
use Rattle.ir_assigned.specs.Faults.{FunctionFault}
use Rattle.ir_assigned.proofs.unassigned.Given as goal

abbrev pub invariant-loop-function : goal.invariant-loop-function
invariant-loop-function l = IsLeast (AnyOf FunctionFault (take l.function-index l.functions)) l.first
