use Rattle.std.proofs.Common.{take}
use Rattle.ir_rules.specs.Least.{IsLeast, AnyOf}
use Rattle.ir_verify.specs.Faults.{FunctionFault}
use Rattle.ir_verify.proofs.programs.functions_fault.Given as goal

abbrev pub invariant-loop-function : goal.invariant-loop-function
invariant-loop-function l = IsLeast (AnyOf (FunctionFault l.table.functions.now l.table.hosts.now) (take l.function-index l.functions)) l.first
