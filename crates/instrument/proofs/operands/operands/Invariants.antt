use Rattle.std.proofs.Common.{◌≡◌, ◌++◌, drop}
use Rattle.instrument.specs.Translation.{operands_of}
use Rattle.instrument.proofs.operands.operands.Given as goal

abbrev pub invariant-loop-arg : goal.invariant-loop-arg
invariant-loop-arg l = l.operands ++ operands_of l.scope (drop l.arg-index l.args) ≡ operands_of l.scope l.args
