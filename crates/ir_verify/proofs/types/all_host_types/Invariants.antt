use Rattle.std.proofs.Common.{◌≡◌, drop}
use Rattle.ir_rules.specs.Checks.{all_host_types}
use Rattle.ir_verify.proofs.types.all_host_types.Given as goal

abbrev pub invariant-loop-arg : goal.invariant-loop-arg
invariant-loop-arg l = all_host_types l.args ≡ all_host_types (drop l.arg-index l.args)
