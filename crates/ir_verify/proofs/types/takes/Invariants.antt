use Rattle.std.proofs.Common.{◌≡◌, drop}
use Rattle.ir_rules.specs.Checks.{takes}
use Rattle.ir_verify.proofs.types.takes.Given as goal

abbrev pub invariant-loop-place : goal.invariant-loop-place
invariant-loop-place l = takes l.params l.args ≡ takes (drop l.place l.params) (drop l.place l.args)
