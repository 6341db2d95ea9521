use Rattle.std.proofs.Common.{◌≡◌, map, take}
use Rattle.ir_verify.proofs.names.function_names.Given as goal

abbrev pub invariant-loop-function : goal.invariant-loop-function
invariant-loop-function l = map (λ r. r.now) l.names.items ≡ map (λ f. f.name) (take l.function-index l.functions)
