use Rattle.std.proofs.Common.{take}
use Rattle.ir_rules.specs.Walk.{Finds}
use Rattle.ir_rules.proofs.tables.function_places.Given as goal

abbrev pub invariant-loop-place : goal.invariant-loop-place
invariant-loop-place l = Finds (λ f. f.name.name) (take l.place l.functions) l.places
