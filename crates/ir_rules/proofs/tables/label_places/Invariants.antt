use Rattle.std.proofs.Common.{take}
use Rattle.ir_rules.specs.Walk.{Finds}
use Rattle.ir_rules.proofs.tables.label_places.Given as goal

abbrev pub invariant-loop-place : goal.invariant-loop-place
invariant-loop-place l = Finds (λ b. b.label.name) (take l.place l.blocks) l.places
