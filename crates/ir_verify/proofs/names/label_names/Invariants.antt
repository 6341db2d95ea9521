use Rattle.std.proofs.Common.{◌≡◌, map, take}
use Rattle.ir_verify.proofs.names.label_names.Given as goal

abbrev pub invariant-loop-block : goal.invariant-loop-block
invariant-loop-block l = map (λ r. r.now) l.labels.items ≡ map (λ b. b.label) (take l.block-index l.blocks)
