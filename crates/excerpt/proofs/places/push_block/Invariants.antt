use Rattle.std.proofs.Common.{◌≡◌, ◌++◌, map, take}
use Rattle.excerpt.proofs.places.push_block.Given as goal

abbrev pub invariant-loop-inst : goal.invariant-loop-inst
invariant-loop-inst l = l.into.items ≡ l.initial.into.items ++ map (λ inst. inst.at) (take l.inst-index l.inst-items)
