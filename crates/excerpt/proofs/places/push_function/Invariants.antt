use Rattle.std.proofs.Common.{◌≡◌, ◌++◌, take}
use Rattle.std.specs.List.{flat_map}
use Rattle.excerpt.specs.Places.{block_places}
use Rattle.excerpt.proofs.places.push_function.Given as goal

abbrev pub invariant-loop-block : goal.invariant-loop-block
invariant-loop-block l = l.into.items ≡ l.initial.into.items ++ flat_map block_places (take l.block-index l.block-items)
