use Rattle.std.proofs.Common.{◌≡◌, take}
use Rattle.std.specs.List.{flat_map}
use Rattle.excerpt.specs.Places.{function_places}
use Rattle.excerpt.proofs.places.instruction_places.Given as goal

abbrev pub invariant-loop-function : goal.invariant-loop-function
invariant-loop-function l = l.all.items ≡ flat_map function_places (take l.function-index l.function-items)
