use Rattle.std.proofs.Common.{◌≡◌, take}
use Rattle.std.specs.List.{flat_map}
use Rattle.notes.specs.Entries.{borrowed_place}
use Rattle.notes.proofs.entries.borrowed_places.Given as goal

abbrev pub invariant-loop-param : goal.invariant-loop-param
invariant-loop-param l = l.places.items ≡ flat_map (borrowed_place l.request) (take l.param-index l.params)
