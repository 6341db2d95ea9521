use Rattle.std.proofs.Common.{◌≡◌, ◌++◌, take}
use Rattle.std.specs.List.{flat_map}
use Rattle.notes.specs.Meaning.{listing_meant}
use Rattle.notes.specs.Races.{race_note}
use Rattle.notes.proofs.races.push_races.Given as goal

abbrev pub invariant-loop-race : goal.invariant-loop-race
invariant-loop-race l = l.notes.items ≡ l.initial.notes.items ++ flat_map (race_note (listing_meant l.listing)) (take l.race-index l.found)
