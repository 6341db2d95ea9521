use Rattle.std.proofs.Common.{◌≡◌, ◌++◌, take}
use Rattle.std.specs.List.{flat_map}
use Rattle.notes.specs.Meaning.{listing_meant}
use Rattle.notes.specs.Traps.{trap_note}
use Rattle.notes.proofs.traps.push_traps.Given as goal

abbrev pub invariant-loop-log : goal.invariant-loop-log
invariant-loop-log l = l.notes.items ≡ l.initial.notes.items ++ flat_map (trap_note (listing_meant l.listing) l.kept) (take l.log-index l.logs)
