use Rattle.std.proofs.Common.{◌≡◌, ◌++◌, take}
use Rattle.std.specs.List.{flat_map}
use Rattle.notes.specs.Meaning.{listing_meant}
use Rattle.notes.specs.Violations.{violation_in}
use Rattle.notes.proofs.violations.push_violations.Given as goal

abbrev pub invariant-loop-explained : goal.invariant-loop-explained
invariant-loop-explained l =
    l.notes.items ≡ l.initial.notes.items ++ flat_map (violation_in (listing_meant l.listing) l.logs) (take l.explained-index l.list)
