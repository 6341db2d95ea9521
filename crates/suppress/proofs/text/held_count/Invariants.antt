use Rattle.std.proofs.Common.{◌≡◌, ◌≤◌, count_by, take}
use Rattle.suppress.specs.Held.{is_held}
use Rattle.suppress.proofs.text.held_count.Given as goal

abbrev pub invariant-loop-entry : goal.invariant-loop-entry
invariant-loop-entry g l = record { count : l.held ≡ count_by (is_held l.hold.rules) (take l.entry-index l.found); small : l.held ≤ l.entry-index }
