use Rattle.std.proofs.Common.{◌≡◌, ◌++◌, drop}
use Rattle.std.specs.List.{flat_map}
use Rattle.suppress.specs.Held.{shown_line}
use Rattle.suppress.proofs.text.shown_lines.Given as goal

abbrev pub invariant-loop-entry : goal.invariant-loop-entry
invariant-loop-entry g l = l.lines.items ++ flat_map (shown_line l.hold.rules) (drop l.entry-index l.found) ≡ flat_map (shown_line l.hold.rules) l.found
