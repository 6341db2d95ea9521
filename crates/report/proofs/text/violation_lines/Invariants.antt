use Rattle.std.proofs.Common.{◌≡◌, ◌++◌, string_bytes, drop}
use Rattle.std.specs.List.{flat_map}
use Rattle.report.specs.Violation.{violation_line}
use Rattle.report.proofs.text.violation_lines.Given as goal

abbrev pub invariant-loop-entry : goal.invariant-loop-entry
invariant-loop-entry l = string_bytes l.lines ++ flat_map violation_line (drop l.entry-index l.entries) ≡ flat_map violation_line l.entries
