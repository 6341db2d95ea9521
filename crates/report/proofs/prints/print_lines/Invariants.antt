use Rattle.std.proofs.Common.{◌≡◌, ◌++◌, string_bytes, drop}
use Rattle.std.specs.List.{flat_map}
use Rattle.report.specs.Report.{print_line}
use Rattle.report.proofs.prints.print_lines.Given as goal

abbrev pub invariant-loop-entry : goal.invariant-loop-entry
invariant-loop-entry l = string_bytes l.lines ++ flat_map print_line (drop l.entry-index l.entries) ≡ flat_map print_line l.entries
