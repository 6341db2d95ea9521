use Rattle.std.proofs.Common.{◌≡◌, ◌++◌, string_bytes, drop}
use Rattle.std.specs.List.{flat_map}
use Rattle.report.specs.End.{end_line}
use Rattle.report.proofs.text.end_lines.Given as goal

abbrev pub invariant-loop-log : goal.invariant-loop-log
invariant-loop-log l = string_bytes l.lines ++ flat_map end_line (drop l.log-index l.logs) ≡ flat_map end_line l.logs
