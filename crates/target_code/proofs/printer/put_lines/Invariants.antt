use Rattle.std.proofs.Common.{◌≡◌, ◌++◌, drop}
use Rattle.std.specs.List.{flat_map}
use Rattle.target_code.specs.Texts.{with_newline}
use Rattle.target_code.proofs.printer.put_lines.Given as goal

abbrev pub invariant-loop-line : goal.invariant-loop-line
invariant-loop-line l =
    l.text.items ++ flat_map with_newline (drop l.line-index l.lines) ≡ l.fn.text.items ++ flat_map with_newline l.lines
