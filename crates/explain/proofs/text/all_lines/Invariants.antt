use Rattle.std.proofs.Common.{◌≡◌, ◌++◌, drop}
use Rattle.std.specs.List.{flat_map}
use Rattle.explain.specs.Text.{explained_lines}
use Rattle.explain.proofs.text.all_lines.Given as goal

abbrev pub invariant-loop-explained : goal.invariant-loop-explained
invariant-loop-explained l = l.lines.items ++ flat_map explained_lines (drop l.explained-index l.list) ≡ flat_map explained_lines l.list
