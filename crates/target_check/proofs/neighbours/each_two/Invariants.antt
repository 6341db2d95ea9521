use Rattle.std.proofs.Common.{drop, None}
use Rattle.std.specs.Prelude.{◌↔◌}
use Rattle.std.specs.Option.{option_copied}
use Rattle.target_code.specs.Formed.{EachTwo}
use Rattle.target_check.specs.Stretches.{FitTogether}
use Rattle.target_check.proofs.neighbours.each_two.Given as goal

abbrev pub invariant-loop-line : goal.invariant-loop-line
invariant-loop-line l =
    EachTwo FitTogether (option_copied l.before) (drop l.line-index l.lines) ↔ EachTwo FitTogether None l.lines
