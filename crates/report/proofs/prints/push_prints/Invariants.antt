use Rattle.std.proofs.Common.{◌≡◌, ◌++◌, drop}
use Rattle.std.specs.Prelude.{filter}
use Rattle.report.specs.Report.{is_print}
use Rattle.report.proofs.prints.push_prints.Given as goal

abbrev pub invariant-loop-entry : goal.invariant-loop-entry
invariant-loop-entry l = l.found.items ++ filter is_print (drop l.entry-index l.entries) ≡ l.initial.found.items ++ filter is_print l.entries
