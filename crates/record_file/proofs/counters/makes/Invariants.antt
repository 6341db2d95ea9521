use Rattle.std.proofs.Common.{◌≡◌, ◌≤◌, take}
use Rattle.std.specs.Prelude.{count_by}
use Rattle.history.specs.Histories.{is_make_step}
use Rattle.record_file.proofs.counters.makes.Given as goal

abbrev pub invariant-loop-entry : goal.invariant-loop-entry
invariant-loop-entry l = (l.count ≡ count_by is_make_step (take l.entry-index l.entries)) × (l.count ≤ l.entry-index)
