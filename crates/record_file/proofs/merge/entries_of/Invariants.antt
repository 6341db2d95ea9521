use Rattle.std.proofs.Common.{◌≡◌, ◌++◌, drop}
use Rattle.runs.specs.Merge.{all_entries}
use Rattle.record_file.proofs.merge.entries_of.Given as goal

abbrev pub invariant-loop-log : goal.invariant-loop-log
invariant-loop-log l = l.entries.items ++ all_entries (drop l.log-index l.logs) ≡ all_entries l.logs
