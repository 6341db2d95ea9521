use Rattle.std.proofs.Common.{◌≡◌, ◌≤◌, take}
use Rattle.std.specs.Prelude.{count_by}
use Rattle.runs.specs.Right.{is_spawn}
use Rattle.record_file.proofs.counters.spawns.Given as goal

abbrev pub invariant-loop-entry : goal.invariant-loop-entry
invariant-loop-entry l = (l.count ≡ count_by is_spawn (take l.entry-index l.entries)) × (l.count ≤ l.entry-index)
