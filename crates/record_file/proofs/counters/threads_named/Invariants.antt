use Rattle.std.proofs.Common.{◌≡◌, ◌++◌, drop}
use Rattle.std.specs.List.{flat_map}
use Rattle.runs.specs.Right.{thread_numbers}
use Rattle.record_file.proofs.counters.threads_named.Given as goal

abbrev pub invariant-loop-log : goal.invariant-loop-log
invariant-loop-log l = l.numbers.items ++ flat_map thread_numbers (drop l.log-index l.logs) ≡ flat_map thread_numbers l.logs
