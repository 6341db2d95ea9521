use Rattle.std.proofs.Common.{◌≡◌, ◌++◌, drop}
use Rattle.runs.specs.Right.{beyond}
use Rattle.record_file.proofs.counters.stamps_beyond.Given as goal

abbrev pub invariant-loop-log : goal.invariant-loop-log
invariant-loop-log l = l.stamps.items ++ beyond (drop l.log-index l.logs) ≡ beyond l.logs
