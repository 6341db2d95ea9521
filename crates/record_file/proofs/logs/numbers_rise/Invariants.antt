use Rattle.std.proofs.Common.{◌↔◌, drop}
use Rattle.runs.specs.Right.{NumbersRiseFrom}
use Rattle.record_file.proofs.logs.numbers_rise.Given as goal

abbrev pub invariant-loop-log : goal.invariant-loop-log
invariant-loop-log l = NumbersRiseFrom 0 l.logs ↔ NumbersRiseFrom l.least (drop l.log-index l.logs)
