use Rattle.std.proofs.Common.{take}
use Rattle.record_file.specs.AsWritten.{StampsRise}
use Rattle.record_file.proofs.run.stamps_rise.Given as goal

abbrev pub invariant-loop-log : goal.invariant-loop-log
invariant-loop-log l = StampsRise (take l.log-index l.logs)
