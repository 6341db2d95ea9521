use Rattle.std.proofs.Common.{take}
use Rattle.record_file.specs.ByNumber.{AreLegalLogs}
use Rattle.record_file.proofs.legal.are_legal.Given as goal

abbrev pub invariant-loop-log : goal.invariant-loop-log
invariant-loop-log l = AreLegalLogs (take l.log-index l.logs)
