use Rattle.std.proofs.Common.{take}
use Rattle.std.specs.List.{AllByRecursion}
use Rattle.record_text.specs.Texts.{LogFits}
use Rattle.record_file.proofs.written.logs_fit.Given as goal

abbrev pub invariant-loop-log : goal.invariant-loop-log
invariant-loop-log l = AllByRecursion LogFits (take l.log-index l.logs)
