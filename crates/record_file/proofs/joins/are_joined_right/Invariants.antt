use Rattle.std.proofs.Common.{take}
use Rattle.history.specs.declared.log.ThreadLog.{ThreadLog}
use Rattle.runs.specs.Parts.{Has}
use Rattle.record_file.specs.Joins.{JoinAll, EndsRight}
use Rattle.record_file.proofs.joins.are_joined_right.Given as goal

abbrev pub invariant-loop-log : goal.invariant-loop-log
invariant-loop-log l = (log : ThreadLog) → Has (take l.log-index l.logs) log → JoinAll l.logs log.entries × EndsRight l.logs log.«end»
