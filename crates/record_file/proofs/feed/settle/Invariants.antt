use Rattle.std.proofs.Common.{◌-◌}
use Rattle.record_file.specs.Feeding.{HasTurned}
use Rattle.record_file.proofs.feed.settle.Given as goal

abbrev pub invariant-loop-machine : goal.invariant-loop-machine
invariant-loop-machine l = HasTurned l.initial.machine.setting l.turns l.initial.machine.thread l.machine

abbrev pub decreases-loop-machine : goal.decreases-loop-machine
decreases-loop-machine l = l.turns - l.machine.thread.count
