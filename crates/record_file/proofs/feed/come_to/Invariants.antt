use Rattle.std.proofs.Common.{◌≡◌, ◌-◌}
use Rattle.runs.specs.Machine.{SettlesWithin}
use Rattle.source_sem.specs.Source.{Source, source}
use Rattle.record_file.specs.Feeding.{HasTurned}
use Rattle.record_file.proofs.feed.come_to.Given as goal

abbrev pub invariant-loop-machine : goal.invariant-loop-machine
invariant-loop-machine l =
    HasTurned l.initial.machine.setting l.turns l.initial.machine.thread l.machine
    × ((last : Source) → SettlesWithin (source l.initial.machine.setting) l.turns l.initial.machine.thread last → last.count ≡ l.count → SettlesWithin (source l.initial.machine.setting) l.turns l.machine.thread last)

abbrev pub decreases-loop-machine : goal.decreases-loop-machine
decreases-loop-machine l = l.count - l.machine.thread.count
