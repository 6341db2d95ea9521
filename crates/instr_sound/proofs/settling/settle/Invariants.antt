use Rattle.std.proofs.Common.{◌-◌}
use Rattle.instr_sound.specs.Settling.{HasTurned}
use Rattle.instr_sound.proofs.settling.settle.Given as goal

abbrev pub invariant-loop-thread : goal.invariant-loop-thread
invariant-loop-thread g l =
    HasTurned (g.T.Thread.setting l.initial.thread) l.turns (g.T.Thread.state l.initial.thread) (g.T.Thread.setting l.thread) (g.T.Thread.state l.thread)

abbrev pub decreases-loop-thread : goal.decreases-loop-thread
decreases-loop-thread g l = l.turns - (g.T.Thread.state l.thread).count
