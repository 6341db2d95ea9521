use Rattle.std.proofs.Common.{◌-◌, ◌≤◌}
use Rattle.interp.specs.Running.{IsSameThread, GoesOn}
use Rattle.interp.proofs.running.Running.run_on.Given as goal

abbrev pub invariant-loop-end : goal.invariant-loop-end
invariant-loop-end g l = GoesOn g.T.Thread.setting g.T.Thread.state l.space l.self × IsSameThread l.initial.self l.self × (l.initial.self.desk.view.seen ≤ l.self.desk.view.seen)

abbrev pub decreases-loop-end : goal.decreases-loop-end
decreases-loop-end g l = l.space.limits.steps - l.self.desk.view.seen
