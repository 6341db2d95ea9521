use Rattle.std.proofs.Common.{vec_len}
use Rattle.interp.specs.Running.{IsSameThread, HasEnded}
use Rattle.interp.proofs.running.Running.join_all.Given as goal

abbrev pub invariant-loop-self : goal.invariant-loop-self
invariant-loop-self g l = HasEnded g.T.Thread.setting g.T.Thread.state l.space l.fn.why l.self × IsSameThread l.initial.self l.self

abbrev pub decreases-loop-self : goal.decreases-loop-self
decreases-loop-self g l = vec_len l.self.kids
