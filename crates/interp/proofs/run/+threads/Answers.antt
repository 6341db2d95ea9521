use Rattle.std.proofs.Common.{sym, subst}
use Rattle.interp.specs.declared.running.Running.{Running}
use Rattle.interp.specs.Running.{GoesOn}
use Rattle.interp.proofs.run.+threads.Goals as goal
use Rattle.interp.proofs.run.+threads.Goals.{start-in-Ok, start-in-Err}

pub start-returns-clause-on : goal.start-returns-clause-on
start-returns-clause-on g t c = elim c.match-started.branch [
  | start-in-Ok w ↦ subst (λ (r : Running g.row.T.Denot). GoesOn g.T.Thread.setting g.T.Thread.state c.args.space.now r) (sym w.running-is) w.keep.ensures.on
  | start-in-Err w ↦ subst (λ (r : Running g.row.T.Denot). GoesOn g.T.Thread.setting g.T.Thread.state c.args.space.now r) (sym w.running-is) w.take_in.ensures.on
]
