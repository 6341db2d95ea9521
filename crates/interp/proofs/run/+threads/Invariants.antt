use Rattle.std.proofs.Common.{◌-◌, ◌*◌, ◌+◌}
use Rattle.interp.specs.Running.{GoesOn, IsSameThread}
use Rattle.interp.proofs.run.+threads.Given as goal

abbrev pub decreases-run_thread : goal.decreases-run_thread
decreases-run_thread g l = 5 * (4294967296 - l.number.0)

abbrev pub decreases-run_all : goal.decreases-run_all
decreases-run_all g l = 5 * (4294967296 - l.running.now.number.0) - 2

abbrev pub decreases-start : goal.decreases-start
decreases-start g l = 5 * (4294967296 - l.running.now.number.0) - 3

abbrev pub decreases-run_thread-scope : goal.decreases-run_thread-scope
decreases-run_thread-scope g l = 5 * (4294967296 - l.running.number.0) - 1

abbrev pub decreases-start-spawn_with : goal.decreases-start-spawn_with
decreases-start-spawn_with g l = 5 * (4294967296 - l.number.0) + 1

abbrev pub invariant-run_all-loop-end : goal.invariant-run_all-loop-end
invariant-run_all-loop-end g l = GoesOn g.T.Thread.setting g.T.Thread.state l.space l.running × IsSameThread l.initial.running l.running

abbrev pub decreases-run_all-loop-end : goal.decreases-run_all-loop-end
decreases-run_all-loop-end g l = l.space.limits.steps - l.running.desk.view.seen
