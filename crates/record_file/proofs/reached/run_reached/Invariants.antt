use Rattle.record_file.specs.Reaching.{HasCome, left}
use Rattle.record_file.proofs.reached.run_reached.Given as goal

abbrev pub invariant-loop-child : goal.invariant-loop-child
invariant-loop-child l = HasCome l.fn.machine.setting l.limits l.main l.logs l.standing.items l.waiting.items

abbrev pub decreases-loop-child : goal.decreases-loop-child
decreases-loop-child l = left l.standing.items
