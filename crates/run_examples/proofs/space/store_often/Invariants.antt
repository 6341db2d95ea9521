use Rattle.std.proofs.Common.{◌≤◌, All}
use Rattle.alloc_space.specs.Tried.{IsSameDesk}
use Rattle.run_examples.proofs.space.store_often.Given as goal

abbrev pub invariant-loop-site : goal.invariant-loop-site
invariant-loop-site g l = IsSameDesk l.fn.desk l.desk × All (λ n. n ≤ l.space.limits.steps) l.desk.view.stamps.own
