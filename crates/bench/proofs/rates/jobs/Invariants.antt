use Rattle.std.proofs.Common.{All}
use Rattle.bench.specs.declared.rates.Job.{Job}
use Rattle.bench.specs.Jobs.{CanStart, CanSplit}
use Rattle.bench.proofs.rates.jobs.Given as goal

abbrev pub invariant-loop-k : goal.invariant-loop-k
invariant-loop-k l = CanSplit l.fn.turns l.desk × All (λ (job : Job). CanStart l.fn.turns job) l.jobs.items
