use Rattle.std.proofs.Common.{◌≤◌, All}
use Rattle.bench.specs.Journals.{Calls}
use Rattle.bench.proofs.journal.calls.Given as goal

abbrev pub invariant-loop-site : goal.invariant-loop-site
invariant-loop-site g l = Calls l.fn.thread l.fn.alloc l.site l.fn.desk l.desk × All (λ n. n ≤ 4000000) l.desk.view.stamps.own
