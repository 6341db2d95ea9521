use Rattle.std.proofs.Common.{◌≡◌}
use Rattle.history.specs.Restriction.{of_alloc}
use Rattle.record_text.proofs.logs.entries_on.Given as goal

abbrev pub invariant-loop-entry : goal.invariant-loop-entry
invariant-loop-entry l = l.own.items ≡ of_alloc l.number l.yielded
