use Rattle.std.proofs.Common.{◌≡◌, take}
use Rattle.history.specs.Restriction.{of_thread}
use Rattle.history.proofs.restriction.of_thread.Given as goal

abbrev pub invariant-loop-entry : goal.invariant-loop-entry
invariant-loop-entry l = l.part.items ≡ of_thread l.thread (take l.entry-index l.entries)
