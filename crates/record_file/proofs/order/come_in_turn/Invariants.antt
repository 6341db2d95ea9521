use Rattle.std.proofs.Common.{drop}
use Rattle.source_sem.specs.Records.{allowed}
use Rattle.record_file.specs.Following.{first_thread, no_thread}
use Rattle.record_file.proofs.Ordering.{TurnsTo}
use Rattle.record_file.proofs.order.come_in_turn.Given as goal

abbrev pub invariant-loop-entry : goal.invariant-loop-entry
invariant-loop-entry l = TurnsTo (allowed l.limits l.hosts) first_thread no_thread l.started.items l.joined.items l.entries (drop l.entry-index l.entries)
