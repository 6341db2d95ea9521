use Rattle.record_file.specs.Feeding.{HasFed}
use Rattle.record_file.proofs.feed.feed_all.Given as goal

abbrev pub invariant-loop-entry : goal.invariant-loop-entry
invariant-loop-entry l = HasFed l.turns l.initial.machine l.entries l.entry-index l.machine l.children.items
