use Rattle.std.proofs.Common.{◌≡◌, ◌↔◌, ◌+◌, drop}
use Rattle.runs.specs.Right.{Numbered}
use Rattle.record_file.proofs.merge.is_numbered.Given as goal

abbrev pub invariant-loop-entry : goal.invariant-loop-entry
invariant-loop-entry l = (l.next ≡ l.entry-index + 1) × (Numbered 1 l.entries ↔ Numbered l.next (drop l.entry-index l.entries))
