use Rattle.std.proofs.Common.{◌≡◌, take, All}
use Rattle.history.specs.declared.entry.Entry.{Entry}
use Rattle.record_file.proofs.run.are_own.Given as goal

abbrev pub invariant-loop-entry : goal.invariant-loop-entry
invariant-loop-entry l = All (λ (e : Entry). e.thread ≡ l.number) (take l.entry-index l.entries)
