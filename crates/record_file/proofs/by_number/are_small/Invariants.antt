use Rattle.std.proofs.Common.{take, ◌^◌}
use Rattle.history.specs.declared.entry.Entry.{Entry}
use Rattle.runs.specs.Parts.{Has}
use Rattle.record_file.specs.ByNumber.{IsSmall}
use Rattle.record_file.proofs.by_number.are_small.Given as goal

abbrev pub invariant-loop-entry : goal.invariant-loop-entry
invariant-loop-entry l = (e : Entry) → Has (take l.entry-index l.entries) e → IsSmall (2 ^ 32) e.alloc
