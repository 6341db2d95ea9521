use Rattle.std.proofs.Common.{◌≡◌, ◌++◌, drop}
use Rattle.std.specs.List.{flat_map}
use Rattle.history.specs.declared.entry.Entry.{Entry}
use Rattle.runs.specs.Right.{spawned_by_reply}
use Rattle.record_file.proofs.counters.push_threads.Given as goal

abbrev pub invariant-loop-entry : goal.invariant-loop-entry
invariant-loop-entry l =
    let named = λ (e : Entry). spawned_by_reply e.reply.plain in
    l.numbers.items ++ flat_map named (drop l.entry-index l.entry-items) ≡ l.initial.numbers.items ++ flat_map named l.log.entries
