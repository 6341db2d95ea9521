use Rattle.std.proofs.Common.{take}
use Rattle.std.specs.List.{AllByRecursion}
use Rattle.record_text.specs.Texts.{EntryFits}
use Rattle.record_file.proofs.written.log_fits.Given as goal

abbrev pub invariant-loop-entry : goal.invariant-loop-entry
invariant-loop-entry l = AllByRecursion (EntryFits l.log.number.0) (take l.entry-index l.entry-items)
