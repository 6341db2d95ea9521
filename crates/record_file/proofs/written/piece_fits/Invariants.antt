use Rattle.std.proofs.Common.{take}
use Rattle.std.specs.List.{AllByRecursion}
use Rattle.record_text.specs.Ranges.{ByteFits}
use Rattle.record_file.proofs.written.piece_fits.Given as goal

abbrev pub invariant-loop-at : goal.invariant-loop-at
invariant-loop-at l = AllByRecursion ByteFits (take l.at l.piece)
