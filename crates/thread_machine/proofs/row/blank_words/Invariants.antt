use Rattle.std.proofs.Common.{◌≡◌, ◌++◌, drop, replicate}
use Rattle.thread_machine.proofs.row.blank_words.Given as goal

abbrev pub invariant-loop-at : goal.invariant-loop-at
invariant-loop-at l = l.words ≡ replicate l.at 0 ++ drop l.at l.fn.words
