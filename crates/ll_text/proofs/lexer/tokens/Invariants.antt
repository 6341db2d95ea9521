use Rattle.std.proofs.Common.{◌≤◌, ◌-◌, length}
use Rattle.ll_text.proofs.Steps.{GoesOn}
use Rattle.ll_text.proofs.lexer.tokens.Given as goal

abbrev pub invariant-loop-at : goal.invariant-loop-at
invariant-loop-at l = record {
  inside : l.at ≤ length l.text;
  so_far : GoesOn l.text l.at l.found.items;
}

abbrev pub decreases-loop-at : goal.decreases-loop-at
decreases-loop-at l = length l.text - l.at
