use Rattle.std.proofs.Common.{◌≡◌, length}
use Rattle.ir_reader.specs.View.{lexes, with_front}
use Rattle.ir_reader.specs.Parts.{more_at}
use Rattle.ir_reader.proofs.values.more.Given as goal

abbrev pub invariant-loop-alloc : goal.invariant-loop-alloc
invariant-loop-alloc l = with_front l.values (more_at (lexes l.text l.rest)) ≡ with_front l.fn.front (more_at (lexes l.text l.tokens))

abbrev pub decreases-loop-alloc : goal.decreases-loop-alloc
decreases-loop-alloc l = length l.rest
