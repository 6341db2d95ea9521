use Rattle.std.proofs.Common.{◌≡◌, length}
use Rattle.ir_reader.specs.View.{lexes, with_front}
use Rattle.ir_reader.specs.Blocks.{more_params_at}
use Rattle.ir_reader.proofs.params.more_params.Given as goal

abbrev pub invariant-loop-alloc : goal.invariant-loop-alloc
invariant-loop-alloc l = with_front l.params (more_params_at l.attrs l.before (lexes l.text l.rest)) ≡ with_front l.fn.front (more_params_at l.attrs l.fn.registers (lexes l.text l.tokens))

abbrev pub decreases-loop-alloc : goal.decreases-loop-alloc
decreases-loop-alloc l = length l.rest
