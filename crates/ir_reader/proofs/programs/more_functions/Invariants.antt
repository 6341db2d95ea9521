use Rattle.std.proofs.Common.{◌≡◌, length}
use Rattle.ir_reader.specs.View.{lexes, with_front}
use Rattle.ir_reader.specs.Blocks.{more_functions_at}
use Rattle.ir_reader.proofs.programs.more_functions.Given as goal

abbrev pub invariant-loop-alloc : goal.invariant-loop-alloc
invariant-loop-alloc l = with_front l.found (more_functions_at l.version (l.count, l.before) (lexes l.text l.rest)) ≡ with_front l.fn.front (more_functions_at l.version (l.fn.functions, l.fn.instructions) (lexes l.text l.tokens))

abbrev pub decreases-loop-alloc : goal.decreases-loop-alloc
decreases-loop-alloc l = length l.rest
