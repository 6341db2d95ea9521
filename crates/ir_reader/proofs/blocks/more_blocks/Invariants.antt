use Rattle.std.proofs.Common.{◌≡◌, ◌+◌, length}
use Rattle.std.specs.List.{sum_by}
use Rattle.ir_ast.specs.Lines.{block_instructions}
use Rattle.ir_reader.specs.View.{lexes, with_front}
use Rattle.ir_reader.specs.Behind.{counts}
use Rattle.ir_reader.specs.Blocks.{more_blocks_at}
use Rattle.ir_reader.proofs.blocks.more_blocks.Given as goal

abbrev pub invariant-loop-alloc : goal.invariant-loop-alloc
invariant-loop-alloc l = record {
  so_far : with_front l.found (more_blocks_at l.version (counts l.behind) (lexes l.text l.rest)) ≡ with_front l.fn.front (more_blocks_at l.version (counts l.fn.before) (lexes l.text l.tokens));
  counted : l.behind.instructions + sum_by block_instructions l.fn.front ≡ l.fn.before.instructions + sum_by block_instructions l.found;
}

abbrev pub decreases-loop-alloc : goal.decreases-loop-alloc
decreases-loop-alloc l = length l.rest
