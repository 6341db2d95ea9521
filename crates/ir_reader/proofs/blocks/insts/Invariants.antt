use Rattle.std.proofs.Common.{◌≡◌, length}
use Rattle.ir_reader.specs.View.{lexes, with_front}
use Rattle.ir_reader.specs.Behind.{counts, after_insts}
use Rattle.ir_reader.specs.Blocks.{insts_at}
use Rattle.ir_reader.proofs.blocks.insts.Given as goal

abbrev pub invariant-loop-alloc : goal.invariant-loop-alloc
invariant-loop-alloc l = record {
  so_far : with_front l.insts (insts_at l.version (counts l.behind) (lexes l.text l.rest)) ≡ insts_at l.version (counts l.fn.before) (lexes l.text l.tokens);
  counted : counts l.behind ≡ after_insts (counts l.fn.before) l.insts;
}

abbrev pub decreases-loop-alloc : goal.decreases-loop-alloc
decreases-loop-alloc l = length l.rest
