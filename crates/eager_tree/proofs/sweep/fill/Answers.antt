use Rattle.std.proofs.Common.{arith}
use Rattle.eager_tree.proofs.Trees.{length-filled, fill-more}
use Rattle.eager_tree.proofs.sweep.fill.Goals as goal

pub set-requires : goal.set-requires
set-requires c = rw c.loop-offset.invariant (length-filled c.args.perm c.args.span c.loop-offset.offset c.args.cells.now (omega (arith, c.requires)))

pub loop-offset-preserved : goal.loop-offset-preserved
loop-offset-preserved c =
    fill-more c.args.perm c.args.span c.loop-offset.offset c.args.cells.now c.loop-offset.cells c.set.new.self c.is_inside-accessed.result (omega (arith, c.requires)) c.loop-offset.invariant c.is_inside-accessed.ensures c.set.ensures
