use Rattle.ir_ast.specs.Grammar.{next_tokens}
use Rattle.ir_ast.proofs.Adds.{adds_take}
use Rattle.ir_ast.proofs.printer.write_more.Goals as goal

pub loop-val-preserved : goal.loop-val-preserved
loop-val-preserved c =
    adds_take next_tokens c.args.vals.now c.loop-val.val-index c.val-item.result c.args.to.now c.loop-val.to c.write_next.new.to
    c.loop-val-test.true c.val-item.is c.loop-val.invariant c.in_ok-write_next.ensures
