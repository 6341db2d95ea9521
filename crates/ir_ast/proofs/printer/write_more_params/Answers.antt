use Rattle.ir_ast.specs.Written.{next_param}
use Rattle.ir_ast.proofs.Adds.{adds_take}
use Rattle.ir_ast.proofs.printer.write_more_params.Goals as goal

pub loop-param-preserved : goal.loop-param-preserved
loop-param-preserved c =
    adds_take next_param c.args.params.now c.loop-param.param-index c.param-item.result c.args.to.now c.loop-param.to c.write_next_param.new.to
    c.loop-param-test.true c.param-item.is c.loop-param.invariant c.in_ok-write_next_param.ensures
