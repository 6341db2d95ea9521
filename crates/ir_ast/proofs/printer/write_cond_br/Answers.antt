use Rattle.ir_ast.proofs.Adds.{on_ok_map, adds_cond_br}
use Rattle.ir_ast.proofs.printer.write_cond_br.Goals as goal

pub returns : goal.returns
returns c =
    on_ok_map c.write_goal-2.result
    (adds_cond_br c.args.to.now c.write_val.new.to c.mark.new.self c.write_goal.new.to c.mark-2.new.self c.write_goal-2.new.to c.args.cond.now c.args.first.now c.args.second.now
    c.in_ok-write_val.ensures c.in_ok-mark.ensures c.in_ok-write_goal.ensures c.in_ok-mark-2.ensures)
    c.write_goal-2.ensures
