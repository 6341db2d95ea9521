use Rattle.ir_ast.proofs.Adds.{on_ok_map, adds_all_params}
use Rattle.ir_ast.proofs.printer.write_params.Goals as goal

pub returns-in_ok-write_param-in-len1-up : goal.returns-in_ok-write_param-in-len1-up
returns-in_ok-write_param-in-len1-up c =
    on_ok_map c.write_more_params.result
    (adds_all_params c.args.to.now c.write_param.new.to c.write_more_params.new.to c.first-item.result c.args.params.now c.in-len1-up.len_at_least c.first-item.is c.in_ok-write_param-in-len1-up.ensures)
    c.write_more_params.ensures
