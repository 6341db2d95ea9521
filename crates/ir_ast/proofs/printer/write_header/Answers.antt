use Rattle.ir_ast.proofs.Adds.{on_ok_map, adds_header}
use Rattle.ir_ast.proofs.printer.write_header.Goals as goal

pub returns : goal.returns
returns c =
    on_ok_map c.mark-4.result
    (adds_header c.args.to.now c.word.new.self c.write_function_name.new.to c.mark.new.self c.write_params.new.to c.mark-2.new.self c.mark-3.new.self c.write_result.new.to c.write_attr.new.to c.mark-4.new.self c.args.function.now
    c.in_ok-word.ensures c.in_ok-write_function_name.ensures c.in_ok-mark.ensures (rw c.as_slice.ensures at c.in_ok-write_params.ensures) c.in_ok-mark-2.ensures c.in_ok-mark-3.ensures c.in_ok-write_result.ensures c.in_ok-write_attr.ensures)
    c.mark-4.ensures
