use Rattle.ir_ast.proofs.Adds.{on_ok_map, text_label}
use Rattle.ir_ast.proofs.printer.write_label.Goals as goal

pub returns : goal.returns
returns c =
    on_ok_map c.end.result
    (text_label c.args.to.now c.begin.new.self c.word.new.self c.write_block_params.new.to c.mark.new.self c.end.new.self c.args.block.now
    c.in_ok-begin.ensures (rw c.as_slice.ensures at c.in_ok-word.ensures) (rw c.as_slice-2.ensures at c.in_ok-write_block_params.ensures) c.in_ok-mark.ensures)
    c.end.ensures
