use Rattle.std.proofs.Common.{◌∙◌}
use Rattle.ir_ast.proofs.Counts.{printed}
use Rattle.ir_ast.proofs.printer.print.Goals as goal

pub returns : goal.returns
returns c =
    c.into_text.ensures
    ∙ printed c.new-to.result c.write_first_line.new.to c.write_functions.new.to c.args.program.now c.new-to.ensures c.in_ok-write_first_line.ensures
    (rw c.as_slice.ensures at c.in_ok-write_functions.ensures)
