use Rattle.ir_ast.specs.Tokens.{plain}
use Rattle.ir_ast.specs.Tokens.Form.{open_round, close_round}
use Rattle.ir_ast.specs.Grammar.{values_tokens}
use Rattle.ir_ast.proofs.Adds.{on_ok_map, adds_around}
use Rattle.ir_ast.proofs.printer.write_args.Goals as goal

pub returns : goal.returns
returns c =
    on_ok_map c.mark-2.result
    (adds_around c.args.to.now c.mark.new.self c.write_values.new.to c.mark-2.new.self open_round (values_tokens c.args.args.now) (plain close_round) c.in_ok-mark.ensures c.in_ok-write_values.ensures)
    c.mark-2.ensures
