use Rattle.ir_ast.specs.Tokens.{plain}
use Rattle.ir_ast.specs.Tokens.Form.{open_round, close_round}
use Rattle.ir_ast.specs.Lines.{params_tokens}
use Rattle.ir_ast.proofs.Adds.{on_ok_map, adds_around}
use Rattle.ir_ast.proofs.printer.write_round_params.Goals as goal

pub returns : goal.returns
returns c =
    on_ok_map c.mark-2.result
    (adds_around c.args.to.now c.mark.new.self c.write_params.new.to c.mark-2.new.self open_round (params_tokens 0 c.args.params.now) (plain close_round) c.in_ok-mark.ensures c.in_ok-write_params.ensures)
    c.mark-2.ensures
