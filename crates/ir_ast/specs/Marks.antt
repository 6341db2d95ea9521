-- The tokens that are always written the same.
use Rattle.ir_ast.specs.Tokens.{Form}
use Rattle.ir_ast.specs.Tokens.Form.{open_round, close_round, open_brace, close_brace, comma, colon, equals, arrow}
use Rattle.ir_ast.specs.declared.mark.Mark.{Mark}
use Rattle.ir_ast.specs.declared.mark.Mark.TheVariants.{OpenRound, CloseRound, OpenBrace, CloseBrace, Comma, Colon, Equals, Arrow}

abbrev pub mark_form : Mark → Form
mark_form OpenRound = open_round
mark_form CloseRound = close_round
mark_form OpenBrace = open_brace
mark_form CloseBrace = close_brace
mark_form Comma = comma
mark_form Colon = colon
mark_form Equals = equals
mark_form Arrow = arrow
