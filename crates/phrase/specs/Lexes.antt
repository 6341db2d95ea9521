-- The tokens of a text, as the grammar sees them.
use Rattle.std.specs.Prelude.{◌≡◌, ℕ, List, map, take, drop}
use Rattle.std.specs.Str.Parse.{digits_value}
use Rattle.ir_text.specs.declared.token.TokenKind.{TokenKind}
use Rattle.ir_text.specs.declared.token.TokenKind.TheVariants.{Word, Local, Global, Number, OpenRound, CloseRound, OpenBrace, CloseBrace, Comma, Colon, Equals, Arrow}
use Rattle.ir_text.specs.declared.token.Token.{Token}
use Rattle.ir_text.specs.Lexed.{Lexed}
use Rattle.ir_text.specs.Lexed.Outcome.{good}
use Rattle.ir_ast.specs.Tokens.{Form, Lex}
use Rattle.ir_ast.specs.Tokens.Form.{word, local, global, number, open_round, close_round, open_brace, close_brace, comma, colon, equals, arrow}

-- the form of a token with these bytes: a name without its sign, a number's value
abbrev pub form_of : TokenKind → List ℕ → Form
form_of Word bytes = word bytes
form_of Local bytes = local (drop 1 bytes)
form_of Global bytes = global (drop 1 bytes)
form_of Number bytes = number (digits_value 10 bytes)
form_of OpenRound bytes = open_round
form_of CloseRound bytes = close_round
form_of OpenBrace bytes = open_brace
form_of CloseBrace bytes = close_brace
form_of Comma bytes = comma
form_of Colon bytes = colon
form_of Equals bytes = equals
form_of Arrow bytes = arrow

abbrev pub token_bytes : List ℕ → Token → List ℕ
token_bytes text t = take t.span.len (drop t.span.start text)

abbrev pub lex : List ℕ → Token → Lex
lex text t = record { form = form_of t.kind (token_bytes text t); at = t.span.start }

-- the text is cut into tokens of these forms
pub record IsCut (text : List ℕ) (fs : List Form) : Type 0 where
  pub tokens : List Token
  pub lexed : Lexed text 0 (good tokens)
  pub are : map (λ t. (lex text t).form) tokens ≡ fs
