-- The canonical text of a program.
use Rattle.std.specs.Prelude.{ℕ, Bool, true, false, ◌||◌, List, [], ◌∷◌, ◌++◌, replicate, codes}
use Rattle.std.specs.List.{flat_map}
use Rattle.std.specs.Fmt.{decimal}
use Rattle.ir_ast.specs.Tokens.{Form, forms}
use Rattle.ir_ast.specs.Tokens.Form.{word, local, global, number, open_round, close_round, open_brace, close_brace, comma, colon, equals, arrow}
use Rattle.ir_ast.specs.Lines.{Line, program_lines}
use Rattle.ir_ast.specs.declared.program.Program.{Program}

abbrev pub form_text : Form → List ℕ
form_text (word text) = text
form_text (local name) = codes "%" ++ name
form_text (global name) = codes "@" ++ name
form_text (number n) = decimal n
form_text open_round = codes "("
form_text close_round = codes ")"
form_text open_brace = codes "{"
form_text close_brace = codes "}"
form_text comma = codes ","
form_text colon = codes ":"
form_text equals = codes "="
form_text arrow = codes "->"

-- no space comes before these
abbrev pub no_space_before : Form → Bool
no_space_before comma = true
no_space_before open_round = true
no_space_before close_round = true
no_space_before colon = true
no_space_before _ = false

-- no space comes after this
abbrev pub no_space_after : Form → Bool
no_space_after open_round = true
no_space_after _ = false

abbrev pub space : Bool → List ℕ
space true = []
space false = codes " "

-- The tokens with a space before each but those that take none. `tight` says that none is due before the first.
abbrev pub spaced : Bool → List Form → List ℕ
spaced tight [] = []
spaced tight (f ∷ fs) = space (tight || no_space_before f) ++ form_text f ++ spaced (no_space_after f) fs

abbrev pub line_text : Line → List ℕ
line_text line = replicate line.indent 32 ++ spaced true (forms line.tokens) ++ codes "\n"

abbrev pub canonical : Program → List ℕ
canonical p = flat_map line_text (program_lines p)
