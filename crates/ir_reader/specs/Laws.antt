-- What the tokens of a text are read as, as a whole.
use Rattle.std.specs.Prelude.{◌≡◌, ℕ, List, Ok, Err}
use Rattle.phrase.specs.Whole.{Reads, Refused, all_of}
use Rattle.phrase.specs.declared.Cause.{Cause}
use Rattle.ir_ast.specs.Tokens.{Lex}
use Rattle.ir_ast.specs.Lines.{spell}
use Rattle.ir_ast.specs.Shapes.{IsShaped}
use Rattle.ir_ast.specs.declared.program.Function.{Function}
use Rattle.ir_ast.specs.declared.program.Program.{Program}
use Rattle.ir_reader.specs.Blocks.{program_at}

-- the program of this version and these functions, whose text has this length
abbrev pub with_end : ℕ → ℕ × List Function → Program
with_end end x = record { version = x.0; functions = x.1; «end» = end }

-- what is read is a program that the tokens are written with
abbrev pub ReadsPrograms : Type 0
ReadsPrograms = (ts : List Lex) (x : ℕ × List Function) (end : ℕ) → all_of program_at ts ≡ Ok x → Reads IsShaped spell ts (with_end end x)

-- tokens that a program is written with are read as that program
abbrev pub ReadsEach : Type 0
ReadsEach = (ts : List Lex) (p : Program) → Reads IsShaped spell ts p → all_of program_at ts ≡ Ok (p.version, p.functions)

-- what is refused is refused for the right cause, at the right token
abbrev pub RefusesRightly : Type 0
RefusesRightly = (ts : List Lex) (c : Cause) (rest : List Lex) → all_of program_at ts ≡ Err (c, rest) → Refused IsShaped spell c ts rest

-- and there is no other refusal
abbrev pub RefusesEach : Type 0
RefusesEach = (ts : List Lex) (c : Cause) (rest : List Lex) → Refused IsShaped spell c ts rest → all_of program_at ts ≡ Err (c, rest)
