-- What program a text is, and how a text that is none is refused.
use Rattle.std.specs.Prelude.{◌≡◌, ◌⊎◌, ℕ, ◌<◌, ◌≤◌, true, List, [], ◌∷◌, ◌++◌, length, codes, Result, Err}
use Rattle.ir_text.specs.declared.token.Token.{Token}
use Rattle.ir_text.specs.Bytes.{most_bytes}
use Rattle.ir_text.specs.Lexed.{Lexed}
use Rattle.ir_text.specs.Lexed.Outcome.{good, bad}
use Rattle.ir_ast.specs.Tokens.{Lex, Asked, Spelled}
use Rattle.ir_ast.specs.Tokens.Form.{word}
use Rattle.ir_ast.specs.Lines.{spell}
use Rattle.ir_ast.specs.Shapes.{IsShaped}
use Rattle.ir_ast.specs.Texts.{canonical}
use Rattle.ir_ast.specs.Places.{SameUpToPlaces}
use Rattle.ir_ast.specs.declared.program.Program.{Program}
use Rattle.phrase.specs.Whole.{Reads, Refused}
use Rattle.phrase.specs.declared.Cause.{Cause}
use Rattle.phrase.specs.declared.Cause.TheVariants as cause
use Rattle.ir_reader.specs.View.{lexes}
use Rattle.ir_reader.specs.declared.fault.ReadFault.{ReadFault}
use Rattle.ir_reader.specs.declared.fault.ReadFault.TheVariants.{TooLarge, BadByte, IntToPtr, Unexpected, NumberTooLarge, NoMemory}

-- The text is this program's: it is cut into the tokens that the program is written with, each at its place, and
-- nothing is past its limit.
pub record IsProgramOf (text : List ℕ) (p : Program) : Type 0 where
  pub small : length text ≤ most_bytes
  pub tokens : List Token
  pub lexed : Lexed text 0 (good tokens)
  pub reads : Reads IsShaped spell (lexes text tokens) p
  pub ends : p.«end» ≡ length text

-- the place of the first of these tokens, or the end of the text
abbrev pub place_of : ℕ → List Lex → ℕ
place_of end [] = end
place_of end (l ∷ ls) = l.at

-- The text is cut into tokens, and this cause holds at this place and at none before it.
pub record StopsAt (text : List ℕ) (c : Cause) (at : ℕ) : Type 0 where
  pub small : length text ≤ most_bytes
  pub tokens : List Token
  pub lexed : Lexed text 0 (good tokens)
  pub rest : List Lex
  pub refused : Refused IsShaped spell c (lexes text tokens) rest
  pub place : at ≡ place_of (length text) rest

-- The rest begins with the word `inttoptr`, and some program that begins with the tokens before it, within the limits,
-- has an operation there.
pub record IsIntToPtr (ts rest : List Lex) : Type 0 where
  pub front : List Lex
  pub whole : ts ≡ front ++ rest
  pub program : Program
  pub is_ok : IsShaped program
  pub before : List Asked
  pub here : Asked
  pub after : List Asked
  pub parts : spell program ≡ before ++ here ∷ after
  pub spelled : Spelled before front
  pub is_operation : here.is_operation ≡ true
  pub found : Lex
  pub later : List Lex
  pub next : rest ≡ found ∷ later
  pub form : found.form ≡ word (codes "inttoptr")

-- The text is refused so. A want of memory is no property of a text.
abbrev pub Refuses : List ℕ → ReadFault → Type 0
Refuses text (TooLarge at) = ((most_bytes < length text) × (at ≡ most_bytes)) ⊎ StopsAt text cause.TooLarge at
Refuses text (BadByte at) = (length text ≤ most_bytes) × Lexed text 0 (bad at)
Refuses text (IntToPtr at) = (s : StopsAt text cause.Unexpected at) × IsIntToPtr (lexes text s.tokens) s.rest
Refuses text (Unexpected at) = (s : StopsAt text cause.Unexpected at) × (IsIntToPtr (lexes text s.tokens) s.rest → ⊥)
Refuses text (NumberTooLarge at) = StopsAt text cause.NumberTooLarge at
Refuses text NoMemory = ⊥

-- the answer, unless memory is wanting
abbrev pub AnswersUnlessMemory : Result Program ReadFault → Result Program ReadFault → Type 0
AnswersUnlessMemory (Err NoMemory) answer = Unit {0}
AnswersUnlessMemory result answer = result ≡ answer

-- it refuses the text so, or memory is wanting
abbrev pub IsRefusal : List ℕ → ReadFault → Type 0
IsRefusal text NoMemory = Unit {0}
IsRefusal text fault = Refuses text fault

-- ---- a text has one answer

abbrev pub OneProgram : Type 0
OneProgram = (text : List ℕ) (p q : Program) → IsProgramOf text p → IsProgramOf text q → p ≡ q

abbrev pub OneRefusal : Type 0
OneRefusal = (text : List ℕ) (e f : ReadFault) → Refuses text e → Refuses text f → e ≡ f

abbrev pub NotBoth : Type 0
NotBoth = (text : List ℕ) (p : Program) (f : ReadFault) → IsProgramOf text p → Refuses text f → ⊥

abbrev pub SomeAnswer : Type 0
SomeAnswer = (text : List ℕ) → ((p : Program) × IsProgramOf text p) ⊎ ((f : ReadFault) × Refuses text f)

-- the canonical text of a program that a text is, is that program's again, but for places
abbrev pub CanonicalIsRead : Type 0
CanonicalIsRead = (text : List ℕ) (p : Program) → IsProgramOf text p → length (canonical p) ≤ most_bytes → (q : Program) × IsProgramOf (canonical p) q × SameUpToPlaces q p
