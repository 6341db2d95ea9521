-- What is wanted of one token.
use Rattle.std.specs.Prelude.{ℕ, Bool, true, false, nat_lt, List, Result, Ok, Err, Option, Some, None, if◌then◌else◌}
use Rattle.std.specs.Str.{bytes_eq}
use Rattle.ir_text.specs.declared.token.TokenKind.{TokenKind}
use Rattle.ir_text.specs.declared.token.TokenKind.TheVariants as kind
use Rattle.ir_ast.specs.Words.{modulus}
use Rattle.ir_ast.specs.Tokens.{Form, Lex}
use Rattle.ir_ast.specs.Tokens.Form.{word, local, global, number, open_round, close_round, open_brace, close_brace, comma, colon, equals, arrow}
use Rattle.ir_ast.specs.declared.program.Named.{Named}
use Rattle.ir_ast.specs.declared.program.Val.{Val}
use Rattle.ir_ast.specs.declared.program.Val.TheVariants.{Reg, Num}
use Rattle.ir_ast.specs.declared.types.Ty.{Ty}
use Rattle.ir_ast.specs.declared.types.Ty.TheVariants.{Int}
use Rattle.phrase.specs.declared.Cause.{Cause}
use Rattle.phrase.specs.declared.Cause.TheVariants.{Unexpected, NumberTooLarge}
use Rattle.ir_ast.specs.declared.mark.Mark.{Mark}
use Rattle.ir_ast.specs.declared.mark.Mark.TheVariants.{OpenRound, CloseRound, OpenBrace, CloseBrace, Comma, Colon, Equals, Arrow}
use Rattle.ir_reader.specs.Tables.{lookup}

abbrev pub want_if : (Form → Bool) → Lex → Result (Unit {0}) Cause
want_if test l = if test l.form then Ok tt else Err Unexpected

abbrev pub begins_if : (Form → Bool) → Lex → Bool
begins_if test l = test l.form

-- ---- marks and fixed words

abbrev pub is_mark : Mark → Form → Bool
is_mark OpenRound open_round = true
is_mark CloseRound close_round = true
is_mark OpenBrace open_brace = true
is_mark CloseBrace close_brace = true
is_mark Comma comma = true
is_mark Colon colon = true
is_mark Equals equals = true
is_mark Arrow arrow = true
is_mark _ _ = false

-- a token of this kind is this mark
abbrev pub kind_is : Mark → TokenKind → Bool
kind_is OpenRound kind.OpenRound = true
kind_is CloseRound kind.CloseRound = true
kind_is OpenBrace kind.OpenBrace = true
kind_is CloseBrace kind.CloseBrace = true
kind_is Comma kind.Comma = true
kind_is Colon kind.Colon = true
kind_is Equals kind.Equals = true
kind_is Arrow kind.Arrow = true
kind_is _ _ = false

abbrev pub is_any_word : Form → Bool
is_any_word (word text) = true
is_any_word _ = false

abbrev pub is_word : List ℕ → Form → Bool
is_word w (word text) = bytes_eq text w
is_word w _ = false

-- ---- names

abbrev pub local_at : Form → ℕ → Result Named Cause
local_at (local name) at = Ok (record { name = name; at = at })
local_at _ at = Err Unexpected

abbrev pub want_local : Lex → Result Named Cause
want_local l = local_at l.form l.at

abbrev pub global_at : Form → ℕ → Result Named Cause
global_at (global name) at = Ok (record { name = name; at = at })
global_at _ at = Err Unexpected

abbrev pub want_global : Lex → Result Named Cause
want_global l = global_at l.form l.at

abbrev pub label_at : Form → ℕ → Result Named Cause
label_at (word name) at = Ok (record { name = name; at = at })
label_at _ at = Err Unexpected

abbrev pub want_label : Lex → Result Named Cause
want_label l = label_at l.form l.at

-- ---- words that stand for a value

abbrev pub or_unexpected : {A : Type 0} → Option A → Result A Cause
or_unexpected None = Err Unexpected
or_unexpected (Some a) = Ok a

abbrev pub word_among : {A : Type 0} → List (List ℕ × A) → Form → Result A Cause
word_among table (word text) = or_unexpected (lookup table text)
word_among table _ = Err Unexpected

abbrev pub want_among : {A : Type 0} → List (List ℕ × A) → Lex → Result A Cause
want_among table l = word_among table l.form

abbrev pub with_place : {A : Type 0} → ℕ → Result A Cause → Result (A × ℕ) Cause
with_place at (Ok a) = Ok (a, at)
with_place at (Err c) = Err c

-- with its place
abbrev pub want_placed : {A : Type 0} → List (List ℕ × A) → Lex → Result (A × ℕ) Cause
want_placed table l = with_place l.at (word_among table l.form)

-- ---- numbers

-- the number, if it is below the bound
abbrev pub under : ℕ → ℕ → Option ℕ
under n bound = if nat_lt n bound then Some n else None

abbrev pub amount_at : ℕ → Form → Result ℕ Cause
amount_at bound (number n) = if nat_lt n bound then Ok n else Err NumberTooLarge
amount_at bound _ = Err Unexpected

abbrev pub want_amount : ℕ → Lex → Result ℕ Cause
want_amount bound l = amount_at bound l.form

abbrev pub val_at : Ty → Form → ℕ → Result Val Cause
val_at ty (local name) at = Ok (Reg (record { name = name; at = at }))
val_at (Int width) (number n) at = if nat_lt n (modulus width) then Ok (Num n) else Err NumberTooLarge
val_at ty _ at = Err Unexpected

abbrev pub want_val : Ty → Lex → Result Val Cause
want_val ty l = val_at ty l.form l.at
