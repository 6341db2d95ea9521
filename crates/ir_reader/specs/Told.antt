-- What reading all of the tokens of a text gives, and which refusal is told where it stops.
use Rattle.std.specs.Prelude.{◌≡◌, ℕ, ◌-◌, ◌&&◌, Bool, false, List, [], ◌∷◌, length, take, codes, if◌then◌else◌, Result, Ok, Err}
use Rattle.ir_ast.specs.Tokens.{Lex}
use Rattle.phrase.specs.declared.Cause.{Cause}
use Rattle.phrase.specs.declared.Cause.TheVariants as cause
use Rattle.ir_ast.specs.declared.mark.Mark.TheVariants.{Equals}
use Rattle.ir_reader.specs.declared.stop.Stop.{Stop}
use Rattle.ir_reader.specs.declared.stop.Stop.TheVariants.{Memory, At}
use Rattle.ir_reader.specs.declared.fault.ReadFault.{ReadFault}
use Rattle.ir_reader.specs.declared.fault.ReadFault.TheVariants.{TooLarge, IntToPtr, Unexpected, NumberTooLarge}
use Rattle.ir_reader.specs.View.{lexes}
use Rattle.ir_reader.specs.Wants.{is_mark, is_word}
use Rattle.ir_reader.specs.Readings.{place_of}

-- What a function returned is what reading all of the tokens gives, unless memory ran out.
abbrev pub FailsAll : {A : Type 0} → List ℕ → Stop → Result A (Cause × List Lex) → Type 0
FailsAll text Memory read = Unit {0}
FailsAll text (At c rest) read = read ≡ Err (c, lexes text rest.now)

abbrev pub GivesAll : {A : Type 0} → List ℕ → Result A Stop → Result A (Cause × List Lex) → Type 0
GivesAll text (Ok a) read = read ≡ Ok a
GivesAll text (Err e) read = FailsAll text e read

-- whether the last token is `=`; where there is none, what was said before
abbrev pub ends_equal : Bool → List Lex → Bool
ends_equal before [] = before
ends_equal before (l ∷ ls) = ends_equal (is_mark Equals l.form) ls

-- whether the word `inttoptr` is next
abbrev pub next_int_to_ptr : List Lex → Bool
next_int_to_ptr [] = false
next_int_to_ptr (l ∷ ls) = is_word (codes "inttoptr") l.form

-- the tokens before these last ones
abbrev pub front_of : List Lex → List Lex → List Lex
front_of ts rest = take (length ts - length rest) ts

-- the refusal at the first token of the rest, where the text ends at `end`
abbrev pub fault_at : ℕ → List Lex → Cause → List Lex → ReadFault
fault_at end front cause.Unexpected rest = if ends_equal false front && next_int_to_ptr rest then IntToPtr (place_of end rest) else Unexpected (place_of end rest)
fault_at end front cause.NumberTooLarge rest = NumberTooLarge (place_of end rest)
fault_at end front cause.TooLarge rest = TooLarge (place_of end rest)
