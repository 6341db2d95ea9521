-- The bytes that tokens are made of, and how many a text may have.
use Rattle.std.specs.Prelude.{ℕ, Bool, ◌==◌, ◌&&◌, ◌||◌, not, nat_le, Option, Some, None, if◌then◌else◌}
use Rattle.ir_text.specs.declared.lexer.TheConstants.{MOST_BYTES}
use Rattle.ir_text.specs.declared.token.TokenKind.{TokenKind}
use Rattle.ir_text.specs.declared.token.TokenKind.TheVariants.{OpenRound, CloseRound, OpenBrace, CloseBrace, Comma, Colon, Equals}

-- the most bytes of a text
abbrev pub most_bytes : ℕ
most_bytes = MOST_BYTES

abbrev pub is_blank : ℕ → Bool
is_blank b = b == 32 || b == 9 || b == 13 || b == 10

-- not a newline
abbrev pub in_line : ℕ → Bool
in_line b = not (b == 10)

abbrev pub mark_of : ℕ → Option TokenKind
mark_of b =
    if b == 40 then Some OpenRound
    else (if b == 41 then Some CloseRound
    else (if b == 123 then Some OpenBrace
    else (if b == 125 then Some CloseBrace
    else (if b == 44 then Some Comma
    else (if b == 58 then Some Colon
    else (if b == 61 then Some Equals
    else None))))))
