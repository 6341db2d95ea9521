-- The bytes that tokens are made of, and how many a text may have.
use Rattle.std.specs.Prelude.{ℕ, Bool, ◌==◌, ◌||◌, not}
use Rattle.bsan_ids.specs.Names.{is_digit, is_start, is_name}
use Rattle.ll_text.specs.declared.lexer.TheConstants.{MOST_BYTES}

-- the most bytes of a text
abbrev pub most_bytes : ℕ
most_bytes = MOST_BYTES

abbrev pub is_blank : ℕ → Bool
is_blank b = b == 32 || b == 9 || b == 13 || b == 10

-- not a newline
abbrev pub in_line : ℕ → Bool
in_line b = not (b == 10)

-- not a double quote
abbrev pub in_quote : ℕ → Bool
in_quote b = not (b == 34)

-- a name byte: a letter, a digit, or one of _ . - $
abbrev pub is_part : ℕ → Bool
is_part b = is_name b || b == 45 || b == 36

-- a name byte or +
abbrev pub is_figure : ℕ → Bool
is_figure b = is_part b || b == 43

-- a letter, _ or .
abbrev pub begins_word : ℕ → Bool
begins_word b = is_start b || b == 46

-- a digit, - or +
abbrev pub begins_number : ℕ → Bool
begins_number b = is_digit b || b == 45 || b == 43

-- one of ( ) { } [ ] < > , = * : |
abbrev pub is_mark : ℕ → Bool
is_mark b = b == 40 || b == 41 || b == 123 || b == 125 || b == 91 || b == 93 || b == 60 || b == 62 || b == 44 || b == 61 || b == 42 || b == 58 || b == 124
