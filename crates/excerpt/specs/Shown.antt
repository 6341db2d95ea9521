-- A line of a text as it is shown, with a mark under the byte at an offset.
use Rattle.std.specs.Prelude.{ℕ, ◌+◌, ◌-◌, ◌/◌, ◌==◌, ◌||◌, ◌&&◌, nat_lt, nat_le, min, List, [], ◌∷◌, ◌++◌, length, map, take, drop, replicate, codes, if◌then◌else◌}
use Rattle.std.specs.Fmt.{decimal}
use Rattle.excerpt.specs.Lines.{Line, line_at}
use Rattle.excerpt.specs.declared.shown.TheConstants.{MOST_SHOWN}

-- the most bytes of a line that are shown
abbrev pub most_shown : ℕ
most_shown = MOST_SHOWN

-- each byte takes one column: a tab or a carriage return is shown as a blank, and what isn't printable ASCII as `?`
abbrev pub shown_byte : ℕ → ℕ
shown_byte b = if b == 9 || b == 13 then 32 else (if nat_le 32 b && nat_le b 126 then b else 63)

abbrev pub blanks : ℕ → List ℕ
blanks n = replicate n 32

abbrev pub line_length : Line → ℕ
line_length l = length l.before + length l.from

-- how many bytes of the line stand before those that are shown: none where the whole line is; else so many that the mark
-- stands in the middle, or as near to it as the line's ends allow
abbrev pub skipped : Line → ℕ
skipped l = min (length l.before - most_shown / 2) (line_length l - most_shown)

abbrev pub shown_part : Line → List ℕ
shown_part l = map shown_byte (take most_shown (drop (skipped l) (l.before ++ l.from)))

-- as wide as the line's number
abbrev pub margin : Line → List ℕ
margin l = blanks (length (decimal l.number))

-- as a text is shown
abbrev pub shown_text : List ℕ → List ℕ
shown_text text = map shown_byte text

-- --> NAME:LINE:COLUMN
abbrev pub place_row : List ℕ → Line → List ℕ
place_row name l = margin l ++ (codes "--> " ++ (shown_text name ++ (codes ":" ++ (decimal l.number ++ (codes ":" ++ (decimal (length l.before + 1) ++ 10 ∷ []))))))

abbrev pub empty_row : Line → List ℕ
empty_row l = margin l ++ codes " |\n"

-- LINE | what is shown of it
abbrev pub line_row : Line → List ℕ
line_row l = decimal l.number ++ (codes " | " ++ (shown_part l ++ 10 ∷ []))

-- `^` under the byte at the offset
abbrev pub mark_row : Line → List ℕ
mark_row l = margin l ++ (codes " | " ++ (blanks (length l.before - skipped l) ++ codes "^\n"))

-- how long the line is, and which of its columns are shown
abbrev pub cut_note : Line → List ℕ
cut_note l = codes " = the line has " ++ (decimal (line_length l)
    ++ (codes " bytes; columns " ++ (decimal (skipped l + 1)
    ++ (codes " to " ++ (decimal (skipped l + most_shown) ++ codes " are shown\n")))))

-- where not all of the line is shown
abbrev pub cut_row : Line → List ℕ
cut_row l = if nat_lt most_shown (line_length l) then margin l ++ cut_note l else []

abbrev pub rows : List ℕ → Line → List ℕ
rows name l = place_row name l ++ (empty_row l ++ (line_row l ++ (mark_row l ++ cut_row l)))

-- the excerpt of an offset in a text that has this name
abbrev pub excerpt : List ℕ → List ℕ → ℕ → List ℕ
excerpt name text at = rows name (line_at text at)
