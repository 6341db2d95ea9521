-- The line and the column of an offset in a text. Both count from 1, and a column counts bytes.
use Rattle.std.specs.Prelude.{ℕ, ◌+◌, ◌==◌, Bool, List, length, take, drop, count_by}
use Rattle.std.specs.List.{after_last, before_first}

abbrev pub is_newline : ℕ → Bool
is_newline b = b == 10

-- one more than the newlines before the offset
abbrev pub line_number : List ℕ → ℕ → ℕ
line_number text at = count_by is_newline (take at text) + 1

-- what stands of the offset's line before it, and from it on
abbrev pub before_in_line : List ℕ → ℕ → List ℕ
before_in_line text at = after_last is_newline (take at text)

abbrev pub from_in_line : List ℕ → ℕ → List ℕ
from_in_line text at = before_first is_newline (drop at text)

-- one more than the bytes of its line before the offset
abbrev pub column_number : List ℕ → ℕ → ℕ
column_number text at = length (before_in_line text at) + 1

-- the line of an offset: its number, and what of it stands before the offset and from it on
pub record Line : Type 0 where
  pub number : ℕ
  pub before : List ℕ
  pub from : List ℕ

abbrev pub line_at : List ℕ → ℕ → Line
line_at text at = record { number = line_number text at; before = before_in_line text at; from = from_in_line text at }
