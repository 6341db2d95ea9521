-- What a sink with so much room in all takes of a piece. Lengths are in bytes.
use Rattle.std.specs.Prelude.{ℕ, ◌-◌, ◌≤◌, Option, Some, None, min}

-- a piece is no longer than the room that is left after so many bytes
abbrev pub Fits : Option ℕ → ℕ → ℕ → Type 0
Fits None taken piece = Unit {0}
Fits (Some room) taken piece = piece ≤ room - taken

-- how many bytes of a piece there is room for
abbrev pub fitting : Option ℕ → ℕ → ℕ → ℕ
fitting None taken piece = piece
fitting (Some room) taken piece = min piece (room - taken)
