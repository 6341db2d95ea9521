-- The bytes that names are made of.
use Rattle.std.specs.Prelude.{ℕ, Bool, ◌==◌, ◌&&◌, ◌||◌, nat_le}

abbrev pub is_digit : ℕ → Bool
is_digit b = nat_le 48 b && nat_le b 57

-- a letter or `_`
abbrev pub is_start : ℕ → Bool
is_start b = nat_le 97 b && nat_le b 122 || nat_le 65 b && nat_le b 90 || b == 95

-- a letter, a digit, `_` or `.`
abbrev pub is_name : ℕ → Bool
is_name b = is_start b || is_digit b || b == 46
