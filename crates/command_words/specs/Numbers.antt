-- Numbers in a command line.
use Rattle.std.specs.Prelude.{◌&&◌, ℕ, Bool, Option, Some, None, length, nat_lt, nat_le, if◌then◌else◌}
use Rattle.std.specs.Str.{all_ascii_digits}
use Rattle.std.specs.Str.Parse.{digits_value}
use Rattle.clap.specs.Words.{Text}

-- one decimal digit or more, at most so many
abbrev pub has_digits : ℕ → Text → Bool
has_digits most text = nat_lt 0 (length text) && nat_le (length text) most && all_ascii_digits text

-- the number of at most so many digits, where it is in this range
abbrev pub number_in : ℕ → ℕ → ℕ → Text → Option ℕ
number_in digits least most text =
    if has_digits digits text && (nat_le least (digits_value 10 text) && nat_le (digits_value 10 text) most)
    then Some (digits_value 10 text) else None
