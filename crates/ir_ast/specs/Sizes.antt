-- How many bytes an allocation may have.
use Rattle.std.specs.Prelude.{ℕ, nat_le, if◌then◌else◌}
use Rattle.ir_ast.specs.declared.bounds.TheConstants.{MOST_SIZE, MOST_SIZE_IN_VERSION_1}

-- the most in any version of the language
abbrev pub most_size : ℕ
most_size = MOST_SIZE

-- the most in a program of this version
abbrev pub most_size_of : ℕ → ℕ
most_size_of version = if nat_le 2 version then MOST_SIZE else MOST_SIZE_IN_VERSION_1
