-- What a function of the host may answer.
use Rattle.std.specs.Prelude.{◌≡◌, ℕ, ◌<◌, ◌^◌, Option, Some, None, min, max, count_ones, reverse}
use Rattle.ir_ast.specs.Words.{word_of, bytes_of}
use Rattle.ir_ast.specs.declared.hosts.HostEntry.{HostEntry}
use Rattle.ir_ast.specs.declared.hosts.HostRule.{HostRule}
use Rattle.ir_ast.specs.declared.hosts.HostRule.TheVariants.{Min, Max, Popcount, ByteSwap, Any}

-- the rule lets the function answer this, where these are its first two arguments
abbrev pub Allows : HostRule → ℕ → ℕ → ℕ → Type 0
Allows Min first second answer = answer ≡ min first second
Allows Max first second answer = answer ≡ max first second
Allows Popcount first second answer = answer ≡ count_ones first
Allows ByteSwap first second answer = answer ≡ word_of (reverse (bytes_of 8 first))
Allows Any first second answer = answer < 2 ^ 64

-- the same for an entry of the table; a host function that isn't in the table answers nothing
abbrev pub MayAnswer : Option HostEntry → ℕ → ℕ → ℕ → Type 0
MayAnswer None first second answer = ⊥
MayAnswer (Some host) first second answer = Allows host.rule first second answer
