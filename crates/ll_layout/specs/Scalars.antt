-- The layouts of integers, floating-point numbers, pointers, arrays and vectors.
use Rattle.std.specs.Prelude.{ℕ, List, ◌*◌, ◌==◌, ◌||◌, nat_lt, not, if◌then◌else◌, Option, Some, None, Ok, Err}
use Rattle.std.specs.List.{find}
use Rattle.std.specs.Int.{div_ceil}
use Rattle.ll_ast.specs.declared.types.FloatKind.{FloatKind}
use Rattle.ll_ast.specs.declared.types.FloatKind.TheVariants.{Half, Bfloat, Float, Double, X86Fp80, Fp128, PpcFp128}
use Rattle.ll_layout.specs.declared.layout.Layout.{Layout}
use Rattle.ll_layout.specs.declared.layout.Target.{Target}
use Rattle.ll_layout.specs.declared.layout.LayoutFault.TheVariants.{TooLarge, Width}
use Rattle.ll_layout.specs.declared.scalars.TheConstants.{POWERS}
use Rattle.ll_layout.specs.Layout.{Outcome, sized}

-- the first of these numbers that is not below the least one wanted
abbrev pub first_from : ℕ → List ℕ → Option ℕ
first_from least = find (λ p. not (nat_lt p least))

abbrev pub as_large : ℕ → Option ℕ → Outcome
as_large bits None = Err TooLarge
as_large bits (Some n) = Ok (record { bits = bits; size = n; align = n })

-- so many bits: the least power of two of bytes, up to 4,096, that holds them is their size and their alignment
abbrev pub natural : ℕ → Outcome
natural bits = as_large bits (first_from (div_ceil bits 8) POWERS)

-- an integer of 1 to 64 bits, or of 128
abbrev pub integer : Target → ℕ → Outcome
integer target bits =
    if bits == 128 then Ok (record { bits = 128; size = 16; align = target.wide_align })
    else (if nat_lt bits 1 || nat_lt 64 bits then Err Width else natural bits)

abbrev pub float_bits : FloatKind → ℕ
float_bits Half = 16
float_bits Bfloat = 16
float_bits Float = 32
float_bits Double = 64
float_bits X86Fp80 = 80
float_bits Fp128 = 128
float_bits PpcFp128 = 128

abbrev pub float : FloatKind → Outcome
float kind = natural (float_bits kind)

-- a pointer in an address space: two of them have pointers of 32 bits
abbrev pub pointer : ℕ → Outcome
pointer space = if space == 270 || space == 271 then natural 32 else natural 64

-- items one after the other
abbrev pub array_of : ℕ → Layout → Outcome
array_of count item = sized (count * item.size) item.align

-- components whose bits lie without gaps
abbrev pub vector_of : ℕ → Layout → Outcome
vector_of count item = natural (count * item.bits)
