-- Numbers in memory, least byte first, and what an operation makes of two numbers.
use Rattle.std.specs.Prelude.{ℕ, zero, suc, ◌+◌, ◌-◌, ◌*◌, ◌/◌, ◌%◌, ◌^◌, List, [], ◌∷◌, min, max, bit_and, bit_or, bit_xor}
use Rattle.ir_ast.specs.declared.types.Width.{Width}
use Rattle.ir_ast.specs.declared.types.Width.TheVariants.{W8, W16, W32, W64}
use Rattle.ir_ast.specs.declared.types.Ty.{Ty}
use Rattle.ir_ast.specs.declared.types.Ty.TheVariants.{Int, Ptr}
use Rattle.ir_ast.specs.declared.operators.ModifyOp.{ModifyOp}
use Rattle.ir_ast.specs.declared.operators.ModifyOp.TheVariants.{Add, Sub, And, Or, Xor, Xchg, Umin, Umax}

abbrev pub width_bytes : Width → ℕ
width_bytes W8 = 1
width_bytes W16 = 2
width_bytes W32 = 4
width_bytes W64 = 8

abbrev pub ty_bytes : Ty → ℕ
ty_bytes (Int width) = width_bytes width
ty_bytes Ptr = 8

-- how many bits an integer of this width has
abbrev pub bits : Width → ℕ
bits width = 8 * width_bytes width

-- how many bits a value of this type has
abbrev pub word_bits : Ty → ℕ
word_bits ty = 8 * ty_bytes ty

-- how many numbers a width has
abbrev pub modulus : Width → ℕ
modulus width = 2 ^ bits width

abbrev pub word_of : List ℕ → ℕ
word_of [] = 0
word_of (byte ∷ bytes) = byte + 256 * word_of bytes

abbrev pub bytes_of : ℕ → ℕ → List ℕ
bytes_of zero value = []
bytes_of (suc more) value = value % 256 ∷ bytes_of more (value / 256)

abbrev pub modified : ModifyOp → ℕ → ℕ → ℕ → ℕ
modified Add size old value = (old + value) % size
modified Sub size old value = (old + size - value) % size
modified And size old value = bit_and old value
modified Or size old value = bit_or old value
modified Xor size old value = bit_xor old value
modified Xchg size old value = value
modified Umin size old value = min old value
modified Umax size old value = max old value
