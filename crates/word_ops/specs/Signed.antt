-- Words read as signed numbers, by two's complement, and what the signed operations make of these numbers.
use Rattle.std.specs.Prelude.{◌≡◌, ◌≢◌, ◌<◌, ◌≤◌, ℕ, ◌-◌, ◌/◌, ◌%◌, ◌^◌, ℤ, pos, negsuc, int_div, int_rem, int_lt, int_le, if◌then◌else◌}
use Rattle.ir_ast.specs.Arithmetic.{word, is_negative, shifted_right, worked, holds, cast_word}
use Rattle.ir_ast.specs.declared.operators.BinaryOp.TheVariants as op
use Rattle.ir_ast.specs.declared.operators.Cond.TheVariants as cond
use Rattle.ir_ast.specs.declared.operators.CastOp.TheVariants as cast

-- the number that a word of w bits stands for: the word, or less 2 ^ w where its highest bit is set. negsuc n is -(n + 1)
abbrev pub signed : ℕ → ℕ → ℤ
signed w a = if is_negative w a then negsuc (2 ^ w - 1 - a) else pos a

-- the word of w bits that stands for a number, or for one that differs from it by a multiple of 2 ^ w
abbrev pub word_for : ℕ → ℤ → ℕ
word_for w (pos n) = n % 2 ^ w
word_for w (negsuc n) = 2 ^ w - 1 - n % 2 ^ w

-- a number divided by 2 ^ b, rounded down
abbrev pub halved : ℤ → ℕ → ℤ
halved (pos n) b = pos (n / 2 ^ b)
halved (negsuc n) b = negsuc (n / 2 ^ b)

-- the quotient of two numbers, rounded toward zero
abbrev pub DividesSigned : Type 0
DividesSigned = (w a b : ℕ) → 0 < w → a < 2 ^ w → b < 2 ^ w → b ≢ 0
    → worked op.Sdiv w a b ≡ word (word_for w (int_div (signed w a) (signed w b)))

-- the remainder, with the dividend's sign
abbrev pub LeavesSigned : Type 0
LeavesSigned = (w a b : ℕ) → 0 < w → a < 2 ^ w → b < 2 ^ w → b ≢ 0
    → worked op.Srem w a b ≡ word (word_for w (int_rem (signed w a) (signed w b)))

-- two words are compared as these numbers are
pub record IsOrdered (w a b : ℕ) : Type 0 where
  pub less : holds cond.Slt w a b ≡ int_lt (signed w a) (signed w b)
  pub at_most : holds cond.Sle w a b ≡ int_le (signed w a) (signed w b)
  pub greater : holds cond.Sgt w a b ≡ int_lt (signed w b) (signed w a)
  pub at_least : holds cond.Sge w a b ≡ int_le (signed w b) (signed w a)

abbrev pub OrdersSigned : Type 0
OrdersSigned = (w a b : ℕ) → 0 < w → a < 2 ^ w → b < 2 ^ w → IsOrdered w a b

abbrev pub ShiftsSigned : Type 0
ShiftsSigned = (w a b : ℕ) → 0 < w → a < 2 ^ w → shifted_right w a b ≡ word_for w (halved (signed w a) b)

-- a longer word for the same number
abbrev pub WidensSigned : Type 0
WidensSigned = (v w a : ℕ) → 0 < v → v ≤ w → w ≤ 64 → a < 2 ^ v
    → cast_word cast.Sext v w a ≡ word_for w (signed v a)
