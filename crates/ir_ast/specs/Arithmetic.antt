-- Arithmetic on words of w bits, that is on numbers below 2 ^ w; and their order. Where a word is read as signed, it is by
-- two's complement.
use Rattle.std.specs.Prelude.{ℕ, zero, suc, ◌+◌, ◌-◌, ◌*◌, ◌/◌, ◌%◌, ◌^◌, Bool, true, false, not, nat_eq, nat_lt, nat_le, if◌then◌else◌, bit_and, bit_or, bit_xor}
use Rattle.ir_ast.specs.declared.operators.BinaryOp.{BinaryOp}
use Rattle.ir_ast.specs.declared.operators.BinaryOp.TheVariants.{Add, Sub, Mul, Udiv, Sdiv, Urem, Srem, And, Or, Xor, Shl, Lshr, Ashr}
use Rattle.ir_ast.specs.declared.operators.Cond.{Cond}
use Rattle.ir_ast.specs.declared.operators.Cond.TheVariants.{Eq, Ne, Ult, Ule, Ugt, Uge, Slt, Sle, Sgt, Sge}
use Rattle.ir_ast.specs.declared.operators.CastOp.{CastOp}
use Rattle.ir_ast.specs.declared.operators.CastOp.TheVariants.{Zext, Sext, Trunc}

-- what an operation makes of two words: a word, or why there is none
pub data Worked : Type 0 where
  word : ℕ → Worked
  div_zero : Worked
  shift_too_far : Worked

abbrev pub is_negative : ℕ → ℕ → Bool
is_negative w a = nat_le (2 ^ (w - 1)) a

abbrev pub magnitude : ℕ → ℕ → ℕ
magnitude w a = if is_negative w a then 2 ^ w - a else a

-- the word of a magnitude below or above zero
abbrev pub signed_word : ℕ → Bool → ℕ → ℕ
signed_word w negative m = if negative then (2 ^ w - m) % 2 ^ w else m

abbrev pub differ : Bool → Bool → Bool
differ true b = not b
differ false b = b

abbrev pub unless_zero : ℕ → ℕ → Worked
unless_zero zero n = div_zero
unless_zero (suc b) n = word n

abbrev pub if_within : Bool → ℕ → Worked
if_within true n = word n
if_within false n = shift_too_far

-- a shift to the right that keeps the sign
abbrev pub shifted_right : ℕ → ℕ → ℕ → ℕ
shifted_right w a b = if is_negative w a then 2 ^ w - 1 - (2 ^ w - 1 - a) / 2 ^ b else a / 2 ^ b

-- signed division rounds toward zero, and a remainder has the dividend's sign
abbrev pub worked : BinaryOp → ℕ → ℕ → ℕ → Worked
worked Add w a b = word ((a + b) % 2 ^ w)
worked Sub w a b = word ((a + 2 ^ w - b) % 2 ^ w)
worked Mul w a b = word ((a * b) % 2 ^ w)
worked Udiv w a b = unless_zero b (a / b)
worked Sdiv w a b = unless_zero b (signed_word w (differ (is_negative w a) (is_negative w b)) (magnitude w a / magnitude w b))
worked Urem w a b = unless_zero b (a % b)
worked Srem w a b = unless_zero b (signed_word w (is_negative w a) (magnitude w a % magnitude w b))
worked And w a b = word (bit_and a b)
worked Or w a b = word (bit_or a b)
worked Xor w a b = word (bit_xor a b)
worked Shl w a b = if_within (nat_lt b w) ((a * 2 ^ b) % 2 ^ w)
worked Lshr w a b = if_within (nat_lt b w) (a / 2 ^ b)
worked Ashr w a b = if_within (nat_lt b w) (shifted_right w a b)

-- a number that grows with the word's signed value
abbrev pub signed_rank : ℕ → ℕ → ℕ
signed_rank w a = (a + 2 ^ (w - 1)) % 2 ^ w

abbrev pub holds : Cond → ℕ → ℕ → ℕ → Bool
holds Eq w a b = nat_eq a b
holds Ne w a b = not (nat_eq a b)
holds Ult w a b = nat_lt a b
holds Ule w a b = nat_le a b
holds Ugt w a b = nat_lt b a
holds Uge w a b = nat_le b a
holds Slt w a b = nat_lt (signed_rank w a) (signed_rank w b)
holds Sle w a b = nat_le (signed_rank w a) (signed_rank w b)
holds Sgt w a b = nat_lt (signed_rank w b) (signed_rank w a)
holds Sge w a b = nat_le (signed_rank w b) (signed_rank w a)

-- a word of v bits as one of w bits, where no word is longer than 64 bits: filled up with zeros, or with copies of its
-- highest bit, or cut. What does not fit is cut in any case
abbrev pub cast_word : CastOp → ℕ → ℕ → ℕ → ℕ
cast_word Zext v w a = a % 2 ^ w
cast_word Sext v w a = if is_negative v a then (a + (2 ^ 64 - 2 ^ v)) % 2 ^ w else a % 2 ^ w
cast_word Trunc v w a = a % 2 ^ w
