-- What operations make of words of w bits are words of w bits.
use Rattle.std.proofs.Common.{◌≡◌, ℕ, zero, suc, ◌+◌, ◌-◌, ◌*◌, ◌/◌, ◌%◌, ◌^◌, ◌<◌, ◌≤◌, Bool, true, false, if◌then◌else◌, refl, arith}
use Rattle.std.proofs.Math.Nat.{div-le_self, mod-le}
use Rattle.std.proofs.lemmas.Nat.{pow_pos, mod_below, and_le_l, or_lt, xor_lt}
use Rattle.std.proofs.lemmas.Bool.Decides.{nat_tests}
use Rattle.ir_ast.specs.declared.operators.BinaryOp.{BinaryOp}
use Rattle.ir_ast.specs.declared.operators.BinaryOp.TheVariants.{Add, Sub, Mul, Udiv, Sdiv, Urem, Srem, And, Or, Xor, Shl, Lshr, Ashr}
use Rattle.ir_ast.specs.declared.operators.CastOp.{CastOp}
use Rattle.ir_ast.specs.declared.operators.CastOp.TheVariants.{Zext, Sext, Trunc}
use Rattle.ir_ast.specs.Arithmetic.{Worked, word, div_zero, shift_too_far, is_negative, magnitude, signed_word, unless_zero, if_within, shifted_right, worked, cast_word}

abbrev pub WorkedFits : ℕ → Worked → Type 0
WorkedFits w (word n) = n < 2 ^ w
WorkedFits w div_zero = Unit {0}
WorkedFits w shift_too_far = Unit {0}

pub wrapped : (w n : ℕ) → n % 2 ^ w < 2 ^ w
wrapped w n = mod_below n (2 ^ w) (pow_pos w)

quotient_fits : (w a b : ℕ) → a < 2 ^ w → a / b < 2 ^ w
quotient_fits w a b fits = let less = div-le_self a b in omega (arith, less, fits)

rest_fits : (w a b : ℕ) → a < 2 ^ w → a % b < 2 ^ w
rest_fits w a b fits = let less = mod-le a b in omega (arith, less, fits)

unless_fits : (w b n : ℕ) → n < 2 ^ w → WorkedFits w (unless_zero b n)
unless_fits w zero n fits = tt
unless_fits w (suc b) n fits = fits

within_fits : (w n : ℕ) (b : Bool) → n < 2 ^ w → WorkedFits w (if_within b n)
within_fits w n true fits = fits
within_fits w n false fits = tt

signed_fits : (w m : ℕ) (b : Bool) → m < 2 ^ w → signed_word w b m < 2 ^ w
signed_fits w m true fits = wrapped w (2 ^ w - m)
signed_fits w m false fits = fits

magnitude_fits : (w a : ℕ) → a < 2 ^ w → magnitude w a < 2 ^ w
magnitude_fits w a fits = by_sign (is_negative w a) refl
  where
    by_sign : (b : Bool) → is_negative w a ≡ b → (if b then 2 ^ w - a else a) < 2 ^ w
    by_sign false is = fits
    by_sign true is = let most : 2 ^ (w - 1) ≤ a = grind (arith, nat_tests) in let some = pow_pos (w - 1) in omega (arith, most, some, fits)

right_fits : (w a b : ℕ) → a < 2 ^ w → shifted_right w a b < 2 ^ w
right_fits w a b fits = by_sign (is_negative w a)
  where
    by_sign : (c : Bool) → (if c then 2 ^ w - 1 - (2 ^ w - 1 - a) / 2 ^ b else a / 2 ^ b) < 2 ^ w
    by_sign false = quotient_fits w a (2 ^ b) fits
    by_sign true = let some = pow_pos w in omega (arith, some)

pub worked_fits : (o : BinaryOp) (w a b : ℕ) → a < 2 ^ w → b < 2 ^ w → WorkedFits w (worked o w a b)
worked_fits Add w a b x y = wrapped w (a + b)
worked_fits Sub w a b x y = wrapped w (a + 2 ^ w - b)
worked_fits Mul w a b x y = wrapped w (a * b)
worked_fits Udiv w a b x y = unless_fits w b _ (quotient_fits w a b x)
worked_fits Sdiv w a b x y = unless_fits w b _ (signed_fits w _ _ (quotient_fits w _ (magnitude w b) (magnitude_fits w a x)))
worked_fits Urem w a b x y = unless_fits w b _ (rest_fits w a b x)
worked_fits Srem w a b x y = unless_fits w b _ (signed_fits w _ _ (rest_fits w _ (magnitude w b) (magnitude_fits w a x)))
worked_fits And w a b x y = let less = and_le_l a b in omega (arith, less, x)
worked_fits Or w a b x y = or_lt w a b x y
worked_fits Xor w a b x y = xor_lt w a b x y
worked_fits Shl w a b x y = within_fits w _ _ (wrapped w (a * 2 ^ b))
worked_fits Lshr w a b x y = within_fits w _ _ (quotient_fits w a (2 ^ b) x)
worked_fits Ashr w a b x y = within_fits w _ _ (right_fits w a b x)

pub cast_fits : (o : CastOp) (v w a : ℕ) → cast_word o v w a < 2 ^ w
cast_fits Zext v w a = wrapped w a
cast_fits Trunc v w a = wrapped w a
cast_fits Sext v w a = by_sign (is_negative v a)
  where
    by_sign : (c : Bool) → (if c then (a + (2 ^ 64 - 2 ^ v)) % 2 ^ w else a % 2 ^ w) < 2 ^ w
    by_sign true = wrapped w (a + (2 ^ 64 - 2 ^ v))
    by_sign false = wrapped w a
