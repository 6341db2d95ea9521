-- What the calls answer, and which operations have a trap.
use Rattle.std.specs.Prelude.{ℕ, zero, suc, ◌*◌, Bool, true, false, Result, Ok, Err, nat_lt, if◌then◌else◌}
use Rattle.ir_ast.specs.Arithmetic.{Worked, word, div_zero, shift_too_far}
use Rattle.ir_ast.specs.Words.{bits}
use Rattle.ir_ast.specs.declared.types.Width.{Width}
use Rattle.ir_ast.specs.declared.operators.BinaryOp.{BinaryOp}
use Rattle.ir_ast.specs.declared.operators.BinaryOp.TheVariants.{Udiv, Sdiv, Urem, Srem, Shl, Lshr, Ashr}
use Rattle.word_ops.specs.declared.WordTrap.{WordTrap}
use Rattle.word_ops.specs.declared.WordTrap.TheVariants.{DivZero, ShiftTooFar}

abbrev pub answer_of : Worked → Result ℕ WordTrap
answer_of (word n) = Ok n
answer_of div_zero = Err DivZero
answer_of shift_too_far = Err ShiftTooFar

-- a division or a remainder
abbrev pub divides : BinaryOp → Bool
divides Udiv = true
divides Sdiv = true
divides Urem = true
divides Srem = true
divides _ = false

abbrev pub shifts : BinaryOp → Bool
shifts Shl = true
shifts Lshr = true
shifts Ashr = true
shifts _ = false

abbrev pub divisor_of : ℕ → Result ℕ WordTrap
divisor_of zero = Err DivZero
divisor_of (suc b) = Ok (suc b)

abbrev pub shift_of : ℕ → ℕ → Result ℕ WordTrap
shift_of w b = if nat_lt b w then Ok b else Err ShiftTooFar
