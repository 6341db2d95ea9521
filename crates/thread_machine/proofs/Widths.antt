-- The arithmetic of words, as threads use it.
use Rattle.std.proofs.Common.{◌≡◌, ℕ, ◌<◌, refl, arith}
use Rattle.ir_ast.specs.Arithmetic.{Worked, word, div_zero, shift_too_far, worked}
use Rattle.ir_ast.specs.Words.{modulus, bits}
use Rattle.ir_ast.specs.declared.types.Ty.TheVariants.{Int}
use Rattle.ir_ast.specs.declared.types.Width.{Width}
use Rattle.ir_ast.specs.declared.types.Width.TheVariants.{W8, W16, W32, W64}
use Rattle.ir_ast.specs.declared.operators.BinaryOp.{BinaryOp}
use Rattle.word_ops.specs.Answers.{answer_of}
use Rattle.thread_parts.specs.Words.{at_width, plain_arg}
use Rattle.thread_parts.specs.Parts.{worked_part, binary_part}
use Rattle.thread_machine.specs.Views.{part_of}

pub cut_below : (w : Width) (n : ℕ) → at_width (Int w) n < modulus w
cut_below W8 n = omega arith
cut_below W16 n = omega arith
cut_below W32 n = omega arith
cut_below W64 n = omega arith

part_same : (z : Worked) → part_of (answer_of z) ≡ worked_part z
part_same (word n) = refl
part_same div_zero = refl
part_same shift_too_far = refl

pub worked_is : (o : BinaryOp) (w : Width) (a b : ℕ) → part_of (answer_of (worked o (bits w) (at_width (Int w) a) (at_width (Int w) b))) ≡ binary_part o w (plain_arg a) (plain_arg b)
worked_is o w a b = part_same (worked o (bits w) (at_width (Int w) a) (at_width (Int w) b))
