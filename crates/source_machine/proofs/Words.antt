-- Words of a width, and arguments by their places.
use Rattle.std.proofs.Common.{◌≡◌, ℕ, zero, suc, ◌+◌, ◌*◌, ◌%◌, ◌^◌, ◌<◌, Bool, true, false, List, [], ◌∷◌, Some, None, refl, sym, ap, ◌∙◌, subst, arith}
use Rattle.std.specs.Prelude.{slice_get, Result, Ok, Err}
use Rattle.ir_ast.specs.Arithmetic.{Worked, word, div_zero, shift_too_far, worked}
use Rattle.ir_ast.specs.declared.operators.BinaryOp.{BinaryOp}
use Rattle.ir_ast.specs.declared.program.TypedVal.{TypedVal}
use Rattle.ir_ast.specs.declared.types.Width.{Width}
use Rattle.word_ops.specs.Answers as ops
use Rattle.history.specs.declared.ask.Arg.{Arg}
use Rattle.word_ops.specs.declared.WordTrap.{WordTrap}
use Rattle.word_ops.specs.declared.WordTrap.TheVariants.{DivZero, ShiftTooFar}
use Rattle.history.specs.declared.trap.Trap.TheVariants as trap
use Rattle.ir_ast.specs.Words.{bits}
use Rattle.source_sem.specs.Env.{Env, arg_of, args_of}
use Rattle.thread_parts.specs.Words.{plain_arg}
use Rattle.thread_parts.specs.Parts.{Gives, Fails, worked_part, nth_value}

pub nth_some : (env : Env) (args : List TypedVal) (at : ℕ) (a : TypedVal) → slice_get args at ≡ Some a → (arg_of env a).value ≡ nth_value (args_of env args) at
nth_some env [] at a is = absurd (cc)
nth_some env (b ∷ args) zero a is = let same : a ≡ b = cc in ap (λ (z : TypedVal). (arg_of env z).value) same
nth_some env (b ∷ args) (suc at) a is = nth_some env args at a is

pub nth_none : (env : Env) (args : List TypedVal) (at : ℕ) → slice_get args at ≡ None → 0 ≡ nth_value (args_of env args) at
nth_none env [] at is = refl
nth_none env (b ∷ args) zero is = absurd (cc)
nth_none env (b ∷ args) (suc at) is = nth_none env args at is

pub ruleset nth_steps = (nth_some, nth_none)

-- arithmetic
ok_by : (v : Worked) (n : ℕ) → Ok n ≡ ops.answer_of v → Gives (Some (plain_arg n)) ≡ worked_part v
ok_by (word m) n e = let same : n ≡ m = cc in ap (λ (z : ℕ). Gives (Some (plain_arg z))) same
ok_by div_zero n e = absurd cc
ok_by shift_too_far n e = absurd cc

zero_by : (v : Worked) → Err DivZero ≡ ops.answer_of v → Fails trap.DivZero ≡ worked_part v
zero_by (word m) e = absurd cc
zero_by div_zero e = refl
zero_by shift_too_far e = absurd cc

far_by : (v : Worked) → Err ShiftTooFar ≡ ops.answer_of v → Fails trap.ShiftTooFar ≡ worked_part v
far_by (word m) e = absurd cc
far_by div_zero e = absurd cc
far_by shift_too_far e = refl

pub binary_ok : (o : BinaryOp) (w : Width) (x y n : ℕ) → Ok n ≡ ops.answer_of (worked o (bits w) x y) → Gives (Some (plain_arg n)) ≡ worked_part (worked o (bits w) x y)
binary_ok o w x y n e = ok_by (worked o (bits w) x y) n e

pub binary_zero : (o : BinaryOp) (w : Width) (x y : ℕ) → Err DivZero ≡ ops.answer_of (worked o (bits w) x y) → Fails trap.DivZero ≡ worked_part (worked o (bits w) x y)
binary_zero o w x y e = zero_by (worked o (bits w) x y) e

pub binary_far : (o : BinaryOp) (w : Width) (x y : ℕ) → Err ShiftTooFar ≡ ops.answer_of (worked o (bits w) x y) → Fails trap.ShiftTooFar ≡ worked_part (worked o (bits w) x y)
binary_far o w x y e = far_by (worked o (bits w) x y) e

pub ruleset binary_steps = (binary_ok, binary_zero, binary_far)
