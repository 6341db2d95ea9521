use Rattle.std.proofs.Common.{get_or, refl, arith}
use Rattle.suppress.proofs.Places.{number_step}
use Rattle.suppress.proofs.place.number.Goals as goal

pub overflow_mul-number : goal.overflow_mul-number
overflow_mul-number c =
    let s = number_step c.args.digits.now c.loop-digit.digit-index c.loop-digit.number (get_or c.args.digits.now c.loop-digit.digit-index 0) c.requires.digits c.requires.few c.loop-digit-test.true refl c.loop-digit.invariant in
    omega (arith, s.small)

pub overflow_add-number : goal.overflow_add-number
overflow_add-number c =
    let s = number_step c.args.digits.now c.loop-digit.digit-index c.loop-digit.number (get_or c.args.digits.now c.loop-digit.digit-index 0) c.requires.digits c.requires.few c.loop-digit-test.true refl c.loop-digit.invariant in
    omega (arith, s.small, c.from.ensures)

pub loop-digit-preserved : goal.loop-digit-preserved
loop-digit-preserved c =
    let s = number_step c.args.digits.now c.loop-digit.digit-index c.loop-digit.number (get_or c.args.digits.now c.loop-digit.digit-index 0) c.requires.digits c.requires.few c.loop-digit-test.true refl c.loop-digit.invariant in
    omega (arith, s.next, c.from.ensures)
