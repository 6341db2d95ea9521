use Rattle.std.proofs.Common.{arith}
use Rattle.suppress.proofs.text.held_count.Goals as goal

pub overflow_add-held : goal.overflow_add-held
overflow_add-held g c = omega (arith, c.loop-entry.invariant.small, c.loop-entry-test.true)
