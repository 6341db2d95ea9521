use Rattle.std.proofs.Common.{arith}
use Rattle.suppress.specs.Held.{is_held}
use Rattle.suppress.proofs.Shown.{kept_and_left}
use Rattle.suppress.proofs.text.shown_count.Goals as goal

pub overflow_sub-result : goal.overflow_sub-result
overflow_sub-result g c = omega (arith, kept_and_left (is_held c.args.hold.now.rules) c.args.found.now, c.held_count.ensures)

pub returns : goal.returns
returns g c = omega (arith, kept_and_left (is_held c.args.hold.now.rules) c.args.found.now, c.held_count.ensures)
