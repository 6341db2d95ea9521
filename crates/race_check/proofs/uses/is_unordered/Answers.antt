use Rattle.std.proofs.Common.{arith}
use Rattle.race_check.proofs.Rows.{all_below}
use Rattle.race_check.proofs.uses.is_unordered.Goals as goal

pub returns : goal.returns
returns c = λ no. all_below c.args.kind c.args.clock.now c.args.row.now (λ k d lt. c.loop-last.invariant k d (omega (arith, lt)))
