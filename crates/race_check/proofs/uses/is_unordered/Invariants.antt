use Rattle.std.proofs.Common.{ℕ, ◌<◌, get_or}
use Rattle.race_check.specs.declared.uses.LastUses.{LastUses}
use Rattle.race_check.specs.Uses.{IsBelow}
use Rattle.race_check.proofs.uses.is_unordered.Given as goal

abbrev pub invariant-loop-last : goal.invariant-loop-last
invariant-loop-last l = (k : ℕ) (d : LastUses) → k < l.last-index → IsBelow l.kind l.clock (get_or l.row k d)
