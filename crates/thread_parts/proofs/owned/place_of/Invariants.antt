use Rattle.std.proofs.Common.{◌≡◌, ◌<◌, ℕ, false, get_or}
use Rattle.std.specs.Prelude.{nat_eq}
use Rattle.thread_parts.proofs.owned.place_of.Given as goal

abbrev pub invariant-loop-at : goal.invariant-loop-at
invariant-loop-at l = (j : ℕ) → j < l.at → nat_eq l.fn.number (get_or l.list j 0) ≡ false
