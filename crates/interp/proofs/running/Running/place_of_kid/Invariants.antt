use Rattle.std.proofs.Common.{◌≢◌, ℕ, ◌<◌, slice_index_or}
use Rattle.interp.specs.declared.child.Child.{Child}
use Rattle.interp.proofs.running.Running.place_of_kid.Given as goal

abbrev pub invariant-loop-at : goal.invariant-loop-at
invariant-loop-at g l = (k : ℕ) (d : Child g.row.T.Denot) → k < l.at → (slice_index_or l.self.kids.items k d).number ≢ l.child
