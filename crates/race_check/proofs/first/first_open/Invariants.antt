use Rattle.std.proofs.Common.{ℕ, ◌≡◌, ◌<◌, get_or, false}
use Rattle.history.specs.declared.entry.Entry.{Entry}
use Rattle.race_check.specs.Vectors.{open_at}
use Rattle.race_check.proofs.first.first_open.Given as goal

abbrev pub invariant-loop-place : goal.invariant-loop-place
invariant-loop-place l = (d : Entry) (p : ℕ) → p < l.place-index → get_or l.places p 0 < l.later → open_at l.entries l.slots (get_or l.entries l.later d) l.clock (get_or l.places p 0) ≡ false
