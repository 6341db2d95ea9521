use Rattle.std.proofs.Common.{◌≡◌, ◌<◌, ℕ}
use Rattle.std.specs.Prelude.{Some, slice_get}
use Rattle.record_file.specs.declared.reached.Standing.{Standing}
use Rattle.record_file.proofs.reached.all_ran.Given as goal

abbrev pub invariant-loop-stands : goal.invariant-loop-stands
invariant-loop-stands l = (i : ℕ) → i < l.stands-index → (a : Standing) × (slice_get l.standing i ≡ Some (Some a))
