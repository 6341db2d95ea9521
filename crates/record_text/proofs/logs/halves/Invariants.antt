use Rattle.std.proofs.Common.{◌≡◌, not, filter}
use Rattle.record_text.specs.Halves.{is_below}
use Rattle.record_text.proofs.logs.halves.Given as goal

abbrev pub invariant-loop-entry : goal.invariant-loop-entry
invariant-loop-entry l = record {
  lower : l.lower.items ≡ filter (is_below l.number) l.yielded;
  upper : l.upper.items ≡ filter (λ e. not (is_below l.number e)) l.yielded;
}
