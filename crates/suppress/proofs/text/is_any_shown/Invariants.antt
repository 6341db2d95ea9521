use Rattle.std.proofs.Common.{◌≡◌, drop}
use Rattle.suppress.specs.Held.{is_any_shown}
use Rattle.suppress.proofs.text.is_any_shown.Given as goal

abbrev pub invariant-loop-log : goal.invariant-loop-log
invariant-loop-log g l = is_any_shown l.hold.rules (drop l.log-index l.logs) ≡ is_any_shown l.hold.rules l.logs
