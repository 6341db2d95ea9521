use Rattle.std.proofs.Common.{◌≡◌, ◌++◌}
use Rattle.record_file.specs.Reaching.{others}
use Rattle.record_file.proofs.reached.wait_for.Given as goal

abbrev pub invariant-loop-child : goal.invariant-loop-child
invariant-loop-child l = l.waiting.items ≡ l.initial.waiting.items ++ others l.yielded
