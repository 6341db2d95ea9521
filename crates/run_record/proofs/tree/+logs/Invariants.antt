use Rattle.std.proofs.Common.{◌≡◌, ◌++◌}
use Rattle.run_record.specs.Flatten.{all_logs}
use Rattle.run_record.proofs.tree.+logs.Given as goal

abbrev pub invariant-append_logs-loop-child : goal.invariant-append_logs-loop-child
invariant-append_logs-loop-child l = l.into.items ≡ l.initial.into.items ++ all_logs l.yielded
