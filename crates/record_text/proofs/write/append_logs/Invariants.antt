use Rattle.std.proofs.Common.{◌≡◌, ◌++◌, drop}
use Rattle.std.specs.List.{flat_map}
use Rattle.record_text.specs.Written.{log_text}
use Rattle.record_text.proofs.write.append_logs.Given as goal

abbrev pub invariant-loop-log : goal.invariant-loop-log
invariant-loop-log l =
    l.text.items ++ flat_map log_text (drop l.log-index l.logs) ≡ l.fn.text.items ++ flat_map log_text l.logs
