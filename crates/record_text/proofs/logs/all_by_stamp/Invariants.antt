use Rattle.std.proofs.Common.{◌≡◌, ◌++◌, drop}
use Rattle.std.specs.List.{flat_map}
use Rattle.history.specs.declared.log.ThreadLog.{ThreadLog}
use Rattle.record_text.proofs.logs.all_by_stamp.Given as goal

abbrev pub invariant-loop-log : goal.invariant-loop-log
invariant-loop-log l = l.entries.items ++ flat_map (λ (log : ThreadLog). log.entries) (drop l.log-index l.threads)
    ≡ flat_map (λ (log : ThreadLog). log.entries) l.threads
