use Rattle.std.proofs.Common.{◌≡◌, take, length, vec_len}
use Rattle.runs.specs.Merge.{all_entries}
use Rattle.record_file.specs.Family.{StartEach, Marks}
use Rattle.record_file.proofs.family.has_threads.Given as goal

abbrev pub invariant-loop-log : goal.invariant-loop-log
invariant-loop-log l =
    record {
      len : vec_len l.started ≡ length l.logs;
      each : StartEach l.logs (take l.log-index l.logs);
      marks : Marks l.logs l.initial.started.items (all_entries (take l.log-index l.logs)) l.started.items;
    }
