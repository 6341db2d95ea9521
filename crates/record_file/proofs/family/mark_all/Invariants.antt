use Rattle.std.proofs.Common.{◌≡◌, take, length, vec_len}
use Rattle.record_file.specs.Family.{StartAll, Marks}
use Rattle.record_file.proofs.family.mark_all.Given as goal

abbrev pub invariant-loop-entry : goal.invariant-loop-entry
invariant-loop-entry l =
    record {
      len : vec_len l.started ≡ length l.logs;
      all : StartAll l.logs l.parent (take l.entry-index l.entries);
      marks : Marks l.logs l.initial.started.items (take l.entry-index l.entries) l.started.items;
    }
