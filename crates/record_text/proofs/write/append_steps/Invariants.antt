use Rattle.std.proofs.Common.{◌≡◌, ◌++◌, drop}
use Rattle.std.specs.List.{flat_map}
use Rattle.record_text.specs.Written.{step_text}
use Rattle.record_text.proofs.write.append_steps.Given as goal

abbrev pub invariant-loop-entry : goal.invariant-loop-entry
invariant-loop-entry l =
    l.text.items ++ flat_map step_text (drop l.entry-index l.entries) ≡ l.fn.text.items ++ flat_map step_text l.entries
