use Rattle.std.proofs.Common.{take}
use Rattle.std.specs.List.{flat_map}
use Rattle.ir_rules.specs.Occurrences.{inst_events}
use Rattle.ir_rules.specs.Seen.{Adds}
use Rattle.ir_rules.proofs.events.note_insts.Given as goal

abbrev pub invariant-loop-inst : goal.invariant-loop-inst
invariant-loop-inst l = Adds l.fn.events.items l.events.items (flat_map inst_events (take l.inst-index l.insts))
