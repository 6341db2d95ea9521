use Rattle.std.proofs.Common.{take}
use Rattle.std.specs.List.{flat_map}
use Rattle.ir_rules.specs.Occurrences.{block_events}
use Rattle.ir_rules.specs.Seen.{Adds}
use Rattle.ir_rules.proofs.events.note_blocks.Given as goal

abbrev pub invariant-loop-block : goal.invariant-loop-block
invariant-loop-block l = Adds l.fn.events.items l.events.items (flat_map block_events (take l.block-index l.blocks))
