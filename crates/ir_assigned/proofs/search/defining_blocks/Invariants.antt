use Rattle.std.proofs.Common.{◌≡◌, false, replicate, take}
use Rattle.ir_assigned.specs.Mentions.{defined}
use Rattle.ir_assigned.proofs.search.defining_blocks.Given as goal

abbrev pub invariant-loop-mention : goal.invariant-loop-mention
invariant-loop-mention l = l.marks.items ≡ defined (replicate l.blocks false) (take l.mention-index l.mentions)
