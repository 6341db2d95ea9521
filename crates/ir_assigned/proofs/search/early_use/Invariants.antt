use Rattle.std.proofs.Common.{◌≡◌, false, length, replicate, take}
use Rattle.ir_rules.specs.Least.{IsLeast}
use Rattle.ir_assigned.proofs.Firsts.{In}
use Rattle.ir_assigned.specs.Mentions.{defined, scan}
use Rattle.ir_assigned.proofs.search.early_use.Given as goal

abbrev pub invariant-loop-mention : goal.invariant-loop-mention
invariant-loop-mention l = record {
  marks : l.marks.items ≡ defined (replicate (length l.entered) false) (take l.mention-index l.mentions);
  first : IsLeast (In (scan l.entered (replicate (length l.entered) false) (take l.mention-index l.mentions))) l.first;
}
