use Rattle.std.proofs.Common.{◌∙◌, ap, arith}
use Rattle.shadow_mem.specs.Origins.{frags_from}
use Rattle.shadow_mem.proofs.Shadows.{IsShadow-new, frags_from-none}
use Rattle.shadow_mem.proofs.ShadowMem.new.Goals as goal

pub invariant_of-result : goal.invariant_of-result
invariant_of-result c = IsShadow-new c.args.size c.in_ok-new.field-0 c.in_ok-new.ensures.bytes (omega arith)

pub returns : goal.returns
returns c = ap (frags_from 0) c.in_ok-new.ensures.bytes ∙ frags_from-none c.args.size 0
