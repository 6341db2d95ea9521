use Rattle.std.proofs.Common.{◌≡◌, false, List, Bool, length, replicate, take, get_or, sym, ap, ◌∙◌, arith}
use Rattle.ir_assigned.specs.declared.mentions.Mention.{Mention}
use Rattle.ir_assigned.specs.Mentions.{define, defined}
use Rattle.ir_rules.proofs.Any.{take_whole}
use Rattle.ir_assigned.proofs.Scan.{length_defined, defined_next, length_blank}
use Rattle.ir_assigned.proofs.search.defining_blocks.Goals as goal

abbrev no_mention : Mention
no_mention = record { block = 0; at = 0; defines = false }

pub loop-mention-init : goal.loop-mention-init
loop-mention-init c = c.in_ok-marks.ensures.items_if_clones_equal (λ y h. h)

pub mark-requires : goal.mark-requires
mark-requires c =
    let size : length c.loop-mention.marks.items ≡ c.args.blocks = ap length c.loop-mention.invariant ∙ length_defined (replicate c.args.blocks false) (take c.loop-mention.mention-index c.args.mentions.now) ∙ length_blank c.args.blocks in
    omega (arith, size, c.requires c.loop-mention.mention-index no_mention c.loop-mention-test.true)

pub loop-mention-preserved : goal.loop-mention-preserved
loop-mention-preserved c = c.mark.ensures
    ∙ ap (λ (z : List Bool). define z (get_or c.args.mentions.now c.loop-mention.mention-index no_mention)) c.loop-mention.invariant
    ∙ sym (defined_next (replicate c.args.blocks false) c.args.mentions.now c.loop-mention.mention-index no_mention c.loop-mention-test.true)

pub returns : goal.returns
returns c = c.loop-mention.invariant ∙ ap (defined (replicate c.args.blocks false)) (take_whole c.args.mentions.now c.loop-mention.mention-index c.loop-mention-test.false)
