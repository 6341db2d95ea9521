use Rattle.std.proofs.Common.{◌≡◌, ◌++◌, List, map, take, get_or, sym, ap, ◌∙◌}
use Rattle.ir_rules.specs.Occurrences.{Event, block_events}
use Rattle.ir_rules.specs.Seen.{seen}
use Rattle.ir_rules.specs.declared.events.Occurrence.{Occurrence}
use Rattle.ir_assigned.specs.declared.mentions.Mention.{Mention}
use Rattle.ir_assigned.specs.Mentions.{mentions, mentions_from}
use Rattle.ir_assigned.proofs.Table.{from_next}
use Rattle.ir_assigned.proofs.mentions.mentions.Goals as goal

pub loop-place-preserved : goal.loop-place-preserved
loop-place-preserved c = λ q.
    let blocks = c.args.blocks.now in
    let i = c.loop-place.place in
    let b = c.index-blocks-place.result in
    let events : seen c.deref.result.now ≡ block_events (get_or blocks i b) = ap seen c.deref.ensures.value ∙ c.in_ok-note_block.ensures.is
    ∙ ap (λ (z : List Occurrence). seen z ++ block_events b) c.new-occurrences.ensures.items ∙ ap block_events c.index-blocks-place.is in
    c.in_ok-note_mentions.ensures q
    ∙ ap (λ (z : List Mention). z ++ mentions q i (seen c.deref.result.now)) (c.loop-place.invariant q)
    ∙ ap (λ (z : List Event). mentions_from q 0 (map block_events (take i blocks)) ++ mentions q i z) events
    ∙ sym (from_next q blocks i b c.loop-place-test.true)
