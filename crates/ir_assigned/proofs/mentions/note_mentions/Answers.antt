use Rattle.std.proofs.Common.{◌≡◌, ◌++◌, ℕ, List, take, get_or, sym, ap, ◌∙◌, append_assoc, bytes_eq}
use Rattle.ir_rules.specs.Seen.{seen, event_of}
use Rattle.ir_rules.specs.declared.events.Occurrence.{Occurrence}
use Rattle.ir_assigned.specs.declared.mentions.Mention.{Mention}
use Rattle.ir_assigned.specs.Mentions.{register_of, mention_of, mention_if, mentions, mentions_in}
use Rattle.ir_rules.proofs.Any.{take_whole}
use Rattle.ir_assigned.proofs.Table.{mentions_next, register_is}
use Rattle.ir_assigned.proofs.mentions.note_mentions.Goals as goal

pub loop-occurrence-preserved : goal.loop-occurrence-preserved
loop-occurrence-preserved c = λ q.
    let os = c.args.occurrences.now in
    let i = c.loop-occurrence.occurrence-index in
    let o = c.occurrence-item.result in
    let b = c.args.block in
    let here : mention_if (bytes_eq q c.as_slice.result.now) c.mention_at-mention.result ≡ mention_if (bytes_eq q (register_of (event_of (get_or os i o)))) (mention_of b (event_of (get_or os i o))) =
    ap (λ (z : List ℕ). mention_if (bytes_eq q z) c.mention_at-mention.result) (c.as_slice.ensures ∙ register_is o)
    ∙ ap (mention_if (bytes_eq q (register_of (event_of o)))) c.mention_at-mention.ensures
    ∙ ap (λ (z : Occurrence). mention_if (bytes_eq q (register_of (event_of z))) (mention_of b (event_of z))) c.occurrence-item.is in
    c.in_ok-note_mention.ensures q
    ∙ ap (λ (z : List Mention). z ++ mention_if (bytes_eq q c.as_slice.result.now) c.mention_at-mention.result) (c.loop-occurrence.invariant q)
    ∙ append_assoc (mentions_in c.args.table.now q) (mentions q b (seen (take i os))) (mention_if (bytes_eq q c.as_slice.result.now) c.mention_at-mention.result)
    ∙ ap (λ (z : List Mention). mentions_in c.args.table.now q ++ z) (ap (λ (z : List Mention). mentions q b (seen (take i os)) ++ z) here ∙ sym (mentions_next q b os i o c.loop-occurrence-test.true))

pub returns : goal.returns
returns c = λ q. c.loop-occurrence.invariant q ∙ ap (λ (z : List Occurrence). mentions_in c.args.table.now q ++ mentions q c.args.block (seen z)) (take_whole c.args.occurrences.now c.loop-occurrence.occurrence-index c.loop-occurrence-test.false)
