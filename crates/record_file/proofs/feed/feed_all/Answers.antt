use Rattle.std.proofs.Common.{◌∙◌, ap, arith, length, refl}
use Rattle.std.proofs.lemmas.Option.{slice_get_read}
use Rattle.record_file.specs.Feeding.{starts_of}
use Rattle.record_file.proofs.Threading.{take_end, taken_next}
use Rattle.record_file.proofs.Feeding.{drop_item, fed_all, fed_more, fed_refused, one_refused, one_taken}
use Rattle.record_file.proofs.feed.feed_all.Goals as goal

pub returns-then-not-branch-clause-fed : goal.returns-then-not-branch-clause-fed
returns-then-not-branch-clause-fed c =
    let m = c.loop-entry.machine in
    let e = c.entry-item.result in
    fed_refused c.args.turns c.args.machine.now c.args.entries.now c.loop-entry.entry-index m c.loop-entry.children.items c.loop-entry.invariant e
    (drop_item c.args.entries.now c.loop-entry.entry-index e (omega arith) c.entry-item.is)
    (one_refused c.in_ok-feed.field-0 m.setting c.args.turns m.thread c.feed.new.machine.thread e c.loop-entry.children.items c.feed.new.children.items c.if-not-branch.true c.in_ok-feed.ensures.fed)

pub loop-entry-preserved : goal.loop-entry-preserved
loop-entry-preserved c =
    let m = c.loop-entry.machine in
    let e = c.entry-item.result in
    fed_more c.args.turns c.args.machine.now c.args.entries.now c.loop-entry.entry-index m c.loop-entry.children.items c.loop-entry.invariant e c.feed.new.machine c.feed.new.children.items
    (drop_item c.args.entries.now c.loop-entry.entry-index e (omega arith) c.entry-item.is) c.in_ok-feed.ensures.setting c.in_ok-feed.ensures.children
    (taken_next c.args.entries.now c.loop-entry.entry-index e (slice_get_read c.args.entries.now (length c.args.entries.now) c.loop-entry.entry-index e refl (omega arith) c.entry-item.is))
    (c.in_ok-feed.ensures.numbers c.if-not-branch.false)
    (one_taken c.in_ok-feed.field-0 m.setting c.args.turns m.thread c.feed.new.machine.thread e c.loop-entry.children.items c.feed.new.children.items c.if-not-branch.false c.in_ok-feed.ensures.fed)

pub returns-clause-fed : goal.returns-clause-fed
returns-clause-fed c =
    fed_all c.args.turns c.args.machine.now c.args.entries.now c.loop-entry.entry-index c.loop-entry.machine c.loop-entry.children.items c.loop-entry.invariant (omega arith)

pub returns-clause-numbers : goal.returns-clause-numbers
returns-clause-numbers c =
    c.loop-entry.invariant.started ∙ ap starts_of (take_end c.args.entries.now c.loop-entry.entry-index (omega arith))
