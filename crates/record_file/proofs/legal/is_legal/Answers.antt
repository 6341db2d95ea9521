use Rattle.std.proofs.Common.{arith}
use Rattle.record_file.proofs.Feeding.{drop_item}
use Rattle.record_file.proofs.Replaying.{asked_more}
use Rattle.record_file.proofs.legal.is_legal.Goals as goal

pub loop-entry-preserved : goal.loop-entry-preserved
loop-entry-preserved c =
    asked_more c.in_ok-answers.field-0 c.args.log.now _ c.loop-entry.state.number.0 c.answers.new.state.number.0 c.loop-entry.state.entries c.answers.new.state.entries c.entry-item.result _
    c.if-not-branch.false c.in_ok-answers.ensures c.loop-entry.invariant (drop_item _ c.loop-entry.entry-index c.entry-item.result (omega arith) c.entry-item.is)
