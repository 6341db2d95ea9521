use Rattle.std.proofs.Common.{◌∙◌}
use Rattle.report.proofs.Lines.{lines_more}
use Rattle.suppress.specs.Held.{shown_line}
use Rattle.suppress.proofs.text.shown_lines.Goals as goal

pub loop-entry-preserved : goal.loop-entry-preserved
loop-entry-preserved g c =
    lines_more (shown_line c.args.hold.now.rules) c.args.found.now c.loop-entry.entry-index c.entry-item.result
    c.loop-entry.lines.items c.deref.result.now c.extend_from_slice.new.self.items _
    c.loop-entry-test.true c.entry-item.is c.loop-entry.invariant
    (c.deref.ensures.value ∙ c.in_ok-shown_line.ensures) c.in_ok-extend_from_slice.ensures.items
