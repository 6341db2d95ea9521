use Rattle.std.proofs.Common.{◌∙◌, string_bytes}
use Rattle.report.specs.Violation.{violation_line}
use Rattle.report.proofs.Lines.{lines_more}
use Rattle.report.proofs.text.violation_lines.Goals as goal

pub loop-entry-preserved : goal.loop-entry-preserved
loop-entry-preserved c =
    lines_more violation_line c.args.entries.now c.loop-entry.entry-index c.entry-item.result
    (string_bytes c.loop-entry.lines) c.as_str.result.now (string_bytes c.push_str.new.self) _
    c.loop-entry-test.true c.entry-item.is c.loop-entry.invariant
    (c.as_str.ensures.value ∙ c.in_ok-violation_string.ensures) c.in_ok-push_str.ensures.bytes
