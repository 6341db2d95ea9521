use Rattle.std.proofs.Common.{◌∙◌, ap, filter, List}
use Rattle.std.specs.List.{flat_map}
use Rattle.history.specs.Merge.{by_stamp}
use Rattle.history.specs.declared.log.ThreadLog.{ThreadLog}
use Rattle.report.specs.Report.{is_print, print_line}
use Rattle.report.proofs.Printing.{prints_alone}
use Rattle.report.proofs.prints.prints.Goals as goal

pub returns : goal.returns
returns c =
    let found = c.in_ok-steps.ensures ∙ ap (λ (logs : List ThreadLog). filter is_print (flat_map (λ (log : ThreadLog). log.entries) logs)) c.as_slice.ensures in
    c.in_ok-print_lines.ensures ∙ ap (flat_map print_line) (c.deref.ensures.value ∙ c.in_ok-sort_by_stamp.ensures.sorted ∙ ap by_stamp found) ∙ prints_alone c.args.kept.now
