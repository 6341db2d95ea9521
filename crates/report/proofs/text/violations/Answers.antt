use Rattle.report.proofs.Reportable.{found_described, found_violate}
use Rattle.report.proofs.text.violations.Goals as goal

pub violation_lines-requires-clause-described : goal.violation_lines-requires-clause-described
violation_lines-requires-clause-described c =
    let found = c.in_ok-found.ensures.found in
    found_described c.args.kept.now c.deref.result.now c.requires (cc (found, c.deref.ensures.value))

pub violation_lines-requires-clause-violations : goal.violation_lines-requires-clause-violations
violation_lines-requires-clause-violations c =
    let found = c.in_ok-found.ensures.found in
    found_violate c.args.kept.now c.deref.result.now c.requires (cc (found, c.deref.ensures.value))
