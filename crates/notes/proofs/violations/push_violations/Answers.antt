use Rattle.notes.specs.Meaning.{listing_meant}
use Rattle.notes.specs.Violations.{violation_in}
use Rattle.notes.proofs.Rows.{grown_by_item}
use Rattle.notes.proofs.violations.push_violations.Goals as goal

pub loop-explained-preserved : goal.loop-explained-preserved
loop-explained-preserved c =
    grown_by_item (violation_in (listing_meant c.args.listing.now) c.args.logs.now) c.args.list.now c.loop-explained.explained-index
    c.explained-item.result c.args.notes.now.items c.loop-explained.notes.items c.push_violation.new.notes.items
    c.loop-explained-test.true c.explained-item.is c.loop-explained.invariant c.in_ok-push_violation.ensures
