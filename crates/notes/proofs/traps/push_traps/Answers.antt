use Rattle.notes.specs.Meaning.{listing_meant}
use Rattle.notes.specs.Traps.{trap_note}
use Rattle.notes.proofs.Rows.{grown_by_item}
use Rattle.notes.proofs.traps.push_traps.Goals as goal

pub loop-log-preserved : goal.loop-log-preserved
loop-log-preserved c =
    grown_by_item (trap_note (listing_meant c.args.listing.now) c.args.kept.now) c.args.logs.now c.loop-log.log-index c.log-item.result
    c.args.notes.now.items c.loop-log.notes.items c.push_trap.new.notes.items
    c.loop-log-test.true c.log-item.is c.loop-log.invariant c.in_ok-push_trap.ensures
