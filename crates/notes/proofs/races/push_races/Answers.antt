use Rattle.notes.specs.Meaning.{listing_meant}
use Rattle.notes.specs.Races.{race_note}
use Rattle.notes.proofs.Rows.{grown_by_item}
use Rattle.notes.proofs.races.push_races.Goals as goal

pub loop-race-preserved : goal.loop-race-preserved
loop-race-preserved c =
    grown_by_item (race_note (listing_meant c.args.listing.now)) c.args.found.now c.loop-race.race-index c.race-item.result
    c.args.notes.now.items c.loop-race.notes.items c.push_race.new.notes.items
    c.loop-race-test.true c.race-item.is c.loop-race.invariant c.in_ok-push_race.ensures
