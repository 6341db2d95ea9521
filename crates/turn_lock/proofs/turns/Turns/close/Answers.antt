use Rattle.std.proofs.Common.{rules}
use Rattle.std.specs.Mem.Slots.{slots_items}
use Rattle.turn_lock.proofs.Closed.{Settled, settled}
use Rattle.turn_lock.proofs.Unloading.{at_get, settled_some, settled_whole}
use Rattle.turn_lock.proofs.turns.Turns.close.Goals as goal

pub take_values-requires-clause-filled : goal.take_values-requires-clause-filled
take_values-requires-clause-filled g c =
    let view = c.into_seat.result.me.0 in
    let end : Settled g.T.Logged.number g.T.Logged.entries view (slots_items c.close_with-closed.result.words) (slots_items c.close_with-closed.result.slots) =
    settled g.T.Logged.number g.T.Logged.entries c.into_seat.result.id view _ _ c.close_with-closed.ensures.values.2 c.into_seat.ensures.desk.0 (search rules) (search rules) (search rules) in
    (c.close_with-closed.ensures.values.1, settled_some g.T.Logged.number g.T.Logged.entries view _ _ end)

pub returns-clause-counts : goal.returns-clause-counts
returns-clause-counts g c =
    let view = c.into_seat.result.me.0 in
    let words = slots_items c.close_with-closed.result.words in
    let end : Settled g.T.Logged.number g.T.Logged.entries view (slots_items c.close_with-closed.result.words) (slots_items c.close_with-closed.result.slots) =
    settled g.T.Logged.number g.T.Logged.entries c.into_seat.result.id view _ _ c.close_with-closed.ensures.values.2 c.into_seat.ensures.desk.0 (search rules) (search rules) (search rules) in
    rw (← c.into_seat.ensures.view, ← at_get words 0 c.word.result 0 c.word.ensures, ← at_get words 1 c.word-2.result 0 c.word-2.ensures, ← at_get words 2 c.word-3.result 0 c.word-3.ensures) end.counts

pub returns-clause-values : goal.returns-clause-values
returns-clause-values g c =
    let view = c.into_seat.result.me.0 in
    let end : Settled g.T.Logged.number g.T.Logged.entries view (slots_items c.close_with-closed.result.words) (slots_items c.close_with-closed.result.slots) =
    settled g.T.Logged.number g.T.Logged.entries c.into_seat.result.id view _ _ c.close_with-closed.ensures.values.2 c.into_seat.ensures.desk.0 (search rules) (search rules) (search rules) in
    rw (← c.into_seat.ensures.view) (settled_whole g.T.Logged.number g.T.Logged.entries view _ _ end c.take_values.new.values.items c.take_values.ensures.values)
