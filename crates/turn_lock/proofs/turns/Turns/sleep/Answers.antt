use Rattle.std.proofs.Common.{rules}
use Rattle.turn_lock.proofs.Allowed.{marks_at}
use Rattle.turn_lock.proofs.turns.Turns.sleep.Goals as goal

pub compare_exchange-requires : goal.compare_exchange-requires
compare_exchange-requires g c = (search rules, search rules, marks_at g.T.Logged.number g.T.Logged.entries _ _ c.args.slot c.place_of-word.result c.args.seat.now.me c.place_of-word.ensures (search rules))
