use Rattle.std.proofs.Common.{rules}
use Rattle.turn_lock.proofs.Allowed.{allows_stamp}
use Rattle.turn_lock.proofs.turns.Turns.draw_stamp.Goals as goal

pub fetch_add-found-requires : goal.fetch_add-found-requires
fetch_add-found-requires g c = (
  search rules,
  search rules,
  allows_stamp g.T.Logged.number g.T.Logged.entries _ _ c.desk.inside.seat.me c.desk.invariant.0 (search rules),
)
