use Rattle.std.proofs.Common.{rules}
use Rattle.turn_lock.proofs.Allowed.{takes_at}
use Rattle.turn_lock.proofs.Taken.{found, carried}
use Rattle.turn_lock.proofs.turns.Turns.try_acquire.Goals as goal

pub compare_exchange-requires : goal.compare_exchange-requires
compare_exchange-requires g c = (
  search rules,
  search rules,
  takes_at g.T.Logged.number g.T.Logged.entries _ _ c.args.slot c.place_of.result c.args.held c.args.seat.now.me c.place_of.ensures c.requires.held.0 c.requires.held.1 c.requires.idle.0 c.requires.idle.1 (search rules),
)

pub exchange-requires : goal.exchange-requires
exchange-requires g c = (
  search rules,
  carried g.T.Logged.number g.T.Logged.entries c.args.slot c.args.seat.now.me c.compare_exchange.new.seat.me
      (found g.T.Logged.number g.T.Logged.entries c.args.slot c.place_of.result c.args.seat.now.me c.compare_exchange.new.seat.me c.compare_exchange.result c.place_of.ensures c.compare_exchange.ensures.2 c.if-compare_exchange-eq-FREE.true),
)
