use Rattle.std.proofs.Common.{rules, ◌≡◌, ◌-◌, suc, arith}
use Rattle.turn_lock.proofs.Allowed.{gives_at}
use Rattle.turn_lock.proofs.turns.Turns.give.Goals as goal

pub swap-requires : goal.swap-requires
swap-requires g c =
    let turn = c.requires.turn in
    let at_least : suc turn.0.slot ≡ c.args.alloc.0 = turn.2 in
    let slot : suc (c.args.alloc.0 - 1) ≡ c.args.alloc.0 = omega arith in (
      search rules,
      search rules,
      gives_at g.T.Logged.number g.T.Logged.entries c.desk.inside.seat.table_id _ _ (c.args.alloc.0 - 1) c.args.alloc.0 c.place_of-word.result c.desk.inside.seat.me c.exchange-found.new.seat.me c.args.value c.place_of-word.ensures
          (search rules) c.desk.invariant (search rules) slot (search rules),
    )
