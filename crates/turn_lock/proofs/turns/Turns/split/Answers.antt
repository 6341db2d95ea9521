use Rattle.std.proofs.Common.{rules, ◌≡◌, ◌∙◌, ap, None}
use Rattle.turn_lock.specs.Steps.{chose}
use Rattle.turn_lock.proofs.Allowed.{allows_choice, allows_split}
use Rattle.turn_lock.proofs.Taken.{parted_desk, split_desk}
use Rattle.turn_lock.proofs.turns.Turns.split.Goals as goal

pub compare_exchange-requires : goal.compare_exchange-requires
compare_exchange-requires g c = (search rules, search rules, allows_choice g.T.Logged.number g.T.Logged.entries _ _ c.desk.inside.seat.me c.args.name.0 c.desk.invariant.0)

pub split_seat-requires : goal.split_seat-requires
split_seat-requires g c =
    let chosen : c.compare_exchange.new.seat.me.0 ≡ chose c.desk.inside.seat.me.0 c.args.name.0 = ap (λ m. m.0) c.compare_exchange.ensures.2 in
    let idle : c.desk.inside.seat.me.0.turn ≡ None = search rules in (
      search rules,
      search rules,
      allows_split g.T.Logged.number g.T.Logged.entries _ c.desk.inside.seat.me.0 c.compare_exchange.new.seat.me.0 c.args.name.0 chosen c.desk.invariant.0 idle (search rules) (search rules) (search rules) (search rules),
    )

pub returns-clause-parent : goal.returns-clause-parent
returns-clause-parent g c =
    parted_desk c.args.desk.now.table c.split_seat.new.seat.table_id c.args.desk.now.view c.compare_exchange.new.seat.me.0 c.split_seat.new.seat.me.0 c.args.name.0 (search rules) (search rules)
    (ap (λ m. m.0) c.split_seat.ensures.2) (search rules)

pub invariant_of-desk : goal.invariant_of-desk
invariant_of-desk g c =
    split_desk _ _ c.desk.inside.seat.me (c.split_seat.ensures.0 ∙ c.compare_exchange.ensures.0) c.desk.invariant c.compare_exchange.new.seat.me c.split_seat.new.seat.me c.args.name.0
    c.compare_exchange.ensures.2 c.split_seat.ensures.2 (search rules)
