use Rattle.std.proofs.Common.{rules, ◌≡◌, None, [], subst, Contains}
use Rattle.turn_lock.specs.Plays.{Carries}
use Rattle.turn_lock.specs.declared.view.View.{View}
use Rattle.turn_lock.proofs.Partings.{joins_views}
use Rattle.turn_lock.proofs.Taken.{joined_desk, returned_name}
use Rattle.turn_lock.proofs.turns.Turns.join.Goals as goal

pub join_seat-requires : goal.join_seat-requires
join_seat-requires g c =
    let idle : c.desk.inside.seat.me.0.turn ≡ None = search rules in
    let idle_child : c.into_seat.result.me.0.turn ≡ None = search rules in
    let outs : c.into_seat.result.me.0.outs ≡ [] = search rules in
    let out : Contains c.desk.inside.seat.me.0.outs c.into_seat.result.me.0.name = search rules in
    let empty : c.into_seat.result.me.1 ≡ [] = subst (λ o. Carries c.into_seat.result.table_id.slots o c.into_seat.result.me.1) idle_child c.into_seat.ensures.desk.1 in (
      search rules,
      search rules,
      empty,
      search rules,
      joins_views _ c.desk.inside.seat.me.0 _ c.into_seat.result.me.0 c.desk.invariant.0 idle c.into_seat.ensures.desk.0 idle_child outs out,
    )

pub invariant_of-desk : goal.invariant_of-desk
invariant_of-desk g c =
    let out : Contains c.desk.inside.seat.me.0.outs c.into_seat.result.me.0.name = search rules in
    joined_desk _ _ c.desk.inside.seat.me c.join_seat.ensures.0 c.desk.invariant c.join_seat.new.seat.me c.into_seat.result.me.0 c.join_seat.ensures.2 out

pub returns-clause-returned : goal.returns-clause-returned
returns-clause-returned g c =
    let out : Contains c.desk.inside.seat.me.0.outs c.into_seat.result.me.0.name = search rules in
    subst (λ (u : View). ¬ (Contains c.join_seat.new.seat.me.0.outs u.name)) c.into_seat.ensures.view
    (returned_name _ _ c.desk.inside.seat.me c.join_seat.ensures.0 c.desk.invariant c.join_seat.new.seat.me c.into_seat.result.me.0 c.join_seat.ensures.2 out)
