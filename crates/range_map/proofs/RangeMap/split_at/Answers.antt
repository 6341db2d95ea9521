use Rattle.std.proofs.Common.{arith, ◌≤◌, ◌-◌, vec_len, vec_capacity}
use Rattle.range_map.proofs.RunLemmas.{rising-order, runs_until-bound, splits, split-there, Splits}
use Rattle.range_map.proofs.RangeMap.split_at.Goals as goal

pub run_with-run-requires : goal.run_with-run-requires
run_with-run-requires g c = rw c.deref.ensures.value (rising-order _ _ _ c.self.invariant)

pub runs_up_to-index-requires : goal.runs_up_to-index-requires
runs_up_to-index-requires g c = rw c.deref-then-run-at.ensures.value (rising-order _ _ _ c.self.invariant)

pub insert-requires : goal.insert-requires
insert-requires g c = omega (arith, runs_until-bound c.args.at c.deref-then-run-at.result.now)

-- what the insert leaves, by the lemma on runs
split : (g : _) (c : goal.After-insert g) → Splits c.self.inside.len c.args.at c.self.inside.first c.self.inside.later.items c.insert.new.self.items
split g c =
    let items = c.self.inside.later.items in
    let room : 1 ≤ vec_capacity c.self.inside.later - vec_len c.self.inside.later = rw (← c.self.view_is) at c.requires.room in
    let ok = c.insert.ensures.succeeds (omega (arith, room)) in
    let index = rw c.deref-then-run-at.ensures.value at c.runs_up_to-index.ensures in
    let made = rw (ok, index) at c.insert.ensures.items in
    splits _ c.args.at _ c.run_with-run.result items _ c.self.invariant (rw (← c.self.view_is) at c.requires.within) (rw c.deref.ensures.value at c.run_with-run.ensures) c.if-run-at.true made

pub invariant_of-self : goal.invariant_of-self
invariant_of-self g c = (split g c).rising

pub returns-then-run-at-clause-bytes : goal.returns-then-run-at-clause-bytes
returns-then-run-at-clause-bytes g c = rw (← c.self.view_is) (split g c).bytes

pub returns-then-run-at-clause-starts : goal.returns-then-run-at-clause-starts
returns-then-run-at-clause-starts g c = rw (← c.self.view_is) (split g c).starts

pub returns-else-run-at-clause-starts : goal.returns-else-run-at-clause-starts
returns-else-run-at-clause-starts g c =
    rw (← c.self.view_is) (split-there _ _ _ c.run_with-run.result _ c.self.invariant (rw c.deref.ensures.value at c.run_with-run.ensures) c.if-run-at.false)
