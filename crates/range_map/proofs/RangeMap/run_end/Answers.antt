use Rattle.std.proofs.Common.{◌<◌, ◌≤◌, ◌∙◌, sym, ap, length}
use Rattle.range_map.proofs.RunLemmas.{rising-order, next_start-run, next_start-end, run_ends, is_ranges}
use Rattle.range_map.specs.Runs.{runs_until}
use Rattle.range_map.proofs.RangeMap.run_end.Goals as goal

pub runs_up_to-requires : goal.runs_up_to-requires
runs_up_to-requires g c = rw c.deref-2.ensures.value (rising-order _ _ _ c.self.invariant)

pub returns-in-Some : goal.returns-in-Some
returns-in-Some g c =
    let items = c.self.inside.later.items in
    let index = rw c.deref-2.ensures.value at c.runs_up_to.ensures in
    let found = (rw c.deref.ensures.value at c.in-Some.ensures.lookup.3.1) c.in-Some.run'.now in
    let below : c.runs_up_to.result < length items = rw c.deref.ensures.value at c.in-Some.ensures.lookup.3.0 in
    let facts = run_ends c.self.inside.len c.in-Some.run'.now.start c.args.at c.self.inside.first items c.self.invariant (rw (← c.self.view_is) at c.requires)
    (ap (λ r. r.start) found ∙ sym (next_start-run c.self.inside.len c.args.at items c.runs_up_to.result _ (sym index) below)) in
    rw (← c.self.view_is) (record { next = facts.next; after = facts.after; within = facts.within; uniform = facts.uniform; runs = is_ranges c.self.inside.len _ c.self.inside.first c.self.inside.later.items c.self.invariant })

pub returns-in-None : goal.returns-in-None
returns-in-None g c =
    let items = c.self.inside.later.items in
    let index = rw c.deref-2.ensures.value at c.runs_up_to.ensures in
    let reached : length items ≤ c.runs_up_to.result = rw c.deref.ensures.value at c.in-None.ensures.lookup.3 in
    let past : length items ≤ runs_until c.args.at items = rw index at reached in
    let facts = run_ends c.self.inside.len c.self.inside.len c.args.at c.self.inside.first items c.self.invariant (rw (← c.self.view_is) at c.requires) (sym (next_start-end c.self.inside.len c.args.at items past)) in
    rw (← c.self.view_is) (record { next = facts.next; after = facts.after; within = facts.within; uniform = facts.uniform; runs = is_ranges c.self.inside.len _ c.self.inside.first c.self.inside.later.items c.self.invariant })
