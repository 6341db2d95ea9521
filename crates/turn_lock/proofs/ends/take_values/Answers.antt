use Rattle.std.proofs.Common.{rules, ◌<◌, arith, ◌∙◌, sym, ap, subst, map, take, get_or, false, Some, ◌+◌}
use Rattle.std.specs.Mem.Slots.{slots_items, slots_filled, slots_len, slots_counts}
use Rattle.turn_lock.specs.Closing.{AllSome}
use Rattle.turn_lock.proofs.Unloading.{unload_more, never_none, emptied_more, full_more}
use Rattle.turn_lock.proofs.ends.take_values.Goals as goal

pub unreachable-requires : goal.unreachable-requires
unreachable-requires g c =
    let items = slots_items c.loop-i.closed.slots in
    let long = (slots_counts c.loop-i.closed.slots).0 in
    let inside : c.loop-i.i < slots_len c.loop-i.closed.slots = search rules in
    never_none items c.loop-i.i (subst AllSome (sym c.loop-i.invariant.items) c.requires.filled.1) (omega arith) (c.in_default.ensures).value

pub loop-i-preserved : goal.loop-i-preserved
loop-i-preserved g c =
    let row = c.loop-i.closed.slots in
    let counts = slots_counts row in
    let inside : c.loop-i.i < slots_len row = search rules in
    let pushed = c.in-Ok.ensures in
    let taken = c.in-Some.ensures in
    let others = c.take-found.ensures.others in record {
      items = search rules;
      long = search rules;
      full = λ k le lt. ap (λ fs. get_or fs k false) others.1 ∙ full_more (slots_filled row) c.loop-i.i (slots_len row) c.loop-i.invariant.full k le (let a = others.2 in omega arith);
      emptied = λ k lt. ap (λ fs. get_or fs k false) others.1 ∙ emptied_more (slots_filled row) c.loop-i.i (omega arith) c.loop-i.invariant.emptied k lt;
      values = ap (map Some) pushed.items ∙ (unload_more c.loop-i.values.items (slots_items row) c.loop-i.i c.in-Some.value c.loop-i.invariant.values taken.value (omega arith) ∙ ap (take (c.loop-i.i + 1)) (sym others.0));
      room = search rules;
      count = search rules;
    }
