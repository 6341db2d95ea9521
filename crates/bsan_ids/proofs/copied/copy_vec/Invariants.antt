use Rattle.std.proofs.Common.{◌≡◌, take, vec_len, vec_capacity}
use Rattle.bsan_ids.proofs.copied.copy_vec.Given as goal

abbrev pub invariant-loop-item : goal.invariant-loop-item
invariant-loop-item g l =
    (l.copy.items ≡ take l.item-index l.items.items) × (vec_len l.copy ≡ l.item-index) × (vec_capacity l.copy ≡ vec_capacity l.items)
