use Rattle.std.proofs.Common.{◌≡◌, take, vec_len, vec_capacity}
use Rattle.dated_tree.proofs.tree.copy_into.Given as goal

abbrev pub invariant-loop-at : goal.invariant-loop-at
invariant-loop-at l =
    (l.list.items ≡ take l.at l.dates) × (vec_len l.list ≡ l.at) × (vec_capacity l.list ≡ vec_capacity l.initial.list)
