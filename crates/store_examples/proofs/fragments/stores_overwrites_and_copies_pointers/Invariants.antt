use Rattle.std.proofs.Common.{◌≡◌, length}
use Rattle.store_examples.proofs.fragments.stores_overwrites_and_copies_pointers.Given as goal

abbrev pub invariant-loop-place : goal.invariant-loop-place
invariant-loop-place g l = length l.shadow.frags ≡ 24
