use Rattle.std.proofs.Common.{◌≡◌}
use Rattle.lazy_tree.specs.Eager.{eager_of}
use Rattle.store_examples.proofs.lazy_trees.sixteen_writes_are_kept_in_mind.Given as goal

abbrev pub invariant-rounds : goal.invariant-rounds
invariant-rounds g l = l.eager.tree ≡ eager_of l.lazy
