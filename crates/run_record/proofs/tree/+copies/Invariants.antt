use Rattle.std.proofs.Common.{◌≡◌, take}
use Rattle.run_record.proofs.tree.+copies.Given as goal

abbrev pub invariant-copy_trees-loop-tree : goal.invariant-copy_trees-loop-tree
invariant-copy_trees-loop-tree l = l.copies.items ≡ take l.tree-index l.trees.items
