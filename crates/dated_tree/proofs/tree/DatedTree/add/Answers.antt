use Rattle.std.proofs.Common.{false}
use Rattle.dated_tree.proofs.StoredLemmas.{added-tree}
use Rattle.dated_tree.proofs.tree.DatedTree.add.Goals as goal

pub returns-clause-tree : goal.returns-clause-tree
returns-clause-tree c =
    added-tree c.args.self.now c.runs_for-runs.new.self c.mark_parent.new.self c.push_node.new.self c.list_last.new.self c.forget_actor.new.self (record { tag = c.args.tag; parent = c.args.parent; has_child = false; guard = c.args.guard; ends = c.new-ends.result; runs = c.runs_for-runs.result }) _ _ _ c.runs_for-runs.ensures.tree c.mark_parent.ensures c.push_node.ensures c.list_last.ensures c.forget_actor.ensures
