use Rattle.std.proofs.Common.{nat_lt, rules, of_calls}
use Rattle.std.proofs.lemmas.List.Sorted.{IsPartitionPoint-from_clause}
use Rattle.dated_tree.specs.declared.node.Node.{Node}
use Rattle.dated_tree.proofs.Finding.{partitioned, point-below, point-above}
use Rattle.dated_tree.proofs.tree.first_from.Goals as goal

pub returns-clause-below : goal.returns-clause-below
returns-clause-below c = λ i lt.
    point-below c.args.nodes.now c.args.tag c.partition_point.result i c.partition_point.ensures.bound
    (IsPartitionPoint-from_clause (λ (n : Node). nat_lt n.tag.0 c.args.tag.0) _ _ c.partition_point.ensures.partitioned (partitioned c.args.nodes.now c.args.tag c.requires) (λ a r f k. search (rules, of_calls))) lt

pub returns-clause-above : goal.returns-clause-above
returns-clause-above c = λ i le lt.
    point-above c.args.nodes.now c.args.tag c.partition_point.result i
    (IsPartitionPoint-from_clause (λ (n : Node). nat_lt n.tag.0 c.args.tag.0) _ _ c.partition_point.ensures.partitioned (partitioned c.args.nodes.now c.args.tag c.requires) (λ a r f k. search (rules, of_calls))) le lt
