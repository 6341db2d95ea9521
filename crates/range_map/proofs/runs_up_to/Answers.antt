use Rattle.std.proofs.Common.{nat_le, arith, rules, of_calls}
use Rattle.std.proofs.lemmas.Bool.Decides.{nat_tests}
use Rattle.std.proofs.lemmas.List.Sorted.{IsPartitionPoint-from_clause}
use Rattle.range_map.proofs.RunLemmas.{runs_until-point}
use Rattle.range_map.proofs.runs_up_to.Goals as goal

pub returns : goal.returns
returns g c =
    runs_until-point c.args.at _ _ c.partition_point.ensures.bound
    (IsPartitionPoint-from_clause (λ r. nat_le r.start c.args.at) _ _ c.partition_point.ensures.partitioned
    (λ i j d le lt h. grind (arith, nat_tests, h, c.requires i j d le lt))
    (λ a r f k. search (rules, of_calls)))
