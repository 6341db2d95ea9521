use Rattle.std.proofs.Common.{nat_lt, rules, of_calls, length}
use Rattle.std.proofs.lemmas.List.Sorted.{IsPartitionPoint-from_clause}
use Rattle.dated_access.proofs.OthersLemmas.{partitioned, not-among, not-here, not-past}
use Rattle.dated_access.proofs.others.is_among.Goals as goal

pub returns-then-at-places-clause-no : goal.returns-then-at-places-clause-no
returns-then-at-places-clause-no c = λ no k lt.
    not-among c.args.places.now c.args.place c.partition_point-at.result k c.requires
    (IsPartitionPoint-from_clause (λ p. nat_lt p c.args.place) _ _ c.partition_point-at.ensures.partitioned (partitioned c.args.places.now c.args.place c.requires) (λ a r f k. search (rules, of_calls)))
    (λ low. not-here _ _ no) lt

pub returns-else-at-places-clause-no : goal.returns-else-at-places-clause-no
returns-else-at-places-clause-no c = λ no k lt.
    not-among c.args.places.now c.args.place c.partition_point-at.result k c.requires
    (IsPartitionPoint-from_clause (λ p. nat_lt p c.args.place) _ _ c.partition_point-at.ensures.partitioned (partitioned c.args.places.now c.args.place c.requires) (λ a r f k. search (rules, of_calls)))
    (λ low. not-past _ c.partition_point-at.result (length c.args.places.now) low no) lt
