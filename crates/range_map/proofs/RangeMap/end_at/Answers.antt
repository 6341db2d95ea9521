use Rattle.std.proofs.Common.{arith, ◌<◌, ◌≤◌, length}
use Rattle.std.proofs.lemmas.Bool.Decides.{nat_tests}
use Rattle.range_map.proofs.RunLemmas.{length-bytes_of}
use Rattle.range_map.proofs.RangeMap.end_at.Goals as goal

pub split_at-requires-clause-within : goal.split_at-requires-clause-within
split_at-requires-clause-within g c = rw (← c.self.view_is) (omega (arith, c.if-at-self.true, length-bytes_of c.self.inside.len c.self.inside.first c.self.inside.later.items))

pub returns-then-at-self-clause-starts : goal.returns-then-at-self-clause-starts
returns-then-at-self-clause-starts g c =
    let inside : c.args.at < length c.args.self.now.bytes = rw (← c.self.view_is) (omega (arith, c.if-at-self.true, length-bytes_of c.self.inside.len c.self.inside.first c.self.inside.later.items)) in
    grind (arith, nat_tests, c.split_at.ensures.starts, inside)

pub returns-else-at-self-clause-starts : goal.returns-else-at-self-clause-starts
returns-else-at-self-clause-starts g c =
    let outside : length c.args.self.now.bytes ≤ c.args.at = rw (← c.self.view_is) (omega (arith, c.if-at-self.false, length-bytes_of c.self.inside.len c.self.inside.first c.self.inside.later.items)) in
    grind (arith, nat_tests, outside)
