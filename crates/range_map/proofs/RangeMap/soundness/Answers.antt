use Rattle.range_map.proofs.RunLemmas.{is_ranges}
use Rattle.range_map.proofs.RangeMap.soundness.Goals as goal

pub returns : goal.returns
returns g c = rw (← c.self.view_is) (is_ranges c.self.inside.len _ c.self.inside.first c.self.inside.later.items c.self.invariant)
