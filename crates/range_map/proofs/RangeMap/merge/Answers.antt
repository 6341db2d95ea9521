use Rattle.std.proofs.Common.{arith, ◌≡◌, ◌∙◌, ◌≤◌, length, ap, refl}
use Rattle.std.proofs.lemmas.List.{take-take, take-append-le}
use Rattle.range_map.specs.Runs.{compacted}
use Rattle.range_map.proofs.RunLemmas.{same_bytes}
use Rattle.range_map.proofs.MergeLemmas.{rising-compacted, value_at-compacted, starts-compacted, starts-fewer}
use Rattle.range_map.proofs.RangeMap.merge.Goals as goal

-- the runs that are left
left : (g : _) (c : goal.After-truncate g) → c.truncate.new.self.items ≡ compacted g.T.PartialEq.eq c.self.inside.first c.self.inside.later.items
left g c =
    let within : c.compact-kept.result ≤ length c.compact-kept.new.later = omega arith in
    c.truncate.ensures.items ∙ take-take c.compact-kept.result _ _ (omega arith) ∙ take-append-le c.compact-kept.result _ _ within
    ∙ c.compact-kept.ensures.kept ∙ ap (compacted g.T.PartialEq.eq c.self.inside.first) c.as_mut_slice.ensures.value

pub invariant_of-self : goal.invariant_of-self
invariant_of-self g c = rw (left g c) (rising-compacted g.T.PartialEq.eq _ _ c.self.inside.first c.self.inside.later.items c.self.invariant)

pub returns-clause-bytes : goal.returns-clause-bytes
returns-clause-bytes g c =
    rw (← c.self.view_is, left g c)
    (same_bytes c.self.inside.len c.self.inside.first c.self.inside.first _ c.self.inside.later.items
    (λ b. value_at-compacted g.T.PartialEq.eq (λ x y. (c.requires x y).0) c.self.inside.len 0 b c.self.inside.first c.self.inside.later.items c.self.invariant))

pub returns-clause-starts : goal.returns-clause-starts
returns-clause-starts g c =
    rw (← c.self.view_is, left g c)
    (starts-compacted g.T.PartialEq.eq (λ x y. (c.requires x y).0) (λ x. (c.requires x x).1 refl) c.self.inside.len c.self.inside.first c.self.inside.later.items c.self.invariant)

pub returns-clause-fewer : goal.returns-clause-fewer
returns-clause-fewer g c = λ s h.
    rw (← c.self.view_is) (starts-fewer g.T.PartialEq.eq s c.self.inside.first c.self.inside.later.items (rw (left g c) at h))
