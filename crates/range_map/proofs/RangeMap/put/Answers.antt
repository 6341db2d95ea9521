use Rattle.std.proofs.Common.{arith, ◌≡◌, ◌∙◌, suc, sym, ap, ◌∷◌}
use Rattle.range_map.proofs.RunLemmas.{rising-order, runs_until-bound, bytes-put, bytes-put_first, rising-put, starts-put, next_start-inside, length-bytes_of}
use Rattle.range_map.specs.Runs.{runs_until}
use Rattle.range_map.proofs.RangeMap.put.Goals as goal

pub runs_up_to-requires : goal.runs_up_to-requires
runs_up_to-requires g c = rw c.deref.ensures.value (rising-order _ _ _ c.self.invariant)

pub index_mut-requires : goal.index_mut-requires
index_mut-requires g c = omega (arith, c.in-Some.ensures, runs_until-bound c.args.at c.deref.result.now)

pub invariant_of-self : goal.invariant_of-self
invariant_of-self g c =
    rw c.index_mut.ensures.value (rising-put _ _ c.in-Some.index _ _ c.self.inside.later.items c.self.invariant)

pub returns-in-Some-clause-bytes : goal.returns-in-Some-clause-bytes
returns-in-Some-clause-bytes g c =
    let count : runs_until c.args.at c.deref.result.now ≡ suc c.in-Some.index = omega (arith, c.in-Some.ensures) in
    rw (← c.self.view_is, c.index_mut.ensures.value)
    (bytes-put c.self.inside.len _ _ c.self.inside.first _ _ _ c.self.invariant (rw (← c.self.view_is) at c.requires.within) (rw c.deref.ensures.value at count)
    (rw (← c.self.view_is) at c.requires.begins))

pub returns-in-Some-clause-starts : goal.returns-in-Some-clause-starts
returns-in-Some-clause-starts g c =
    rw (← c.self.view_is, c.index_mut.ensures.value) (ap (λ ss. 0 ∷ ss) (starts-put c.in-Some.index c.args.value _ c.self.inside.later.items))

pub returns-in-None-clause-bytes : goal.returns-in-None-clause-bytes
returns-in-None-clause-bytes g c =
    let count : runs_until c.args.at c.deref.result.now ≡ 0 = omega (arith, c.in-None.ensures) in
    rw (← c.self.view_is)
    (bytes-put_first c.self.inside.len _ c.self.inside.first _ _ c.self.invariant (rw (← c.self.view_is) at c.requires.within) (rw c.deref.ensures.value at count)
    (rw (← c.self.view_is) at c.requires.begins))

pub returns-in-Some-clause-after : goal.returns-in-Some-clause-after
returns-in-Some-clause-after g c =
    rw (← c.self.view_is) (next_start-inside c.self.inside.len c.args.at c.self.inside.first c.self.inside.later.items c.self.invariant (rw (← c.self.view_is) at c.requires.within)).0

pub returns-in-Some-clause-within : goal.returns-in-Some-clause-within
returns-in-Some-clause-within g c =
    rw (← c.self.view_is) (next_start-inside c.self.inside.len c.args.at c.self.inside.first c.self.inside.later.items c.self.invariant (rw (← c.self.view_is) at c.requires.within)).1

pub returns-in-None-clause-after : goal.returns-in-None-clause-after
returns-in-None-clause-after g c =
    rw (← c.self.view_is) (next_start-inside c.self.inside.len c.args.at c.self.inside.first c.self.inside.later.items c.self.invariant (rw (← c.self.view_is) at c.requires.within)).0

pub returns-in-None-clause-within : goal.returns-in-None-clause-within
returns-in-None-clause-within g c =
    rw (← c.self.view_is) (next_start-inside c.self.inside.len c.args.at c.self.inside.first c.self.inside.later.items c.self.invariant (rw (← c.self.view_is) at c.requires.within)).1

pub returns-in-Some-clause-size : goal.returns-in-Some-clause-size
returns-in-Some-clause-size g c =
    rw (← c.self.view_is) (length-bytes_of c.self.inside.len c.self.inside.first _ ∙ sym (length-bytes_of c.self.inside.len c.self.inside.first c.self.inside.later.items))

pub returns-in-None-clause-size : goal.returns-in-None-clause-size
returns-in-None-clause-size g c =
    rw (← c.self.view_is) (length-bytes_of c.self.inside.len c.args.value _ ∙ sym (length-bytes_of c.self.inside.len c.self.inside.first c.self.inside.later.items))
