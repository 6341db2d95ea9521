use Rattle.std.proofs.Common.{ℕ, List, get_or, sym, subst, arith}
use Rattle.race_check.specs.Vectors.{IsClock}
use Rattle.race_check.proofs.Steps.{all_passed}
use Rattle.race_check.proofs.first.first_races.Goals as goal

pub look-requires-clause-clock : goal.look-requires-clause-clock
look-requires-clause-clock c = λ d.
    subst (λ (xs : List ℕ). IsClock c.args.entries.now c.in_ok-slots.slots.threads.items c.loop-later.later (get_or c.args.entries.now c.loop-later.later d) xs) (sym c.deref.ensures.value) (c.in_ok-clock.ensures.clock d)

pub returns : goal.returns
returns c = all_passed c.args.entries.now c.loop-later.later c.loop-later.found.races.items (omega arith) c.loop-later.invariant.found.races
