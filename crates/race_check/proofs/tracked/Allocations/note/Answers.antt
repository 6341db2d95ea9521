use Rattle.std.proofs.Common.{◌≡◌, Option, Some, subst}
use Rattle.race_check.specs.declared.tracked.Tracked.{Tracked}
use Rattle.race_check.specs.Tracked.{IsClear, tracked_at}
use Rattle.race_check.proofs.tracked.Allocations.note.Goals as goal

pub returns-in_ok-unordered-in-Some-clause-below : goal.returns-in_ok-unordered-in-Some-clause-below
returns-in_ok-unordered-in-Some-clause-below c = λ none.
    let found : Some c.in-Some.tracked.now ≡ tracked_at c.args.self.now c.args.number.0 = c.in-Some.ensures.value in
    subst (λ (o : Option Tracked). IsClear c.args.request.now c.args.access.kind c.args.clock.now o) found (c.in_ok-unordered-in-Some.ensures.below none)
