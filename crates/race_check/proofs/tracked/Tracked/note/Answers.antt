use Rattle.race_check.proofs.tracked.Tracked.note.Goals as goal

pub returns-clause-below : goal.returns-clause-below
returns-clause-below c = λ none fresh. c.in_ok-unordered.ensures.below none
