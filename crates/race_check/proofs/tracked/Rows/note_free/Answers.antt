use Rattle.std.proofs.Common.{List, subst}
use Rattle.race_check.specs.declared.uses.LastUses.{LastUses}
use Rattle.race_check.specs.Uses.{AllBelow}
use Rattle.race_check.proofs.Rows.{rows_kept, free_below}
use Rattle.race_check.proofs.tracked.Rows.note_free.Goals as goal

pub returns-clause-below : goal.returns-clause-below
returns-clause-below c = λ no. free_below c.args.request.now c.args.access.kind c.args.clock.now c.args.self.now c.requires
    (subst (λ (row : List LastUses). AllBelow c.args.access.kind c.args.clock.now row) c.deref.ensures.value (c.is_unordered-unordered.ensures no))

pub returns-clause-kept : goal.returns-clause-kept
returns-clause-kept c =
    rows_kept c.args.self.now (record { bytes = c.args.self.now.bytes; whole = c.note_use.new.row; freed = c.note_use-2.new.row })
    (λ b other h. h) c.in_ok-note_use.ensures.kept c.in_ok-note_use-2.ensures.kept
