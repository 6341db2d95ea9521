use Rattle.std.proofs.Common.{List, subst, arith}
use Rattle.race_check.specs.declared.uses.LastUses.{LastUses}
use Rattle.race_check.specs.Uses.{AllBelow}
use Rattle.race_check.proofs.Rows.{rows_kept, range_left, range_below}
use Rattle.race_check.proofs.tracked.Rows.note_range.Goals as goal

pub returns-then-freed-clause-left : goal.returns-then-freed-clause-left
returns-then-freed-clause-left c = range_left c.args.request.now c.args.access (record { bytes = c.note_bytes.new.bytes; whole = c.note_use.new.row; freed = c.args.self.now.freed }) c.requires
    (λ b low high. c.in_ok-used.ensures.noted b (omega (arith, low)) (omega (arith, high))) c.in_ok-note_use.ensures.noted

pub returns-else-freed-clause-left : goal.returns-else-freed-clause-left
returns-else-freed-clause-left c = range_left c.args.request.now c.args.access (record { bytes = c.note_bytes.new.bytes; whole = c.note_use.new.row; freed = c.args.self.now.freed }) c.requires
    (λ b low high. c.in_ok-used.ensures.noted b (omega (arith, low)) (omega (arith, high))) c.in_ok-note_use.ensures.noted

pub returns-then-freed-clause-kept : goal.returns-then-freed-clause-kept
returns-then-freed-clause-kept c =
    rows_kept c.args.self.now (record { bytes = c.note_bytes.new.bytes; whole = c.note_use.new.row; freed = c.args.self.now.freed })
    c.in_ok-used.ensures.kept c.in_ok-note_use.ensures.kept (λ other h. h)

pub returns-else-freed-clause-kept : goal.returns-else-freed-clause-kept
returns-else-freed-clause-kept c =
    rows_kept c.args.self.now (record { bytes = c.note_bytes.new.bytes; whole = c.note_use.new.row; freed = c.args.self.now.freed })
    c.in_ok-used.ensures.kept c.in_ok-note_use.ensures.kept (λ other h. h)

pub returns-else-freed-clause-below : goal.returns-else-freed-clause-below
returns-else-freed-clause-below c = λ no. range_below c.args.request.now c.args.access.kind c.args.clock.now c.args.self.now c.requires
    (λ b low high. c.in_ok-used.ensures.below no b (omega (arith, low)) (omega (arith, high)))
    (subst (λ (row : List LastUses). AllBelow c.args.access.kind c.args.clock.now row) c.deref.ensures.value (c.is_unordered-freed.ensures c.if-freed.false))
