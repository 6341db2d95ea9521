use Rattle.std.proofs.Common.{◌≡◌, ℕ, Some, None, Option, Vec, Global, sym, subst, rules}
use Rattle.std.specs.BTreeMap.{BTreeMap, Updates, get}
use Rattle.std.specs.Ordering.{nat_cmp}
use Rattle.race_check.specs.declared.uses.LastUses.{LastUses}
use Rattle.race_check.specs.Uses.{HasUse, row_of}
use Rattle.race_check.proofs.Rows.{kept_at, kept_beside}
use Rattle.race_check.proofs.uses.note_byte.Goals as goal

pub returns-in_ok-note_use-in-Some-clause-kept : goal.returns-in_ok-note_use-in-Some-clause-kept
returns-in_ok-note_use-in-Some-clause-kept c =
    kept_at c.args.bytes.now (c.get_mut.follows.lender c.note_use.new.row) c.args.byte c.note_use.new.row ((c.get_mut.follows.holds c.note_use.new.row).3 (search rules))
    (λ other h. c.in_ok-note_use-in-Some.ensures.kept other
    (let found : Some c.in-Some.row.now ≡ get nat_cmp c.args.bytes.now c.args.byte = c.in-Some.ensures.value in
    subst (λ (o : Option (Vec LastUses Global)). HasUse (row_of o) other) (sym found) h))

pub returns-in_ok-insert-in-None-clause-kept : goal.returns-in_ok-insert-in-None-clause-kept
returns-in_ok-insert-in-None-clause-kept c =
    let missing : None ≡ get nat_cmp c.args.bytes.now c.args.byte = c.in-None.ensures.value in
    kept_beside c.args.bytes.now c.insert.new.self c.args.byte c.note_use-in-None.new.row
    (subst (λ (m : BTreeMap ℕ (Vec LastUses Global)). Updates nat_cmp m c.insert.new.self c.args.byte (Some c.note_use-in-None.new.row)) c.get_mut.follows.holds-at-none c.in_ok-insert-in-None.ensures.updates)
    (sym missing)
