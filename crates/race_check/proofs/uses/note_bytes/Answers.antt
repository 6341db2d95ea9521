use Rattle.std.proofs.Common.{◌≡◌, ℕ, ◌<◌, ◌≤◌, false, true, sym, subst, ◌∙◌, arith, inl, inr}
use Rattle.std.specs.Prelude.{◌⊎◌}
use Rattle.std.specs.BTreeMap.{get}
use Rattle.std.specs.Ordering.{nat_cmp}
use Rattle.race_check.specs.Uses.{HasUse, AllBelow, row_of}
use Rattle.race_check.proofs.Places.{lt_or_eq}
use Rattle.race_check.proofs.uses.note_bytes.Goals as goal
use Rattle.race_check.proofs.uses.note_bytes.Goals.{then-branch, else-branch}

pub loop-byte-preserved : goal.loop-byte-preserved
loop-byte-preserved c = record {
  below = λ no b low high. elim c.if-branch.branch [
    | then-branch w ↦ let h : true ≡ false = sym w.unordered-is ∙ no in absurd cc
    | else-branch w ↦ below (sym w.unordered-is ∙ no) w.if-branch.false b low (lt_or_eq b c.loop-byte.byte (omega (arith, high)))
  ];
  noted = λ b low high. noted b low (lt_or_eq b c.loop-byte.byte (omega (arith, high)));
  kept = λ b other h. c.in_ok-note_byte.ensures.kept b other (c.loop-byte.invariant.kept b other h);
}
  where
    below : c.loop-byte.unordered ≡ false → c.in_ok-note_byte.field-0 ≡ false → (b : ℕ) → c.args.start ≤ b → (b < c.loop-byte.byte) ⊎ (b ≡ c.loop-byte.byte)
        → AllBelow c.args.access.kind c.args.clock.now (row_of (get nat_cmp c.args.bytes.now b))
    below none here b low (inl lt) = c.loop-byte.invariant.below none b low lt
    below none here b low (inr same) = λ access told clashes.
        c.in_ok-note_byte.ensures.below here access
        (c.loop-byte.invariant.kept c.loop-byte.byte access (subst (λ (k : ℕ). HasUse (row_of (get nat_cmp c.args.bytes.now k)) access) same told)) clashes

    noted : (b : ℕ) → c.args.start ≤ b → (b < c.loop-byte.byte) ⊎ (b ≡ c.loop-byte.byte) → HasUse (row_of (get nat_cmp c.note_byte.new.bytes b)) c.args.access
    noted b low (inl lt) = c.in_ok-note_byte.ensures.kept b c.args.access (c.loop-byte.invariant.noted b low lt)
    noted b low (inr same) = subst (λ (k : ℕ). HasUse (row_of (get nat_cmp c.note_byte.new.bytes k)) c.args.access) (sym same) c.in_ok-note_byte.ensures.noted

pub returns-clause-below : goal.returns-clause-below
returns-clause-below c = λ no b low high. c.loop-byte.invariant.below no b low (omega (arith, high))

pub returns-clause-noted : goal.returns-clause-noted
returns-clause-noted c = λ b low high. c.loop-byte.invariant.noted b low (omega (arith, high))
