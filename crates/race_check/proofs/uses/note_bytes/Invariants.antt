use Rattle.std.proofs.Common.{ℕ, ◌≡◌, ◌<◌, ◌≤◌, false}
use Rattle.std.specs.BTreeMap.{get}
use Rattle.std.specs.Ordering.{nat_cmp}
use Rattle.race_check.specs.declared.uses.Access.{Access}
use Rattle.race_check.specs.Uses.{HasUse, AllBelow, row_of}
use Rattle.race_check.proofs.uses.note_bytes.Given as goal

abbrev pub invariant-loop-byte : goal.invariant-loop-byte
invariant-loop-byte l = record {
  below : l.unordered ≡ false → (b : ℕ) → l.start ≤ b → b < l.byte → AllBelow l.access.kind l.clock (row_of (get nat_cmp l.initial.bytes b));
  noted : (b : ℕ) → l.start ≤ b → b < l.byte → HasUse (row_of (get nat_cmp l.bytes b)) l.access;
  kept : (b : ℕ) (other : Access) → HasUse (row_of (get nat_cmp l.initial.bytes b)) other → HasUse (row_of (get nat_cmp l.bytes b)) other;
}
