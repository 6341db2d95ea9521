-- The last uses of bytes, by thread and kind.
use Rattle.std.specs.Prelude.{◌≡◌, ℕ, ◌+◌, ◌≤◌, Bool, true, false, List, [], Option, Some, None, Vec, Contains, slice_index, if◌then◌else◌}
use Rattle.history.specs.declared.entry.Entry.{Entry}
use Rattle.history.specs.declared.entry.Request.{Request}
use Rattle.history.specs.Merge.{stamp_of}
use Rattle.race_check.specs.declared.uses.Kind.{Kind}
use Rattle.race_check.specs.declared.uses.Kind.TheVariants.{Read, Write, Atomic}
use Rattle.race_check.specs.declared.uses.Access.{Access}
use Rattle.race_check.specs.declared.uses.LastUses.{LastUses}
use Rattle.race_check.specs.Accesses.{is_atomic, writes}

-- how a request that reads or writes uses its bytes
abbrev pub kind_of : Request → Kind
kind_of request = if is_atomic request then Atomic else (if writes request then Write else Read)

-- one of the two writes, and not both are atomic
abbrev pub clash : Kind → Kind → Bool
clash Read Read = false
clash Atomic Atomic = false
clash a b = true

abbrev pub access_of : Entry → ℕ → ℕ → Access
access_of entry place slot = record { place = place; slot = slot; kind = kind_of entry.request; mark = stamp_of entry + 1 }

-- the mark of the last use of a kind: one more than its stamp, or 0
abbrev pub mark_of : LastUses → Kind → ℕ
mark_of last Read = last.read
mark_of last Write = last.write
mark_of last Atomic = last.atomic

-- the thread of the access has no earlier last use of its kind
pub record Tells (access : Access) (last : LastUses) : Type 0 where
  pub slot : last.slot ≡ access.slot
  pub mark : access.mark ≤ mark_of last access.kind

abbrev pub HasUse : List LastUses → Access → Type 0
HasUse row access = (last : LastUses) × Contains row last × Tells access last

-- by the clock of an entry, each last use that clashes with the entry's kind goes before it
abbrev pub IsBelow : Kind → List ℕ → LastUses → Type 0
IsBelow kind clock last = (k : Kind) → clash k kind ≡ true → mark_of last k ≤ slice_index clock last.slot

-- each access that a row tells of and that clashes with the kind goes before the entry of the clock
abbrev pub AllBelow : Kind → List ℕ → List LastUses → Type 0
AllBelow kind clock row = (access : Access) → HasUse row access → clash access.kind kind ≡ true → access.mark ≤ slice_index clock access.slot

abbrev pub row_of : {A : Type 0} → Option (Vec LastUses A) → List LastUses
row_of None = []
row_of (Some row) = row.items
