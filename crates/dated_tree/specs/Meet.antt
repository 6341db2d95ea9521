-- What one node keeps of a byte after an access.
use Rattle.std.specs.Prelude.{◌≡◌, ℕ, ◌⊎◌, Bool, true, false, Option, Some, None, List, [], ◌∷◌}
use Rattle.perm_table.specs.declared.Perm.{Perm}
use Rattle.perm_table.specs.declared.Perm.TheVariants.{Unique}
use Rattle.perm_table.specs.declared.Kind.{Kind}
use Rattle.perm_table.specs.declared.Kind.TheVariants.{Read, Write}
use Rattle.perm_table.specs.declared.Guard.{Guard}
use Rattle.perm_table.specs.declared.Guard.TheVariants.{Free, Weak, Strong}
use Rattle.perm_table.specs.declared.Outcome.{Outcome}
use Rattle.perm_table.specs.declared.Outcome.TheVariants.{Next, Denied}
use Rattle.perm_table.specs.Table.{outcome}
use Rattle.eager_tree.specs.declared.node.Cell.{Cell}
use Rattle.eager_tree.specs.Visit.{next_cell}
use Rattle.dated_tree.specs.declared.node.Dates.{Dates}
use Rattle.dated_tree.specs.declared.node.Slot.{Slot}
use Rattle.dated_tree.specs.Dates.{dated}
use Rattle.dated_tree.specs.Eager.{eager_cell}

abbrev pub is_denied : Outcome → Bool
is_denied (Next perm accessed) = false
is_denied Denied = true

-- whether a cell denies the access, if there is one
abbrev pub is_refused : Option Kind → Bool → Guard → Cell → Bool
is_refused None local guard cell = false
is_refused (Some kind) local guard cell = is_denied (outcome cell.perm cell.accessed guard local kind)

-- the dates of a byte after an access, if there is one
abbrev pub dated_by : Option Kind → ℕ → Dates → Dates
dated_by None date seen = seen
dated_by (Some kind) date seen = dated kind date seen

abbrev pub is_unique : Perm → Bool
is_unique Unique = true
is_unique _ = false

abbrev pub kept_cell : Slot → Cell
kept_cell slot = record { perm = slot.perm; accessed = slot.accessed }

-- What a node has met after a local access. By a read a node with noted dates keeps the write that it met, since the
-- nodes below it see that one in place of a noted date.
abbrev pub met_after : Kind → List ℕ → ℕ → Dates → Dates
met_after Write ends date met = record { access = date; write = date }
met_after Read [] date met = record { access = date; write = date }
met_after Read (end ∷ ends) date met = record { access = date; write = met.write }

-- A node on the path meets the access: it keeps the cell that the table gives, with the date. A slot that a read leaves
-- as it is, but for Unique, needs no later dates.
pub record IsLocalSlot (kind : Kind) (guard : Guard) (ends : List ℕ) (date : ℕ) (seen : Dates) (slot next : Slot) : Type 0 where
  pub cell : kept_cell next ≡ next_cell (Some kind) true guard (eager_cell seen slot)
  pub met : (next.met ≡ met_after kind ends date slot.met) ⊎ ((kind ≡ Read) × (is_unique slot.perm ≡ false) × (next ≡ slot))

-- A guarded node off the path meets it at once, and keeps its dates.
pub record IsForeignSlot (kind : Kind) (guard : Guard) (slot next : Slot) : Type 0 where
  pub cell : kept_cell next ≡ next_cell (Some kind) false guard (kept_cell slot)
  pub met : next.met ≡ slot.met

-- what an access makes of a node's slot; without a guard a foreign one is put off
abbrev pub IsSlotAfter : Option Kind → Bool → Guard → List ℕ → ℕ → Dates → Slot → Slot → Type 0
IsSlotAfter None local guard ends date seen slot next = next ≡ slot
IsSlotAfter (Some kind) true guard ends date seen slot next = IsLocalSlot kind guard ends date seen slot next
IsSlotAfter (Some kind) false Free ends date seen slot next = next ≡ slot
IsSlotAfter (Some kind) false Weak ends date seen slot next = IsForeignSlot kind Weak slot next
IsSlotAfter (Some kind) false Strong ends date seen slot next = IsForeignSlot kind Strong slot next
