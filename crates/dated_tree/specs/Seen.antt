-- A byte gets a new date: which nodes see it.
use Rattle.std.specs.Prelude.{◌≡◌, ℕ, ◌⊎◌, [], IsFalse}
use Rattle.perm_table.specs.declared.Kind.{Kind}
use Rattle.perm_table.specs.declared.Kind.TheVariants.{Write}
use Rattle.dated_tree.specs.Shape.{Shape, node_at, slot_at}
use Rattle.dated_tree.specs.Dates.{last, is_noted, dated}

-- The byte of one tree has the dates of the other one after an access at a date that no node notes. A
-- node with noted dates keeps the write that it met, but for a write.
pub record IsDatedAt (b : ℕ) (kind : Kind) (date : ℕ) (t u : Shape) : Type 0 where
  pub last : last u b ≡ dated kind date (last t b)
  pub parents : (place : ℕ) → (node_at u.nodes place).parent ≡ (node_at t.nodes place).parent
  pub ends : (place : ℕ) → (node_at u.nodes place).ends ≡ (node_at t.nodes place).ends
  pub fresh : (place : ℕ) → IsFalse (is_noted (node_at t.nodes place).ends date)
  pub writes : (place : ℕ) → (kind ≡ Write) ⊎ (((node_at t.nodes place).ends ≡ []) ⊎ ((slot_at u.nodes place b).met.write ≡ (slot_at t.nodes place b).met.write))
