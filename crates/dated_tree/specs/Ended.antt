-- A protector's end: the nodes below its node don't see the date.
use Rattle.std.specs.Prelude.{◌≡◌, ℕ, ◌<◌, ◌≤◌, ◌⊎◌, Bool, true, false, List, [], ◌∷◌, ◌++◌, IsFalse}
use Rattle.perm_table.specs.declared.Kind.{Kind}
use Rattle.perm_table.specs.declared.Kind.TheVariants.{Write}
use Rattle.dated_tree.specs.declared.node.Node.{Node}
use Rattle.dated_tree.specs.Shape.{Shape, node_at, slot_at}
use Rattle.dated_tree.specs.Dates.{last, is_noted, seen, dated}

-- a test for the places of the node x and of the nodes below it
pub record IsTestOf (x : ℕ) (nodes : List Node) (is_in : ℕ → Bool) : Type 0 where
  pub root : is_in 0 ≡ false
  pub above : is_in (node_at nodes x).parent ≡ false
  pub here : is_in x ≡ true
  pub others : (place : ℕ) → 1 ≤ place → (place ≡ x → ⊥) → is_in place ≡ is_in (node_at nodes place).parent

-- The byte of one tree has the dates of the other one after an access at a date that was noted at the node
-- x, which keeps what it saw before. The nodes below x are as they were.
pub record IsEndedAt (b : ℕ) (kind : Kind) (date x : ℕ) (is_in : ℕ → Bool) (t u : Shape) : Type 0 where
  pub last : last u b ≡ dated kind date (last t b)
  pub some : 1 ≤ x
  pub before : (place : ℕ) → 1 ≤ place → (node_at t.nodes place).parent < place
  pub parents : (place : ℕ) → (node_at u.nodes place).parent ≡ (node_at t.nodes place).parent
  pub fresh : (place : ℕ) → IsFalse (is_noted (node_at t.nodes place).ends date)
  pub noted : (node_at u.nodes x).ends ≡ (node_at t.nodes x).ends ++ date ∷ []
  pub kept : (slot_at u.nodes x b).met ≡ seen t x b
  pub ends : (place : ℕ) → 1 ≤ place → (place ≡ x → ⊥) → (node_at u.nodes place).ends ≡ (node_at t.nodes place).ends
  pub below : (place : ℕ) → (place ≡ x → ⊥) → is_in place ≡ true → (slot_at u.nodes place b).met ≡ (slot_at t.nodes place b).met
  pub writes : (place : ℕ) → 1 ≤ place → is_in place ≡ false → (kind ≡ Write) ⊎ (((node_at t.nodes place).ends ≡ []) ⊎ ((slot_at u.nodes place b).met.write ≡ (slot_at t.nodes place b).met.write))
