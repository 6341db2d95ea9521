-- What every dated tree keeps.
use Rattle.std.specs.Prelude.{◌≡◌, ℕ, ◌<◌, ◌≤◌, ◌⊎◌, Some, All, length, IsTrue}
use Rattle.std.specs.List.{Contains}
use Rattle.std.specs.List.Sorted.{IsStrictlyIncreasing}
use Rattle.perm_table.specs.declared.Guard.TheVariants.{Free}
use Rattle.dated_tree.specs.Shape.{Shape, node_at, slot_at}
use Rattle.perm_table.specs.Table.{is_protected}
use Rattle.dated_tree.specs.Dates.{last, seen, IsAsMet}
use Rattle.dated_tree.specs.Eager.{tag_at}
use Rattle.dated_tree.specs.Access.{IsFresh}

-- of a byte of the tree: the last write is no later than the last access, which is no later than now
pub record KeepsLast (t : Shape) (b : ℕ) : Type 0 where
  pub write : (last t b).write ≤ (last t b).access
  pub access : (last t b).access ≤ t.clock

-- of a stored node: its parent is before it, and no date that it notes is later than now
pub record KeepsNode (t : Shape) (place : ℕ) : Type 0 where
  pub parent : (node_at t.nodes place).parent < place
  pub sized : length (node_at t.nodes place).runs.bytes ≡ t.size
  pub ends : All (λ end. end ≤ t.clock) (node_at t.nodes place).ends

-- of a stored node at a byte: what it met is no later than now, and where a guard stands, what is put off leaves the state as it is
pub record KeepsSlot (t : Shape) (place b : ℕ) : Type 0 where
  pub access : (slot_at t.nodes place b).met.access ≤ t.clock
  pub write : (slot_at t.nodes place b).met.write ≤ t.clock
  pub guard : ((node_at t.nodes place).guard ≡ Free) ⊎ IsAsMet (seen t place b) (slot_at t.nodes place b)

-- the listed places rise, and are those of the nodes with a guard
pub record KeepsGuarded (t : Shape) : Type 0 where
  pub rising : IsStrictlyIncreasing t.guarded
  pub sound : All (λ place. (1 ≤ place) × (place ≤ length t.nodes) × IsTrue (is_protected (node_at t.nodes place).guard)) t.guarded
  pub whole : (place : ℕ) → 1 ≤ place → place ≤ length t.nodes → IsTrue (is_protected (node_at t.nodes place).guard) → Contains t.guarded place

pub record IsSound (t : Shape) : Type 0 where
  pub some : 1 ≤ t.size
  pub accesses : length t.accesses.bytes ≡ t.size
  pub writes : length t.writes.bytes ≡ t.size
  pub last : (b : ℕ) → b < t.size → KeepsLast t b
  pub rising : (i j : ℕ) → i < j → j ≤ length t.nodes → (tag_at t i).0 < (tag_at t j).0
  pub nodes : (place : ℕ) → 1 ≤ place → place ≤ length t.nodes → KeepsNode t place
  pub slots : (place b : ℕ) → 1 ≤ place → place ≤ length t.nodes → b < t.size → KeepsSlot t place b
  pub guarded : KeepsGuarded t
  pub actor : (x : ℕ) → x ≤ length t.nodes → t.actor ≡ Some (tag_at t x) → IsFresh t x t.clock
