-- An access at all bytes and nodes: what it leaves of a dated tree, and when it is denied.
use Rattle.std.specs.Prelude.{◌≡◌, ℕ, ◌<◌, ◌≤◌, ◌⊎◌, Bool, Option, Some, length, IsTrue, IsFalse}
use Rattle.perm_table.specs.declared.Kind.{Kind}
use Rattle.dated_tree.specs.declared.node.Node.{Node}
use Rattle.dated_tree.specs.Shape.{Shape, node_at, slot_at}
use Rattle.dated_tree.specs.Dates.{last, is_noted, seen, IsBefore}
use Rattle.dated_tree.specs.Eager.{cell_of, tag_at}
use Rattle.dated_tree.specs.Path.{is_on_path}
use Rattle.dated_tree.specs.Meet.{dated_by, is_refused, IsSlotAfter}

-- what a step leaves of a node besides its runs
pub record HasSameLinks (was is : Node) : Type 0 where
  pub tag : is.tag ≡ was.tag
  pub parent : is.parent ≡ was.parent
  pub guard : is.guard ≡ was.guard
  pub ends : is.ends ≡ was.ends

-- No node has met the date, or a later one, but those of the path of x, and none has noted it.
pub record IsFresh (t : Shape) (x date : ℕ) : Type 0 where
  pub now : t.clock ≤ date
  pub ends : (place : ℕ) → IsFalse (is_noted (node_at t.nodes place).ends date)
  pub met : (place b : ℕ) → 1 ≤ place → place ≤ length t.nodes → b < t.size → IsFalse (is_on_path t.nodes x place) → IsBefore (slot_at t.nodes place b).met date

-- The one tree after an access of the other one through the node x at a date, of some kind at each byte or of none.
pub record IsAccessed (x : ℕ) (kinds : ℕ → Option Kind) (date : ℕ) (t u : Shape) : Type 0 where
  pub root : u.root ≡ t.root
  pub size : u.size ≡ t.size
  pub now : u.clock ≡ date
  pub actor : u.actor ≡ Some (tag_at t x)
  pub guarded : u.guarded ≡ t.guarded
  pub count : length u.nodes ≡ length t.nodes
  pub links : (place : ℕ) → HasSameLinks (node_at t.nodes place) (node_at u.nodes place)
  pub sized : (place : ℕ) → length (node_at u.nodes place).runs.bytes ≡ length (node_at t.nodes place).runs.bytes
  pub accesses : length u.accesses.bytes ≡ length t.accesses.bytes
  pub writes : length u.writes.bytes ≡ length t.writes.bytes
  pub last : (b : ℕ) → b < t.size → last u b ≡ dated_by (kinds b) date (last t b)
  pub slots : (place b : ℕ) → 1 ≤ place → place ≤ length t.nodes → b < t.size →
      IsSlotAfter (kinds b) (is_on_path t.nodes x place) (node_at t.nodes place).guard (node_at t.nodes place).ends date (seen t place b) (slot_at t.nodes place b) (slot_at u.nodes place b)

-- whether the node at a place denies the access at a byte
abbrev pub denies : Shape → ℕ → (ℕ → Option Kind) → ℕ → ℕ → Bool
denies t x kinds place b = is_refused (kinds b) (is_on_path t.nodes x place) (node_at t.nodes place).guard (cell_of t place b)

abbrev pub NoDenial : Shape → ℕ → (ℕ → Option Kind) → Type 0
NoDenial t x kinds =
    (place b : ℕ) → 1 ≤ place → place ≤ length t.nodes → b < t.size → IsFalse (denies t x kinds place b)

-- of all denials the one of the least byte, and there of the least place
pub record IsFirstDenial (t : Shape) (x : ℕ) (kinds : ℕ → Option Kind) (place b : ℕ) : Type 0 where
  pub some : 1 ≤ place
  pub stored : place ≤ length t.nodes
  pub within : b < t.size
  pub denied : IsTrue (denies t x kinds place b)
  pub least : (i c : ℕ) → 1 ≤ i → i ≤ length t.nodes → c < t.size → IsTrue (denies t x kinds i c) → (b < c) ⊎ ((b ≡ c) × (place ≤ i))
