-- The end of a protector: the accesses that it makes, and what they leave of a dated tree.
use Rattle.std.specs.Prelude.{◌≡◌, ℕ, ◌+◌, ◌==◌, ◌<◌, ◌≤◌, ◌⊎◌, ◌||◌, not, Bool, Option, Some, None, List, [], ◌∷◌, ◌++◌, length, IsTrue, IsFalse}
use Rattle.perm_table.specs.declared.Kind.{Kind}
use Rattle.eager_tree.specs.Steps.{implicit_kind}
use Rattle.table_laws.specs.Foreign.{after_one}
use Rattle.dated_tree.specs.declared.node.Dates.{Dates}
use Rattle.dated_tree.specs.declared.node.Slot.{Slot}
use Rattle.dated_tree.specs.declared.node.Node.{Node}
use Rattle.dated_tree.specs.Shape.{Shape, node_at, slot_at}
use Rattle.dated_tree.specs.Dates.{last, seen, put_off}
use Rattle.dated_tree.specs.Eager.{cell_of}
use Rattle.dated_tree.specs.Path.{is_on_path}
use Rattle.dated_tree.specs.Meet.{dated_by, IsSlotAfter}
use Rattle.dated_tree.specs.Access.{denies}

-- the access that the end of the protector of x makes at a byte
abbrev pub end_kind : Shape → ℕ → ℕ → Option Kind
end_kind t x b = implicit_kind (cell_of t x b)

-- all nodes meet it but those below x
abbrev pub meets_end : List Node → ℕ → ℕ → Bool
meets_end nodes x place = x == place || not (is_on_path nodes place x)

abbrev pub HasNoChild : Shape → ℕ → Type 0
HasNoChild t x = (place : ℕ) → 1 ≤ place → place ≤ length t.nodes → (node_at t.nodes place).parent ≡ x → ⊥

abbrev pub NoDenialAtEnd : Shape → ℕ → Type 0
NoDenialAtEnd t x =
    (place b : ℕ) → 1 ≤ place → place ≤ length t.nodes → b < t.size → IsTrue (meets_end t.nodes x place) → IsFalse (denies t x (end_kind t x) place b)

-- of all denials of nodes that meet it the one of the least byte, and there of the least place
pub record IsFirstDenialAtEnd (t : Shape) (x place b : ℕ) : Type 0 where
  pub some : 1 ≤ place
  pub stored : place ≤ length t.nodes
  pub within : b < t.size
  pub meets : IsTrue (meets_end t.nodes x place)
  pub denied : IsTrue (denies t x (end_kind t x) place b)
  pub least : (i c : ℕ) → 1 ≤ i → i ≤ length t.nodes → c < t.size → IsTrue (meets_end t.nodes x i) → IsTrue (denies t x (end_kind t x) i c) → (b < c) ⊎ ((b ≡ c) × (place ≤ i))

-- x keeps its state and what it saw, where the end makes an access
abbrev pub kept_at_end : Option Kind → Dates → Slot → Slot
kept_at_end None above slot = slot
kept_at_end (Some kind) above slot = record { perm = after_one (put_off slot.met above) slot.perm; accessed = slot.accessed; met = above }

-- The one tree after the accesses of the end of the protector of x, whose date is noted at x: nothing is done
-- at the nodes below it.
pub record IsNoted (x : ℕ) (t u : Shape) : Type 0 where
  pub root : u.root ≡ t.root
  pub size : u.size ≡ t.size
  pub now : u.clock ≡ t.clock + 1
  pub actor : u.actor ≡ None
  pub guarded : u.guarded ≡ t.guarded
  pub count : length u.nodes ≡ length t.nodes
  pub tags : (place : ℕ) → (node_at u.nodes place).tag ≡ (node_at t.nodes place).tag
  pub parents : (place : ℕ) → (node_at u.nodes place).parent ≡ (node_at t.nodes place).parent
  pub guards : (place : ℕ) → (node_at u.nodes place).guard ≡ (node_at t.nodes place).guard
  pub noted : (node_at u.nodes x).ends ≡ (node_at t.nodes x).ends ++ (t.clock + 1) ∷ []
  pub ends : (place : ℕ) → 1 ≤ place → (place ≡ x → ⊥) → (node_at u.nodes place).ends ≡ (node_at t.nodes place).ends
  pub sized : (place : ℕ) → length (node_at u.nodes place).runs.bytes ≡ length (node_at t.nodes place).runs.bytes
  pub accesses : length u.accesses.bytes ≡ length t.accesses.bytes
  pub writes : length u.writes.bytes ≡ length t.writes.bytes
  pub last : (b : ℕ) → b < t.size → last u b ≡ dated_by (end_kind t x b) (t.clock + 1) (last t b)
  pub kept : (b : ℕ) → b < t.size → slot_at u.nodes x b ≡ kept_at_end (end_kind t x b) (seen t x b) (slot_at t.nodes x b)
  pub below : (place b : ℕ) → 1 ≤ place → place ≤ length t.nodes → b < t.size → IsFalse (meets_end t.nodes x place) → slot_at u.nodes place b ≡ slot_at t.nodes place b
  pub others : (place b : ℕ) → 1 ≤ place → place ≤ length t.nodes → b < t.size → IsFalse (is_on_path t.nodes place x) →
      IsSlotAfter (end_kind t x b) (is_on_path t.nodes x place) (node_at t.nodes place).guard (node_at t.nodes place).ends (t.clock + 1) (seen t place b) (slot_at t.nodes place b) (slot_at u.nodes place b)
