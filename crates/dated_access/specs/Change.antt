-- What a step has made of some nodes on a span.
use Rattle.std.specs.Prelude.{◌≡◌, ℕ, ◌+◌, ◌<◌, ◌≤◌, ◌⊎◌, List, length, IsTrue, IsFalse}
use Rattle.std.specs.List.{Contains}
use Rattle.bsan_ids.specs.declared.numbers.Span.{Span}
use Rattle.perm_table.specs.declared.Kind.{Kind}
use Rattle.perm_table.specs.Table.{is_protected}
use Rattle.dated_tree.specs.declared.node.Slot.{Slot}
use Rattle.dated_tree.specs.Shape.{Shape, node_at, slot_at}
use Rattle.dated_tree.specs.Dates.{last, seen}
use Rattle.dated_tree.specs.Meet.{IsLocalSlot, IsForeignSlot}
use Rattle.dated_tree.specs.Path.{is_on_path}
use Rattle.dated_tree.specs.Access.{HasSameLinks}
use Rattle.dated_access.specs.Path.{entry}
use Rattle.dated_access.specs.Others.{IsRising}

-- what a slot at a place and a byte has to be after a local access at the date now
abbrev pub AfterLocal : Shape → Kind → ℕ → ℕ → Slot → Type 0
AfterLocal t kind place b next =
    IsLocalSlot kind (node_at t.nodes place).guard (node_at t.nodes place).ends t.clock (seen t place b) (slot_at t.nodes place b) next

-- and after a foreign one that is met at once
abbrev pub AfterForeign : Shape → Kind → ℕ → ℕ → Slot → Type 0
AfterForeign t kind place b next = IsForeignSlot kind (node_at t.nodes place).guard (slot_at t.nodes place b) next

-- The first n of some places have new slots on the span; nothing else has changed.
pub record HasChanged (After : ℕ → ℕ → Slot → Type 0) (t u : Shape) (places : List ℕ) (n : ℕ) (span : Span) : Type 0 where
  pub count : length u.nodes ≡ length t.nodes
  pub links : (place : ℕ) → HasSameLinks (node_at t.nodes place) (node_at u.nodes place)
  pub sized : (place : ℕ) → length (node_at u.nodes place).runs.bytes ≡ length (node_at t.nodes place).runs.bytes
  pub spare : (place : ℕ) → (node_at t.nodes place).runs.spare ≤ (node_at u.nodes place).runs.spare + 2
  pub met : (k b : ℕ) → k < n → span.start ≤ b → b < span.start + span.len → After (entry places k) b (slot_at u.nodes (entry places k) b)
  pub outside : (place b : ℕ) → 1 ≤ place → place ≤ length t.nodes → b < t.size → (b < span.start) ⊎ (span.start + span.len ≤ b) → slot_at u.nodes place b ≡ slot_at t.nodes place b
  pub rest : (place : ℕ) → 1 ≤ place → ((k : ℕ) → k < n → entry places k ≡ place → ⊥) → node_at u.nodes place ≡ node_at t.nodes place

-- some places of stored nodes, each once
pub record AreDistinct (t : Shape) (places : List ℕ) : Type 0 where
  pub some : (k : ℕ) → k < length places → 1 ≤ entry places k
  pub stored : (k : ℕ) → k < length places → entry places k ≤ length t.nodes
  pub once : (j k : ℕ) → j < k → k < length places → entry places j ≡ entry places k → ⊥

-- each of these nodes has one slot on the span, and room to give it another one
pub record AreUniform (t : Shape) (places : List ℕ) (span : Span) : Type 0 where
  pub slots : (k b : ℕ) → k < length places → span.start ≤ b → b < span.start + span.len → slot_at t.nodes (entry places k) b ≡ slot_at t.nodes (entry places k) span.start
  pub room : (k : ℕ) → k < length places → 2 ≤ (node_at t.nodes (entry places k)).runs.spare

-- the bytes of the span have the same dates
abbrev pub IsDatedAlike : Shape → Span → Type 0
IsDatedAlike t span = (b : ℕ) → span.start ≤ b → b < span.start + span.len → last t b ≡ last t span.start

-- the guarded nodes off the path of x, by rising places
pub record AreOthers (t : Shape) (x : ℕ) (others : List ℕ) : Type 0 where
  pub distinct : AreDistinct t others
  pub rising : IsRising others
  pub off : (k : ℕ) → k < length others → IsFalse (is_on_path t.nodes x (entry others k))
  pub guarded : (k : ℕ) → k < length others → IsTrue (is_protected (node_at t.nodes (entry others k)).guard)
  pub whole : (place : ℕ) → 1 ≤ place → place ≤ length t.nodes → IsFalse (is_on_path t.nodes x place) → IsTrue (is_protected (node_at t.nodes place).guard) → Contains others place
