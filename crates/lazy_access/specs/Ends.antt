-- The end of a node's protector.
use Rattle.std.specs.Prelude.{ℕ, ◌-◌, ◌*◌, ◌<◌, ◌≤◌, ◌≡◌, ◌⊎◌, ◌==◌, ◌||◌, false, List, length, Option, Some, IsTrue, IsFalse, MatchOption}
use Rattle.perm_table.specs.declared.Kind.{Kind}
use Rattle.range_map.specs.Ranges.{has_start}
use Rattle.eager_tree.specs.Visit.{next_cell}
use Rattle.eager_tree.specs.Steps.{implicit_kind}
use Rattle.lazy_tree.specs.declared.tree.Node.{Node}
use Rattle.lazy_tree.specs.Ring.{count}
use Rattle.lazy_tree.specs.Skip.{node_at, slot_at, need, rank, SameLinks}
use Rattle.lazy_tree.specs.Eager.{eager_cell}
use Rattle.lazy_access.specs.declared.check.Found.{Found}
use Rattle.lazy_access.specs.Walk.{IsReached, denies}
use Rattle.lazy_access.specs.Requests.{local_in}

-- the access that the end of the protector of node x makes at a byte
abbrev pub end_kind : List Node → ℕ → ℕ → Option Kind
end_kind nodes x b = implicit_kind (eager_cell (slot_at nodes x b))

-- node i denies that access
pub record DeniesEnd (nodes : List Node) (x i b : ℕ) : Type 0 where
  pub within : i < length nodes
  pub reached : IsReached nodes x false i
  pub kind : Kind
  pub made : end_kind nodes x b ≡ Some kind
  pub denied : IsTrue (denies nodes (local_in nodes x) kind i b)

-- no node denies it at the bytes from `from` to before `to`
abbrev pub NoEndDenial : List Node → ℕ → ℕ → ℕ → Type 0
NoEndDenial nodes x from to = (i b : ℕ) → from ≤ b → b < to → DeniesEnd nodes x i b → ⊥

-- of these denials the one of the least byte, and there of the first node
pub record IsLeastEnd (nodes : List Node) (x from to : ℕ) (found : Found) : Type 0 where
  pub low : from ≤ found.offset
  pub high : found.offset < to
  pub denied : DeniesEnd nodes x found.node found.offset
  pub local_there : found.local ≡ local_in nodes x found.node
  pub perm : found.perm ≡ (slot_at nodes found.node found.offset).perm
  pub least : (i b : ℕ) → from ≤ b → b < to → DeniesEnd nodes x i b → (found.offset < b) ⊎ ((found.offset ≡ b) × (found.node ≤ i))

abbrev pub FindsEnd : List Node → ℕ → ℕ → ℕ → Option Found → Type 0
FindsEnd nodes x from to found = MatchOption found (NoEndDenial nodes x from to) (IsLeastEnd nodes x from to)

-- The accesses at the bytes from `from` to before `to` were made at each node that they reach, and
-- nothing else has changed but levels there, run starts and room.
pub record IsEnded (size : ℕ) (before now : List Node) (x from to : ℕ) : Type 0 where
  pub links : SameLinks before now
  pub guard : (j : ℕ) → (node_at now j).guard ≡ (node_at before j).guard
  pub cells : (i b : ℕ) → i < length before → IsReached before x false i → from ≤ b → b < to → eager_cell (slot_at now i b) ≡ next_cell (end_kind before x b) (local_in before x i) (node_at before i).guard (eager_cell (slot_at before i b))
  pub outside : (i b : ℕ) → i < length before → b < size → ((b < from) ⊎ (to ≤ b)) → slot_at now i b ≡ slot_at before i b
  pub left : (i b : ℕ) → i < length before → b < size → (IsReached before x false i → ⊥) → slot_at now i b ≡ slot_at before i b

-- how many runs of node x meet the bytes from `from` on
abbrev pub runs_from : ℕ → List Node → ℕ → ℕ → ℕ
runs_from size nodes x from = count (λ b. b == from || has_start b (node_at nodes x).runs.starts) from (size - from)

-- each node that the accesses at the bytes from `from` to before `to` may change has room for so many runs
abbrev pub HasEndRoomOn : List Node → ℕ → ℕ → ℕ → ℕ → Type 0
HasEndRoomOn nodes x from to runs =
    (i b : ℕ) (kind : Kind) → i < length nodes → IsReached nodes x false i → from ≤ b → b < to → end_kind nodes x b ≡ Some kind → (runs ≤ (node_at nodes i).runs.spare) ⊎ (IsFalse (local_in nodes x i) × (need kind ≤ rank (slot_at nodes i b).level))

-- room for two cuts at each run of node x
abbrev pub HasEndRoom : ℕ → List Node → ℕ → Type 0
HasEndRoom size nodes x = HasEndRoomOn nodes x 0 size (2 * runs_from size nodes x 0)
