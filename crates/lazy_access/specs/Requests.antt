-- The requests to a tree, and what makes it ready for one.
use Rattle.std.specs.Prelude.{ℕ, ◌<◌, ◌≤◌, ◌≡◌, ◌⊎◌, Bool, List, length, slice_index_or, Option, Some, None, IsFalse}
use Rattle.bsan_ids.specs.declared.numbers.Span.{Span}
use Rattle.perm_table.specs.declared.Kind.{Kind}
use Rattle.perm_table.specs.declared.Guard.{Guard}
use Rattle.perm_table.specs.declared.RetagKind.{RetagKind}
use Rattle.perm_table.specs.Table.{starting}
use Rattle.range_map.specs.Ranges.{Ranges}
use Rattle.eager_tree.specs.Steps.{is_within}
use Rattle.lazy_tree.specs.declared.slot.Slot.{Slot}
use Rattle.eager_tree.specs.Tree.{links, is_on_path}
use Rattle.lazy_tree.specs.declared.tree.Node.{Node}
use Rattle.lazy_tree.specs.Shape.{Shape}
use Rattle.lazy_tree.specs.Skip.{node_at, no_slot, rank, own_rank, BeginsAt}
use Rattle.lazy_tree.specs.Eager.{eager_nodes}
use Rattle.eager_tree.specs.declared.violation.Violation.{Violation}
use Rattle.eager_tree.specs.declared.violation.Violation.TheVariants.{Denied}
use Rattle.lazy_access.specs.declared.check.Found.{Found}
use Rattle.lazy_access.specs.Walk.{IsReached, IsCovered}
use Rattle.lazy_access.specs.Change.{MayCut}

-- whether a node is on the path of node x
abbrev pub local_in : List Node → ℕ → ℕ → Bool
local_in nodes x i = is_on_path (links (eager_nodes nodes)) (node_at nodes x).tag (node_at nodes i).tag

-- there is room for a walk
pub record HasWalk (t : Shape) : Type 0 where
  pub marks : t.marks ≡ length t.nodes
  pub list : length t.nodes ≤ t.list_room

-- each node that an access through node x may change has room to be cut at the span's ends
abbrev pub HasCuts : ℕ → List Node → ℕ → Bool → Span → Kind → Type 0
HasCuts size nodes x below span kind =
    (i : ℕ) → i < length nodes → IsReached nodes x below i → MayCut size nodes span i ⊎ (IsFalse (local_in nodes x i) × IsCovered nodes kind span i)

-- each node that an access through node x may change has room for so many runs
abbrev pub HasRoom : List Node → ℕ → Bool → Span → Kind → ℕ → Type 0
HasRoom nodes x below span kind runs =
    (i : ℕ) → i < length nodes → IsReached nodes x below i → (runs ≤ (node_at nodes i).runs.spare) ⊎ (IsFalse (local_in nodes x i) × IsCovered nodes kind span i)

-- the violation of a denial, if there is one
abbrev pub violation_in : List Node → Option Found → Option Violation
violation_in nodes None = None
violation_in nodes (Some found) = Some (Denied found.offset (node_at nodes found.node).tag found.perm found.local)

-- the slot in which a new node begins, and its level
abbrev pub IsFreshSlot : RetagKind → Guard → Bool → Slot → Type 0
IsFreshSlot kind guard accessed slot =
    (slot.perm ≡ starting kind guard) × (slot.accessed ≡ accessed) × (rank slot.level ≡ own_rank (starting kind guard) guard)

-- the runs of a new node: on the span it has accessed the bytes
pub record IsChild (size : ℕ) (span : Span) (kind : RetagKind) (guard : Guard) (runs : Ranges Slot) : Type 0 where
  pub sized : length runs.bytes ≡ size
  pub slots : (b : ℕ) → b < size → IsFreshSlot kind guard (is_within span b) (slice_index_or runs.bytes b no_slot)
  pub starts : BeginsAt span runs.starts
