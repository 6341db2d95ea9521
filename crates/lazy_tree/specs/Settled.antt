-- An access that is known to change nothing, and what every lazy tree keeps.
use Rattle.std.specs.Prelude.{ℕ, ◌<◌, ◌≤◌, ◌≡◌, Bool, List, length, Option, Some, None, IsTrue}
use Rattle.std.specs.List.{All}
use Rattle.bsan_ids.specs.declared.numbers.Tag.{Tag}
use Rattle.bsan_ids.specs.declared.numbers.Span.{Span}
use Rattle.perm_table.specs.declared.Kind.{Kind}
use Rattle.range_map.specs.Ranges.{Ranges}
use Rattle.eager_tree.specs.Tree.{links, is_on_path}
use Rattle.lazy_tree.specs.declared.slot.Slot.{Slot}
use Rattle.lazy_tree.specs.declared.tree.Node.{Node}
use Rattle.lazy_tree.specs.declared.tree.Settled.{Settled}
use Rattle.lazy_tree.specs.Shape.{Shape}
use Rattle.lazy_tree.specs.Skip.{node_at, IsSound, IsClear}
use Rattle.lazy_tree.specs.Eager.{eager_nodes}
use Rattle.lazy_tree.specs.Quiet.{IsQuiet}

-- The node is stored, the access through it changes nothing, and each node on its path has room for two
-- more runs.
pub record IsSettled (t : Shape) (tag : Tag) (span : Span) (kind : Kind) : Type 0 where
  pub at : ℕ
  pub stored : at < length t.nodes
  pub named : (node_at t.nodes at).tag ≡ tag
  pub quiet : IsQuiet t tag span kind
  pub room : (i : ℕ) → i < length t.nodes → IsTrue (is_on_path (links (eager_nodes t.nodes)) tag (node_at t.nodes i).tag) → 2 ≤ (node_at t.nodes i).runs.spare

-- a tree of these nodes, without a word on its counter and its room
abbrev pub bare : Tag → ℕ → List Node → Shape
bare root size nodes = record { root = root; size = size; nodes = nodes; visits = 0; spare = 0; ready = None; marks = 0; list_room = 0 }

-- each of these accesses is settled, in a tree of these nodes
pub record AreSettled (root : Tag) (size : ℕ) (nodes : List Node) (known : List Settled) : Type 0 where
  pub each : All (λ s. IsSettled (bare root size nodes) s.tag s.span s.kind) known

-- what every lazy tree keeps
pub record IsKept (root : Tag) (size : ℕ) (nodes : List Node) (made : Option (Ranges Slot)) (path : List Bool) (known : List Settled) : Type 0 where
  pub some : 1 ≤ size
  pub sound : IsSound size nodes
  pub ready : (runs : Ranges Slot) → made ≡ Some runs → length runs.bytes ≡ size
  pub clear : IsClear path
  pub settled : AreSettled root size nodes known
