-- An access that changes nothing.
use Rattle.std.specs.Prelude.{ℕ, ◌+◌, ◌<◌, ◌≤◌, ◌≡◌, Bool, true, false, IsTrue, List, length}
use Rattle.bsan_ids.specs.declared.numbers.Tag.{Tag}
use Rattle.bsan_ids.specs.declared.numbers.Span.{Span}
use Rattle.perm_table.specs.declared.Guard.{Guard}
use Rattle.perm_table.specs.declared.Kind.{Kind}
use Rattle.perm_table.specs.declared.Kind.TheVariants.{Read, Write}
use Rattle.perm_table.specs.declared.Outcome.{Outcome}
use Rattle.perm_table.specs.declared.Outcome.TheVariants.{Next}
use Rattle.perm_table.specs.Table.{outcome}
use Rattle.eager_tree.specs.Tree.{links, is_node, is_on_path}
use Rattle.lazy_tree.specs.declared.slot.Level.{Level}
use Rattle.lazy_tree.specs.declared.slot.Level.TheVariants.{Nothing}
use Rattle.lazy_tree.specs.declared.slot.Slot.{Slot}
use Rattle.lazy_tree.specs.declared.tree.Node.{Node}
use Rattle.lazy_tree.specs.Ring.{is_cut}
use Rattle.lazy_tree.specs.Shape.{Shape}
use Rattle.lazy_tree.specs.Skip.{node_at, slot_at, need, rank}
use Rattle.lazy_tree.specs.Eager.{eager_nodes, eager_of}

abbrev pub slot_outcome : Guard → Bool → Kind → Slot → Outcome
slot_outcome guard local kind slot = outcome slot.perm slot.accessed guard local kind

-- a local write takes the level away; the levels of foreign nodes are raised later
abbrev pub level_after : Bool → Kind → Level → Level
level_after true Write level = Nothing
level_after true Read level = level
level_after false Read level = level
level_after false Write level = level

-- The access changes nothing at the slot and is not denied there. Of a foreign node the level says so.
abbrev pub IsQuietSlot : Guard → Bool → Kind → Slot → Type 0
IsQuietSlot guard true kind slot = (slot_outcome guard true kind slot ≡ Next slot.perm slot.accessed) × (level_after true kind slot.level ≡ slot.level)
IsQuietSlot guard false kind slot = need kind ≤ rank slot.level

-- the access changes nothing of a node
abbrev pub IsQuietNode : List Node → (ℕ → Bool) → Kind → Span → ℕ → Type 0
IsQuietNode nodes local kind span i =
    (b : ℕ) → span.start ≤ b → b < span.start + span.len → IsQuietSlot (node_at nodes i).guard (local i) kind (slot_at nodes i b)

-- An access of the kind through the tag changes nothing on the span, and nothing is denied.
pub record IsQuiet (t : Shape) (tag : Tag) (span : Span) (kind : Kind) : Type 0 where
  pub node : IsTrue (is_node (eager_of t) tag)
  pub within : span.start + span.len ≤ t.size
  pub still : (i : ℕ) → i < length t.nodes → IsQuietNode t.nodes (λ j. is_on_path (links (eager_nodes t.nodes)) tag (node_at t.nodes j).tag) kind span i

-- what changes nothing in one tree changes nothing in the other
abbrev pub KeepsQuiet : Shape → Shape → Type 0
KeepsQuiet t u = (tag : Tag) (span : Span) (kind : Kind) → IsQuiet t tag span kind → IsQuiet u tag span kind

-- the two trees have the same cuts
abbrev pub KeepsCuts : Shape → Shape → Type 0
KeepsCuts t u = (at : ℕ) → is_cut u.nodes at ≡ is_cut t.nodes at
