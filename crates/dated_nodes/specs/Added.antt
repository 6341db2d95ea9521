-- A node that is added to a tree.
use Rattle.std.specs.Prelude.{◌≡◌, ℕ, ◌+◌, ◌<◌, ◌≤◌, None, [], ◌∷◌, ◌++◌, length, slice_index_or}
use Rattle.bsan_ids.specs.declared.numbers.Span.{Span}
use Rattle.bsan_ids.specs.declared.numbers.Tag.{Tag}
use Rattle.perm_table.specs.declared.Guard.{Guard}
use Rattle.perm_table.specs.declared.RetagKind.{RetagKind}
use Rattle.perm_table.specs.Table.{starting}
use Rattle.eager_tree.specs.Steps.{is_within}
use Rattle.dated_tree.specs.declared.node.Slot.{Slot}
use Rattle.dated_tree.specs.declared.node.Node.{Node}
use Rattle.dated_tree.specs.Shape.{Shape, no_slot}
use Rattle.dated_tree.specs.Eager.{tag_at}
use Rattle.dated_tree.specs.Adding.{with_guarded}

-- the slot of a new node at a byte: it has met all that there was by now, and accessed the bytes of the span alone
abbrev pub new_slot : RetagKind → Guard → Span → ℕ → ℕ → Slot
new_slot kind guard span now b = record { perm = starting kind guard; accessed = is_within span b; met = record { access = now; write = now } }

-- a new child of the node x
pub record IsChild (t : Shape) (x : ℕ) (span : Span) (kind : RetagKind) (guard : Guard) (tag : Tag) (node : Node) : Type 0 where
  pub tag_is : node.tag ≡ tag
  pub parent_is : node.parent ≡ x
  pub guard_is : node.guard ≡ guard
  pub ends_are : node.ends ≡ []
  pub sized : length node.runs.bytes ≡ t.size
  pub slots : (b : ℕ) → b < t.size → slice_index_or node.runs.bytes b no_slot ≡ new_slot kind guard span t.clock b

-- each node of the tree is older than the tag
abbrev pub IsNewest : Shape → Tag → Type 0
IsNewest t tag = (place : ℕ) → place ≤ length t.nodes → (tag_at t place).0 < tag.0

-- the tree with a further node as its last; the next access has a date of its own
abbrev pub with_child : Node → Shape → Shape
with_child node t = record t { nodes = t.nodes ++ node ∷ []; guarded = with_guarded node.guard (length t.nodes + 1) t.guarded; actor = None }
