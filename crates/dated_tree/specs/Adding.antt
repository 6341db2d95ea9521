-- A node is added as the last one.
use Rattle.std.specs.Prelude.{◌≡◌, ℕ, suc, ◌+◌, ◌≤◌, MatchOption, false, true, None, List, [], ◌∷◌, ◌++◌, length, replicate, if◌then◌else◌}
use Rattle.bsan_ids.specs.declared.numbers.Tag.{Tag}
use Rattle.bsan_ids.specs.declared.numbers.Span.{Span}
use Rattle.perm_table.specs.declared.Guard.{Guard}
use Rattle.perm_table.specs.Table.{is_protected}
use Rattle.range_map.specs.Ranges.{overwrite}
use Rattle.dated_tree.specs.declared.node.Slot.{Slot}
use Rattle.dated_tree.specs.declared.node.Node.{Node}
use Rattle.dated_tree.specs.Shape.{Shape, Room, with_parent}

-- a slot of which the node has accessed its bytes
abbrev pub touched : Slot → Slot
touched fresh = record fresh { accessed = true }

-- the new node: its bytes have the one slot, and those of the span are accessed
pub record IsAdded (size parent : ℕ) (tag : Tag) (guard : Guard) (fresh : Slot) (span : Span) (added : Node) : Type 0 where
  pub tag_is : added.tag ≡ tag
  pub parent_is : added.parent ≡ parent
  pub childless : added.has_child ≡ false
  pub guard_is : added.guard ≡ guard
  pub ends : added.ends ≡ []
  pub bytes : added.runs.bytes ≡ overwrite span.start (span.start + span.len) (touched fresh) (replicate size fresh)

-- all that a new node takes was made ready: room in the lists, and runs with room for four more
pub record IsReadyToAdd (room : Room) : Type 0 where
  pub nodes : 1 ≤ room.nodes
  pub guards : 1 ≤ room.guards
  pub runs : MatchOption room.runs ⊥ (λ runs. 4 ≤ runs.spare)

-- the places of the guarded nodes after the node of this place was added
abbrev pub with_guarded : Guard → ℕ → List ℕ → List ℕ
with_guarded guard place guarded = if is_protected guard then guarded ++ place ∷ [] else guarded

-- the tree with one more node, which is listed where it has a guard
abbrev pub with_node : Shape → Node → Shape
with_node t added = record t {
  nodes = with_parent t.nodes added.parent ++ added ∷ [];
  guarded = with_guarded added.guard (suc (length t.nodes)) t.guarded;
  actor = None;
}
