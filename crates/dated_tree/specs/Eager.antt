-- The eager tree for which a dated tree stands.
use Rattle.std.specs.Prelude.{ℕ, ◌==◌, Some, ◌++◌, length, map, if◌then◌else◌}
use Rattle.std.specs.List.{range_with_len}
use Rattle.bsan_ids.specs.declared.numbers.Tag.{Tag}
use Rattle.eager_tree.specs.declared.node.Cell.{Cell}
use Rattle.eager_tree.specs.declared.node.Node.{Node}
use Rattle.eager_tree.specs.Tree.{Tree, new_tree}
use Rattle.table_laws.specs.Foreign.{after_one}
use Rattle.dated_tree.specs.declared.node.Dates.{Dates}
use Rattle.dated_tree.specs.declared.node.Slot.{Slot}
use Rattle.dated_tree.specs.Shape.{Shape, node_at, slot_at}
use Rattle.dated_tree.specs.Dates.{seen, put_off}

-- the kept state after what is put off, and the kept flag
abbrev pub eager_cell : Dates → Slot → Cell
eager_cell seen slot = record { perm = after_one (put_off slot.met seen) slot.perm; accessed = slot.accessed }

abbrev pub cell_of : Shape → ℕ → ℕ → Cell
cell_of t place b = eager_cell (seen t place b) (slot_at t.nodes place b)

-- the tag of the node at a place
abbrev pub tag_at : Shape → ℕ → Tag
tag_at t place = if place == 0 then t.root else (node_at t.nodes place).tag

abbrev pub eager_node : Shape → ℕ → Node
eager_node t place = record {
  tag = tag_at t place;
  parent = Some (tag_at t (node_at t.nodes place).parent);
  guard = (node_at t.nodes place).guard;
  cells = map (cell_of t place) (range_with_len 0 t.size);
}

-- the root may do all, and each stored node stands for one
abbrev pub eager_of : Shape → Tree
eager_of t = record { size = t.size; nodes = (new_tree t.size t.root).nodes ++ map (eager_node t) (range_with_len 1 (length t.nodes)) }
