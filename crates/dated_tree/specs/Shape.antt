-- What contracts see of a dated tree.
use Rattle.std.specs.Prelude.{ℕ, ◌+◌, ◌-◌, ◌==◌, ◌^◌, if◌then◌else◌, min, true, false, Option, None, List, [], ◌∷◌, replicate, slice_index_or, slice_set}
use Rattle.bsan_ids.specs.declared.numbers.Tag.{Tag}
use Rattle.range_map.specs.Ranges.{Ranges}
use Rattle.perm_table.specs.declared.Perm.TheVariants.{Disabled}
use Rattle.perm_table.specs.declared.Guard.TheVariants.{Free}
use Rattle.dated_tree.specs.declared.node.Slot.{Slot}
use Rattle.dated_tree.specs.declared.node.Node.{Node}

-- What is made ready beforehand: room for so many more nodes, guarded places and dates of ends, and the runs of the next node.
pub record Room : Type 0 where
  pub nodes : ℕ
  pub guards : ℕ
  pub notes : ℕ
  pub runs : Option (Ranges Slot)

abbrev pub no_room : Room
no_room = record { nodes = 0; guards = 0; notes = 0; runs = None }

-- The root's tag, the number of bytes, the nodes but the root, the places of the guarded ones, the date of each
-- byte's last access and last write, the date now, the tag of the accesses at that date, if it may have more, the
-- counter, and what is made ready.
pub record Shape : Type 0 where
  pub root : Tag
  pub size : ℕ
  pub nodes : List Node
  pub guarded : List ℕ
  pub accesses : Ranges ℕ
  pub writes : Ranges ℕ
  pub clock : ℕ
  pub actor : Option Tag
  pub visits : ℕ
  pub room : Room

abbrev pub one_run : ℕ → Ranges ℕ
one_run size = record { bytes = replicate size 0; starts = 0 ∷ []; spare = 0 }

-- the tree of one node
abbrev pub new_shape : Tag → ℕ → Shape
new_shape root size = record { root = root; size = size; nodes = []; guarded = []; accesses = one_run size; writes = one_run size; clock = 0; actor = None; visits = 0; room = no_room }

abbrev pub no_slot : Slot
no_slot = record { perm = Disabled; accessed = false; met = record { access = 0; write = 0 } }

abbrev pub no_node : Node
no_node = record { tag = record { 0 = 0 }; parent = 0; has_child = false; guard = Free; ends = []; runs = record { bytes = []; starts = []; spare = 0 } }

-- the stored node at a place, from 1 on
abbrev pub node_at : List Node → ℕ → Node
node_at nodes place = slice_index_or nodes (place - 1) no_node

abbrev pub slot_at : List Node → ℕ → ℕ → Slot
slot_at nodes place b = slice_index_or (node_at nodes place).runs.bytes b no_slot

-- the nodes, where the one at a place has other runs
abbrev pub with_runs : List Node → ℕ → Ranges Slot → List Node
with_runs nodes place runs = slice_set nodes (place - 1) (record (node_at nodes place) { runs = runs })

-- the nodes, where the one at a place has noted these dates
abbrev pub with_ends : List Node → ℕ → List ℕ → List Node
with_ends nodes place ends = slice_set nodes (place - 1) (record (node_at nodes place) { ends = ends })

-- the nodes, where the one at a place, if it is stored, is known to have a child
abbrev pub with_parent : List Node → ℕ → List Node
with_parent nodes place = if place == 0 then nodes else slice_set nodes (place - 1) (record (node_at nodes place) { has_child = true })

-- the counter after one more run that is read or changed
abbrev pub counted : Shape → Shape
counted t = record t { visits = min (t.visits + 1) (2 ^ 64 - 1) }
