-- What contracts see of a stored tree, and what each one keeps.
use Rattle.std.specs.Prelude.{◌≡◌, ℕ, ◌+◌, ◌==◌, ◌<◌, ◌-◌, ◌≤◌, Bool, false, Option, Some, None, List, All, IsTrue, IfSome, length, vec_capacity, vec_len, if◌then◌else◌}
use Rattle.bsan_ids.specs.declared.numbers.Tag.{Tag}
use Rattle.perm_table.specs.declared.Kind.{Kind}
use Rattle.perm_table.specs.declared.Kind.TheVariants.{Read, Write}
use Rattle.range_map.specs.Ranges.{overwrite}
use Rattle.dated_tree.specs.declared.node.Node.{Node}
use Rattle.dated_tree.specs.declared.tree.DatedTree.TheInside.{Inside}
use Rattle.dated_tree.specs.Shape.{Shape, node_at}
use Rattle.dated_tree.specs.Eager.{tag_at}

abbrev pub shape_of : Inside → Shape
shape_of t = record {
  root = t.root;
  size = t.size;
  nodes = t.nodes.items;
  guarded = t.guarded.items;
  accesses = t.accesses;
  writes = t.writes;
  clock = t.clock;
  actor = t.actor;
  visits = t.visits;
  room = record {
    nodes = vec_capacity t.nodes - vec_len t.nodes;
    guards = vec_capacity t.guarded - vec_len t.guarded;
    notes = vec_capacity t.notes;
    runs = t.made;
  };
}

-- each node has a slot for each byte, and its parent before it
pub record AreStored (size : ℕ) (nodes : List Node) : Type 0 where
  pub parent : (place : ℕ) → 1 ≤ place → place ≤ length nodes → (node_at nodes place).parent < place
  pub sized : (place : ℕ) → 1 ≤ place → place ≤ length nodes → length (node_at nodes place).runs.bytes ≡ size

-- of a stored tree, also in the midst of a step
pub record IsStored (t : Shape) : Type 0 where
  pub some : 1 ≤ t.size
  pub accesses : length t.accesses.bytes ≡ t.size
  pub writes : length t.writes.bytes ≡ t.size
  pub rising : (i j : ℕ) → i < j → j ≤ length t.nodes → (tag_at t i).0 < (tag_at t j).0
  pub nodes : AreStored t.size t.nodes
  pub guarded : All (λ place. (1 ≤ place) × (place ≤ length t.nodes)) t.guarded
  -- a stored parent is known to have a child
  pub known : (place : ℕ) → 1 ≤ place → place ≤ length t.nodes → 1 ≤ (node_at t.nodes place).parent → IsTrue (node_at t.nodes (node_at t.nodes place).parent).has_child
  pub made : IfSome t.room.runs (λ runs. length runs.bytes ≡ t.size)

-- whether a tag is that of the accesses at the date now
abbrev pub is_acting : Option Tag → Tag → Bool
is_acting None tag = false
is_acting (Some actor) tag = actor.0 == tag.0

-- the date of an access through a tag
abbrev pub date_for : Shape → Tag → ℕ
date_for t tag = if is_acting t.actor tag then t.clock else t.clock + 1

-- the dates of last writes after an access
abbrev pub written : Kind → ℕ → ℕ → ℕ → List ℕ → List ℕ
written Read from end date dates = dates
written Write from end date dates = overwrite from end date dates
