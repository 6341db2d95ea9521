-- A node's guard goes.
use Rattle.std.specs.Prelude.{ℕ, ◌-◌, ◌==◌, not, slice_set, None}
use Rattle.std.specs.List.{filter}
use Rattle.perm_table.specs.declared.Guard.TheVariants.{Free}
use Rattle.dated_tree.specs.Shape.{Shape, node_at}

-- the tree without the guard of a stored node
abbrev pub without_guard : Shape → ℕ → Shape
without_guard t x = record t {
  nodes = slice_set t.nodes (x - 1) (record (node_at t.nodes x) { guard = Free });
  guarded = filter (λ place. not (place == x)) t.guarded;
  actor = None;
}
