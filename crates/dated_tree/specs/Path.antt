-- The way from a node up to the root.
use Rattle.std.specs.Prelude.{ℕ, zero, suc, ◌==◌, ◌||◌, Bool, false, List, if◌then◌else◌}
use Rattle.dated_tree.specs.declared.node.Node.{Node}
use Rattle.dated_tree.specs.Shape.{node_at}

-- the place is x, or is reached from it by at most so many steps to a parent
abbrev pub leads_within : ℕ → List Node → ℕ → ℕ → Bool
leads_within zero nodes x place = x == place
leads_within (suc more) nodes x place =
    x == place || (if x == 0 then false else leads_within more nodes (node_at nodes x).parent place)

-- whether the node at a place is the node x or above it; a parent's place is lesser, so no path has more steps than that
abbrev pub is_on_path : List Node → ℕ → ℕ → Bool
is_on_path nodes x place = leads_within x nodes x place
