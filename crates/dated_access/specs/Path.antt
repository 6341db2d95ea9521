-- The path of a node as a list of places.
use Rattle.std.specs.Prelude.{◌≡◌, ℕ, zero, suc, ◌-◌, ◌==◌, ◌<◌, ◌≤◌, List, [], ◌∷◌, length, reverse, slice_index_or, IsTrue, if◌then◌else◌}
use Rattle.std.specs.List.{Contains}
use Rattle.dated_tree.specs.declared.node.Node.{Node}
use Rattle.dated_tree.specs.Shape.{node_at}
use Rattle.dated_tree.specs.Path.{is_on_path}

-- the places from x up to below the root, by at most so many steps
abbrev pub ups_within : ℕ → List Node → ℕ → List ℕ
ups_within zero nodes x = []
ups_within (suc more) nodes x = if x == 0 then [] else x ∷ ups_within more nodes (node_at nodes x).parent

-- a parent's place is lesser, so no path has more steps than that
abbrev pub ups_to : List Node → ℕ → List ℕ
ups_to nodes x = ups_within x nodes x

-- the places from below the root down to x
abbrev pub path_to : List Node → ℕ → List ℕ
path_to nodes x = reverse (ups_to nodes x)

-- the k-th place of a list
abbrev pub entry : List ℕ → ℕ → ℕ
entry places k = slice_index_or places k 0

-- the place above the k-th one
abbrev pub above_entry : List ℕ → ℕ → ℕ
above_entry places k = if k == 0 then 0 else entry places (k - 1)

-- a way down from the root: each place's parent is the one before it
pub record IsWay (nodes : List Node) (path : List ℕ) : Type 0 where
  pub some : (k : ℕ) → k < length path → 1 ≤ entry path k
  pub stored : (k : ℕ) → k < length path → entry path k ≤ length nodes
  pub parent : (k : ℕ) → k < length path → (node_at nodes (entry path k)).parent ≡ above_entry path k

-- the path of x: the way down to x, with all places on its path
pub record IsPathTo (nodes : List Node) (x : ℕ) (path : List ℕ) : Type 0 where
  pub way : IsWay nodes path
  pub sound : (k : ℕ) → k < length path → IsTrue (is_on_path nodes x (entry path k))
  pub whole : (place : ℕ) → 1 ≤ place → IsTrue (is_on_path nodes x place) → Contains path place
