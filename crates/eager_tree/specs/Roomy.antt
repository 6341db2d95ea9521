-- A tree, and for how many nodes there is room.
use Rattle.std.specs.Prelude.{ℕ, ◌≡◌, ◌<◌, Option, Some, None, MatchOption, List, length, vec_len, vec_capacity}
use Rattle.std.specs.declared.vec.Vec.{Vec}
use Rattle.std.specs.declared.alloc.Global.{Global}
use Rattle.eager_tree.specs.declared.node.Cell.{Cell}
use Rattle.eager_tree.specs.declared.node.Node.{Node}
use Rattle.eager_tree.specs.Tree.{Tree, IsTree}

pub record Roomy : Type 0 where
  pub tree : Tree
  pub spare : ℕ

abbrev pub spare_of : Option (List Cell) → ℕ
spare_of None = 0
spare_of (Some cells) = 1

pub record IsKept (size : ℕ) (nodes : Vec Node Global) (ready : Option (List Cell)) : Type 0 where
  pub tree : IsTree (record { size = size; nodes = nodes.items })
  pub room : MatchOption ready (Unit {0}) (λ cells. (length cells ≡ size) × (vec_len nodes < vec_capacity nodes))
