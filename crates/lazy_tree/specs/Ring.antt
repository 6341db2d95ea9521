-- The ring of a node and the pieces of a span, which bound what a repeated access looks at.
use Rattle.std.specs.Prelude.{ℕ, zero, suc, ◌+◌, ◌-◌, ◌==◌, ◌&&◌, not, Bool, true, Option, Some, None, List, length, filter, if◌then◌else◌}
use Rattle.std.specs.List.{list_any}
use Rattle.bsan_ids.specs.declared.numbers.Tag.{Tag}
use Rattle.bsan_ids.specs.declared.numbers.Span.{Span}
use Rattle.range_map.specs.Ranges.{has_start}
use Rattle.eager_tree.specs.Tree.{Links, is_on_path}
use Rattle.lazy_tree.specs.declared.tree.Node.{Node}

-- how many of the n numbers from `from` on have the property
abbrev pub count : (ℕ → Bool) → ℕ → ℕ → ℕ
count has from zero = 0
count has from (suc n) = if has from then count has (from + 1) n + 1 else count has (from + 1) n

-- the ring of node x: the root, and the children of the nodes on the path of x
abbrev pub is_in_ring : Links → Tag → Tag × Option Tag → Bool
is_in_ring ls x (tag, None) = true
is_in_ring ls x (tag, Some parent) = is_on_path ls x parent

unfoldable pub ring_size : Links → Tag → ℕ
ring_size ls x = length (filter (is_in_ring ls x) ls)

-- a cut: a byte but the first at which a run of some node begins
unfoldable pub is_cut : List Node → ℕ → Bool
is_cut nodes at = not (at == 0) && list_any (λ n. has_start at n.runs.starts) nodes

-- the pieces of a span: 1, and 1 for each cut strictly inside it
unfoldable pub pieces : List Node → Span → ℕ
pieces nodes span = 1 + count (is_cut nodes) (span.start + 1) (span.len - 1)
