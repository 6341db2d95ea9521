-- A tree of tags: its nodes, from the root on, each with a state for every byte.
use Rattle.std.specs.Prelude.{ℕ, ◌≡◌, ◌≤◌, ◌==◌, ◌||◌, Bool, true, false, IsTrue, Option, Some, None, MatchOption, List, [], ◌∷◌, length, map, take, replicate, slice_get, All, zero, suc, if◌then◌else◌}
use Rattle.std.specs.List.{list_any}
use Rattle.std.specs.List.Sorted.{IsStrictlyIncreasing}
use Rattle.std.specs.Option.{option_map_or}
use Rattle.bsan_ids.specs.declared.numbers.Tag.{Tag}
use Rattle.perm_table.specs.declared.Perm.TheVariants.{Unique}
use Rattle.perm_table.specs.declared.Guard.TheVariants.{Free}
use Rattle.eager_tree.specs.declared.node.Node.{Node}

pub record Tree : Type 0 where
  pub size : ℕ
  pub nodes : List Node

-- each node's tag, with its parent's
abbrev pub Links : Type 0
Links = List (Tag × Option Tag)

abbrev pub links : List Node → Links
links nodes = map (λ n. (n.tag, n.parent)) nodes

abbrev pub has_tag : Links → Tag → Bool
has_tag ls tag = list_any (λ l. l.0.0 == tag.0) ls

abbrev pub is_node : Tree → Tag → Bool
is_node t tag = has_tag (links t.nodes) tag

-- the parent of the node with this tag
abbrev pub parent_in : Links → Tag → Option Tag
parent_in [] tag = None
parent_in (l ∷ ls) tag = if l.0.0 == tag.0 then l.1 else parent_in ls tag

-- y is x, or is reached from x by at most so many steps to a parent
abbrev pub leads_to : ℕ → Links → Tag → Tag → Bool
leads_to zero ls x y = x.0 == y.0
leads_to (suc more) ls x y = x.0 == y.0 || option_map_or (λ p. leads_to more ls p y) (parent_in ls x) false

-- y is x or an ancestor of x; no path has more steps than there are nodes
abbrev pub is_on_path : Links → Tag → Tag → Bool
is_on_path ls x y = leads_to (length ls) ls x y

-- the tree of one node
abbrev pub new_tree : ℕ → Tag → Tree
new_tree size root =
    record {
      size = size;
      nodes = record {
        tag = root;
        parent = None;
        guard = Free;
        cells = replicate size (record { perm = Unique; accessed = true });
      } ∷ [];
    }

-- the same tree, with another tag at a root that is its only node
abbrev pub retagged : Tag → Node → Node
retagged tag node = record node { tag = tag }

abbrev pub with_root : Tag → Tree → Tree
with_root root t = record t { nodes = map (retagged root) t.nodes }

-- tags rise, and every node but the first has its parent before it
pub record AreLinked (ls : Links) : Type 0 where
  pub rising : IsStrictlyIncreasing (map (λ l. l.0.0) ls)
  pub parents : (k : ℕ) (l : Tag × Option Tag) → slice_get ls k ≡ Some l → MatchOption l.1 (k ≡ 0) (λ p. IsTrue (has_tag (take k ls) p))

pub record IsTree (t : Tree) : Type 0 where
  pub some : 1 ≤ t.size
  pub planted : 1 ≤ length t.nodes
  pub sized : All (λ n. length n.cells ≡ t.size) t.nodes
  pub linked : AreLinked (links t.nodes)
