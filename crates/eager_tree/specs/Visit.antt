-- A visit: one access at every byte that has a kind, at every node that is reached.
use Rattle.std.specs.Prelude.{ℕ, zero, suc, ◌+◌, ◌==◌, Bool, Option, Some, None, List, [], ◌∷◌, map, slice_get, if◌then◌else◌}
use Rattle.std.specs.Option.{option_and_then, option_or}
use Rattle.bsan_ids.specs.declared.numbers.Tag.{Tag}
use Rattle.perm_table.specs.declared.Perm.{Perm}
use Rattle.perm_table.specs.declared.Guard.{Guard}
use Rattle.perm_table.specs.declared.Kind.{Kind}
use Rattle.perm_table.specs.declared.Outcome.{Outcome}
use Rattle.perm_table.specs.declared.Outcome.TheVariants.{Next, Denied as IsDenied}
use Rattle.perm_table.specs.Table.{outcome}
use Rattle.eager_tree.specs.declared.node.Cell.{Cell}
use Rattle.eager_tree.specs.declared.node.Node.{Node}
use Rattle.eager_tree.specs.declared.violation.Violation.{Violation}
use Rattle.eager_tree.specs.declared.violation.Violation.TheVariants.{Denied}
use Rattle.eager_tree.specs.Tree.{Tree, Links, links, is_on_path}

-- the first answer, along a list or counting up from 0
abbrev pub first_in : {A B : Type 0} → (A → Option B) → List A → Option B
first_in f [] = None
first_in f (x ∷ xs) = option_or (f x) (first_in f xs)

abbrev pub first_below : {B : Type 0} → (ℕ → Option B) → ℕ → Option B
first_below f zero = None
first_below f (suc n) = option_or (first_below f n) (f n)

-- the denial of an access at one byte of one node
abbrev pub denial_of : Node → Bool → ℕ → Perm → Outcome → Option Violation
denial_of node local offset perm (Next next accessed) = None
denial_of node local offset perm IsDenied = Some (Denied offset node.tag perm local)

abbrev pub denial : Node → Bool → Kind → ℕ → Option Violation
denial node local kind offset =
    option_and_then (λ cell. denial_of node local offset cell.perm (outcome cell.perm cell.accessed node.guard local kind))
    (slice_get node.cells offset)

-- what an access leaves of one node's state at one byte
abbrev pub cell_of : Cell → Outcome → Cell
cell_of cell (Next perm accessed) = record { perm = perm; accessed = accessed }
cell_of cell IsDenied = cell

abbrev pub next_cell : Option Kind → Bool → Guard → Cell → Cell
next_cell None local guard cell = cell
next_cell (Some kind) local guard cell = cell_of cell (outcome cell.perm cell.accessed guard local kind)

-- the same of all a node's bytes, from an offset on
abbrev pub next_cells : (ℕ → Option Kind) → Bool → Guard → ℕ → List Cell → List Cell
next_cells kinds local guard offset [] = []
next_cells kinds local guard offset (cell ∷ cells) =
    next_cell (kinds offset) local guard cell ∷ next_cells kinds local guard (offset + 1) cells

abbrev pub next_node : (ℕ → Option Kind) → Bool → Node → Node
next_node kinds local node = record node { cells = next_cells kinds local node.guard 0 node.cells }

-- the least offset with a denial, then the least tag: nodes stand by rising tags
abbrev pub denial_by : (Tag → Bool) → Links → Tag → Kind → ℕ → Node → Option Violation
denial_by reaches ls x kind offset node =
    if reaches node.tag then denial node (is_on_path ls x node.tag) kind offset else None

abbrev pub denial_at : (ℕ → Option Kind) → (Tag → Bool) → Links → Tag → List Node → ℕ → Option Violation
denial_at kinds reaches ls x nodes offset =
    option_and_then (λ kind. first_in (denial_by reaches ls x kind offset) nodes) (kinds offset)

abbrev pub first_denial : (ℕ → Option Kind) → (Tag → Bool) → Links → Tag → ℕ → List Node → Option Violation
first_denial kinds reaches ls x size nodes = first_below (denial_at kinds reaches ls x nodes) size

abbrev pub next_by : (ℕ → Option Kind) → (Tag → Bool) → Links → Tag → Node → Node
next_by kinds reaches ls x node = if reaches node.tag then next_node kinds (is_on_path ls x node.tag) node else node

abbrev pub next_nodes : (ℕ → Option Kind) → (Tag → Bool) → Links → Tag → List Node → List Node
next_nodes kinds reaches ls x nodes = map (next_by kinds reaches ls x) nodes

-- denied, and then nothing changes, or done at all bytes and nodes at once
abbrev pub visit_unless : Option Violation → List Node → Tree → Option Violation × Tree
visit_unless None nodes t = (None, record t { nodes = nodes })
visit_unless (Some violation) nodes t = (Some violation, t)

abbrev pub visit : (ℕ → Option Kind) → (Tag → Bool) → Tag → Tree → Option Violation × Tree
visit kinds reaches x t =
    visit_unless (first_denial kinds reaches (links t.nodes) x t.size t.nodes) (next_nodes kinds reaches (links t.nodes) x t.nodes) t

-- one kind, at one offset alone
abbrev pub only_at : ℕ → Kind → ℕ → Option Kind
only_at at kind offset = if offset == at then Some kind else None
