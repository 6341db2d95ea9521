-- The steps of a tree: access, retag, the end of a protector, free.
use Rattle.std.specs.Prelude.{ℕ, zero, suc, ◌+◌, ◌==◌, Bool, true, false, ◌&&◌, ◌||◌, not, nat_le, nat_lt, Option, Some, None, List, [], ◌∷◌, ◌++◌, map, slice_get, if◌then◌else◌}
use Rattle.std.specs.Option.{option_and_then}
use Rattle.bsan_ids.specs.declared.numbers.Tag.{Tag}
use Rattle.bsan_ids.specs.declared.numbers.Span.{Span}
use Rattle.perm_table.specs.declared.Perm.{Perm}
use Rattle.perm_table.specs.declared.Perm.TheVariants as perm
use Rattle.perm_table.specs.declared.Guard.{Guard}
use Rattle.perm_table.specs.declared.Guard.TheVariants.{Free, Weak, Strong}
use Rattle.perm_table.specs.declared.Kind.{Kind}
use Rattle.perm_table.specs.declared.Kind.TheVariants.{Read, Write}
use Rattle.perm_table.specs.declared.RetagKind.{RetagKind}
use Rattle.perm_table.specs.Table.{starting}
use Rattle.eager_tree.specs.declared.node.Cell.{Cell}
use Rattle.eager_tree.specs.declared.node.Node.{Node}
use Rattle.eager_tree.specs.declared.violation.Violation.{Violation}
use Rattle.eager_tree.specs.declared.violation.Violation.TheVariants.{StrongFree}
use Rattle.eager_tree.specs.Tree.{Tree, Links, links, is_on_path}
use Rattle.eager_tree.specs.Visit.{visit, first_in, first_below}

abbrev pub is_within : Span → ℕ → Bool
is_within span offset = nat_le span.start offset && nat_lt offset (span.start + span.len)

abbrev pub on_span : Span → Kind → ℕ → Option Kind
on_span span kind offset = if is_within span offset then Some kind else None

-- an access reaches every node
abbrev pub access : Tree → Tag → Span → Kind → Option Violation × Tree
access t x span kind = visit (on_span span kind) (λ _. true) x t

-- a new node: the starting state everywhere, accessed on the span alone
abbrev pub new_cells : Perm → Span → ℕ → ℕ → List Cell
new_cells perm span offset zero = []
new_cells perm span offset (suc more) =
    record { perm = perm; accessed = is_within span offset } ∷ new_cells perm span (offset + 1) more

abbrev pub new_node : ℕ → Tag → Span → RetagKind → Guard → Tag → Node
new_node size parent span kind guard tag =
    record { tag = tag; parent = Some parent; guard = guard; cells = new_cells (starting kind guard) span 0 size }

abbrev pub with_node : Node → Option Violation × Tree → Option Violation × Tree
with_node node (None, t) = (None, record t { nodes = t.nodes ++ node ∷ [] })
with_node node (Some violation, t) = (Some violation, t)

-- a retag reads through the parent, and then adds a child of it
abbrev pub retag : Tree → Tag → Span → RetagKind → Guard → Tag → Option Violation × Tree
retag t parent span kind guard tag =
    with_node (new_node t.size parent span kind guard tag) (access t parent span Read)

abbrev pub kind_by : Perm → Option Kind
kind_by perm.Unique = Some Write
kind_by perm.Disabled = None
kind_by perm.Cell = None
kind_by _ = Some Read

-- the access that a protector's end makes at a byte, by the state of its node there
abbrev pub implicit_kind : Cell → Option Kind
implicit_kind cell = if cell.accessed then kind_by cell.perm else None

abbrev pub cell_at : List Node → Tag → ℕ → Option Cell
cell_at [] x offset = None
cell_at (node ∷ nodes) x offset = if node.tag.0 == x.0 then slice_get node.cells offset else cell_at nodes x offset

abbrev pub implicit_kinds : List Node → Tag → ℕ → Option Kind
implicit_kinds nodes x offset = option_and_then implicit_kind (cell_at nodes x offset)

-- y is no strict descendant of x
abbrev pub is_no_descendant : Links → Tag → Tag → Bool
is_no_descendant ls x y = x.0 == y.0 || not (is_on_path ls y x)

abbrev pub freed_guard : Tag → Node → Node
freed_guard x node = if node.tag.0 == x.0 then record node { guard = Free } else node

abbrev pub unguarded : Tag → Option Violation × Tree → Option Violation × Tree
unguarded x (None, t) = (None, record t { nodes = map (freed_guard x) t.nodes })
unguarded x (Some violation, t) = (Some violation, t)

abbrev pub end_protector : Tree → Tag → Option Violation × Tree
end_protector t x =
    unguarded x (visit (implicit_kinds t.nodes x) (is_no_descendant (links t.nodes) x) x t)

-- an accessed byte of a strongly guarded node
abbrev pub is_strong : Guard → Bool
is_strong Free = false
is_strong Weak = false
is_strong Strong = true

abbrev pub strong_at : ℕ → Node → Option Violation
strong_at offset node =
    option_and_then (λ cell. if is_strong node.guard && cell.accessed then Some (StrongFree offset node.tag cell.perm) else None)
    (slice_get node.cells offset)

abbrev pub strong_free : Tree → Option Violation
strong_free t = first_below (λ offset. first_in (strong_at offset) t.nodes) t.size

abbrev pub freed_unless : Option Violation → Tree → Option Violation × Tree → Option Violation × Tree
freed_unless held before (Some violation, t) = (Some violation, t)
freed_unless None before (None, t) = (None, t)
freed_unless (Some violation) before (None, t) = (Some violation, before)

-- free writes all bytes, and is refused where a strongly guarded node has an accessed byte
abbrev pub free_all : Tree → Tag → Option Violation × Tree
free_all t x = freed_unless (strong_free t) t (access t x (record { start = 0; len = t.size }) Write)
