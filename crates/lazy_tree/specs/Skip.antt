-- Skip levels: what a foreign access may pass over.
use Rattle.std.specs.Prelude.{◌≡◌, ℕ, ◌+◌, ◌-◌, ◌^◌, min, ◌<◌, ◌≤◌, ◌⊎◌, List, [], ◌∷◌, ◌++◌, length, Bool, true, false, Option, Some, None, slice_index_or, slice_set, replicate, MatchOption, IsTrue, IsFalse, nat_le, if◌then◌else◌}
use Rattle.std.specs.Option.{option_map_or}
use Rattle.bsan_ids.specs.declared.numbers.Tag.{Tag}
use Rattle.bsan_ids.specs.declared.numbers.Span.{Span}
use Rattle.range_map.specs.Ranges.{Ranges, has_start, next_start, overwrite}
use Rattle.perm_table.specs.declared.Perm.{Perm}
use Rattle.perm_table.specs.declared.Perm.TheVariants.{Reserved, Conflicted, CellReserved, Unique, Frozen, Disabled, Cell}
use Rattle.perm_table.specs.declared.Guard.{Guard}
use Rattle.perm_table.specs.declared.Guard.TheVariants.{Free}
use Rattle.perm_table.specs.declared.Kind.{Kind}
use Rattle.perm_table.specs.declared.Kind.TheVariants.{Read, Write}
use Rattle.lazy_tree.specs.declared.slot.Level.{Level}
use Rattle.lazy_tree.specs.declared.slot.Level.TheVariants.{Nothing, Reads, Writes}
use Rattle.lazy_tree.specs.declared.slot.Slot.{Slot}
use Rattle.lazy_tree.specs.declared.tree.Node.{Node}
use Rattle.lazy_tree.specs.Shape.{Shape}
use Rattle.lazy_tree.specs.Order.{next_among, after_among}

abbrev pub rank : Level → ℕ
rank Nothing = 0
rank Reads = 1
rank Writes = 2

abbrev pub lesser : Level → Level → Level
lesser a b = if nat_le (rank a) (rank b) then a else b

-- the rank that a level needs to cover a foreign access
abbrev pub need : Kind → ℕ
need Read = 1
need Write = 2

-- the greatest rank at which no covered foreign access changes this state or is denied at it
abbrev pub own_rank : Perm → Guard → ℕ
own_rank Reserved Free = 1
own_rank Reserved _ = 0
own_rank Conflicted _ = 1
own_rank CellReserved _ = 2
own_rank Cell _ = 2
own_rank Unique _ = 0
own_rank Frozen _ = 1
own_rank Disabled _ = 2

abbrev pub no_slot : Slot
no_slot = record { perm = Disabled; accessed = false; level = Nothing }

abbrev pub no_node : Node
no_node = record { tag = record { 0 = 0 }; parent = None; next = None; after = None; guard = Free; runs = record { bytes = []; starts = []; spare = 0 } }

abbrev pub node_at : List Node → ℕ → Node
node_at nodes i = slice_index_or nodes i no_node

abbrev pub slot_at : List Node → ℕ → ℕ → Slot
slot_at nodes i b = slice_index_or (node_at nodes i).runs.bytes b no_slot

-- the parent of a node by its place in the list, and 0 of the root
abbrev pub above : List Node → ℕ → ℕ
above nodes i = option_map_or (λ p. p) (node_at nodes i).parent 0

-- the last place in the list
abbrev pub last_of : List Node → ℕ
last_of nodes = length nodes - 1

-- A level says no more than its node's own state and the levels of its children.
pub record KeepsSkip (size : ℕ) (nodes : List Node) : Type 0 where
  pub own : (i b : ℕ) → i < length nodes → b < size → rank (slot_at nodes i b).level ≤ own_rank (slot_at nodes i b).perm (node_at nodes i).guard
  pub above : (i p b : ℕ) → i < length nodes → b < size → (node_at nodes i).parent ≡ Some p → rank (slot_at nodes p b).level ≤ rank (slot_at nodes i b).level

-- the root alone has no parent, each other node's comes before it, and the links give the walk's order
pub record IsLinked (nodes : List Node) : Type 0 where
  pub root : (node_at nodes 0).parent ≡ None
  pub parents : (i : ℕ) → 1 ≤ i → i < length nodes → (node_at nodes i).parent ≡ Some (above nodes i)
  pub before : (i : ℕ) → 1 ≤ i → i < length nodes → above nodes i < i
  pub next : (i : ℕ) → i < length nodes → (node_at nodes i).next ≡ next_among (above nodes) (last_of nodes) i
  pub after : (i : ℕ) → i < length nodes → (node_at nodes i).after ≡ after_among (above nodes) (last_of nodes) i

pub record IsSound (size : ℕ) (nodes : List Node) : Type 0 where
  pub sizes : (i : ℕ) → i < length nodes → length (node_at nodes i).runs.bytes ≡ size
  pub rising : (i j : ℕ) → i < j → j < length nodes → (node_at nodes i).tag.0 < (node_at nodes j).tag.0
  pub linked : IsLinked nodes
  pub skip : KeepsSkip size nodes

-- the same nodes, whatever their guards and runs
pub record SameLinks (before after : List Node) : Type 0 where
  pub count : length after ≡ length before
  pub tag : (j : ℕ) → (node_at after j).tag ≡ (node_at before j).tag
  pub parent : (j : ℕ) → (node_at after j).parent ≡ (node_at before j).parent
  pub next : (j : ℕ) → (node_at after j).next ≡ (node_at before j).next
  pub past : (j : ℕ) → (node_at after j).after ≡ (node_at before j).after

-- where the run of node `i` that has byte `at` ends
abbrev pub run_after : List Node → ℕ → ℕ → ℕ
run_after nodes i at = next_start (length (node_at nodes i).runs.bytes) at (node_at nodes i).runs.starts

-- the nodes, with other runs at node `i`
abbrev pub with_runs : List Node → ℕ → Ranges Slot → List Node
with_runs nodes i runs = slice_set nodes i (record (node_at nodes i) { runs = runs })

-- the nodes, where the run of node `i` that begins at `at` has the slot
abbrev pub put_in : List Node → ℕ → ℕ → Slot → List Node
put_in nodes i at slot =
    with_runs nodes i (record (node_at nodes i).runs { bytes = overwrite at (run_after nodes i at) slot (node_at nodes i).runs.bytes })

-- the slot may be given to the bytes of node `i` from `at` to before `end`
pub record MayPut (nodes : List Node) (i at end : ℕ) (slot : Slot) : Type 0 where
  pub own : rank slot.level ≤ own_rank slot.perm (node_at nodes i).guard
  pub parent : (p b : ℕ) → at ≤ b → b < end → (node_at nodes i).parent ≡ Some p → rank (slot_at nodes p b).level ≤ rank slot.level
  pub children : (c b : ℕ) → c < length nodes → at ≤ b → b < end → (node_at nodes c).parent ≡ Some i → rank slot.level ≤ rank (slot_at nodes c b).level

-- the nodes, where node `i` has no guard
abbrev pub with_free : List Node → ℕ → List Node
with_free nodes i = slice_set nodes i (record (node_at nodes i) { guard = Free })

-- the root that the first retag stores
abbrev pub root_node : Tag → Ranges Slot → Node
root_node root runs = record { tag = root; parent = None; next = None; after = None; guard = Free; runs = runs }

-- a new child, which comes directly after its parent
abbrev pub child_node : List Node → ℕ → Tag → Guard → Ranges Slot → Node
child_node nodes p tag guard runs = record { tag = tag; parent = Some p; next = (node_at nodes p).next; after = (node_at nodes p).next; guard = guard; runs = runs }

abbrev pub with_child : List Node → ℕ → Tag → Guard → Ranges Slot → List Node
with_child nodes p tag guard runs =
    slice_set nodes p (record (node_at nodes p) { next = Some (length nodes) }) ++ child_node nodes p tag guard runs ∷ []

-- runs that a new child of node `p` may have
pub record MayAdd (size : ℕ) (nodes : List Node) (p : ℕ) (guard : Guard) (runs : Ranges Slot) : Type 0 where
  pub sized : length runs.bytes ≡ size
  pub own : (b : ℕ) → b < size → rank (slice_index_or runs.bytes b no_slot).level ≤ own_rank (slice_index_or runs.bytes b no_slot).perm guard
  pub parent : (b : ℕ) → b < size → rank (slot_at nodes p b).level ≤ rank (slice_index_or runs.bytes b no_slot).level

-- the root alone is stored, with a state in which it may do all
abbrev pub root_slot : Slot
root_slot = record { perm = Unique; accessed = true; level = Nothing }

pub record IsRootAlone (root : Tag) (size : ℕ) (nodes : List Node) : Type 0 where
  pub alone : nodes ≡ root_node root (node_at nodes 0).runs ∷ []
  pub bytes : (node_at nodes 0).runs.bytes ≡ replicate size root_slot
  pub starts : (node_at nodes 0).runs.starts ≡ 0 ∷ []

-- runs begin at the first byte and at the ends of the span alone
abbrev pub BeginsAt : Span → List ℕ → Type 0
BeginsAt span starts = (s : ℕ) → IsTrue (has_start s starts) → (s ≡ 0) ⊎ ((s ≡ span.start) ⊎ (s ≡ span.start + span.len))

-- the runs of a new child: one slot on the span and another elsewhere
pub record IsReadyChild (size : ℕ) (fresh touched : Slot) (span : Span) (runs : Ranges Slot) : Type 0 where
  pub bytes : runs.bytes ≡ overwrite span.start (span.start + span.len) touched (replicate size fresh)
  pub starts : BeginsAt span runs.starts

abbrev pub IsReady : ℕ → Slot → Slot → Span → Option (Ranges Slot) → Type 0
IsReady size fresh touched span made = MatchOption made ⊥ (IsReadyChild size fresh touched span)

-- the counter stops at its greatest value
abbrev pub counted : Shape → Shape
counted t = record t { visits = min (t.visits + 1) (2 ^ 64 - 1) }

abbrev pub bool_at : List Bool → ℕ → Bool
bool_at bs i = slice_index_or bs i true

-- no mark is set
abbrev pub IsClear : List Bool → Type 0
IsClear marks = (i : ℕ) → i < length marks → IsFalse (bool_at marks i)
