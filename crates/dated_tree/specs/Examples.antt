-- Worked examples: a dated tree, and what the eager one is after the same steps.
use Rattle.std.specs.Prelude.{ℕ, true, false, Some, None, List, [], ◌∷◌}
use Rattle.bsan_ids.specs.declared.numbers.Tag.{Tag}
use Rattle.bsan_ids.specs.declared.numbers.Span.{Span}
use Rattle.range_map.specs.Ranges.{Ranges}
use Rattle.perm_table.specs.declared.Perm.{Perm}
use Rattle.perm_table.specs.declared.Perm.TheVariants.{Reserved, Unique}
use Rattle.perm_table.specs.declared.Guard.TheVariants.{Free, Weak}
use Rattle.perm_table.specs.declared.Kind.TheVariants.{Read, Write}
use Rattle.perm_table.specs.declared.RetagKind.TheVariants.{Mut}
use Rattle.eager_tree.specs.Tree.{Tree, new_tree}
use Rattle.eager_tree.specs.Steps as eager
use Rattle.dated_tree.specs.declared.node.Slot.{Slot}
use Rattle.dated_tree.specs.declared.node.Node.{Node}
use Rattle.dated_tree.specs.Shape.{Shape, no_room}

abbrev pub tag : ℕ → Tag
tag n = record { 0 = n }

abbrev pub bytes : ℕ → ℕ → Span
bytes start len = record { start = start; len = len }

-- a slot that met accesses and writes up to one date
abbrev pub met : Perm → ℕ → Slot
met perm date = record { perm = perm; accessed = true; met = record { access = date; write = date } }

abbrev pub node : ℕ → ℕ → List ℕ → Ranges Slot → Node
node n parent ends runs = record { tag = tag n; parent = parent; has_child = false; guard = Free; ends = ends; runs = runs }

abbrev pub single : {A : Type 0} → A → Ranges A
single x = record { bytes = x ∷ []; starts = 0 ∷ []; spare = 0 }

abbrev pub pair : {A : Type 0} → A → A → Ranges A
pair x y = record { bytes = x ∷ y ∷ []; starts = 0 ∷ 1 ∷ []; spare = 0 }

-- A loop of two calls: each reborrows both bytes (dates 1, 3) and writes the first one (dates 2, 4).
-- The second call visits the second node alone, by which the first one is Disabled at the byte.
abbrev pub after_calls : Shape
after_calls = record {
  root = tag 1;
  size = 2;
  nodes = node 2 0 [] (pair (met Unique 2) (met Reserved 1)) ∷ node 3 0 [] (pair (met Unique 4) (met Reserved 3)) ∷ [];
  guarded = [];
  accesses = pair 4 3;
  writes = pair 4 0;
  clock = 4;
  actor = Some (tag 3);
  visits = 0;
  room = no_room;
}

abbrev pub eager_call : ℕ → Tree → Tree
eager_call n t = (eager.access (eager.retag t (tag 1) (bytes 0 2) Mut Free (tag n)).1 (tag n) (bytes 0 1) Write).1

abbrev pub eager_calls : Tree
eager_calls = eager_call 3 (eager_call 2 (new_tree 2 (tag 1)))

-- A protected reborrow (date 1), one below it (date 2), a write through that (date 3), and the protector's
-- end, a write (date 4, noted): the node below doesn't meet it and stays Unique.
abbrev pub after_end : Shape
after_end = record {
  root = tag 1;
  size = 1;
  nodes = node 2 0 (4 ∷ []) (single (met Unique 3)) ∷ node 3 1 [] (single (met Unique 3)) ∷ [];
  guarded = [];
  accesses = single 4;
  writes = single 4;
  clock = 4;
  actor = None;
  visits = 0;
  room = no_room;
}

abbrev pub eager_reborrows : Tree
eager_reborrows =
    (eager.retag (eager.retag (new_tree 1 (tag 1)) (tag 1) (bytes 0 1) Mut Weak (tag 2)).1 (tag 2) (bytes 0 1) Mut Free (tag 3)).1

abbrev pub eager_end : Tree
eager_end = (eager.end_protector (eager.access eager_reborrows (tag 3) (bytes 0 1) Write).1 (tag 2)).1

-- A read through the root after that (date 5) is met by both, and the write at the end still by neither.
abbrev pub after_read : Shape
after_read = record after_end { accesses = single 5; clock = 5; actor = Some (tag 1) }

abbrev pub eager_read : Tree
eager_read = (eager.access eager_end (tag 1) (bytes 0 1) Read).1
