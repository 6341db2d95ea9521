-- The eager tree for which a tree with a new node stands.
use Rattle.std.proofs.Common.{◌≡◌, ℕ, zero, suc, ◌+◌, ◌-◌, ◌<◌, ◌≤◌, ◌⊎◌, inl, inr, ◌==◌, cond, nat_lt, List, [], ◌∷◌, ◌++◌, length, map, get_or, Some, refl, sym, ap, subst, ◌∙◌, arith, length-append}
use Rattle.std.proofs.Math.ListN.{get_or-append}
use Rattle.std.proofs.Math.Seq.{get_or-append_seam}
use Rattle.std.proofs.lemmas.Bool.{cases_lt, cases_eq, ne_eqb}
use Rattle.std.proofs.lemmas.List.{get_or_past}
use Rattle.std.proofs.lemmas.List.FromFn.{map-range_with_len_more}
use Rattle.std.specs.List.{range_with_len}
use Rattle.bsan_ids.specs.declared.numbers.Span.{Span}
use Rattle.bsan_ids.specs.declared.numbers.Tag.{Tag}
use Rattle.perm_table.specs.declared.Perm.{Perm}
use Rattle.perm_table.specs.declared.Guard.{Guard}
use Rattle.perm_table.specs.declared.RetagKind.{RetagKind}
use Rattle.perm_table.specs.Table.{starting}
use Rattle.eager_tree.specs.declared.node.Cell.{Cell}
use Rattle.eager_tree.specs.Tree.{Tree}
use Rattle.eager_tree.specs.Steps.{is_within, new_cells, new_node}
use Rattle.dated_tree.specs.declared.node.Node.{Node}
use Rattle.dated_tree.specs.Shape.{Shape, node_at, slot_at, no_node, no_slot}
use Rattle.dated_tree.specs.Dates.{last, seen_below, seen_within, seen}
use Rattle.dated_tree.specs.Eager.{eager_of, eager_node, eager_cell, cell_of, tag_at}
use Rattle.dated_tree.specs.Kept.{IsSound}
use Rattle.dated_tree.proofs.AccessLemmas.{seen-at-most}
use Rattle.dated_tree.proofs.EndedLemmas.{seen-up}
use Rattle.dated_tree.proofs.MeetLemmas.{not-later, none-off}
use Rattle.dated_tree.proofs.EagerLemmas.{root_node, eager_nodes, map-from, node-parts}
use Rattle.dated_nodes.specs.Added.{new_slot, IsChild, with_child}

-- the nodes at their places, and the new one after them
pub old-node : (nodes : List Node) (node : Node) (place : ℕ) → 1 ≤ place → place ≤ length nodes → node_at (nodes ++ node ∷ []) place ≡ node_at nodes place
old-node nodes node place some stored = get_or-append nodes (node ∷ []) no_node (place - 1) (omega (arith, some, stored))

pub last-node : (nodes : List Node) (node : Node) → node_at (nodes ++ node ∷ []) (length nodes + 1) ≡ node
last-node nodes node =
    ap (λ k. get_or (nodes ++ node ∷ []) k no_node) (let e : length nodes + 1 - 1 ≡ length nodes = omega arith in e)
    ∙ get_or-append_seam nodes node [] no_node

pub one-more : (nodes : List Node) (node : Node) → length (nodes ++ node ∷ []) ≡ length nodes + 1
one-more nodes node = length-append nodes (node ∷ [])

-- a place is an old one or the new one
pub old-or-new : (t : Shape) (node : Node) (place : ℕ) → place ≤ length (with_child node t).nodes → (place ≤ length t.nodes) ⊎ (place ≡ length t.nodes + 1)
old-or-new t node place stored =
    elim (cases_lt (length t.nodes) place) [
      | inl more ↦ inr (omega (arith, more, stored, one-more t.nodes node))
      | inr low ↦ inl low
    ]

pub old-slot : (t : Shape) (node : Node) (place b : ℕ) → 1 ≤ place → place ≤ length t.nodes → slot_at (with_child node t).nodes place b ≡ slot_at t.nodes place b
old-slot t node place b some stored = ap (λ (n : Node). get_or n.runs.bytes b no_slot) (old-node t.nodes node place some stored)

-- each node sees what it saw
within-kept : (more : ℕ) (t : Shape) (node : Node) (place b : ℕ) → IsSound t → place ≤ length t.nodes → seen_within more (with_child node t) place b ≡ seen_within more t place b
within-kept zero t node place b h stored = refl
within-kept (suc more) t node place b h stored =
    elim (cases_eq place 0) [
      | inl e ↦ rw e refl
      | inr ne ↦
          let some : 1 ≤ place = omega (arith, ne) in
          let before = (h.nodes place some stored).parent in
          ap (λ (n : Node). cond (place == 0) (last t b) (seen_below n.ends (get_or n.runs.bytes b no_slot).met (seen_within more (with_child node t) n.parent b))) (old-node t.nodes node place some stored)
          ∙ ap (λ d. cond (place == 0) (last t b) (seen_below (node_at t.nodes place).ends (slot_at t.nodes place b).met d)) (within-kept more t node (node_at t.nodes place).parent b h (omega (arith, before, stored)))
    ]

pub seen-kept : (t : Shape) (node : Node) (place b : ℕ) → IsSound t → place ≤ length t.nodes → seen (with_child node t) place b ≡ seen t place b
seen-kept t node place b h stored = within-kept place t node place b h stored

pub cell-kept : (t : Shape) (node : Node) (place b : ℕ) → IsSound t → 1 ≤ place → place ≤ length t.nodes → cell_of (with_child node t) place b ≡ cell_of t place b
cell-kept t node place b h some stored =
    ap (λ d. eager_cell d (slot_at (with_child node t).nodes place b)) (seen-kept t node place b h stored)
    ∙ ap (eager_cell (seen t place b)) (old-slot t node place b some stored)

pub tag-kept : (t : Shape) (node : Node) (place : ℕ) → place ≤ length t.nodes → tag_at (with_child node t) place ≡ tag_at t place
tag-kept t node place stored =
    elim (cases_eq place 0) [
      | inl e ↦ rw e refl
      | inr ne ↦ ap (λ (n : Node). cond (place == 0) t.root n.tag) (old-node t.nodes node place (omega (arith, ne)) stored)
    ]

-- what the last node keeps
pub last-tag : (t : Shape) (node : Node) → tag_at (with_child node t) (length t.nodes + 1) ≡ node.tag
last-tag t node =
    ap (λ b. cond b t.root (node_at (t.nodes ++ node ∷ []) (length t.nodes + 1)).tag) (ne_eqb (length t.nodes + 1) 0 (λ e. omega (arith, e)))
    ∙ ap (λ (n : Node). n.tag) (last-node t.nodes node)

pub parents-before : (t : Shape) (x : ℕ) (node : Node) → IsSound t → x ≤ length t.nodes → node.parent ≡ x → (p : ℕ) → 1 ≤ p → (node_at (with_child node t).nodes p).parent < p
parents-before t x node h low e p some =
    elim (cases_lt (length t.nodes) p) [
      | inr stored ↦ subst (λ (n : Node). n.parent < p) (sym (old-node t.nodes node p some stored)) (h.nodes p some stored).parent
      | inl more ↦ elim (cases_eq p (length t.nodes + 1)) [
        | inl same ↦
            let here : (node_at (with_child node t).nodes p).parent ≡ x = ap (λ q. (node_at (with_child node t).nodes q).parent) same ∙ ap (λ (n : Node). n.parent) (last-node t.nodes node) ∙ e in
            omega (arith, here, low, more)
        | inr other ↦
            let past : (node_at (with_child node t).nodes p).parent ≡ 0 = ap (λ (n : Node). n.parent) (get_or_past (with_child node t).nodes (p - 1) no_node (omega (arith, other, more, one-more t.nodes node))) in
            omega (arith, past, some)
      ]
    ]

-- the new node sees what its parent sees
pub last-seen : (t : Shape) (x : ℕ) (span : Span) (kind : RetagKind) (guard : Guard) (tag : Tag) (node : Node) (b : ℕ) → IsSound t → x ≤ length t.nodes → IsChild t x span kind guard tag node → seen (with_child node t) (length t.nodes + 1) b ≡ seen t x b
last-seen t x span kind guard tag node b h low c =
    seen-up (length t.nodes + 1) b (with_child node t) (parents-before t x node h low c.parent_is) (omega arith)
    ∙ ap (λ (n : Node). seen_below n.ends (get_or n.runs.bytes b no_slot).met (seen (with_child node t) n.parent b)) (last-node t.nodes node)
    ∙ ap (λ l. seen_below l (get_or node.runs.bytes b no_slot).met (seen (with_child node t) node.parent b)) c.ends_are
    ∙ ap (λ p. seen (with_child node t) p b) c.parent_is
    ∙ seen-kept t node x b h low

pub last-slot : (t : Shape) (x : ℕ) (span : Span) (kind : RetagKind) (guard : Guard) (tag : Tag) (node : Node) (b : ℕ) → b < t.size → IsChild t x span kind guard tag node → slot_at (with_child node t).nodes (length t.nodes + 1) b ≡ new_slot kind guard span t.clock b
last-slot t x span kind guard tag node b in_size c = ap (λ (n : Node). get_or n.runs.bytes b no_slot) (last-node t.nodes node) ∙ c.slots b in_size

-- it has met all that there was, and begins as the table says
pub last-cell : (t : Shape) (x : ℕ) (span : Span) (kind : RetagKind) (guard : Guard) (tag : Tag) (node : Node) (b : ℕ) → IsSound t → x ≤ length t.nodes → b < t.size → IsChild t x span kind guard tag node →
    cell_of (with_child node t) (length t.nodes + 1) b ≡ record { perm = starting kind guard; accessed = is_within span b }
last-cell t x span kind guard tag node b h low in_size c =
    let by = seen-at-most t x b h low in_size in
    ap (λ d. eager_cell d (slot_at (with_child node t).nodes (length t.nodes + 1) b)) (last-seen t x span kind guard tag node b h low c)
    ∙ ap (eager_cell (seen t x b)) (last-slot t x span kind guard tag node b in_size c)
    ∙ ap (λ p. (let s : Cell = record { perm = p; accessed = is_within span b } in s))
    (none-off (nat_lt t.clock (seen t x b).access) (nat_lt t.clock (seen t x b).write) (starting kind guard) (not-later t.clock (seen t x b).access by.access) (not-later t.clock (seen t x b).write by.write))

cells-new : (f : ℕ → Cell) (perm : Perm) (span : Span) (a n : ℕ) → ((b : ℕ) → b < a + n → f b ≡ record { perm = perm; accessed = is_within span b }) → map f (range_with_len a n) ≡ new_cells perm span a n
cells-new f perm span a zero h = refl
cells-new f perm span a (suc n) h =
    ap (λ c. c ∷ map f (range_with_len (a + 1) n)) (h a (omega arith))
    ∙ ap (λ cs. (let c : Cell = record { perm = perm; accessed = is_within span a } in c) ∷ cs) (cells-new f perm span (a + 1) n (λ b lt. h b (omega (arith, lt))))

-- each node stands for the one for which it stood, and the new one for the retag's
eager-kept : (t : Shape) (node : Node) (place : ℕ) → IsSound t → 1 ≤ place → place ≤ length t.nodes → eager_node (with_child node t) place ≡ eager_node t place
eager-kept t node place h some stored =
    let same = old-node t.nodes node place some stored in
    let before = (h.nodes place some stored).parent in
    node-parts (eager_node (with_child node t) place) (eager_node t place)
    (tag-kept t node place stored)
    (ap (λ (n : Node). Some (tag_at (with_child node t) n.parent)) same ∙ ap (λ g. Some g) (tag-kept t node (node_at t.nodes place).parent (omega (arith, before, stored))))
    (ap (λ (n : Node). n.guard) same)
    (map-from (cell_of t place) (cell_of (with_child node t) place) 0 t.size (λ b low lt. cell-kept t node place b h some stored))

eager-last : (t : Shape) (x : ℕ) (span : Span) (kind : RetagKind) (guard : Guard) (tag : Tag) (node : Node) → IsSound t → x ≤ length t.nodes → IsChild t x span kind guard tag node → eager_node (with_child node t) (length t.nodes + 1) ≡ new_node t.size (tag_at t x) span kind guard tag
eager-last t x span kind guard tag node h low c =
    node-parts (eager_node (with_child node t) (length t.nodes + 1)) (new_node t.size (tag_at t x) span kind guard tag)
    (last-tag t node ∙ c.tag_is)
    (ap (λ (n : Node). Some (tag_at (with_child node t) n.parent)) (last-node t.nodes node) ∙ ap (λ p. Some (tag_at (with_child node t) p)) c.parent_is ∙ ap (λ g. Some g) (tag-kept t node x low))
    (ap (λ (n : Node). n.guard) (last-node t.nodes node) ∙ c.guard_is)
    (cells-new (cell_of (with_child node t) (length t.nodes + 1)) (starting kind guard) span 0 t.size (λ b lt. last-cell t x span kind guard tag node b h low (omega (arith, lt)) c))

pub eager-added : (t : Shape) (x : ℕ) (span : Span) (kind : RetagKind) (guard : Guard) (tag : Tag) (node : Node) → IsSound t → x ≤ length t.nodes → IsChild t x span kind guard tag node → eager_nodes (with_child node t) ≡ eager_nodes t ++ new_node t.size (tag_at t x) span kind guard tag ∷ []
eager-added t x span kind guard tag node h low c =
    ap (λ n. root_node t.root t.size ∷ map (eager_node (with_child node t)) (range_with_len 1 n)) (one-more t.nodes node)
    ∙ ap (λ ns. root_node t.root t.size ∷ ns)
    (map-range_with_len_more (eager_node (with_child node t)) 1 (length t.nodes) (length t.nodes + 1) (omega arith)
    ∙ ap (λ ns. ns ++ eager_node (with_child node t) (length t.nodes + 1) ∷ []) (map-from (eager_node t) (eager_node (with_child node t)) 1 (length t.nodes) (λ i some lt. eager-kept t node i h some (omega (arith, lt))))
    ∙ ap (λ n. map (eager_node t) (range_with_len 1 (length t.nodes)) ++ n ∷ []) (eager-last t x span kind guard tag node h low c))

pub tree-added : (t : Shape) (x : ℕ) (span : Span) (kind : RetagKind) (guard : Guard) (tag : Tag) (node : Node) → IsSound t → x ≤ length t.nodes → IsChild t x span kind guard tag node → eager_of (with_child node t) ≡ record (eager_of t) { nodes = (eager_of t).nodes ++ new_node t.size (tag_at t x) span kind guard tag ∷ [] }
tree-added t x span kind guard tag node h low c = ap (λ ns. (let r : Tree = record { size = t.size; nodes = ns } in r)) (eager-added t x span kind guard tag node h low c)
