-- A new child, in the eager tree's words.
use Rattle.std.proofs.Common.{◌≡◌, ℕ, zero, suc, ◌+◌, ◌<◌, ◌≤◌, Bool, true, false, List, [], ◌∷◌, ◌++◌, length, length-append, map, get_or, All, Option, Some, None, MatchOption, IfSome, refl, sym, ap, subst, ◌∙◌, arith, inl, inr}
use Rattle.std.proofs.lemmas.Bool.{cases_lt}
use Rattle.std.proofs.lemmas.List.{get_or-map, length-map, ext_get_or, get_or_append_left}
use Rattle.std.proofs.Math.Seq.{get_or-append_seam}
use Rattle.std.specs.Option.{option_map}
use Rattle.bsan_ids.specs.declared.numbers.Tag.{Tag}
use Rattle.bsan_ids.specs.declared.numbers.Span.{Span}
use Rattle.range_map.specs.Ranges.{Ranges}
use Rattle.perm_table.specs.declared.Perm.{Perm}
use Rattle.perm_table.specs.declared.Guard.{Guard}
use Rattle.perm_table.specs.declared.RetagKind.{RetagKind}
use Rattle.perm_table.specs.declared.Kind.TheVariants.{Read}
use Rattle.eager_tree.specs.declared.violation.Violation.{Violation}
use Rattle.perm_table.specs.Table.{starting}
use Rattle.eager_tree.specs.declared.node.Cell.{Cell}
use Rattle.eager_tree.specs.declared.node.Node.{Node as Eager}
use Rattle.eager_tree.specs.Tree.{Tree}
use Rattle.eager_tree.specs.Steps.{access, retag, is_within, new_cells, new_node, with_node}
use Rattle.eager_tree.proofs.Trees.{length-new_cells}
use Rattle.lazy_tree.specs.declared.slot.Slot.{Slot}
use Rattle.lazy_tree.specs.declared.slot.Level.{Level}
use Rattle.lazy_tree.specs.declared.tree.Node.{Node}
use Rattle.lazy_tree.specs.Skip.{node_at, slot_at, no_node, no_slot, rank, own_rank, IsSound, MayAdd, with_child}
use Rattle.lazy_tree.specs.Eager.{eager_cell, eager_node, eager_nodes, eager_with}
use Rattle.lazy_tree.proofs.SkipLemmas.{parent-before}
use Rattle.lazy_tree.proofs.Adding.{length-with_child, child-at, old-part}
use Rattle.lazy_access.specs.Change.{IsLowered}
use Rattle.lazy_access.specs.Requests.{local_in, IsFreshSlot, IsChild}
use Rattle.lazy_access.proofs.Places.{under-itself, place-within}
use Rattle.lazy_access.proofs.Lowering.{lesser-two}
use Rattle.lazy_access.proofs.Ties.{eager_with-some, eager-under, node-parts, cells-same, parents-same, length-eager, eager_at}

get_or-new_cells : (perm : Perm) (span : Span) (from n k : ℕ) (d : Cell) → k < n → get_or (new_cells perm span from n) k d ≡ (let c : Cell = record { perm = perm; accessed = is_within span (from + k) } in c)
get_or-new_cells perm span from zero k d lt = absurd (omega arith)
get_or-new_cells perm span from (suc n) zero d lt = ap (λ b. (let c : Cell = record { perm = perm; accessed = is_within span b } in c)) (let e : from ≡ from + 0 = omega arith in e)
get_or-new_cells perm span from (suc n) (suc k) d lt =
    get_or-new_cells perm span (from + 1) n k d (omega (arith, lt))
    ∙ ap (λ b. (let c : Cell = record { perm = perm; accessed = is_within span b } in c)) (let e : from + 1 + k ≡ from + suc k = omega arith in e)

fresh-cell : (kind : RetagKind) (guard : Guard) (accessed : Bool) (slot : Slot) → IsFreshSlot kind guard accessed slot → eager_cell slot ≡ (let c : Cell = record { perm = starting kind guard; accessed = accessed } in c)
fresh-cell kind guard accessed slot h =
    ap (λ p. (let c : Cell = record { perm = p; accessed = slot.accessed } in c)) h.0 ∙ ap (λ a. (let c : Cell = record { perm = starting kind guard; accessed = a } in c)) h.1

child-cells : (size : ℕ) (span : Span) (kind : RetagKind) (guard : Guard) (runs : Ranges Slot) → IsChild size span kind guard runs → map eager_cell runs.bytes ≡ new_cells (starting kind guard) span 0 size
child-cells size span kind guard runs h =
    let long : length (map eager_cell runs.bytes) ≡ size = length-map runs.bytes eager_cell ∙ h.sized in
    ext_get_or (eager_cell no_slot) (map eager_cell runs.bytes) (new_cells (starting kind guard) span 0 size) (long ∙ sym (length-new_cells (starting kind guard) span 0 size))
    (λ b lt.
    let inside : b < size = omega (arith, lt, long) in
    get_or-map eager_cell runs.bytes b no_slot (eager_cell no_slot) (let s = h.sized in omega (arith, inside, s))
    ∙ fresh-cell kind guard (is_within span b) (get_or runs.bytes b no_slot) (h.slots b inside)
    ∙ ap (λ k. (let c : Cell = record { perm = starting kind guard; accessed = is_within span k } in c)) (let e : b ≡ 0 + b = omega arith in e)
    ∙ sym (get_or-new_cells (starting kind guard) span 0 size b (eager_cell no_slot) inside))

default-same : (xs : List Eager) (i : ℕ) (d e : Eager) → i < length xs → get_or xs i d ≡ get_or xs i e
default-same [] i d e lt = absurd (omega arith)
default-same (x ∷ xs) zero d e lt = refl
default-same (x ∷ xs) (suc i) d e lt = default-same xs i d e (omega (arith, lt))

-- the parent's tag stays where the tags of the old nodes do
parent-tags : (size : ℕ) (nodes next : List Node) (i : ℕ) (o : Option ℕ) → IsSound size nodes → i < length nodes → o ≡ (node_at nodes i).parent → ((q : ℕ) → q < length nodes → (node_at next q).tag ≡ (node_at nodes q).tag) → option_map (λ q. (node_at next q).tag) o ≡ option_map (λ q. (node_at nodes q).tag) o
parent-tags size nodes next i None h lt e same = refl
parent-tags size nodes next i (Some q) h lt e same = ap (λ t. Some t) (same q (let before = (parent-before size nodes i q h lt (sym e)).1 in omega (arith, before, lt)))

-- an old node stands for the same eager node
old-eager : (size : ℕ) (nodes : List Node) (p : ℕ) (tag : Tag) (guard : Guard) (runs : Ranges Slot) (i : ℕ) → IsSound size nodes → p < length nodes → i < length nodes → eager_node (with_child nodes p tag guard runs) (node_at (with_child nodes p tag guard runs) i) ≡ eager_node nodes (node_at nodes i)
old-eager size nodes p tag guard runs i h inside lt =
    node-parts (eager_node (with_child nodes p tag guard runs) (node_at (with_child nodes p tag guard runs) i)) (eager_node nodes (node_at nodes i))
    (old-part (λ (n : Node). n.tag) nodes p tag guard runs i inside lt refl)
    (ap (option_map (λ q. (node_at (with_child nodes p tag guard runs) q).tag)) (old-part (λ (n : Node). n.parent) nodes p tag guard runs i inside lt refl)
    ∙ parent-tags size nodes (with_child nodes p tag guard runs) i (node_at nodes i).parent h lt refl (λ q low. old-part (λ (n : Node). n.tag) nodes p tag guard runs q inside low refl))
    (old-part (λ (n : Node). n.guard) nodes p tag guard runs i inside lt refl)
    (ap (map eager_cell) (old-part (λ (n : Node). n.runs.bytes) nodes p tag guard runs i inside lt refl))

new-eager : (size : ℕ) (nodes : List Node) (p : ℕ) (tag : Tag) (span : Span) (kind : RetagKind) (guard : Guard) (runs : Ranges Slot) (i : ℕ) → p < length nodes → i ≡ length nodes → IsChild size span kind guard runs → eager_node (with_child nodes p tag guard runs) (node_at (with_child nodes p tag guard runs) i) ≡ new_node size (node_at nodes p).tag span kind guard tag
new-eager size nodes p tag span kind guard runs i inside e child =
    ap (eager_node (with_child nodes p tag guard runs)) (child-at nodes p tag guard runs i e)
    ∙ ap (λ (t : Tag). (let n : Eager = record { tag = tag; parent = Some t; guard = guard; cells = map eager_cell runs.bytes } in n)) (old-part (λ (n : Node). n.tag) nodes p tag guard runs p inside inside refl)
    ∙ ap (λ cells. (let n : Eager = record { tag = tag; parent = Some (node_at nodes p).tag; guard = guard; cells = cells } in n)) (child-cells size span kind guard runs child)

pub nodes-child : (size : ℕ) (nodes : List Node) (p : ℕ) (tag : Tag) (span : Span) (kind : RetagKind) (guard : Guard) (runs : Ranges Slot) → IsSound size nodes → p < length nodes → IsChild size span kind guard runs → eager_nodes (with_child nodes p tag guard runs) ≡ eager_nodes nodes ++ new_node size (node_at nodes p).tag span kind guard tag ∷ []
nodes-child size nodes p tag span kind guard runs h inside child =
    let next : List Node = with_child nodes p tag guard runs in
    let long : length (eager_nodes next) ≡ length nodes + 1 = length-eager next ∙ length-with_child nodes p tag guard runs in
    let old : length (eager_nodes nodes) ≡ length nodes = length-eager nodes in
    let both : length (eager_nodes nodes ++ new_node size (node_at nodes p).tag span kind guard tag ∷ []) ≡ length nodes + 1 = length-append (eager_nodes nodes) (new_node size (node_at nodes p).tag span kind guard tag ∷ []) ∙ ap (λ n. n + 1) old in
    ext_get_or (eager_node next no_node) (eager_nodes next) (eager_nodes nodes ++ new_node size (node_at nodes p).tag span kind guard tag ∷ []) (long ∙ sym both)
    (λ i lt. elim (cases_lt i (length nodes)) [
      | inl low ↦
          eager_at next i (omega (arith, low, length-with_child nodes p tag guard runs))
          ∙ old-eager size nodes p tag guard runs i h inside low ∙ sym (eager_at nodes i low)
          ∙ default-same (eager_nodes nodes) i (eager_node nodes no_node) (eager_node next no_node) (omega (arith, low, old))
          ∙ sym (get_or_append_left (eager_nodes nodes) (new_node size (node_at nodes p).tag span kind guard tag ∷ []) (eager_node next no_node) i (omega (arith, low, old)))
      | inr last ↦
          let e : i ≡ length nodes = omega (arith, last, lt, long) in
          eager_at next i (omega (arith, lt, long, length-with_child nodes p tag guard runs))
          ∙ new-eager size nodes p tag span kind guard runs i inside e child
          ∙ sym (ap (λ k. get_or (eager_nodes nodes ++ new_node size (node_at nodes p).tag span kind guard tag ∷ []) k (eager_node next no_node)) (e ∙ sym old) ∙ get_or-append_seam (eager_nodes nodes) (new_node size (node_at nodes p).tag span kind guard tag) [] (eager_node next no_node))
    ])

-- lowered levels stand for the same nodes
lowered-cell : (size : ℕ) (before now : List Node) (path : ℕ → Bool) (level : Level) (i b : ℕ) → IsSound size before → IsLowered size before now path level (length before) → i < length before → b < size → eager_cell (slot_at now i b) ≡ eager_cell (slot_at before i b)
lowered-cell size before now path level i b h l lt in_size =
    elim (path i) as (λ on. on ≡ path i → eager_cell (slot_at now i b) ≡ eager_cell (slot_at before i b)) [
      | true ↦ λ e. ap eager_cell (l.done i b lt in_size (place-within before i h.linked lt) (sym e))
      | false ↦ λ e. ap eager_cell (l.foreign i b lt in_size (sym e))
    ] refl

pub nodes-lowered : (size : ℕ) (before now : List Node) (path : ℕ → Bool) (level : Level) → IsSound size before → IsSound size now → IsLowered size before now path level (length before) → eager_nodes now ≡ eager_nodes before
nodes-lowered size before now path level was is l =
    ext_get_or (eager_node now no_node) (eager_nodes now) (eager_nodes before) (length-eager now ∙ l.links.count ∙ sym (length-eager before))
    (λ i lt.
    let low : i < length before = (let c = l.links.count in omega (arith, lt, length-eager now, c)) in
    eager_at now i (let c = l.links.count in omega (arith, low, c))
    ∙ node-parts (eager_node now (node_at now i)) (eager_node before (node_at before i)) (l.links.tag i)
    (ap (option_map (λ p. (node_at now p).tag)) (l.links.parent i) ∙ parents-same (λ p. (node_at now p).tag) (λ p. (node_at before p).tag) l.links.tag (node_at before i).parent)
    (l.guard i)
    (cells-same size (node_at before i).runs.bytes (node_at now i).runs.bytes (was.sizes i low) (is.sizes i (let c = l.links.count in omega (arith, low, c))) (λ b in_size. lowered-cell size before now path level i b was l low in_size))
    ∙ sym (eager_at before i low)
    ∙ default-same (eager_nodes before) i (eager_node before no_node) (eager_node now no_node) (omega (arith, low, length-eager before)))

pub may-add : (size : ℕ) (before now : List Node) (x : ℕ) (span : Span) (kind : RetagKind) (guard : Guard) (level : Level) (runs : Ranges Slot) → IsSound size before → x < length before → IsLowered size before now (local_in before x) level (length before) → IsChild size span kind guard runs → rank level ≡ own_rank (starting kind guard) guard → MayAdd size now x guard runs
may-add size before now x span kind guard level runs h lt l child e = record {
  sized = child.sized;
  own = λ b in_size. (let s = child.slots b in_size in rw s.0 (let r = s.2 in omega (arith, r)));
  parent = λ b in_size.
      let s = child.slots b in_size in
      let on : local_in before x x ≡ true = eager-under size before x x h lt lt (under-itself before x h.linked lt) in
      let low : rank (slot_at now x b).level ≤ rank level = subst (λ (t : Slot). rank t.level ≤ rank level) (sym (l.done x b lt in_size (place-within before x h.linked lt) on)) (lesser-two (slot_at before x b).level level) in
      (let r = s.2 in omega (arith, low, e, r));
}

pub retag-done : (root : Tag) (size : ℕ) (before mid now after : List Node) (x : ℕ) (parent tag : Tag) (span : Span) (kind : RetagKind) (guard : Guard) (runs : Ranges Slot) → 1 ≤ length mid → 1 ≤ length after → IsSound size now → x < length now → (node_at now x).tag ≡ parent → eager_nodes now ≡ eager_nodes mid → IsChild size span kind guard runs → after ≡ with_child now x tag guard runs →
    (eager_with root size before).size ≡ size →
    (let p : Option Violation × Tree = (None, eager_with root size mid) in p) ≡ access (eager_with root size before) parent span Read →
    (let p : Option Violation × Tree = (None, eager_with root size after) in p) ≡ retag (eager_with root size before) parent span kind guard tag
retag-done root size before mid now after x parent tag span kind guard runs some more h lt e same child made sized done =
    ap (λ (t : Tree). (let p : Option Violation × Tree = (None, t) in p)) (eager_with-some root size after more)
    ∙ ap (λ ns. (let p : Option Violation × Tree = (None, record { size = size; nodes = ns }) in p))
    (ap eager_nodes made ∙ nodes-child size now x tag span kind guard runs h lt child
    ∙ ap (λ (t : Tag). eager_nodes now ++ new_node size t span kind guard tag ∷ []) e ∙ ap (λ ns. ns ++ new_node size parent span kind guard tag ∷ []) same)
    ∙ ap (λ (t : Tree). (let p : Option Violation × Tree = (None, record t { nodes = t.nodes ++ new_node size parent span kind guard tag ∷ [] }) in p)) (sym (eager_with-some root size mid some))
    ∙ ap (with_node (new_node size parent span kind guard tag)) done
    ∙ ap (λ n. with_node (new_node n parent span kind guard tag) (access (eager_with root size before) parent span Read)) (sym sized)

pub retag-denied : (t : Tree) (after : Tree) (parent tag : Tag) (span : Span) (kind : RetagKind) (guard : Guard) (v : Violation) → (let p : Option Violation × Tree = (Some v, after) in p) ≡ access t parent span Read → (let p : Option Violation × Tree = (Some v, after) in p) ≡ retag t parent span kind guard tag
retag-denied t after parent tag span kind guard v denied = ap (with_node (new_node t.size parent span kind guard tag)) denied

pub eager-size : (root : Tag) (size : ℕ) (nodes : List Node) → (eager_with root size nodes).size ≡ size
eager-size root size [] = refl
eager-size root size (n ∷ ns) = refl

pub retag-end : (root : Tag) (size : ℕ) (before mid now after : List Node) (x : ℕ) (parent tag : Tag) (span : Span) (kind : RetagKind) (guard : Guard) (made : Option (Ranges Slot)) → 1 ≤ length mid → IsSound size now → x < length now → (node_at now x).tag ≡ parent → eager_nodes now ≡ eager_nodes mid → MatchOption made ⊥ (IsChild size span kind guard) → IfSome made (λ runs. after ≡ with_child now x tag guard runs) →
    (let p : Option Violation × Tree = (None, eager_with root size mid) in p) ≡ access (eager_with root size before) parent span Read →
    (let p : Option Violation × Tree = (None, eager_with root size after) in p) ≡ retag (eager_with root size before) parent span kind guard tag
retag-end root size before mid now after x parent tag span kind guard None some h lt e same child made done = absurd child
retag-end root size before mid now after x parent tag span kind guard (Some runs) some h lt e same child made done =
    retag-done root size before mid now after x parent tag span kind guard runs some (let l : length after ≡ length now + 1 = ap length made ∙ length-with_child now x tag guard runs in omega (arith, l)) h lt e same child made (eager-size root size before) done

pub may-add-made : (size : ℕ) (before now : List Node) (x : ℕ) (span : Span) (kind : RetagKind) (guard : Guard) (level : Level) (made : Option (Ranges Slot)) → IsSound size before → x < length before → IsLowered size before now (local_in before x) level (length before) → MatchOption made ⊥ (IsChild size span kind guard) → rank level ≡ own_rank (starting kind guard) guard → MatchOption made ⊥ (MayAdd size now x guard)
may-add-made size before now x span kind guard level None h lt l child e = child
may-add-made size before now x span kind guard level (Some runs) h lt l child e = may-add size before now x span kind guard level runs h lt l child e

-- the new tag is greater than those of the stored nodes
pub newest-stored : (root : Tag) (size : ℕ) (nodes : List Node) (tag : Tag) → 1 ≤ length nodes → All (λ (n : Eager). n.tag.0 < tag.0) (eager_with root size nodes).nodes → (i : ℕ) → i < length nodes → (node_at nodes i).tag.0 < tag.0
newest-stored root size nodes tag some h i lt =
    let all : All (λ (n : Eager). n.tag.0 < tag.0) (eager_nodes nodes) = subst (λ (t : Tree). All (λ (n : Eager). n.tag.0 < tag.0) t.nodes) (eager_with-some root size nodes some) h in
    subst (λ (n : Eager). n.tag.0 < tag.0) (eager_at nodes i lt) (all i (eager_node nodes no_node) (omega (arith, lt, length-eager nodes)))

pub newest-of : (root : Tag) (size : ℕ) (nodes : List Node) (tag : Tag) → 1 ≤ length nodes → ((i : ℕ) → i < length nodes → (node_at nodes i).tag.0 < tag.0) → All (λ (n : Eager). n.tag.0 < tag.0) (eager_with root size nodes).nodes
newest-of root size nodes tag some h =
    subst (λ (t : Tree). All (λ (n : Eager). n.tag.0 < tag.0) t.nodes) (sym (eager_with-some root size nodes some))
    (λ i d lt. let low : i < length nodes = omega (arith, lt, length-eager nodes) in
    subst (λ (n : Eager). n.tag.0 < tag.0) (sym (default-same (eager_nodes nodes) i d (eager_node nodes no_node) lt ∙ eager_at nodes i low)) (h i low))
