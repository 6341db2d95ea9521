-- The end of a protector, in the eager tree's words.
use Rattle.std.proofs.Common.{◌≡◌, ◌≢◌, replicate, get_or-set_same, ℕ, ◌<◌, ◌≤◌, ◌||◌, not, Bool, true, false, eqb, eq-eqb, List, [], ◌∷◌, length, map, Option, Some, None, refl, sym, ap, subst, ◌∙◌, arith, inl, inr}
use Rattle.std.proofs.lemmas.Bool.{cases_eq, eqb-true, ne_eqb}
use Rattle.std.proofs.lemmas.List.{get_or-map, length-map, length-set, ext_get_or}
use Rattle.std.specs.Option.{option_and_then, option_map}
use Rattle.bsan_ids.specs.declared.numbers.Tag.{Tag}
use Rattle.perm_table.specs.declared.Perm.{Perm}
use Rattle.perm_table.specs.declared.Perm.TheVariants.{Unique}
use Rattle.perm_table.specs.declared.Guard.TheVariants.{Free}
use Rattle.perm_table.specs.declared.Kind.{Kind}
use Rattle.eager_tree.specs.declared.violation.Violation.{Violation}
use Rattle.eager_tree.specs.declared.violation.Violation.TheVariants.{Denied}
use Rattle.eager_tree.specs.declared.node.Cell.{Cell}
use Rattle.eager_tree.specs.declared.node.Node.{Node as Eager}
use Rattle.eager_tree.specs.Tree.{Tree, links, is_on_path, new_tree}
use Rattle.eager_tree.specs.Visit.{next_cell, first_denial}
use Rattle.eager_tree.specs.Steps.{cell_at, implicit_kind, implicit_kinds, is_no_descendant, freed_guard, unguarded, end_protector}
use Rattle.lazy_tree.specs.declared.slot.Slot.{Slot}
use Rattle.lazy_tree.specs.declared.tree.Node.{Node}
use Rattle.lazy_tree.specs.Skip.{node_at, slot_at, no_node, with_free, IsSound}
use Rattle.lazy_tree.specs.Eager.{eager_cell, eager_node, eager_nodes, eager_with, pair_of}
use Rattle.lazy_tree.proofs.Finding.{parts, state-found}
use Rattle.lazy_tree.proofs.SkipLemmas.{node-set, part-kept}
use Rattle.lazy_access.specs.declared.check.Found.{Found}
use Rattle.lazy_access.specs.Walk.{IsReached, denies}
use Rattle.lazy_access.specs.Requests.{local_in, violation_in}
use Rattle.lazy_access.specs.Ends.{end_kind, NoEndDenial, IsLeastEnd, IsEnded}
use Rattle.lazy_access.proofs.Ties.{one-tag, under-eager, eager-under, visit-silent, visit-denied, Steps, visit-done, visit-refused, eager_with-some, node-parts, parents-same, eager_at, length-eager}
use Rattle.lazy_access.proofs.Accessing.{visits-at, root-visit}

-- the nodes of the eager tree
tree-nodes : (root : Tag) (size : ℕ) (nodes : List Node) → 1 ≤ length nodes → (eager_with root size nodes).nodes ≡ eager_nodes nodes
tree-nodes root size nodes some = ap (λ (t : Tree). t.nodes) (eager_with-some root size nodes some)

cell-from : (o : Option Cell) (s : Slot) → option_map pair_of o ≡ Some (parts s) → o ≡ Some (eager_cell s)
cell-from None s e = cc
cell-from (Some c) s e =
    let h : pair_of c ≡ parts s = inside (pair_of c) (parts s) e in
    ap (λ (p : Perm × Bool). (let d : Cell = record { perm = p.0; accessed = p.1 } in Some d)) h
  where
    inside : (p q : Perm × Bool) → Some p ≡ Some q → p ≡ q
    inside p q e = cc

-- the access of the end at a byte
end-kinds : (root : Tag) (size : ℕ) (nodes : List Node) (x b : ℕ) → IsSound size nodes → x < length nodes → b < size → implicit_kinds (eager_with root size nodes).nodes (node_at nodes x).tag b ≡ end_kind nodes x b
end-kinds root size nodes x b h lt in_size =
    ap (option_and_then implicit_kind) (cell-from (cell_at (eager_with root size nodes).nodes (node_at nodes x).tag b) (slot_at nodes x b) (state-found root size nodes (node_at nodes x).tag x b h lt in_size refl))

false-not-true : (b : Bool) → b ≡ false → b ≡ true → ⊥
false-not-true true e f = cc
false-not-true false e f = cc

-- the nodes that the end reaches
reached-by : (size : ℕ) (nodes : List Node) (x i : ℕ) → IsSound size nodes → x < length nodes → i < length nodes → is_no_descendant (links (eager_nodes nodes)) (node_at nodes x).tag (node_at nodes i).tag ≡ true → IsReached nodes x false i
reached-by size nodes x i h inside lt e none under =
    let below = eager-under size nodes i x h lt inside under in
    let same : eqb (node_at nodes x).tag.0 (node_at nodes i).tag.0 ≡ true = only (eqb (node_at nodes x).tag.0 (node_at nodes i).tag.0) (is_on_path (links (eager_nodes nodes)) (node_at nodes i).tag (node_at nodes x).tag) below e in
    one-tag size nodes i x h lt inside (sym (eqb-true _ _ same))
  where
    only : (a b : Bool) → b ≡ true → (a || not b) ≡ true → a ≡ true
    only true b e f = refl
    only false true e f = cc
    only false false e f = cc

by-reached : (size : ℕ) (nodes : List Node) (x i : ℕ) → IsSound size nodes → x < length nodes → i < length nodes → IsReached nodes x false i → is_no_descendant (links (eager_nodes nodes)) (node_at nodes x).tag (node_at nodes i).tag ≡ true
by-reached size nodes x i h inside lt reached =
    elim (cases_eq i x) [
      | inl same ↦ left (eqb (node_at nodes x).tag.0 (node_at nodes i).tag.0) _ (eq-eqb _ _ (ap (λ k. (node_at nodes k).tag.0) (sym same)))
      | inr other ↦ right (eqb (node_at nodes x).tag.0 (node_at nodes i).tag.0) (is_on_path (links (eager_nodes nodes)) (node_at nodes i).tag (node_at nodes x).tag) (λ on. other (reached refl (under-eager size nodes i x h lt inside on)))
    ]
  where
    left : (a b : Bool) → a ≡ true → (a || b) ≡ true
    left true b e = refl
    left false b e = cc

    right : (a b : Bool) → (b ≡ true → ⊥) → (a || not b) ≡ true
    right true b out = refl
    right false true out = absurd (out refl)
    right false false out = refl

-- what the visit of the end reaches, in the words of the tree
abbrev reaches_of : Tag → ℕ → List Node → ℕ → Tag → Bool
reaches_of root size nodes x = is_no_descendant (links (eager_with root size nodes).nodes) (node_at nodes x).tag

reached-of : (root : Tag) (size : ℕ) (nodes : List Node) (x i : ℕ) → IsSound size nodes → x < length nodes → i < length nodes → reaches_of root size nodes x (node_at nodes i).tag ≡ true → IsReached nodes x false i
reached-of root size nodes x i h inside lt e =
    reached-by size nodes x i h inside lt (subst (λ (ns : List Eager). is_no_descendant (links ns) (node_at nodes x).tag (node_at nodes i).tag ≡ true) (tree-nodes root size nodes (omega (arith, inside))) e)

of-reached : (root : Tag) (size : ℕ) (nodes : List Node) (x i : ℕ) → IsSound size nodes → x < length nodes → i < length nodes → IsReached nodes x false i → reaches_of root size nodes x (node_at nodes i).tag ≡ true
of-reached root size nodes x i h inside lt reached =
    subst (λ (ns : List Eager). is_no_descendant (links ns) (node_at nodes x).tag (node_at nodes i).tag ≡ true) (sym (tree-nodes root size nodes (omega (arith, inside)))) (by-reached size nodes x i h inside lt reached)

-- an end that is denied
pub end-denied : (root : Tag) (size : ℕ) (nodes : List Node) (x : ℕ) (f : Found) → IsSound size nodes → x < length nodes → IsLeastEnd nodes x 0 size f →
    (let p : Option Violation × Tree = (violation_in nodes (Some f), eager_with root size nodes) in p) ≡ end_protector (eager_with root size nodes) (node_at nodes x).tag
end-denied root size nodes x f h inside least =
    ap (unguarded (node_at nodes x).tag)
    (visit-refused root size x nodes (implicit_kinds (eager_with root size nodes).nodes (node_at nodes x).tag) (reaches_of root size nodes x) (Denied f.offset (node_at nodes f.node).tag f.perm f.local) (omega (arith, inside))
    (visit-denied size nodes x (local_in nodes x) (implicit_kinds (eager_with root size nodes).nodes (node_at nodes x).tag) (reaches_of root size nodes x) f.node f.offset least.denied.kind (visits-at size nodes x h inside) least.denied.within least.high
    (end-kinds root size nodes x f.offset h inside least.high ∙ least.denied.made) (of-reached root size nodes x f.node h inside least.denied.within least.denied.reached) least.denied.denied
    (λ i c k low in_size kinds r d. least.least i c (omega arith) in_size (record { within = low; reached = reached-of root size nodes x i h inside low r; kind = k; made = sym (end-kinds root size nodes x c h inside in_size) ∙ kinds; denied = d }))
    ∙ ap (λ (p : Perm). Some (Denied f.offset (node_at nodes f.node).tag p (local_in nodes x f.node))) (sym least.perm) ∙ ap (λ (l : Bool). Some (Denied f.offset (node_at nodes f.node).tag f.perm l)) (sym least.local_there)))

-- a node without its guard
freed-other : (tag : Tag) (node : Eager) → node.tag.0 ≢ tag.0 → freed_guard tag node ≡ node
freed-other tag node other = rw (ne_eqb node.tag.0 tag.0 other) refl

freed-here : (tag : Tag) (node : Eager) → node.tag.0 ≡ tag.0 → freed_guard tag node ≡ (record node { guard = Free })
freed-here tag node e = rw (eq-eqb node.tag.0 tag.0 e) refl

abbrev free_node : Node → Node
free_node n = record n { guard = Free }

freed-node : (size : ℕ) (nodes : List Node) (x i : ℕ) → IsSound size nodes → x < length nodes → i < length nodes → eager_node (with_free nodes x) (node_at (with_free nodes x) i) ≡ freed_guard (node_at nodes x).tag (eager_node nodes (node_at nodes i))
freed-node size nodes x i h inside lt =
    let tags : (j : ℕ) → (node_at (with_free nodes x) j).tag ≡ (node_at nodes j).tag = λ j. part-kept (λ (n : Node). n.tag) nodes x j (free_node (node_at nodes x)) inside refl in
    let parent : option_map (λ p. (node_at (with_free nodes x) p).tag) (node_at (with_free nodes x) i).parent ≡ option_map (λ p. (node_at nodes p).tag) (node_at nodes i).parent =
    ap (option_map (λ p. (node_at (with_free nodes x) p).tag)) (part-kept (λ (n : Node). n.parent) nodes x i (free_node (node_at nodes x)) inside refl)
    ∙ parents-same (λ p. (node_at (with_free nodes x) p).tag) (λ p. (node_at nodes p).tag) tags (node_at nodes i).parent in
    let cells = ap (map eager_cell) (part-kept (λ (n : Node). n.runs.bytes) nodes x i (free_node (node_at nodes x)) inside refl) in
    elim (node-set nodes x i (free_node (node_at nodes x)) inside) [
      | inl new ↦
          node-parts (eager_node (with_free nodes x) (node_at (with_free nodes x) i)) (record (eager_node nodes (node_at nodes i)) { guard = Free }) (tags i) parent (ap (λ (n : Node). n.guard) new.1) cells
          ∙ sym (freed-here (node_at nodes x).tag (eager_node nodes (node_at nodes i)) (ap (λ k. (node_at nodes k).tag.0) new.0))
      | inr old ↦ elim (cases_eq i x) [
        | inr other ↦
            node-parts (eager_node (with_free nodes x) (node_at (with_free nodes x) i)) (eager_node nodes (node_at nodes i)) (tags i) parent (ap (λ (n : Node). n.guard) old) cells
            ∙ sym (freed-other (node_at nodes x).tag (eager_node nodes (node_at nodes i)) (λ e. other (one-tag size nodes i x h lt inside e)))
        | inl here ↦
            node-parts (eager_node (with_free nodes x) (node_at (with_free nodes x) i)) (record (eager_node nodes (node_at nodes i)) { guard = Free }) (tags i) parent (guard-here here) cells
            ∙ sym (freed-here (node_at nodes x).tag (eager_node nodes (node_at nodes i)) (ap (λ k. (node_at nodes k).tag.0) here))
      ]
    ]
  where
    guard-here : i ≡ x → (node_at (with_free nodes x) i).guard ≡ Free
    guard-here here = ap (λ k. (node_at (with_free nodes x) k).guard) here ∙ at-x
      where
        at-x : (node_at (with_free nodes x) x).guard ≡ Free
        at-x = elim (node-set nodes x x (free_node (node_at nodes x)) inside) [ inl new ↦ ap (λ (n : Node). n.guard) new.1 | inr old ↦ set-here ]
          where
            set-here : (node_at (with_free nodes x) x).guard ≡ Free
            set-here = ap (λ (n : Node). n.guard) (get_or-set_same nodes x (free_node (node_at nodes x)) no_node inside)

nodes-freed : (size : ℕ) (nodes : List Node) (x : ℕ) → IsSound size nodes → x < length nodes → eager_nodes (with_free nodes x) ≡ map (freed_guard (node_at nodes x).tag) (eager_nodes nodes)
nodes-freed size nodes x h inside =
    let count : length (with_free nodes x) ≡ length nodes = length-set nodes x (free_node (node_at nodes x)) in
    let d : Eager = eager_node nodes no_node in
    ext_get_or (eager_node (with_free nodes x) no_node) (eager_nodes (with_free nodes x)) (map (freed_guard (node_at nodes x).tag) (eager_nodes nodes))
    (length-eager (with_free nodes x) ∙ count ∙ sym (length-map (eager_nodes nodes) (freed_guard (node_at nodes x).tag) ∙ length-eager nodes))
    (λ i lt.
    let low : i < length nodes = omega (arith, lt, length-eager (with_free nodes x), count) in
    eager_at (with_free nodes x) i (omega (arith, low, count))
    ∙ freed-node size nodes x i h inside low
    ∙ ap (freed_guard (node_at nodes x).tag) (sym (eager_at nodes i low))
    ∙ sym (get_or-map (freed_guard (node_at nodes x).tag) (eager_nodes nodes) i d (eager_node (with_free nodes x) no_node) (omega (arith, low, length-eager nodes))))

end-steps : (root : Tag) (size : ℕ) (before mid : List Node) (x : ℕ) → IsSound size before → IsSound size mid → x < length before → IsEnded size before mid x 0 size → Steps size before mid (local_in before x) (implicit_kinds (eager_with root size before).nodes (node_at before x).tag) (reaches_of root size before x)
end-steps root size before mid x was is inside e = record {
  count = e.links.count;
  tag = e.links.tag;
  parent = e.links.parent;
  guard = e.guard;
  was = was.sizes;
  is = λ i lt. is.sizes i (let c = e.links.count in omega (arith, lt, c));
  reached = λ i b lt in_size yes.
      e.cells i b lt (reached-of root size before x i was inside lt yes) (omega arith) in_size
      ∙ ap (λ (o : Option Kind). next_cell o (local_in before x i) (node_at before i).guard (eager_cell (slot_at before i b))) (sym (end-kinds root size before x b was inside in_size));
  left = λ i b lt in_size out.
      ap eager_cell (e.left i b lt in_size (λ reached. false-not-true (reaches_of root size before x (node_at before i).tag) out (of-reached root size before x i was inside lt reached)));
}

-- an end that no node denies
pub end-clean : (root : Tag) (size : ℕ) (before mid after : List Node) (x : ℕ) → IsSound size before → IsSound size mid → x < length before → NoEndDenial before x 0 size → IsEnded size before mid x 0 size → after ≡ with_free mid x →
    (let p : Option Violation × Tree = (None, eager_with root size after) in p) ≡ end_protector (eager_with root size before) (node_at before x).tag
end-clean root size before mid after x was is inside none e freed =
    let kinds : ℕ → Option Kind = implicit_kinds (eager_with root size before).nodes (node_at before x).tag in
    let there : x < length mid = (let c = e.links.count in omega (arith, inside, c)) in
    let some : 1 ≤ length mid = omega (arith, there) in
    let silent : first_denial kinds (reaches_of root size before x) (links (eager_nodes before)) (node_at before x).tag size (eager_nodes before) ≡ None =
    visit-silent size before x (local_in before x) kinds (reaches_of root size before x) (visits-at size before x was inside)
    (λ i b k low in_size made r. not-denied (denies before (local_in before x) k i b) (λ d. none i b (omega arith) in_size (record { within = low; reached = reached-of root size before x i was inside low r; kind = k; made = sym (end-kinds root size before x b was inside in_size) ∙ made; denied = d }))) in
    let done = visit-done root size x before mid (local_in before x) kinds (reaches_of root size before x) (visits-at size before x was inside) (end-steps root size before mid x was is inside e) silent in
    ap (λ (ns : List Node). (let p : Option Violation × Tree = (None, eager_with root size ns) in p)) freed
    ∙ ap (λ (t : Tree). (let p : Option Violation × Tree = (None, t) in p)) (eager_with-some root size (with_free mid x) (let c : length (with_free mid x) ≡ length mid = length-set mid x (free_node (node_at mid x)) in omega (arith, some, c)))
    ∙ ap (λ (ns : List Eager). (let p : Option Violation × Tree = (None, record { size = size; nodes = ns }) in p)) (nodes-freed size mid x is there ∙ ap (λ (t : Tag). map (freed_guard t) (eager_nodes mid)) (e.links.tag x))
    ∙ ap (λ (t : Tree). unguarded (node_at before x).tag (let p : Option Violation × Tree = (None, t) in p)) (sym (eager_with-some root size mid some))
    ∙ ap (unguarded (node_at before x).tag) done
  where
    not-denied : (b : Bool) → (b ≡ true → ⊥) → b ≡ false
    not-denied true out = absurd (out refl)
    not-denied false out = refl

abbrev alone-node : Tag → ℕ → Eager
alone-node root size = record { tag = root; parent = None; guard = Free; cells = replicate size (record { perm = Unique; accessed = true }) }

-- the end at the root alone
pub end-none : (root : Tag) (size : ℕ) (nodes : List Node) (tag : Tag) → nodes ≡ [] → tag ≡ root → (let p : Option Violation × Tree = (None, eager_with root size nodes) in p) ≡ end_protector (eager_with root size nodes) tag
end-none root size nodes tag none e =
    subst (λ (ns : List Node). (let p : Option Violation × Tree = (None, eager_with root size ns) in p) ≡ end_protector (eager_with root size ns) tag) (sym none)
    (subst (λ (t : Tag). (let p : Option Violation × Tree = (None, new_tree size root) in p) ≡ end_protector (new_tree size root) t) (sym e)
    (ap (λ (n : Eager). (let p : Option Violation × Tree = (None, record { size = size; nodes = n ∷ [] }) in p)) (sym (freed-here root (alone-node root size) refl))
    ∙ ap (unguarded root) (root-visit root size (implicit_kinds (new_tree size root).nodes root) (is_no_descendant (links (new_tree size root).nodes) root))))
