-- A whole end of a protector, in the words of the eager tree.
use Rattle.std.proofs.Common.{◌≡◌, ℕ, ◌<◌, ◌≤◌, inl, inr, ◌||◌, ◌==◌, Bool, true, false, not, cond, length, map, Option, Some, None, refl, sym, ap, ◌∙◌, arith}
use Rattle.std.proofs.lemmas.Bool.{cases_eq, ne_eqb}
use Rattle.std.specs.List.{range_with_len}
use Rattle.bsan_ids.specs.declared.numbers.Tag.{Tag}
use Rattle.perm_table.specs.declared.Kind.{Kind}
use Rattle.perm_table.specs.declared.Guard.{Guard}
use Rattle.eager_tree.specs.declared.node.Cell.{Cell}
use Rattle.eager_tree.specs.declared.violation.Violation.{Violation}
use Rattle.eager_tree.specs.declared.violation.Violation.TheVariants.{Denied}
use Rattle.eager_tree.specs.Tree.{Tree}
use Rattle.eager_tree.specs.Visit.{first_denial, next_cell, next_node, next_by, visit, visit_unless}
use Rattle.eager_tree.specs.Steps.{implicit_kinds, is_no_descendant, unguarded, end_protector}
use Rattle.dated_tree.specs.Shape.{Shape, node_at}
use Rattle.dated_tree.specs.Eager.{eager_of, eager_node, cell_of, tag_at}
use Rattle.dated_tree.specs.Path.{is_on_path}
use Rattle.dated_tree.specs.Meet.{is_refused}
use Rattle.dated_tree.specs.Access.{IsFresh, IsAccessed, NoDenial}
use Rattle.dated_tree.specs.Kept.{IsSound}
use Rattle.dated_tree.proofs.AccessLemmas.{cell-after}
use Rattle.dated_tree.proofs.EagerLemmas.{Steps, eager_nodes, cells-from, map-from, node-parts, same-tag, root-steps, visit-silent, visit-denied, visit-done, visit-refused}
use Rattle.dated_tree.proofs.PathLemmas.{eager_links, path-places}
use Rattle.dated_tree.proofs.SoundLemmas.{sound-after}
use Rattle.dated_ends.specs.End.{end_kind, meets_end, HasNoChild, NoDenialAtEnd, IsFirstDenialAtEnd, IsNoted}
use Rattle.dated_tree.specs.Guards.{without_guard}
use Rattle.dated_ends.proofs.NodesLemmas.{nodes-map, end-kind}
use Rattle.dated_ends.proofs.GuardLemmas.{guard-gone-tree}
use Rattle.dated_ends.proofs.BelowLemmas.{before-all, here-in, reaches-places, leaf-meets}
use Rattle.dated_ends.proofs.EndLemmas.{cell-here, cell-below, cell-outside, end-stays}
use Rattle.dated_ends.proofs.EndSoundLemmas.{sound-noted}

-- the kinds of the eager tree's end, and the nodes that meet it
abbrev kinds_of : Shape → ℕ → ℕ → Option Kind
kinds_of t x = implicit_kinds (eager_nodes t) (tag_at t x)

abbrev reaches_of : Shape → ℕ → Tag → Bool
reaches_of t x = is_no_descendant (eager_links t) (tag_at t x)

abbrev answer : Option Violation → Tree → Option Violation × Tree
answer denied t = (denied, t)

-- nothing is denied
silent : (t : Shape) (x : ℕ) → IsSound t → 1 ≤ x → x ≤ length t.nodes → NoDenialAtEnd t x → first_denial (kinds_of t x) (reaches_of t x) (eager_links t) (tag_at t x) t.size (eager_nodes t) ≡ None
silent t x h some stored fine =
    visit-silent t x (kinds_of t x) (reaches_of t x) h stored
    (λ i b one in_nodes in_size r.
    ap (λ o. is_refused o (is_on_path t.nodes x i) (node_at t.nodes i).guard (cell_of t i b)) (end-kind t x b h some stored in_size)
    ∙ fine i b one in_nodes in_size (sym (reaches-places t x i h stored in_nodes) ∙ r))

not-below : (x place : ℕ) (b : Bool) → (place ≡ x → ⊥) → (x == place || not b) ≡ true → b ≡ false
not-below x place false other e = refl
not-below x place true other e = let off = ne_eqb x place (λ s. other (sym s)) in cc

cell-noted : (t u : Shape) (x i b : ℕ) → IsSound t → 1 ≤ x → x ≤ length t.nodes → NoDenialAtEnd t x → IsNoted x t u → 1 ≤ i → i ≤ length t.nodes → b < t.size → meets_end t.nodes x i ≡ true → cell_of u i b ≡ next_cell (kinds_of t x b) (is_on_path t.nodes x i) (node_at t.nodes i).guard (cell_of t i b)
cell-noted t u x i b h some stored fine a one in_nodes in_size meets =
    elim (cases_eq i x) [
      | inl same ↦
          rw (same, end-kind t x b h some stored in_size, here-in t.nodes x (before-all t h) some)
          (cell-here b x t u h some stored a in_size ∙ sym (end-stays (cell_of t x b) (node_at t.nodes x).guard))
      | inr other ↦
          (cell-outside b x i t u h some stored a in_size one in_nodes (not-below x i (is_on_path t.nodes i x) other meets) (fine i b one in_nodes in_size meets)).1
          ∙ ap (λ o. next_cell o (is_on_path t.nodes x i) (node_at t.nodes i).guard (cell_of t i b)) (sym (end-kind t x b h some stored in_size))
    ]

-- a node that doesn't meet it is below x
cell-spared : (t u : Shape) (x i b : ℕ) → IsSound t → 1 ≤ x → x ≤ length t.nodes → IsNoted x t u → 1 ≤ i → i ≤ length t.nodes → b < t.size → meets_end t.nodes x i ≡ false → cell_of u i b ≡ cell_of t i b
cell-spared t u x i b h some stored a one in_nodes in_size spared =
    elim (cases_eq i x) [
      | inl same ↦ rw same (cell-here b x t u h some stored a in_size)
      | inr other ↦ cell-below b x i t u h some stored a in_size one in_nodes (below (is_on_path t.nodes i x) refl) other
    ]
  where
    below : (is_in : Bool) → is_on_path t.nodes i x ≡ is_in → is_on_path t.nodes i x ≡ true
    below true e = e
    below false e = (let wrong : (x == i || true) ≡ false = ap (λ b. x == i || not b) (sym e) ∙ spared in absurd (never (x == i) wrong))
      where
        never : (b : Bool) → (b || true) ≡ false → ⊥
        never true wrong = cc
        never false wrong = cc

same-parent-at : (t u : Shape) (x i : ℕ) → IsNoted x t u → (eager_node u i).parent ≡ (eager_node t i).parent
same-parent-at t u x i a =
    ap (λ p. Some (tag_at u p)) (a.parents i) ∙ ap (λ g. Some g) (same-tag t u (node_at t.nodes i).parent a.root (a.tags (node_at t.nodes i).parent))

node-noted : (t u : Shape) (x i : ℕ) → IsSound t → 1 ≤ x → x ≤ length t.nodes → NoDenialAtEnd t x → IsNoted x t u → 1 ≤ i → i ≤ length t.nodes → (r : Bool) → meets_end t.nodes x i ≡ r →
    eager_node u i ≡ cond r (next_node (kinds_of t x) (is_on_path t.nodes x i) (eager_node t i)) (eager_node t i)
node-noted t u x i h some stored fine a one in_nodes true e =
    node-parts (eager_node u i) (next_node (kinds_of t x) (is_on_path t.nodes x i) (eager_node t i))
    (same-tag t u i a.root (a.tags i)) (same-parent-at t u x i a) (a.guards i)
    (ap (λ n. map (cell_of u i) (range_with_len 0 n)) a.size ∙ cells-from (kinds_of t x) (is_on_path t.nodes x i) (node_at t.nodes i).guard (cell_of t i) (cell_of u i) 0 t.size (λ b lt. cell-noted t u x i b h some stored fine a one in_nodes (omega (arith, lt)) e))
node-noted t u x i h some stored fine a one in_nodes false e =
    node-parts (eager_node u i) (eager_node t i)
    (same-tag t u i a.root (a.tags i)) (same-parent-at t u x i a) (a.guards i)
    (ap (λ n. map (cell_of u i) (range_with_len 0 n)) a.size ∙ map-from (cell_of t i) (cell_of u i) 0 t.size (λ b low lt. cell-spared t u x i b h some stored a one in_nodes (omega (arith, lt)) e))

nodes-noted : (t u : Shape) (x : ℕ) → IsSound t → 1 ≤ x → x ≤ length t.nodes → NoDenialAtEnd t x → IsNoted x t u → eager_nodes u ≡ map (next_by (kinds_of t x) (reaches_of t x) (eager_links t) (tag_at t x)) (eager_nodes t)
nodes-noted t u x h some stored fine a =
    nodes-map t u (next_by (kinds_of t x) (reaches_of t x) (eager_links t) (tag_at t x)) a.root a.size a.count
    (root-steps t x (kinds_of t x) (reaches_of t x) h stored)
    (λ i one in_nodes.
    node-noted t u x i h some stored fine a one in_nodes (meets_end t.nodes x i) refl
    ∙ ap (λ r. cond r (next_node (kinds_of t x) (is_on_path t.nodes x i) (eager_node t i)) (eager_node t i)) (sym (reaches-places t x i h stored in_nodes))
    ∙ ap (λ l. cond (reaches_of t x (tag_at t i)) (next_node (kinds_of t x) l (eager_node t i)) (eager_node t i)) (sym (path-places t x i h stored in_nodes)))

visit-noted : (t u : Shape) (x : ℕ) → IsSound t → 1 ≤ x → x ≤ length t.nodes → NoDenialAtEnd t x → IsNoted x t u → answer None (eager_of u) ≡ visit (kinds_of t x) (reaches_of t x) (tag_at t x) (eager_of t)
visit-noted t u x h some stored fine a =
    ap (λ n. answer None (record { size = n; nodes = eager_nodes u })) a.size
    ∙ ap (λ ns. answer None (record { size = t.size; nodes = ns })) (nodes-noted t u x h some stored fine a)
    ∙ ap (λ o. visit_unless o (map (next_by (kinds_of t x) (reaches_of t x) (eager_links t) (tag_at t x)) (eager_nodes t)) (eager_of t)) (sym (silent t x h some stored fine))

-- an end once the accesses are done
freed-after : (t u : Shape) (x : ℕ) → IsSound u → 1 ≤ x → x ≤ length u.nodes → tag_at u x ≡ tag_at t x → answer None (eager_of u) ≡ visit (kinds_of t x) (reaches_of t x) (tag_at t x) (eager_of t) → answer None (eager_of (without_guard u x)) ≡ end_protector (eager_of t) (tag_at t x)
freed-after t u x h some stored tag done =
    ap (λ tree. answer None tree) (guard-gone-tree u x h some stored)
    ∙ ap (λ g. unguarded g (answer None (eager_of u))) tag
    ∙ ap (unguarded (tag_at t x)) done

pub end-noted : (t u : Shape) (x : ℕ) → IsSound t → 1 ≤ x → x ≤ length t.nodes → NoDenialAtEnd t x → IsNoted x t u → answer None (eager_of (without_guard u x)) ≡ end_protector (eager_of t) (tag_at t x)
end-noted t u x h some stored fine a =
    freed-after t u x (sound-noted t u x h some stored fine a) some (omega (arith, stored, a.count)) (same-tag t u x a.root (a.tags x)) (visit-noted t u x h some stored fine a)

-- at a node without a child
steps-leaf : (t u : Shape) (x date : ℕ) → IsSound t → 1 ≤ x → x ≤ length t.nodes → HasNoChild t x → IsFresh t x date → NoDenial t x (end_kind t x) → IsAccessed x (end_kind t x) date t u → Steps t u x (kinds_of t x) (reaches_of t x)
steps-leaf t u x date h some stored leaf f fine a = record {
  root = a.root;
  size = a.size;
  count = a.count;
  links = a.links;
  reached = λ i b one in_nodes in_size r.
      (cell-after x (end_kind t x) date t u h f a i b one in_nodes in_size (fine i b one in_nodes in_size)).1
      ∙ ap (λ o. next_cell o (is_on_path t.nodes x i) (node_at t.nodes i).guard (cell_of t i b)) (sym (end-kind t x b h some stored in_size));
  left = λ i b one in_nodes in_size spared.
      let wrong : true ≡ false = sym (leaf-meets t x i h leaf some in_nodes) ∙ sym (reaches-places t x i h stored in_nodes) ∙ spared in
      cc;
}

pub end-leaf : (t u : Shape) (x date : ℕ) → IsSound t → 1 ≤ x → x ≤ length t.nodes → HasNoChild t x → IsFresh t x date → NoDenial t x (end_kind t x) → IsAccessed x (end_kind t x) date t u → answer None (eager_of (without_guard u x)) ≡ end_protector (eager_of t) (tag_at t x)
end-leaf t u x date h some stored leaf f fine a =
    freed-after t u x (sound-after x (end_kind t x) date t u h stored f fine a) some (omega (arith, stored, a.count)) (same-tag t u x a.root (a.links x).tag)
    (visit-done t u x (kinds_of t x) (reaches_of t x) h stored (steps-leaf t u x date h some stored leaf f fine a)
    (silent t x h some stored (λ place b one in_nodes in_size meets. fine place b one in_nodes in_size)))

-- a denied end
refused-kind : (o : Option Kind) (local : Bool) (guard : Guard) (cell : Cell) → is_refused o local guard cell ≡ true → (kind : Kind) × (o ≡ Some kind)
refused-kind None local guard cell e = cc
refused-kind (Some kind) local guard cell e = (kind, refl)

pub end-denied : (t : Shape) (x place b : ℕ) → IsSound t → 1 ≤ x → x ≤ length t.nodes → IsFirstDenialAtEnd t x place b → answer (Some (Denied b (tag_at t place) (cell_of t place b).perm (is_on_path t.nodes x place))) (eager_of t) ≡ end_protector (eager_of t) (tag_at t x)
end-denied t x place b h some stored d =
    let there = refused-kind (end_kind t x b) (is_on_path t.nodes x place) (node_at t.nodes place).guard (cell_of t place b) d.denied in
    ap (unguarded (tag_at t x))
    (visit-refused t x (kinds_of t x) (reaches_of t x) (Denied b (tag_at t place) (cell_of t place b).perm (is_on_path t.nodes x place))
    (visit-denied t x (kinds_of t x) (reaches_of t x) place b there.0 h stored d.some d.stored d.within
    (end-kind t x b h some stored d.within ∙ there.1)
    (reaches-places t x place h stored d.stored ∙ d.meets)
    (ap (λ o. is_refused o (is_on_path t.nodes x place) (node_at t.nodes place).guard (cell_of t place b)) (sym there.1) ∙ d.denied)
    (λ j c one in_nodes in_size r denied.
    d.least j c one in_nodes in_size (sym (reaches-places t x j h stored in_nodes) ∙ r)
    (ap (λ o. is_refused o (is_on_path t.nodes x j) (node_at t.nodes j).guard (cell_of t j c)) (sym (end-kind t x c h some stored in_size)) ∙ denied))))
