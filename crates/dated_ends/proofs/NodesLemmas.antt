-- The nodes and cells of the eager tree for which a dated tree stands.
use Rattle.std.proofs.Common.{◌≡◌, ℕ, zero, suc, ◌+◌, ◌-◌, ◌<◌, ◌≤◌, false, eqb, eq-eqb, ◌∷◌, length, map, Some, refl, ap, subst, ◌∙◌, arith}
use Rattle.std.proofs.lemmas.Bool.{ne_eqb}
use Rattle.std.specs.List.{range_with_len}
use Rattle.std.specs.Option.{option_and_then}
use Rattle.eager_tree.specs.declared.node.Node.{Node}
use Rattle.eager_tree.specs.Steps.{cell_at, implicit_kind, implicit_kinds}
use Rattle.dated_tree.specs.Shape.{Shape}
use Rattle.dated_tree.specs.Eager.{eager_node, cell_of, tag_at}
use Rattle.dated_tree.specs.Kept.{IsSound}
use Rattle.dated_tree.proofs.EagerLemmas.{eager_nodes, root_node, map-next, slice_get-from}
use Rattle.dated_ends.specs.End.{end_kind}

-- each node by a function of the other tree's
pub nodes-map : (t u : Shape) (f : Node → Node) → u.root ≡ t.root → u.size ≡ t.size → length u.nodes ≡ length t.nodes → root_node t.root t.size ≡ f (root_node t.root t.size) → ((i : ℕ) → 1 ≤ i → i ≤ length t.nodes → eager_node u i ≡ f (eager_node t i)) → eager_nodes u ≡ map f (eager_nodes t)
nodes-map t u f root size count at_root each =
    ap (λ r. root_node r u.size ∷ map (eager_node u) (range_with_len 1 (length u.nodes))) root
    ∙ ap (λ n. root_node t.root n ∷ map (eager_node u) (range_with_len 1 (length u.nodes))) size
    ∙ ap (λ n. root_node t.root t.size ∷ map (eager_node u) (range_with_len 1 n)) count
    ∙ ap (λ ns. root_node t.root t.size ∷ ns) (map-next (eager_node t) (eager_node u) f 1 (length t.nodes) (λ i some lt. each i some (omega (arith, lt))))
    ∙ ap (λ n. n ∷ map f (map (eager_node t) (range_with_len 1 (length t.nodes)))) at_root

cell_at-from : (t : Shape) (a n k p b : ℕ) → a + k ≡ p → 1 ≤ a → k < n → b < t.size → ((i j : ℕ) → i < j → j < a + n → (tag_at t i).0 < (tag_at t j).0) → cell_at (map (eager_node t) (range_with_len a n)) (tag_at t p) b ≡ Some (cell_of t p b)
cell_at-from t a zero k p b e some lt in_size rising = absurd (omega arith)
cell_at-from t a (suc n) zero p b e some lt in_size rising =
    let same : a ≡ p = omega arith in
    subst (λ q. cell_at (map (eager_node t) (range_with_len a (suc n))) (tag_at t q) b ≡ Some (cell_of t q b)) same (rw (eq-eqb (tag_at t a).0 (tag_at t a).0 refl) (slice_get-from (cell_of t a) 0 t.size b b (omega arith) in_size))
cell_at-from t a (suc n) (suc k) p b e some lt in_size rising =
    let less = rising a p (omega arith) (omega arith) in
    let other : eqb (tag_at t a).0 (tag_at t p).0 ≡ false = ne_eqb _ _ (λ same. omega (arith, less, same)) in
    rw other (cell_at-from t (a + 1) n k p b (omega arith) (omega arith) (omega arith) in_size (λ i j low high. rising i j low (omega (arith, high))))

-- the cell of the node with a tag
pub cell_at-stored : (t : Shape) (p b : ℕ) → IsSound t → 1 ≤ p → p ≤ length t.nodes → b < t.size → cell_at (eager_nodes t) (tag_at t p) b ≡ Some (cell_of t p b)
cell_at-stored t p b h some stored in_size =
    let less = h.rising 0 p (omega arith) stored in
    let other : eqb t.root.0 (tag_at t p).0 ≡ false = ne_eqb _ _ (λ same. omega (arith, less, same)) in
    rw other (cell_at-from t 1 (length t.nodes) (p - 1) p b (omega arith) (omega arith) (omega arith) in_size (λ i j low high. h.rising i j low (omega (arith, high))))

-- the access of an end at a byte
pub end-kind : (t : Shape) (x b : ℕ) → IsSound t → 1 ≤ x → x ≤ length t.nodes → b < t.size → implicit_kinds (eager_nodes t) (tag_at t x) b ≡ end_kind t x b
end-kind t x b h some stored in_size = ap (option_and_then implicit_kind) (cell_at-stored t x b h some stored in_size)
