-- The paths of the eager tree, by places.
use Rattle.std.proofs.Common.{◌≡◌, ℕ, zero, suc, ◌+◌, ◌-◌, ◌<◌, ◌≤◌, ◌||◌, Bool, true, false, eqb, eq-eqb, length, map, Some, None, refl, sym, ap, subst, ◌∙◌, arith, inl, inr}
use Rattle.std.proofs.lemmas.Bool.{cases_lt, cases_eq, ne_eqb}
use Rattle.std.proofs.lemmas.List.{length-map}
use Rattle.std.proofs.lemmas.List.FromFn.{length-map-range_with_len}
use Rattle.std.specs.List.{range_with_len}
use Rattle.eager_tree.specs.declared.node.Node.{Node}
use Rattle.eager_tree.specs.Tree.{Links, links, parent_in, leads_to, is_on_path as is_above}
use Rattle.dated_tree.specs.Shape.{Shape, node_at}
use Rattle.dated_tree.specs.Eager.{eager_of, eager_node, tag_at}
use Rattle.dated_tree.specs.Path.{leads_within, is_on_path}
use Rattle.dated_tree.specs.Kept.{IsSound}

abbrev pub eager_links : Shape → Links
eager_links t = links (eager_of t).nodes

abbrev pub parent_at : Shape → ℕ → ℕ
parent_at t place = (node_at t.nodes place).parent

tags-apart : (t : Shape) (x y : ℕ) → IsSound t → x ≤ length t.nodes → y ≤ length t.nodes → (x ≡ y → ⊥) → eqb (tag_at t x).0 (tag_at t y).0 ≡ false
tags-apart t x y h low high ne =
    ne_eqb _ _ (λ e. elim (cases_lt x y) [
      | inl less ↦ (let r = h.rising x y less high in omega (arith, r, e))
      | inr more ↦ elim (cases_lt y x) [
        | inl less ↦ (let r = h.rising y x less low in omega (arith, r, e))
        | inr back ↦ ne (omega (arith, more, back))
      ]
    ])

-- one node has a tag
pub tags-eqb : (t : Shape) (x y : ℕ) → IsSound t → x ≤ length t.nodes → y ≤ length t.nodes → eqb (tag_at t x).0 (tag_at t y).0 ≡ eqb x y
tags-eqb t x y h low high =
    elim (cases_eq x y) [
      | inl same ↦ eq-eqb _ _ (ap (λ p. (tag_at t p).0) same) ∙ sym (eq-eqb x y same)
      | inr ne ↦ tags-apart t x y h low high ne ∙ sym (ne_eqb x y ne)
    ]

parent_in-from : (t : Shape) (a n k p : ℕ) → a + k ≡ p → 1 ≤ a → k < n → ((i j : ℕ) → i < j → j < a + n → (tag_at t i).0 < (tag_at t j).0) → parent_in (links (map (eager_node t) (range_with_len a n))) (tag_at t p) ≡ Some (tag_at t (parent_at t p))
parent_in-from t a zero k p e some lt rising = absurd (omega arith)
parent_in-from t a (suc n) zero p e some lt rising =
    let same : a ≡ p = omega arith in
    subst (λ q. parent_in (links (map (eager_node t) (range_with_len a (suc n)))) (tag_at t q) ≡ Some (tag_at t (parent_at t q))) same (rw (eq-eqb (tag_at t a).0 (tag_at t a).0 refl) refl)
parent_in-from t a (suc n) (suc k) p e some lt rising =
    let less = rising a p (omega arith) (omega arith) in
    let other : eqb (tag_at t a).0 (tag_at t p).0 ≡ false = ne_eqb _ _ (λ same. omega (arith, less, same)) in
    rw other (parent_in-from t (a + 1) n k p (omega arith) (omega arith) (omega arith) (λ i j low high. rising i j low (omega (arith, high))))

pub parent_in-stored : (t : Shape) (p : ℕ) → IsSound t → 1 ≤ p → p ≤ length t.nodes → parent_in (eager_links t) (tag_at t p) ≡ Some (tag_at t (parent_at t p))
parent_in-stored t p h some stored =
    let less = h.rising 0 p (omega arith) stored in
    let other : eqb t.root.0 (tag_at t p).0 ≡ false = ne_eqb _ _ (λ same. omega (arith, less, same)) in
    rw other (parent_in-from t 1 (length t.nodes) (p - 1) p (omega arith) (omega arith) (omega arith) (λ i j low high. h.rising i j low (omega (arith, high))))

pub parent_in-root : (t : Shape) → parent_in (eager_links t) (tag_at t 0) ≡ None
parent_in-root t = rw (eq-eqb t.root.0 t.root.0 refl) refl

or-false : (b : Bool) → (b || false) ≡ b
or-false true = refl
or-false false = refl

root-leads : (n : ℕ) (t : Shape) (p : ℕ) → IsSound t → p ≤ length t.nodes → leads_to n (eager_links t) (tag_at t 0) (tag_at t p) ≡ eqb 0 p
root-leads zero t p h high = tags-eqb t 0 p h (omega arith) high
root-leads (suc n) t p h high = rw (parent_in-root t) (or-false (eqb (tag_at t 0).0 (tag_at t p).0) ∙ tags-eqb t 0 p h (omega arith) high)

root-within : (m : ℕ) (t : Shape) (p : ℕ) → leads_within m t.nodes 0 p ≡ eqb 0 p
root-within zero t p = refl
root-within (suc m) t p = or-false (eqb 0 p)

leads-places : (n m : ℕ) (t : Shape) (x p : ℕ) → IsSound t → x ≤ length t.nodes → p ≤ length t.nodes → x ≤ n → x ≤ m → leads_to n (eager_links t) (tag_at t x) (tag_at t p) ≡ leads_within m t.nodes x p
leads-places zero m t x p h low high ln lm =
    let e : x ≡ 0 = omega arith in rw e (root-leads zero t p h high ∙ sym (root-within m t p))
leads-places (suc n) zero t x p h low high ln lm =
    let e : x ≡ 0 = omega arith in rw e (root-leads (suc n) t p h high ∙ sym (root-within zero t p))
leads-places (suc n) (suc m) t x p h low high ln lm =
    elim (cases_eq x 0) [
      | inl e ↦ rw e (root-leads (suc n) t p h high ∙ sym (root-within (suc m) t p))
      | inr ne ↦
          let some : 1 ≤ x = omega (arith, ne) in
          let before = (h.nodes x some low).parent in
          let up = leads-places n m t (parent_at t x) p h (omega (arith, before)) high (omega (arith, before)) (omega (arith, before)) in
          let off : eqb x 0 ≡ false = ne_eqb x 0 ne in
          rw (parent_in-stored t x h some low, tags-eqb t x p h low high, off, up) refl
    ]

pub length-links : (t : Shape) → length (eager_links t) ≡ length t.nodes + 1
length-links t = length-map (eager_of t).nodes (λ (n : Node). (n.tag, n.parent)) ∙ (let l = length-map-range_with_len (eager_node t) 1 (length t.nodes) in omega (arith, l))

-- a node is on the path of x in the eager tree where it is by places
pub path-places : (t : Shape) (x p : ℕ) → IsSound t → x ≤ length t.nodes → p ≤ length t.nodes → is_above (eager_links t) (tag_at t x) (tag_at t p) ≡ is_on_path t.nodes x p
path-places t x p h low high = leads-places (length (eager_links t)) x t x p h low high (omega (arith, length-links t)) (omega arith)

root-above : (m : ℕ) (t : Shape) (x : ℕ) → IsSound t → x ≤ length t.nodes → x ≤ m → leads_within m t.nodes x 0 ≡ true
root-above zero t x h low le = let e : x ≡ 0 = omega arith in rw e refl
root-above (suc m) t x h low le =
    elim (cases_eq x 0) [
      | inl e ↦ rw e refl
      | inr ne ↦
          let before = (h.nodes x (omega (arith, ne)) low).parent in
          rw (ne_eqb x 0 ne) (root-above m t (parent_at t x) h (omega (arith, before)) (omega (arith, before)))
    ]

-- the root is on each path
pub root-on-path : (t : Shape) (x : ℕ) → IsSound t → x ≤ length t.nodes → is_on_path t.nodes x 0 ≡ true
root-on-path t x h low = root-above x t x h low (omega arith)
