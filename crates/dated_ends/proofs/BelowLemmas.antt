-- The nodes below another one, by places.
use Rattle.std.proofs.Common.{◌≡◌, ℕ, zero, suc, ◌-◌, ◌<◌, ◌≤◌, inl, inr, ◌||◌, ◌==◌, Bool, true, false, not, cond, eqb, eq-eqb, List, length, refl, sym, ap, subst, ◌∙◌, arith}
use Rattle.std.proofs.lemmas.Bool.{cases_lt, cases_eq, ne_eqb}
use Rattle.std.proofs.lemmas.List.{get_or_past}
use Rattle.eager_tree.specs.Steps.{is_no_descendant}
use Rattle.dated_tree.specs.declared.node.Node.{Node}
use Rattle.dated_tree.specs.Shape.{Shape, node_at, no_node}
use Rattle.dated_tree.specs.Eager.{tag_at}
use Rattle.dated_tree.specs.Ended.{IsTestOf}
use Rattle.dated_tree.specs.Path.{leads_within, is_on_path}
use Rattle.dated_tree.specs.Kept.{IsSound}
use Rattle.dated_tree.proofs.PathLemmas.{eager_links, path-places, tags-eqb}
use Rattle.dated_ends.specs.End.{meets_end, HasNoChild}

pub or-false : (b : Bool) → (b || false) ≡ b
or-false true = refl
or-false false = refl

or-true : (b : Bool) → (b || true) ≡ true
or-true true = refl
or-true false = refl

-- a parent's place is lesser, also that of no node
abbrev pub AreBefore : List Node → Type 0
AreBefore nodes = (p : ℕ) → 1 ≤ p → (node_at nodes p).parent < p

pub before-all : (t : Shape) → IsSound t → AreBefore t.nodes
before-all t h p one =
    elim (cases_lt (p - 1) (length t.nodes)) [
      | inl some ↦ (h.nodes p one (omega (arith, some))).parent
      | inr past ↦ subst (λ (n : Node). n.parent < p) (sym (get_or_past t.nodes (p - 1) no_node past)) (omega (arith, one))
    ]

root-alone : (m : ℕ) (nodes : List Node) (p : ℕ) → leads_within m nodes 0 p ≡ eqb 0 p
root-alone zero nodes p = refl
root-alone (suc m) nodes p = or-false (eqb 0 p)

-- as many steps to a parent as the place says are enough
leads-steps : (m n : ℕ) (nodes : List Node) (x p : ℕ) → AreBefore nodes → x ≤ m → x ≤ n → leads_within m nodes x p ≡ leads_within n nodes x p
leads-steps zero n nodes x p h lm ln = let e : x ≡ 0 = omega (arith, lm) in rw e (sym (root-alone n nodes p))
leads-steps (suc m) zero nodes x p h lm ln = let e : x ≡ 0 = omega (arith, ln) in rw e (root-alone (suc m) nodes p)
leads-steps (suc m) (suc n) nodes x p h lm ln =
    elim (cases_eq x 0) [
      | inl e ↦ rw e refl
      | inr ne ↦
          let lt = h x (omega (arith, ne)) in
          ap (λ b. x == p || cond (x == 0) false b) (leads-steps m n nodes (node_at nodes x).parent p h (omega (arith, lt, lm)) (omega (arith, lt, ln)))
    ]

-- a path by its first step
path-step : (nodes : List Node) (x p : ℕ) → AreBefore nodes → 1 ≤ x → is_on_path nodes x p ≡ (x == p || is_on_path nodes (node_at nodes x).parent p)
path-step nodes x p h some =
    let lt = h x some in
    let off : eqb x 0 ≡ false = ne_eqb x 0 (λ e. omega (arith, e, some)) in
    leads-steps x (suc x) nodes x p h (omega arith) (omega arith)
    ∙ ap (λ b. x == p || cond b false (leads_within x nodes (node_at nodes x).parent p)) off
    ∙ ap (λ b. x == p || b) (leads-steps x (node_at nodes x).parent nodes (node_at nodes x).parent p h (omega (arith, lt)) (omega arith))

leads-low : (m : ℕ) (nodes : List Node) (place x : ℕ) → AreBefore nodes → place < x → leads_within m nodes place x ≡ false
leads-low zero nodes place x h lt = ne_eqb place x (λ e. omega (arith, e, lt))
leads-low (suc m) nodes place x h lt =
    elim (cases_eq place 0) [
      | inl e ↦ ap (λ p. leads_within (suc m) nodes p x) e ∙ root-alone (suc m) nodes x ∙ ne_eqb 0 x (λ same. omega (arith, same, lt))
      | inr ne ↦
          let before = h place (omega (arith, ne)) in
          rw (ne_eqb place x (λ e. omega (arith, e, lt)), ne_eqb place 0 ne) (leads-low m nodes (node_at nodes place).parent x h (omega (arith, before, lt)))
    ]

pub here-in : (nodes : List Node) (x : ℕ) → AreBefore nodes → 1 ≤ x → is_on_path nodes x x ≡ true
here-in nodes x h some = path-step nodes x x h some ∙ ap (λ b. b || is_on_path nodes (node_at nodes x).parent x) (eq-eqb x x refl)

-- the nodes below x and x itself are told by their paths
pub test-of : (nodes : List Node) (x : ℕ) → AreBefore nodes → 1 ≤ x → IsTestOf x nodes (λ place. is_on_path nodes place x)
test-of nodes x h some = record {
  root = ne_eqb 0 x (λ e. omega (arith, e, some));
  above = leads-low (node_at nodes x).parent nodes (node_at nodes x).parent x h (h x some);
  here = here-in nodes x h some;
  others = λ place one other. path-step nodes place x h one ∙ ap (λ b. b || is_on_path nodes (node_at nodes place).parent x) (ne_eqb place x other);
}

-- which nodes meet an end, by places
pub reaches-places : (t : Shape) (x i : ℕ) → IsSound t → x ≤ length t.nodes → i ≤ length t.nodes → is_no_descendant (eager_links t) (tag_at t x) (tag_at t i) ≡ meets_end t.nodes x i
reaches-places t x i h low high =
    ap (λ b. eqb (tag_at t x).0 (tag_at t i).0 || not b) (path-places t i x h high low)
    ∙ ap (λ b. b || not (is_on_path t.nodes i x)) (tags-eqb t x i h low high)

leaf-leads : (m : ℕ) (t : Shape) (place x : ℕ) → IsSound t → HasNoChild t x → 1 ≤ x → place ≤ length t.nodes → (place ≡ x → ⊥) → leads_within m t.nodes place x ≡ false
leaf-leads zero t place x h leaf some high other = ne_eqb place x other
leaf-leads (suc m) t place x h leaf some high other =
    elim (cases_eq place 0) [
      | inl e ↦ ap (λ p. leads_within (suc m) t.nodes p x) e ∙ root-alone (suc m) t.nodes x ∙ ne_eqb 0 x (λ same. omega (arith, same, some))
      | inr ne ↦
          let one : 1 ≤ place = omega (arith, ne) in
          let before = (h.nodes place one high).parent in
          rw (ne_eqb place x other, ne_eqb place 0 ne) (leaf-leads m t (node_at t.nodes place).parent x h leaf some (omega (arith, before, high)) (leaf place one high))
    ]

-- all nodes meet the end at a node without a child
pub leaf-meets : (t : Shape) (x place : ℕ) → IsSound t → HasNoChild t x → 1 ≤ x → place ≤ length t.nodes → meets_end t.nodes x place ≡ true
leaf-meets t x place h leaf some high =
    elim (cases_eq place x) [
      | inl e ↦ ap (λ b. b || not (is_on_path t.nodes place x)) (eq-eqb x place (sym e))
      | inr ne ↦ rw (leaf-leads place t place x h leaf some high ne) (or-true (eqb x place))
    ]

pub outside-meets : (nodes : List Node) (x place : ℕ) → is_on_path nodes place x ≡ false → meets_end nodes x place ≡ true
outside-meets nodes x place off = ap (λ b. x == place || not b) off ∙ or-true (x == place)

pub below-unmet : (x place : ℕ) (b : Bool) → (place ≡ x → ⊥) → b ≡ true → (x == place || not b) ≡ false
below-unmet x place b other e = rw (ne_eqb x place (λ s. other (sym s)), e) refl
