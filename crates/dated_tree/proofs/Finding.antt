-- Nodes by their tags, which rise.
use Rattle.std.proofs.Common.{◌≡◌, ℕ, zero, suc, ◌<◌, ◌≤◌, true, false, nat_lt, List, [], ◌∷◌, length, get_or, refl, sym, ap, subst, ◌∙◌, arith, inl, inr}
use Rattle.std.proofs.lemmas.Bool.{cases_lt, cases_eq}
use Rattle.std.proofs.lemmas.Bool.Decides.{nat_tests}
use Rattle.std.specs.List.Sorted.{IsPartitionPoint, IsPartitionedBy}
use Rattle.bsan_ids.specs.declared.numbers.Tag.{Tag}
use Rattle.dated_tree.specs.declared.node.Node.{Node}
use Rattle.dated_tree.specs.Shape.{no_node}

abbrev pub nth : List Node → ℕ → Node
nth nodes i = get_or nodes i no_node

abbrev pub Rising : List Node → Type 0
Rising nodes = (i j : ℕ) → i < j → j < length nodes → (nth nodes i).tag.0 < (nth nodes j).tag.0

-- a default does not matter inside
same_default : (nodes : List Node) (i : ℕ) (d e : Node) → i < length nodes → get_or nodes i d ≡ get_or nodes i e
same_default [] i d e lt = absurd (omega arith)
same_default (n ∷ ns) zero d e lt = refl
same_default (n ∷ ns) (suc i) d e lt = same_default ns i d e (omega (arith, lt))

below-tag : (a b t : ℕ) → a ≤ b → nat_lt b t ≡ true → nat_lt a t ≡ true
below-tag a b t le h = grind (arith, nat_tests, le, h)

pub partitioned : (nodes : List Node) (tag : Tag) → Rising nodes → IsPartitionedBy (λ (n : Node). nat_lt n.tag.0 tag.0) nodes
partitioned nodes tag rising i j d le lt h =
    elim (cases_eq i j) [
      | inl same ↦ subst (λ k. nat_lt (get_or nodes k d).tag.0 tag.0 ≡ true) (sym same) h
      | inr other ↦
          let less = rising i j (omega (arith, le, other)) lt in
          let one : get_or nodes i d ≡ nth nodes i = same_default nodes i d no_node (omega (arith, le, lt)) in
          let two : get_or nodes j d ≡ nth nodes j = same_default nodes j d no_node lt in
          below-tag (get_or nodes i d).tag.0 (get_or nodes j d).tag.0 tag.0 (rw (one, two) (omega (arith, less))) h
    ]

pub point-below : (nodes : List Node) (tag : Tag) (k i : ℕ) → k ≤ length nodes → IsPartitionPoint (λ (n : Node). nat_lt n.tag.0 tag.0 ≡ true) (λ (n : Node). nat_lt n.tag.0 tag.0 ≡ false) nodes k → i < k → (nth nodes i).tag.0 < tag.0
point-below nodes tag k i le p lt = let test = p.0 i no_node (omega arith) lt in grind (arith, nat_tests, test)

pub point-above : (nodes : List Node) (tag : Tag) (k i : ℕ) → IsPartitionPoint (λ (n : Node). nat_lt n.tag.0 tag.0 ≡ true) (λ (n : Node). nat_lt n.tag.0 tag.0 ≡ false) nodes k → k ≤ i → i < length nodes → tag.0 ≤ (nth nodes i).tag.0
point-above nodes tag k i p le lt = let test = p.1 i no_node le lt in grind (arith, nat_tests, test)

-- no node is found, since the tag would have to stand on either side
pub not-found : (nodes : List Node) (tag : Tag) (at i : ℕ) → Rising nodes → ((j : ℕ) → j < at → (nth nodes j).tag.0 < tag.0) → ((j : ℕ) → at ≤ j → j < length nodes → tag.0 ≤ (nth nodes j).tag.0) → (at < length nodes → (nth nodes at).tag.0 ≡ tag.0 → ⊥) → i < length nodes → (nth nodes i).tag.0 ≡ tag.0 → ⊥
not-found nodes tag at i rising below above_it ne lt e =
    elim (cases_lt i at) [
      | inl less ↦ (let b = below i less in omega (arith, b, e))
      | inr more ↦ elim (cases_eq i at) [
        | inl here ↦ ne (omega (arith, here, lt)) (ap (λ k. (nth nodes k).tag.0) (sym here) ∙ e)
        | inr other ↦
            let at_low : at < length nodes = omega (arith, more, lt) in
            (let up = rising at i (omega (arith, more, other)) lt in let first = above_it at (omega arith) at_low in omega (arith, up, first, e))
      ]
    ]
