-- The path of a node as a list.
use Rattle.std.proofs.Common.{◌≡◌, ◌⊎◌, inl, inr, ℕ, zero, suc, ◌+◌, ◌-◌, ◌<◌, ◌≤◌, ◌==◌, ◌||◌, Bool, true, false, cond, eqb, eq-eqb, List, [], ◌∷◌, ◌++◌, length, take, drop, reverse, refl, sym, ap, subst, ◌∙◌, arith, length-append, append_assoc, append-nil}
use Rattle.std.proofs.lemmas.Bool.{cases_lt, cases_eq, ne_eqb, eqb-true}
use Rattle.std.proofs.lemmas.Grind.{reverse_onto}
use Rattle.std.proofs.Math.ListN.{get_or-append}
use Rattle.std.proofs.Math.Seq.{get_or-append_seam}
use Rattle.std.proofs.lemmas.List.{length-reverse}
use Rattle.std.specs.List.{Contains}
use Rattle.eager_tree.proofs.Trees.{put_back}
use Rattle.dated_tree.specs.declared.node.Node.{Node}
use Rattle.dated_tree.specs.Shape.{node_at}
use Rattle.dated_tree.specs.Path.{leads_within, is_on_path}
use Rattle.dated_tree.specs.Stored.{AreStored}
use Rattle.dated_access.specs.Path.{ups_within, ups_to, path_to, entry, above_entry, IsPathTo}

ups-steps : (m n size x : ℕ) (nodes : List Node) → AreStored size nodes → x ≤ length nodes → x ≤ m → x ≤ n → ups_within m nodes x ≡ ups_within n nodes x
ups-steps zero zero size x nodes h low lm ln = refl
ups-steps zero (suc n) size x nodes h low lm ln = let e : x ≡ 0 = omega arith in rw e refl
ups-steps (suc m) zero size x nodes h low lm ln = let e : x ≡ 0 = omega arith in rw e refl
ups-steps (suc m) (suc n) size x nodes h low lm ln =
    elim (cases_eq x 0) [
      | inl e ↦ rw e refl
      | inr ne ↦
          let before = h.parent x (omega (arith, ne)) low in
          ap (λ l. cond (x == 0) [] (x ∷ l)) (ups-steps m n size (node_at nodes x).parent nodes h (omega (arith, before)) (omega (arith, before)) (omega (arith, before)))
    ]

ups-from : (m size x : ℕ) (nodes : List Node) → AreStored size nodes → 1 ≤ x → x ≤ length nodes → x ≤ m → ups_within m nodes x ≡ x ∷ ups_to nodes (node_at nodes x).parent
ups-from zero size x nodes h some low le = absurd (omega arith)
ups-from (suc m) size x nodes h some low le =
    let before = h.parent x some low in
    rw (ne_eqb x 0 (λ e. omega arith)) (ap (λ l. x ∷ l) (ups-steps m (node_at nodes x).parent size (node_at nodes x).parent nodes h (omega (arith, before)) (omega (arith, before)) (omega arith)))

-- one step up
pub ups-step : (size x : ℕ) (nodes : List Node) → AreStored size nodes → 1 ≤ x → x ≤ length nodes → ups_to nodes x ≡ x ∷ ups_to nodes (node_at nodes x).parent
ups-step size x nodes h some low = ups-from x size x nodes h some low (omega arith)

-- one step down
path-step : (size x : ℕ) (nodes : List Node) → AreStored size nodes → 1 ≤ x → x ≤ length nodes → path_to nodes x ≡ path_to nodes (node_at nodes x).parent ++ x ∷ []
path-step size x nodes h some low = ap reverse (ups-step size x nodes h some low) ∙ reverse_onto (ups_to nodes (node_at nodes x).parent) x []

leads-steps : (m n size x p : ℕ) (nodes : List Node) → AreStored size nodes → x ≤ length nodes → x ≤ m → x ≤ n → leads_within m nodes x p ≡ leads_within n nodes x p
leads-steps zero zero size x p nodes h low lm ln = refl
leads-steps zero (suc n) size x p nodes h low lm ln = let e : x ≡ 0 = omega arith in rw e (or-false (eqb 0 p))
  where
    or-false : (b : Bool) → b ≡ (b || false)
    or-false true = refl
    or-false false = refl
leads-steps (suc m) zero size x p nodes h low lm ln = let e : x ≡ 0 = omega arith in rw e (or-false (eqb 0 p))
  where
    or-false : (b : Bool) → (b || false) ≡ b
    or-false true = refl
    or-false false = refl
leads-steps (suc m) (suc n) size x p nodes h low lm ln =
    elim (cases_eq x 0) [
      | inl e ↦ rw e refl
      | inr ne ↦
          let before = h.parent x (omega (arith, ne)) low in
          ap (λ b. x == p || cond (x == 0) false b) (leads-steps m n size (node_at nodes x).parent p nodes h (omega (arith, before)) (omega (arith, before)) (omega (arith, before)))
    ]

leads-from : (m size x p : ℕ) (nodes : List Node) → AreStored size nodes → 1 ≤ x → x ≤ length nodes → x ≤ m → leads_within m nodes x p ≡ (x == p || is_on_path nodes (node_at nodes x).parent p)
leads-from zero size x p nodes h some low le = absurd (omega arith)
leads-from (suc m) size x p nodes h some low le =
    let before = h.parent x some low in
    rw (ne_eqb x 0 (λ e. omega arith)) (ap (λ b. x == p || b) (leads-steps m (node_at nodes x).parent size (node_at nodes x).parent p nodes h (omega (arith, before)) (omega (arith, before)) (omega arith)))

-- a place is on the path of x where it is x, or on the path of its parent
pub on-step : (size x p : ℕ) (nodes : List Node) → AreStored size nodes → 1 ≤ x → x ≤ length nodes → is_on_path nodes x p ≡ (x == p || is_on_path nodes (node_at nodes x).parent p)
on-step size x p nodes h some low = leads-from x size x p nodes h some low (omega arith)

or-right : (a b : Bool) → b ≡ true → (a || b) ≡ true
or-right true b e = refl
or-right false b e = e

or-cases : (a b : Bool) → (a || b) ≡ true → (a ≡ true) ⊎ (b ≡ true)
or-cases true b e = inl refl
or-cases false b e = inr e

-- what is among the first is among all
contains-left : (xs : List ℕ) (y p : ℕ) → Contains xs p → Contains (xs ++ y ∷ []) p
contains-left xs y p h = (h.0, omega (arith, h.1, length-append xs (y ∷ [])), get_or-append xs (y ∷ []) p h.0 h.1 ∙ h.2)

contains-last : (xs : List ℕ) (y p : ℕ) → y ≡ p → Contains (xs ++ y ∷ []) p
contains-last xs y p e = (length xs, omega (arith, length-append xs (y ∷ [])), get_or-append_seam xs y [] p ∙ e)

-- the path with its end
record Path (nodes : List Node) (x : ℕ) (path : List ℕ) : Type 0 where
  facts : IsPathTo nodes x path
  end : above_entry path (length path) ≡ x

above-left : (xs : List ℕ) (y k : ℕ) → k ≤ length xs → above_entry (xs ++ y ∷ []) k ≡ above_entry xs k
above-left xs y k le =
    elim (cases_eq k 0) [
      | inl e ↦ rw e refl
      | inr ne ↦ ap (λ e. cond (k == 0) 0 e) (get_or-append xs (y ∷ []) 0 (k - 1) (omega (arith, ne)))
    ]

above-last : (xs : List ℕ) (y n : ℕ) → n ≡ length xs + 1 → above_entry (xs ++ y ∷ []) n ≡ y
above-last xs y n e =
    rw (ne_eqb n 0 (λ z. omega (arith, z, e))) (ap (λ k. entry (xs ++ y ∷ []) k) (let k : n - 1 ≡ length xs = omega arith in k) ∙ get_or-append_seam xs y [] 0)

empty : (nodes : List Node) → Path nodes 0 []
empty nodes = record {
  facts = record {
    way = record {
      some = λ k lt. absurd (omega arith);
      stored = λ k lt. absurd (omega arith);
      parent = λ k lt. absurd (omega arith);
    };
    sound = λ k lt. absurd (omega arith);
    whole = λ place some on. absurd (let e : 0 ≡ place = eqb-true 0 place on in omega arith);
  };
  end = refl;
}

last-or : (xs : List ℕ) (y k : ℕ) → k < length (xs ++ y ∷ []) → (k < length xs) ⊎ (k ≡ length xs)
last-or xs y k lt = elim (cases_lt k (length xs)) [ inl less ↦ inl less | inr more ↦ inr (omega (arith, more, lt, length-append xs (y ∷ []))) ]

same-place : (n : ℕ) → eqb n n ≡ true
same-place n = eq-eqb n n refl

more : (size x : ℕ) (nodes : List Node) (xs : List ℕ) → AreStored size nodes → 1 ≤ x → x ≤ length nodes → Path nodes (node_at nodes x).parent xs → Path nodes x (xs ++ x ∷ [])
more size x nodes xs h one low up =
    let before = h.parent x one low in
    let left : (k : ℕ) → k < length xs → entry (xs ++ x ∷ []) k ≡ entry xs k = λ k lt. get_or-append xs (x ∷ []) 0 k lt in
    let last : (k : ℕ) → k ≡ length xs → entry (xs ++ x ∷ []) k ≡ x = λ k e. ap (entry (xs ++ x ∷ [])) e ∙ get_or-append_seam xs x [] 0 in
    record {
      facts = record {
        way = record {
          some = λ k lt. elim (last-or xs x k lt) [ inl less ↦ (let s = up.facts.way.some k less in omega (arith, s, left k less)) | inr same ↦ omega (arith, one, last k same) ];
          stored = λ k lt. elim (last-or xs x k lt) [ inl less ↦ (let s = up.facts.way.stored k less in omega (arith, s, left k less)) | inr same ↦ omega (arith, low, last k same) ];
          parent = λ k lt. elim (last-or xs x k lt) [
            | inl less ↦ ap (λ p. (node_at nodes p).parent) (left k less) ∙ up.facts.way.parent k less ∙ sym (above-left xs x k (omega (arith, less)))
            | inr same ↦ ap (λ p. (node_at nodes p).parent) (last k same) ∙ sym up.end ∙ ap (above_entry xs) (sym same) ∙ sym (above-left xs x k (omega (arith, same)))
          ];
        };
        sound = λ k lt. on-step size x (entry (xs ++ x ∷ []) k) nodes h one low ∙ elim (last-or xs x k lt) as (λ _. (x == entry (xs ++ x ∷ []) k || is_on_path nodes (node_at nodes x).parent (entry (xs ++ x ∷ []) k)) ≡ true) [
          | inl less ↦ or-right (x == entry (xs ++ x ∷ []) k) _ (ap (is_on_path nodes (node_at nodes x).parent) (left k less) ∙ up.facts.sound k less)
          | inr same ↦ ap (λ b. b || is_on_path nodes (node_at nodes x).parent (entry (xs ++ x ∷ []) k)) (ap (λ p. x == p) (last k same) ∙ same-place x)
        ];
        whole = λ place some on. elim (or-cases (x == place) _ (sym (on-step size x place nodes h one low) ∙ on)) [
          | inl here ↦ contains-last xs x place (eqb-true x place here)
          | inr above_it ↦ contains-left xs x place (up.facts.whole place some above_it)
        ];
      };
      end = above-last xs x (length (xs ++ x ∷ [])) (length-append xs (x ∷ []));
    }

path-within : (m size x : ℕ) (nodes : List Node) → AreStored size nodes → x ≤ length nodes → x ≤ m → Path nodes x (path_to nodes x)
path-within zero size x nodes h low le = let e : 0 ≡ x = omega arith in subst (λ y. Path nodes y (path_to nodes y)) e (empty nodes)
path-within (suc m) size x nodes h low le =
    elim (cases_eq x 0) [
      | inl e ↦ subst (λ y. Path nodes y (path_to nodes y)) (sym e) (empty nodes)
      | inr ne ↦
          let some : 1 ≤ x = omega (arith, ne) in
          let before = h.parent x some low in
          subst (λ l. Path nodes x l) (sym (path-step size x nodes h some low)) (more size x nodes (path_to nodes (node_at nodes x).parent) h some low (path-within m size (node_at nodes x).parent nodes h (omega (arith, before)) (omega (arith, before))))
    ]

-- what holds of the list of a path
pub path-facts : (size x : ℕ) (nodes : List Node) → AreStored size nodes → x ≤ length nodes → IsPathTo nodes x (path_to nodes x)
path-facts size x nodes h low = (path-within x size x nodes h low (omega arith)).facts

-- the list on the way up, with one place more
pub ups-more : (size at x : ℕ) (nodes : List Node) (ups now : List ℕ) → AreStored size nodes → 1 ≤ at → at ≤ length nodes → ups ++ ups_to nodes at ≡ ups_to nodes x → now ≡ ups ++ at ∷ [] → now ++ ups_to nodes (node_at nodes at).parent ≡ ups_to nodes x
ups-more size at x nodes ups now h some low e is =
    rw (is, append_assoc) (ap (λ l. ups ++ l) (sym (ups-step size at nodes h some low)) ∙ e)

-- the list on the way up, at its end
pub ups-whole : (here x : ℕ) (nodes : List Node) (ups : List ℕ) → here ≤ 0 → ups ++ ups_to nodes here ≡ ups_to nodes x → ups ≡ ups_to nodes x
ups-whole here x nodes ups le e =
    let root : here ≡ 0 = omega arith in
    sym (append-nil ups) ∙ (rw root at e)

pub path-whole : (size here x n : ℕ) (nodes : List Node) (ups now new : List ℕ) → AreStored size nodes → x ≤ length nodes → here ≤ 0 → ups ++ ups_to nodes here ≡ ups_to nodes x → now ≡ ups → new ≡ reverse now → length now ≡ n → IsPathTo nodes x (take n (new ++ drop (length new) ups))
path-whole size here x n nodes ups now new h low le e same back len =
    let long : length new ≡ length ups = ap length back ∙ length-reverse now ∙ ap length same in
    let all : take n (new ++ drop (length new) ups) ≡ new = put_back new ups n (sym (ap length same) ∙ len) long in
    subst (λ l. IsPathTo nodes x l) (sym (all ∙ back ∙ ap reverse (same ∙ ups-whole here x nodes ups le e))) (path-facts size x nodes h low)
