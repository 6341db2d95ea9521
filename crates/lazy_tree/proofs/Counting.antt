-- How many numbers have a property, the ring of a node, and the cuts of a tree.
use Rattle.std.proofs.Common.{◌≡◌, ◌≢◌, ℕ, zero, suc, ◌+◌, ◌<◌, ◌≤◌, ◌||◌, ◌&&◌, not, eqb, Bool, true, false, cond, List, [], ◌∷◌, length, filter, get_or, refl, sym, ap, ◌∙◌, arith, inl, inr}
use Rattle.std.proofs.lemmas.Bool.{cases_eq, ne_eqb}
use Rattle.std.specs.List.{list_any}
use Rattle.range_map.specs.Ranges.{has_start}
use Rattle.lazy_tree.specs.declared.tree.Node.{Node}
use Rattle.lazy_tree.specs.Skip.{node_at}
use Rattle.lazy_tree.specs.Ring.{count, is_cut}

count-step : (has : ℕ → Bool) (from n : ℕ) → count has from (suc n) ≡ cond (has from) (count has (from + 1) n + 1) (count has (from + 1) n)
count-step has from n = refl

pub count-split : (has : ℕ → Bool) (from m n : ℕ) → count has from (m + n) ≡ count has from m + count has (from + m) n
count-split has from zero n = ap (λ k. count has from k) (let e : zero + n ≡ n = omega arith in e) ∙ ap (λ k. count has k n) (let e : from ≡ from + zero = omega arith in e) ∙ (let e : count has (from + zero) n ≡ 0 + count has (from + zero) n = omega arith in e)
count-split has from (suc m) n =
    let rest = count-split has (from + 1) m n in
    let place : count has (from + 1 + m) n ≡ count has (from + suc m) n = ap (λ k. count has k n) (let e : from + 1 + m ≡ from + suc m = omega arith in e) in
    ap (λ k. count has from k) (let e : suc m + n ≡ suc (m + n) = omega arith in e)
    ∙ (elim (has from) as (λ b. cond b (count has (from + 1) (m + n) + 1) (count has (from + 1) (m + n)) ≡ cond b (count has (from + 1) m + 1) (count has (from + 1) m) + count has (from + suc m) n) [
      | true ↦ omega (arith, rest, place)
      | false ↦ omega (arith, rest, place)
    ])

pub count-first : (has : ℕ → Bool) (from n : ℕ) → has from ≡ true → 1 ≤ n → 1 ≤ count has from n
count-first has from zero e some = absurd (omega (arith, some))
count-first has from (suc n) e some = rw e (omega arith)

pub count-none : (has : ℕ → Bool) (from n : ℕ) → ((b : ℕ) → from ≤ b → b < from + n → has b ≡ false) → count has from n ≡ 0
count-none has from zero h = refl
count-none has from (suc n) h = rw (h from (omega arith) (omega arith)) (count-none has (from + 1) n (λ b low high. h b (omega (arith, low)) (omega (arith, high))))

pub count-within : (has more : ℕ → Bool) (from n : ℕ) → ((b : ℕ) → from ≤ b → b < from + n → has b ≡ true → more b ≡ true) → count has from n ≤ count more from n
count-within has more from zero h = omega arith
count-within has more from (suc n) h =
    let rest = count-within has more (from + 1) n (λ b low high. h b (omega (arith, low)) (omega (arith, high))) in
    let here = h from (omega arith) (omega arith) in
    elim (has from) as (λ b. (b ≡ true → more from ≡ true) → cond b (count has (from + 1) n + 1) (count has (from + 1) n) ≤ cond (more from) (count more (from + 1) n + 1) (count more (from + 1) n)) [
      | true ↦ λ up. rw (up refl) (omega (arith, rest))
      | false ↦ λ up. elim (more from) as (λ m. count has (from + 1) n ≤ cond m (count more (from + 1) n + 1) (count more (from + 1) n)) [ true ↦ omega (arith, rest) | false ↦ rest ]
    ] here

-- one number more has the property
pub count-more : (has more : ℕ → Bool) (from n k : ℕ) → ((b : ℕ) → from ≤ b → b < from + n → has b ≡ true → more b ≡ true) → from ≤ k → k < from + n → has k ≡ false → more k ≡ true → count has from n + 1 ≤ count more from n
count-more has more from zero k h low high out new = absurd (omega (arith, low, high))
count-more has more from (suc n) k h low high out new =
    let later : (b : ℕ) → from + 1 ≤ b → b < from + 1 + n → has b ≡ true → more b ≡ true = λ b lo hi. h b (omega (arith, lo)) (omega (arith, hi)) in
    elim (cases_eq k from) [
      | inl here ↦
          let rest = count-within has more (from + 1) n later in
          rw (ap has (sym here) ∙ out, ap more (sym here) ∙ new) (omega (arith, rest))
      | inr other ↦
          let rest = count-more has more (from + 1) n k later (omega (arith, low, other)) (omega (arith, high)) out new in
          let here = h from (omega arith) (omega arith) in
          elim (has from) as (λ b. (b ≡ true → more from ≡ true) → cond b (count has (from + 1) n + 1) (count has (from + 1) n) + 1 ≤ cond (more from) (count more (from + 1) n + 1) (count more (from + 1) n)) [
            | true ↦ λ up. rw (up refl) (omega (arith, rest))
            | false ↦ λ up. elim (more from) as (λ m. count has (from + 1) n + 1 ≤ cond m (count more (from + 1) n + 1) (count more (from + 1) n)) [ true ↦ omega (arith, rest) | false ↦ rest ]
          ] here
    ]

count-shift : {A : Type 0} (has : A → Bool) (x : A) (xs : List A) (d : A) (from n : ℕ) → count (λ i. has (get_or (x ∷ xs) i d)) (from + 1) n ≡ count (λ i. has (get_or xs i d)) from n
count-shift has x xs d from zero = refl
count-shift has x xs d from (suc n) =
    let here : get_or (x ∷ xs) (from + 1) d ≡ get_or xs from d = ap (λ k. get_or (x ∷ xs) k d) (let e : from + 1 ≡ suc from = omega arith in e) in
    ap (λ y. cond (has y) (count (λ i. has (get_or (x ∷ xs) i d)) (from + 1 + 1) n + 1) (count (λ i. has (get_or (x ∷ xs) i d)) (from + 1 + 1) n)) here
    ∙ ap (λ c. cond (has (get_or xs from d)) (c + 1) c) (count-shift has x xs d (from + 1) n)

-- how many items of a list have the property
pub count-list : {A : Type 0} (has : A → Bool) (xs : List A) (d : A) → length (filter has xs) ≡ count (λ i. has (get_or xs i d)) 0 (length xs)
count-list has [] d = refl
count-list has (x ∷ xs) d =
    let rest : length (filter has xs) ≡ count (λ i. has (get_or (x ∷ xs) i d)) (0 + 1) (length xs) = count-list has xs d ∙ sym (count-shift has x xs d 0 (length xs)) in
    elim (has x) as (λ b. length (cond b (x ∷ filter has xs) (filter has xs)) ≡ cond b (count (λ i. has (get_or (x ∷ xs) i d)) (0 + 1) (length xs) + 1) (count (λ i. has (get_or (x ∷ xs) i d)) (0 + 1) (length xs))) [
      | true ↦ omega (arith, rest)
      | false ↦ rest
    ]

any-at : (at : ℕ) (ns : List Node) (i : ℕ) → i < length ns → has_start at (node_at ns i).runs.starts ≡ true → list_any (λ n. has_start at n.runs.starts) ns ≡ true
any-at at [] i lt e = absurd (omega arith)
any-at at (n ∷ ns) zero lt e = rw e refl
any-at at (n ∷ ns) (suc i) lt e =
    elim (has_start at n.runs.starts) as (λ b. (b || list_any (λ n. has_start at n.runs.starts) ns) ≡ true) [ true ↦ refl | false ↦ any-at at ns i (omega (arith, lt)) e ]

-- a run of a node that begins past the first byte is at a cut
pub cut-at : (nodes : List Node) (i at : ℕ) → i < length nodes → at ≢ 0 → has_start at (node_at nodes i).runs.starts ≡ true → is_cut nodes at ≡ true
unfolding is_cut
cut-at nodes i at lt past e = rw (ne_eqb at 0 past) (any-at at nodes i lt e)

-- a cut is where a run of some node begins
pub record IsCutOf (nodes : List Node) (at i : ℕ) : Type 0 where
  pub past : at ≢ 0
  pub within : i < length nodes
  pub begins : has_start at (node_at nodes i).runs.starts ≡ true

any-of : (at : ℕ) (ns : List Node) → list_any (λ n. has_start at n.runs.starts) ns ≡ true → (i : ℕ) × (i < length ns) × (has_start at (node_at ns i).runs.starts ≡ true)
any-of at [] e = cc
any-of at (n ∷ ns) e =
    elim (has_start at n.runs.starts) as (λ b. b ≡ has_start at n.runs.starts → (b || list_any (λ n. has_start at n.runs.starts) ns) ≡ true → (i : ℕ) × (i < length (n ∷ ns)) × (has_start at (node_at (n ∷ ns) i).runs.starts ≡ true)) [
      | true ↦ λ here any. (0, (let z : 0 < length (n ∷ ns) = omega arith in z), sym here)
      | false ↦ λ here any. (let rest = any-of at ns any in (suc rest.0, (let z : suc rest.0 < length (n ∷ ns) = (let lt = rest.1 in omega (arith, lt)) in z), rest.2))
    ] refl e

pub cut-of : (nodes : List Node) (at : ℕ) → is_cut nodes at ≡ true → (i : ℕ) × IsCutOf nodes at i
unfolding is_cut
cut-of nodes at e =
    elim (eqb at 0) as (λ b. b ≡ eqb at 0 → (not b && list_any (λ n. has_start at n.runs.starts) nodes) ≡ true → (i : ℕ) × IsCutOf nodes at i) [
      | true ↦ λ zero any. absurd (no-cut any)
      | false ↦ λ some any. (let found = any-of at nodes any in (found.0, record { past = λ zero. (let wrong : true ≡ false = sym (is-zero zero) ∙ sym some in cc); within = found.1; begins = found.2 }))
    ] refl e
  where
    no-cut : false ≡ true → ⊥
    no-cut e = cc

    is-zero : at ≡ 0 → eqb at 0 ≡ true
    is-zero e = rw e refl
