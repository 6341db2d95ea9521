-- Marks and work, and the paths that they stand for.
use Rattle.std.proofs.Common.{◌≡◌, ℕ, zero, suc, ◌+◌, ◌≤◌, ◌<◌, Bool, true, false, List, [], ◌∷◌, ◌++◌, length, drop, get_or, replicate, set, Option, Some, length-set, length-append, refl, sym, ap, subst, ◌∙◌, arith, ◌⊎◌, inl, inr}
use Rattle.std.specs.Prelude.{slice_get, Contains}
use Rattle.std.proofs.lemmas.List.Elements.{Contains-append_cases, Contains-append_left, Contains-append_right, Contains-push, Contains-push_cases}
use Rattle.flow_paths.specs.Paths.{Passes, IsPath, IsEntered, IsMarked, unmarked, Answers, Visited}

none_in : (b : ℕ) → Contains [] b → ⊥
none_in b h = absurd (omega (arith, h.1))

cons_here : (s : ℕ) (ss : List ℕ) → Contains (s ∷ ss) s
cons_here s ss = Contains-append_left (s ∷ []) ss s (Contains-push [] s)

cons_cases : (s : ℕ) (ss : List ℕ) (b : ℕ) → Contains (s ∷ ss) b → (s ≡ b) ⊎ Contains ss b
cons_cases s ss b h = elim (Contains-append_cases (s ∷ []) ss b h) [
  | inl one ↦ elim (Contains-push_cases [] s b one) [ inl none ↦ absurd (none_in b none) | inr e ↦ inl e ]
  | inr more ↦ inr more
]

pub marked_inside : (m : List Bool) (b : ℕ) → IsMarked m b → b < length m
marked_inside [] b h = absurd cc
marked_inside (x ∷ m) zero h = omega arith
marked_inside (x ∷ m) (suc b) h = omega (arith, marked_inside m b h)

-- one more mark
set_unmarked : (m : List Bool) (s : ℕ) → s < length m → get_or m s false ≡ false → unmarked (set m s true) + 1 ≡ unmarked m
set_unmarked [] s lt h = absurd (omega arith)
set_unmarked (true ∷ m) zero lt h = absurd cc
set_unmarked (false ∷ m) zero lt h = refl
set_unmarked (true ∷ m) (suc s) lt h = set_unmarked m s (omega arith) h
set_unmarked (false ∷ m) (suc s) lt h = omega (arith, set_unmarked m s (omega arith) h)

set_marked : (m : List Bool) (s b : ℕ) → s < length m → IsMarked (set m s true) b → IsMarked m b ⊎ (b ≡ s)
set_marked [] s b lt h = absurd (omega arith)
set_marked (x ∷ m) zero zero lt h = inr refl
set_marked (x ∷ m) zero (suc b) lt h = inl h
set_marked (x ∷ m) (suc s) zero lt h = inl h
set_marked (x ∷ m) (suc s) (suc b) lt h = elim (set_marked m s b (omega arith) h) [ inl k ↦ inl k | inr e ↦ inr (ap suc e) ]

marked_set : (m : List Bool) (s b : ℕ) → IsMarked m b → IsMarked (set m s true) b
marked_set [] s b h = h
marked_set (x ∷ m) zero zero h = refl
marked_set (x ∷ m) zero (suc b) h = h
marked_set (x ∷ m) (suc s) zero h = h
marked_set (x ∷ m) (suc s) (suc b) h = marked_set m s b h

set_same : (m : List Bool) (s : ℕ) → s < length m → IsMarked (set m s true) s
set_same [] s lt = absurd (omega arith)
set_same (x ∷ m) zero lt = refl
set_same (x ∷ m) (suc s) lt = set_same m s (omega arith)

-- ---- going to nodes, one after the other

pub none_visited : (m : List Bool) (w : List ℕ) → Visited [] m w m w
none_visited m w = record { size = refl; grows = λ b h. h; each = λ b h. absurd (none_in b h); only = λ b h. inl h; keeps = λ b h. h; noted = λ b h. inl h; balance = refl }

pub old_visited : (s : ℕ) (ss : List ℕ) (m : List Bool) (w : List ℕ) (m' : List Bool) (w' : List ℕ) → IsMarked m s → Visited ss m w m' w' → Visited (s ∷ ss) m w m' w'
old_visited s ss m w m' w' h v = record {
  size = v.size;
  grows = v.grows;
  keeps = v.keeps;
  noted = v.noted;
  balance = v.balance;
  each = λ b k. elim (cons_cases s ss b k) [ inl e ↦ subst (IsMarked m') e (v.grows s h) | inr r ↦ v.each b r ];
  only = λ b k. elim (v.only b k) [ inl r ↦ inl r | inr r ↦ inr (Contains-append_right (s ∷ []) ss b r.0, r.1) ];
}

pub new_visited : (s : ℕ) (ss : List ℕ) (m : List Bool) (w : List ℕ) (m' : List Bool) (w' : List ℕ) → s < length m → get_or m s false ≡ false → Visited ss (set m s true) (w ++ s ∷ []) m' w' → Visited (s ∷ ss) m w m' w'
new_visited s ss m w m' w' lt h v = record {
  size = v.size ∙ length-set m s true;
  grows = λ b k. v.grows b (marked_set m s b k);
  each = λ b k. elim (cons_cases s ss b k) [ inl e ↦ subst (IsMarked m') e (v.grows s (set_same m s lt)) | inr r ↦ v.each b r ];
  only = λ b k. elim (v.only b k) [
    | inl r ↦ elim (set_marked m s b lt r) [ inl old ↦ inl old | inr e ↦ inr (subst (Contains (s ∷ ss)) (sym e) (cons_here s ss), subst (Contains w') (sym e) (v.keeps s (Contains-push w s))) ]
    | inr r ↦ inr (Contains-append_right (s ∷ []) ss b r.0, r.1)
  ];
  keeps = λ b k. v.keeps b (Contains-append_left w (s ∷ []) b k);
  noted = λ b k. elim (v.noted b k) [
    | inl r ↦ elim (Contains-push_cases w s b r) [ inl old ↦ inl old | inr e ↦ inr (subst (IsMarked m') e (v.grows s (set_same m s lt))) ]
    | inr r ↦ inr r
  ];
  balance = omega (arith, v.balance, set_unmarked m s lt h, length-append w (s ∷ []));
}

-- ---- what the marks stand for

abbrev pub Closed : List (List ℕ) → List Bool → List Bool → ℕ → Type 0
Closed graph stops m b = (s : ℕ) → Passes graph stops b s → IsMarked m s

pub record Sound (graph : List (List ℕ)) (stops : List Bool) (m : List Bool) (w : List ℕ) : Type 0 where
  pub size : length m ≡ length graph
  pub first : IsMarked m 0
  pub only : (b : ℕ) → IsMarked m b → IsEntered graph stops b
  pub noted : (b : ℕ) → Contains w b → IsMarked m b
  pub closed : (b : ℕ) → IsMarked m b → Contains w b ⊎ Closed graph stops m b

same_some : {A : Type 0} (x y : A) → (let z : Option A = Some x in z) ≡ Some y → x ≡ y
same_some x y e = cc

same_at : {A : Type 0} (xs : List A) (b c : ℕ) (x y : A) → c ≡ b → slice_get xs c ≡ Some x → slice_get xs b ≡ Some y → x ≡ y
same_at xs b c x y is h k = same_some x y (sym h ∙ ap (slice_get xs) is ∙ k)

pub popped_marked : (graph : List (List ℕ)) (stops m : List Bool) (w w' : List ℕ) (b : ℕ) → Sound graph stops m w → w ≡ w' ++ b ∷ [] → IsMarked m b
popped_marked graph stops m w w' b s e = s.noted b (subst (λ (z : List ℕ). Contains z b) (sym e) (Contains-push w' b))

-- no path goes through a node that stops it
pub step_stops : (graph : List (List ℕ)) (stops m : List Bool) (w w' : List ℕ) (b : ℕ) → Sound graph stops m w → w ≡ w' ++ b ∷ [] → slice_get stops b ≡ Some true → Sound graph stops m w'
step_stops graph stops m w w' b s e halts = record {
  size = s.size;
  first = s.first;
  only = s.only;
  noted = λ c h. s.noted c (subst (λ (z : List ℕ). Contains z c) (sym e) (Contains-append_left w' (b ∷ []) c h));
  closed = λ c h. elim (s.closed c h) [
    | inl k ↦ elim (Contains-push_cases w' b c (subst (λ (z : List ℕ). Contains z c) e k)) [
      | inl old ↦ inl old
      | inr is ↦ inr (λ t p. let q : false ≡ true = same_at stops b c false true (sym is) p.2 halts in absurd cc)
    ]
    | inr k ↦ inr k
  ];
}

-- one node more on the path
entered_next : (graph : List (List ℕ)) (stops : List Bool) (b c : ℕ) (next : List ℕ) → IsEntered graph stops b → slice_get graph b ≡ Some next → slice_get stops b ≡ Some false → Contains next c → IsEntered graph stops c
entered_next graph stops b c next p at passes there = (b ∷ p.0, ((next, at, passes, there), p.1))

pub step_visits : (graph : List (List ℕ)) (stops m : List Bool) (w w' : List ℕ) (b : ℕ) (next : List ℕ) (m2 : List Bool) (w2 : List ℕ) → Sound graph stops m w → w ≡ w' ++ b ∷ []
    → slice_get graph b ≡ Some next → slice_get stops b ≡ Some false → Visited next m w' m2 w2 → Sound graph stops m2 w2
step_visits graph stops m w w' b next m2 w2 s e at passes v = record {
  size = v.size ∙ s.size;
  first = v.grows 0 s.first;
  only = λ c h. elim (v.only c h) [
    | inl old ↦ s.only c old
    | inr new ↦ entered_next graph stops b c next (s.only b (popped_marked graph stops m w w' b s e)) at passes new.0
  ];
  noted = λ c h. elim (v.noted c h) [
    | inl old ↦ v.grows c (s.noted c (subst (λ (z : List ℕ). Contains z c) (sym e) (Contains-append_left w' (b ∷ []) c old)))
    | inr new ↦ new
  ];
  closed = λ c h. elim (v.only c h) [
    | inl old ↦ elim (s.closed c old) [
      | inl k ↦ elim (Contains-push_cases w' b c (subst (λ (z : List ℕ). Contains z c) e k)) [
        | inl left ↦ inl (v.keeps c left)
        | inr is ↦ inr (λ t p. v.each t (subst (λ (z : List ℕ). Contains z t) (same_at graph b c p.0 next (sym is) p.1 at) p.3))
      ]
      | inr k ↦ inr (λ t p. v.grows t (k t p))
    ]
    | inr new ↦ inl new.1
  ];
}

-- where nothing is left to do, the marks are exactly the nodes that a path enters
pub answers : (graph : List (List ℕ)) (stops m : List Bool) → Sound graph stops m [] → Answers graph stops m
answers graph stops m s = record { size = s.size; only = s.only; each = λ b p. reached b p.0 p.1 }
  where
    reached : (b : ℕ) (path : List ℕ) → IsPath graph stops (b ∷ path) → IsMarked m b
    reached b [] e = subst (IsMarked m) (sym e) s.first
    reached b (c ∷ path) h = elim (s.closed c (reached c path h.1)) [ inl k ↦ absurd (none_in c k) | inr k ↦ k b h.0 ]

-- node 0 alone is marked at the start
pub starts : (graph : List (List ℕ)) (stops m : List Bool) → length m ≡ length graph → 0 < length m → ((b : ℕ) → get_or m b false ≡ false) → Sound graph stops (set m 0 true) (0 ∷ [])
starts graph stops m size some none = record {
  size = length-set m 0 true ∙ size;
  first = set_same m 0 some;
  only = λ b h. elim (set_marked m 0 b some h) [ inl old ↦ let q : true ≡ false = sym old ∙ none b in absurd cc | inr e ↦ ([], e) ];
  noted = λ b h. elim (cons_cases 0 [] b h) [ inl e ↦ subst (IsMarked (set m 0 true)) e (set_same m 0 some) | inr k ↦ absurd (none_in b k) ];
  closed = λ b h. elim (set_marked m 0 b some h) [ inl old ↦ let q : true ≡ false = sym old ∙ none b in absurd cc | inr e ↦ inl (subst (Contains (0 ∷ [])) (sym e) (cons_here 0 [])) ];
}

pub drop_all : (xs : List ℕ) (n : ℕ) → length xs ≤ n → drop n xs ≡ []
drop_all [] zero le = refl
drop_all [] (suc n) le = refl
drop_all (x ∷ xs) zero le = absurd (omega arith)
drop_all (x ∷ xs) (suc n) le = drop_all xs n (omega arith)

-- what an index reads, whatever the value past the end
pub marked_read : (m : List Bool) (s : ℕ) (r : Bool) → s < length m → r ≡ get_or m s r → r ≡ true → get_or m s false ≡ true
marked_read [] s r lt e t = absurd (omega arith)
marked_read (x ∷ m) zero r lt e t = sym e ∙ t
marked_read (x ∷ m) (suc s) r lt e t = marked_read m s r (omega arith) e t

pub node_inside : (graph : List (List ℕ)) (stops m : List Bool) (w w' : List ℕ) (b : ℕ) → Sound graph stops m w → w ≡ w' ++ b ∷ [] → b < length graph
node_inside graph stops m w w' b s e = omega (arith, marked_inside m b (popped_marked graph stops m w w' b s e), s.size)

pub read_blank : (n b : ℕ) → get_or (replicate n false) b false ≡ false
read_blank zero b = refl
read_blank (suc n) zero = refl
read_blank (suc n) (suc b) = read_blank n b

-- what an index reads, whatever the value past the end
pub read_bit : (m : List Bool) (i : ℕ) (r d : Bool) → i < length m → get_or m i d ≡ r → slice_get m i ≡ Some r
read_bit [] i r d lt e = absurd (omega (arith, lt))
read_bit (x ∷ m) zero r d lt e = ap (λ (z : Bool). let o : Option Bool = Some z in o) e
read_bit (x ∷ m) (suc i) r d lt e = read_bit m i r d (omega (arith, lt)) e
