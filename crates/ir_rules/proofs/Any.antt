-- The least fault of several parts.
use Rattle.std.proofs.Common.{◌≡◌, ℕ, zero, suc, ◌+◌, ◌<◌, ◌≤◌, ◌⊎◌, inl, inr, List, [], ◌∷◌, ◌++◌, length, map, take, get_or, Option, None, refl, sym, ap, subst, ◌∙◌, arith}
use Rattle.std.specs.Prelude.{Contains, slice_index_or}
use Rattle.std.specs.List.{flat_map}
use Rattle.std.proofs.Math.Seq.{take-suc}
use Rattle.std.proofs.lemmas.List.Elements.{Contains-append_cases, Contains-append_left, Contains-append_right}
use Rattle.ir_rules.specs.declared.rule.Fault.{Fault}
use Rattle.ir_rules.specs.Least.{lesser, IsLeast, AnyOf}
use Rattle.ir_rules.proofs.Least.{least-or, least-same}

-- ---- elements
pub here : {A : Type 0} (x : A) (xs : List A) → Contains (x ∷ xs) x
here x xs = (0, omega arith, refl)

pub further : {A : Type 0} (x y : A) (xs : List A) → Contains xs y → Contains (x ∷ xs) y
further x y xs there = Contains-append_right (x ∷ []) xs y there

pub none_in : {A : Type 0} (x : A) → Contains [] x → ⊥
none_in x there = absurd (omega (arith, there.1))

pub head_of : {A : Type 0} (x y : A) (xs : List A) → Contains (x ∷ xs) y → (x ≡ y) ⊎ Contains xs y
head_of x y xs h = elim (Contains-append_cases (x ∷ []) xs y h) [
  | inl one ↦ only one.0 one.1 one.2
  | inr more ↦ inr more
]
  where
    only : (k : ℕ) → k < 1 → slice_index_or (x ∷ []) k y ≡ y → (x ≡ y) ⊎ Contains xs y
    only zero lt e = inl e
    only (suc k) lt e = absurd (omega (arith, lt))

pub in-map : {A B : Type 0} (g : A → B) (xs : List A) (y : B) → Contains (map g xs) y → (e : A) × Contains xs e × (g e ≡ y)
in-map g [] y there = absurd (none_in y there)
in-map g (e ∷ xs) y there = elim (head_of (g e) y (map g xs) there) [
  | inl same ↦ (e, here e xs, same)
  | inr more ↦ let found = in-map g xs y more in (found.0, further e found.0 xs found.1, found.2)
]

pub map-in : {A B : Type 0} (g : A → B) (xs : List A) (e : A) → Contains xs e → Contains (map g xs) (g e)
map-in g [] e there = absurd (none_in e there)
map-in g (y ∷ xs) e there = elim (head_of y e xs there) [
  | inl same ↦ subst (λ (z : _). Contains (map g (y ∷ xs)) (g z)) same (here (g y) (map g xs))
  | inr more ↦ further (g y) (g e) (map g xs) (map-in g xs e more)
]

pub in-flat : {A B : Type 0} (g : A → List B) (xs : List A) (y : B) → Contains (flat_map g xs) y → (e : A) × Contains xs e × Contains (g e) y
in-flat g [] y there = absurd (none_in y there)
in-flat g (e ∷ xs) y there = elim (Contains-append_cases (g e) (flat_map g xs) y there) [
  | inl first ↦ (e, here e xs, first)
  | inr more ↦ let found = in-flat g xs y more in (found.0, further e found.0 xs found.1, found.2)
]

pub flat-in : {A B : Type 0} (g : A → List B) (xs : List A) (e : A) (y : B) → Contains xs e → Contains (g e) y → Contains (flat_map g xs) y
flat-in g [] e y there h = absurd (none_in e there)
flat-in g (z ∷ xs) e y there h = elim (head_of z e xs there) [
  | inl same ↦ Contains-append_left (g z) (flat_map g xs) y (subst (λ (w : _). Contains (g w) y) (sym same) h)
  | inr more ↦ Contains-append_right (g z) (flat_map g xs) y (flat-in g xs e y more h)
]

-- ---- the items of a list
pub any-cons : {A : Type 0} (S : A → Fault → Type 0) (e : A) (xs : List A) (x : Fault) → S e x ⊎ AnyOf S xs x → AnyOf S (e ∷ xs) x
any-cons S e xs x (inl h) = (e, here e xs, h)
any-cons S e xs x (inr h) = (h.0, further e h.0 xs h.1, h.2)

pub cons-any : {A : Type 0} (S : A → Fault → Type 0) (e : A) (xs : List A) (x : Fault) → AnyOf S (e ∷ xs) x → S e x ⊎ AnyOf S xs x
cons-any S e xs x h = elim (head_of e h.0 xs h.1) [
  | inl same ↦ inl (subst (λ (z : _). S z x) (sym same) h.2)
  | inr more ↦ inr (h.0, more, h.2)
]

any-join : {A : Type 0} (S : A → Fault → Type 0) (xs : List A) (e : A) (x : Fault) → AnyOf S (xs ++ e ∷ []) x → AnyOf S xs x ⊎ S e x
any-join S xs e x h = elim (Contains-append_cases xs (e ∷ []) h.0 h.1) [
  | inl before ↦ inl (h.0, before, h.2)
  | inr last ↦ elim (head_of e h.0 [] last) [
    | inl same ↦ inr (subst (λ (z : _). S z x) (sym same) h.2)
    | inr more ↦ absurd (none_in h.0 more)
  ]
]

join-any : {A : Type 0} (S : A → Fault → Type 0) (xs : List A) (e : A) (x : Fault) → AnyOf S xs x ⊎ S e x → AnyOf S (xs ++ e ∷ []) x
join-any S xs e x (inl h) = (h.0, Contains-append_left xs (e ∷ []) h.0 h.1, h.2)
join-any S xs e x (inr h) = (e, Contains-append_right xs (e ∷ []) e (here e []), h)

pub taken-next : {A : Type 0} (xs : List A) (i : ℕ) (d : A) → i < length xs → take (i + 1) xs ≡ take i xs ++ get_or xs i d ∷ []
taken-next xs i d lt = let next : i + 1 ≡ suc i = omega arith in ap (λ (n : ℕ). take n xs) next ∙ take-suc xs i d lt

pub take_whole : {A : Type 0} (xs : List A) (n : ℕ) → length xs ≤ n → take n xs ≡ xs
take_whole [] zero le = refl
take_whole [] (suc n) le = refl
take_whole (x ∷ xs) zero le = absurd (omega (arith, le))
take_whole (x ∷ xs) (suc n) le = ap (λ (z : List _). x ∷ z) (take_whole xs n (omega (arith, le)))

-- one more item of the list that a loop goes along
pub any-next : {A : Type 0} (S : A → Fault → Type 0) (xs : List A) (i : ℕ) (d : A) (best one : Option Fault) → i < length xs → IsLeast (AnyOf S (take i xs)) best → IsLeast (S (get_or xs i d)) one
    → IsLeast (AnyOf S (take (i + 1) xs)) (lesser best one)
any-next S xs i d best one lt so_far now =
    let e : _ = get_or xs i d in
    subst (λ (z : List _). IsLeast (AnyOf S z) (lesser best one)) (sym (taken-next xs i d lt))
    (least-same (λ x. AnyOf S (take i xs) x ⊎ S e x) (AnyOf S (take i xs ++ e ∷ [])) (lesser best one) (join-any S (take i xs) e) (any-join S (take i xs) e)
    (least-or (AnyOf S (take i xs)) (S e) best one so_far now))

pub any-none : {A : Type 0} (S : A → Fault → Type 0) → IsLeast (AnyOf S []) None
any-none S = λ x h. none_in h.0 h.1

-- at the loop's end
pub any-all : {A : Type 0} (S : A → Fault → Type 0) (xs : List A) (n : ℕ) (o : Option Fault) → length xs ≤ n → IsLeast (AnyOf S (take n xs)) o → IsLeast (AnyOf S xs) o
any-all S xs n o le h = subst (λ (z : List _). IsLeast (AnyOf S z) o) (take_whole xs n le) h

-- one item, and two
pub any-one : {A : Type 0} (S : A → Fault → Type 0) (e : A) (o : Option Fault) → IsLeast (S e) o → IsLeast (AnyOf S (e ∷ [])) o
any-one S e o h = least-same (S e) (AnyOf S (e ∷ [])) o (λ x s. (e, here e [], s)) back h
  where
    back : (x : Fault) → AnyOf S (e ∷ []) x → S e x
    back x s = elim (head_of e s.0 [] s.1) [
      | inl same ↦ subst (λ (z : _). S z x) (sym same) s.2
      | inr more ↦ absurd (none_in s.0 more)
    ]

pub any-two : {A : Type 0} (S : A → Fault → Type 0) (a b : A) (o p : Option Fault) → IsLeast (S a) o → IsLeast (S b) p → IsLeast (AnyOf S (a ∷ b ∷ [])) (lesser o p)
any-two S a b o p h k = least-same (λ x. S a x ⊎ S b x) (AnyOf S (a ∷ b ∷ [])) (lesser o p) to back (least-or (S a) (S b) o p h k)
  where
    to : (x : Fault) → S a x ⊎ S b x → AnyOf S (a ∷ b ∷ []) x
    to x (inl m) = (a, here a (b ∷ []), m)
    to x (inr m) = (b, further a b (b ∷ []) (here b []), m)

    back : (x : Fault) → AnyOf S (a ∷ b ∷ []) x → S a x ⊎ S b x
    back x s = elim (head_of a s.0 (b ∷ []) s.1) [
      | inl same ↦ inl (subst (λ (z : _). S z x) (sym same) s.2)
      | inr more ↦ elim (head_of b s.0 [] more) [
        | inl same ↦ inr (subst (λ (z : _). S z x) (sym same) s.2)
        | inr none ↦ absurd (none_in s.0 none)
      ]
    ]

-- the items that a list is made of
pub any-map : {A B : Type 0} (S : B → Fault → Type 0) (g : A → B) (xs : List A) (x : Fault) → AnyOf (λ a. S (g a)) xs x → AnyOf S (map g xs) x
any-map S g xs x h = (g h.0, map-in g xs h.0 h.1, h.2)

pub map-any : {A B : Type 0} (S : B → Fault → Type 0) (g : A → B) (xs : List A) (x : Fault) → AnyOf S (map g xs) x → AnyOf (λ a. S (g a)) xs x
map-any S g xs x h = let from = in-map g xs h.0 h.1 in (from.0, from.1, subst (λ (z : _). S z x) (sym from.2) h.2)
