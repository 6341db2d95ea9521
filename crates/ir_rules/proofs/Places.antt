-- The place of a name in a list that grows.
use Rattle.std.proofs.Common.{◌≡◌, ℕ, suc, ◌+◌, ◌<◌, ◌≤◌, inl, inr, Bool, true, false, cond, List, [], ◌∷◌, ◌++◌, length, map, take, get_or, Option, Some, None, refl, sym, ap, subst, ◌∙◌, arith, bytes_eq}
use Rattle.std.proofs.Math.Seq.{take-suc}
use Rattle.std.proofs.lemmas.Bool.{cases_lt, lt-ltb, le-ltb}
use Rattle.std.proofs.lemmas.List.{length-take}
use Rattle.std.specs.Option.{is_some, option_map}
use Rattle.std.specs.Cmp.Lexicographic.{bytes_decides, nat_list_eq_equiv}
use Rattle.ir_ast.specs.Numbers.{place}
use Rattle.ir_rules.specs.Paths.{below, place_named}
use Rattle.ir_rules.specs.Walk.{or_first}

-- ---- a place less than the length is that of a name which stands in the list
below_less : (bound n : ℕ) → n < bound → below bound n ≡ Some n
below_less bound n lt = ap (λ (z : Bool). cond z (Some n) None) (lt-ltb n bound lt)

below_past : (bound n : ℕ) → bound ≤ n → below bound n ≡ None
below_past bound n le = ap (λ (z : Bool). cond z (Some n) None) (le-ltb n bound le)

below_next : (bound n : ℕ) → below (suc bound) (suc n) ≡ option_map suc (below bound n)
below_next bound n = elim (cases_lt n bound) [
  | inl lt ↦ below_less (suc bound) (suc n) (omega (arith, lt)) ∙ sym (ap (option_map suc) (below_less bound n lt))
  | inr ge ↦ below_past (suc bound) (suc n) (omega (arith, ge)) ∙ sym (ap (option_map suc) (below_past bound n ge))
]

below_is : (bound n c : ℕ) → below bound n ≡ Some c → (n ≡ c) × (c < bound)
below_is bound n c e = elim (cases_lt n bound) [
  | inl lt ↦ let s : (let o : Option ℕ = Some n in o) ≡ Some c = sym (below_less bound n lt) ∙ e in let same : n ≡ c = cc in (same, omega (arith, lt, same))
  | inr ge ↦ let s : (let o : Option ℕ = None in o) ≡ Some c = sym (below_past bound n ge) ∙ e in absurd cc
]

pub found_at : {A : Type 0} (named : A → List ℕ) (xs : List A) (q : List ℕ) (c : ℕ) → place_named named xs q ≡ Some c → (place (map named xs) q ≡ c) × (c < length xs)
found_at named xs q c e = below_is (length xs) (place (map named xs) q) c e

pub at_found : {A : Type 0} (named : A → List ℕ) (xs : List A) (q : List ℕ) (c : ℕ) → place (map named xs) q ≡ c → c < length xs → place_named named xs q ≡ Some c
at_found named xs q c is lt = ap (below (length xs)) is ∙ below_less (length xs) c lt

place_pick : (b c : Bool) → b ≡ c → (p n : ℕ) → below (suc n) (cond b 0 (suc p)) ≡ cond c (Some 0) (option_map suc (below n p))
place_pick true true e p n = below_less (suc n) 0 (omega arith)
place_pick true false e p n = absurd cc
place_pick false true e p n = absurd cc
place_pick false false e p n = below_next n p

-- one more item at the front
pub place_next : {A : Type 0} (named : A → List ℕ) (x : A) (xs : List A) (q : List ℕ) → place_named named (x ∷ xs) q ≡ cond (bytes_eq q (named x)) (Some 0) (option_map suc (place_named named xs q))
place_next named x xs q = place_pick (bytes_eq (named x) q) (bytes_eq q (named x)) (nat_list_eq_equiv.symm (named x) q) (place (map named xs) q) (length xs)

-- ---- one more item at the end
suc_or : (p : Option ℕ) (b : Bool) (n : ℕ) → option_map suc (or_first p b n) ≡ or_first (option_map suc p) b (suc n)
suc_or (Some p) b n = refl
suc_or None true n = refl
suc_or None false n = refl

step_or : (b : Bool) (p p' : Option ℕ) (b' : Bool) (n : ℕ) → p' ≡ or_first p b' n → cond b (Some 0) (option_map suc p') ≡ or_first (cond b (Some 0) (option_map suc p)) b' (suc n)
step_or true p p' b' n e = refl
step_or false p p' b' n e = ap (option_map suc) e ∙ suc_or p b' n

pub place_last : {A : Type 0} (f : A → List ℕ) (xs : List A) (x : A) (q : List ℕ) → place_named f (xs ++ x ∷ []) q ≡ or_first (place_named f xs q) (bytes_eq q (f x)) (length xs)
place_last f [] x q = place_next f x [] q ∙ first (bytes_eq q (f x))
  where
    first : (b : Bool) → cond b (Some 0) (option_map suc (place_named f [] q)) ≡ or_first (place_named f [] q) b 0
    first true = refl
    first false = refl
place_last f (y ∷ xs) x q =
    place_next f y (xs ++ x ∷ []) q
    ∙ step_or (bytes_eq q (f y)) (place_named f xs q) (place_named f (xs ++ x ∷ []) q) (bytes_eq q (f x)) (length xs) (place_last f xs x q)
    ∙ ap (λ (z : Option ℕ). or_first z (bytes_eq q (f x)) (suc (length xs))) (sym (place_next f y xs q))

pub place_taken : {A : Type 0} (f : A → List ℕ) (xs : List A) (i : ℕ) (d : A) (q : List ℕ) → i < length xs
    → place_named f (take (i + 1) xs) q ≡ or_first (place_named f (take i xs) q) (bytes_eq q (f (get_or xs i d))) i
place_taken f xs i d q lt =
    let one : i + 1 ≡ suc i = omega arith in
    let more : take (i + 1) xs ≡ take i xs ++ get_or xs i d ∷ [] = ap (λ (n : ℕ). take n xs) one ∙ take-suc xs i d lt in
    let len : length (take i xs) ≡ i = grind (arith, length-take) in
    ap (λ (z : List _). place_named f z q) more ∙ place_last f (take i xs) (get_or xs i d) q ∙ ap (λ (n : ℕ). or_first (place_named f (take i xs) q) (bytes_eq q (f (get_or xs i d))) n) len

-- a table of the places of the names so far, and one name more
pub placed_next : {A : Type 0} (f : A → List ℕ) (xs : List A) (i : ℕ) (d : A) (m m' : List ℕ → Option ℕ) → i < length xs → ((q : List ℕ) → m q ≡ place_named f (take i xs) q)
    → ((q : List ℕ) → m' q ≡ or_first (m q) (bytes_eq q (f (get_or xs i d))) i) → (q : List ℕ) → m' q ≡ place_named f (take (i + 1) xs) q
placed_next f xs i d m m' lt so_far is q = is q ∙ ap (λ (z : Option ℕ). or_first z (bytes_eq q (f (get_or xs i d))) i) (so_far q) ∙ sym (place_taken f xs i d q lt)

-- ---- what is put into a table, unless its name is there
or_kept : {A : Type 0} (o : Option A) (b : Bool) (k : A) → (b ≡ true → is_some o ≡ true) → o ≡ or_first o b k
or_kept (Some p) b k h = refl
or_kept None true k h = let e = h refl in absurd cc
or_kept None false k h = refl

or_put : {A : Type 0} (o : Option A) (b : Bool) (k : A) → (b ≡ true → is_some o ≡ false) → cond b (Some k) o ≡ or_first o b k
or_put (Some p) true k h = let e = h refl in absurd cc
or_put (Some p) false k h = refl
or_put None true k h = refl
or_put None false k h = refl

pub known : {A : Type 0} (m : List ℕ → Option A) (name : List ℕ) (k : A) → is_some (m name) ≡ true → (q : List ℕ) → m q ≡ or_first (m q) (bytes_eq q name) k
known m name k is q = or_kept (m q) (bytes_eq q name) k (λ e. subst (λ (z : List ℕ). is_some (m z) ≡ true) (sym ((bytes_decides q name).0 e)) is)

pub new : {A : Type 0} (m m' : List ℕ → Option A) (name : List ℕ) (k : A) → is_some (m name) ≡ false → ((q : List ℕ) → m' q ≡ cond (bytes_eq name q) (Some k) (m q)) → (q : List ℕ) → m' q ≡ or_first (m q) (bytes_eq q name) k
new m m' name k none is q = is q ∙ ap (λ (b : Bool). cond b (Some k) (m q)) (nat_list_eq_equiv.symm name q)
    ∙ or_put (m q) (bytes_eq q name) k (λ e. subst (λ (z : List ℕ). is_some (m z) ≡ false) (sym ((bytes_decides q name).0 e)) none)
