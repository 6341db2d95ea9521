-- Sets of names, and places in them.
use Rattle.std.proofs.Common.{◌≡◌, ℕ, zero, suc, ◌+◌, ◌<◌, ◌≤◌, Bool, true, false, ◌||◌, List, [], ◌∷◌, ◌++◌, length, take, drop, get_or, map, Some, None, refl, sym, ap, subst, ◌∙◌, arith}
use Rattle.std.specs.Prelude.{if◌then◌else◌, nat_lt, cond, not, position}
use Rattle.std.specs.Borrow.{Bor}
use Rattle.std.specs.List.{list_any, position_or_len}
use Rattle.std.specs.Str.{bytes_eq}
use Rattle.std.proofs.lemmas.Bool.{lt-ltb}
use Rattle.std.proofs.Math.Seq.{drop-cons}
use Rattle.std.proofs.lemmas.List.{take_more}
use Rattle.std.proofs.lemmas.List.Folds.{list_any_at}
use Rattle.std.proofs.lemmas.Slice.Eq.{bytes_eq-Decides}
use Rattle.indexmap.specs.IndexSet.{insert_key}
use Rattle.ir_ast.specs.declared.hosts.HostEntry.{HostEntry}
use Rattle.ir_ast.specs.Numbers.{place, host_names}
use Rattle.instrument.specs.Names.{IsOnce}
use Rattle.instrument.specs.Sets.{names_in}

pub cut : {A : Type 0} (xs : List A) (i : ℕ) (x : A) → i < length xs → x ≡ get_or xs i x → drop i xs ≡ x ∷ drop (i + 1) xs
cut {A = A} xs i x lt is =
    let next : suc i ≡ i + 1 = omega arith in
    drop-cons xs i x lt ∙ ap (λ (z : A). z ∷ drop (suc i) xs) (sym is) ∙ ap (λ (k : ℕ). x ∷ drop k xs) next

-- ---- places

place_by : (b c : Bool) (m n : ℕ) → b ≡ c → m ≡ n → (if b then 0 else suc m) ≡ cond (not c) (1 + n) 0
place_by true true m n e h = refl
place_by true false m n e h = absurd cc
place_by false true m n e h = absurd cc
place_by false false m n e h = omega (arith, h)

-- the place of a name is the first place at which a test passes that tells it
pub place_of : {A : Type 0} (name_of : A → List ℕ) (test : A → Bool) (xs : List A) (name : List ℕ) → ((x : A) → bytes_eq (name_of x) name ≡ test x) → place (map name_of xs) name ≡ position_or_len test xs
place_of f test [] name same = refl
place_of f test (x ∷ xs) name same = place_by (bytes_eq (f x) name) (test x) (place (map f xs) name) (position_or_len test xs) (same x) (place_of f test xs name same)

swap_by : (b c : Bool) (x y : List ℕ) → bytes_eq x y ≡ b → bytes_eq y x ≡ c → b ≡ c
swap_by true true x y e h = refl
swap_by false false x y e h = refl
swap_by true false x y e h = let same : x ≡ y = (bytes_eq-Decides x y).0 e in let other : bytes_eq y x ≡ true = (bytes_eq-Decides y x).1 (sym same) in absurd cc
swap_by false true x y e h = let same : y ≡ x = (bytes_eq-Decides y x).0 h in let other : bytes_eq x y ≡ true = (bytes_eq-Decides x y).1 (sym same) in absurd cc

pub swap : (x y : List ℕ) → bytes_eq x y ≡ bytes_eq y x
swap x y = swap_by (bytes_eq x y) (bytes_eq y x) x y refl refl

found_by : {A : Type 0} (test : A → Bool) (xs : List A) (b : Bool) (at : ℕ) → cond b (Some (position_or_len test xs)) None ≡ Some at → at ≡ position_or_len test xs
found_by test xs true at e = cc
found_by test xs false at e = absurd cc

pub found : {A : Type 0} (test : A → Bool) (xs : List A) (at : ℕ) → position test xs ≡ Some at → at ≡ position_or_len test xs
found test xs at e = found_by test xs (nat_lt (position_or_len test xs) (length xs)) at e

missed_by : {A : Type 0} (test : A → Bool) (xs : List A) (b : Bool) → b ≡ nat_lt (position_or_len test xs) (length xs) → position_or_len test xs ≤ length xs → cond b (Some (position_or_len test xs)) None ≡ None → position_or_len test xs ≡ length xs
missed_by test xs true h le e = absurd cc
missed_by test xs false h le e = let not : position_or_len test xs < length xs → ⊥ = λ lt. absurd_bool (h ∙ lt-ltb (position_or_len test xs) (length xs) lt) in omega (arith, not)
  where
    absurd_bool : false ≡ true → ⊥
    absurd_bool p = cc

within : {A : Type 0} (test : A → Bool) (xs : List A) → position_or_len test xs ≤ length xs
within test [] = omega arith
within test (x ∷ xs) = by_test (not (test x)) (position_or_len test xs) (length xs) (within test xs)
  where
    by_test : (b : Bool) (m n : ℕ) → m ≤ n → cond b (1 + m) 0 ≤ suc n
    by_test true m n le = omega arith
    by_test false m n le = omega arith

pub missed : {A : Type 0} (test : A → Bool) (xs : List A) → position test xs ≡ None → position_or_len test xs ≡ length xs
missed test xs e = missed_by test xs (nat_lt (position_or_len test xs) (length xs)) refl (within test xs) e

names_length : (names : List (Bor (List ℕ))) → length (names_in names) ≡ length names
names_length [] = refl
names_length (n ∷ names) = ap suc (names_length names)

pub place_found : (names : List (Bor (List ℕ))) (name : List ℕ) (at : ℕ) → position (λ n. bytes_eq name n.now) names ≡ Some at → at ≡ place (names_in names) name
place_found names name at e =
    found (λ n. bytes_eq name n.now) names at e ∙ sym (place_of (λ n. n.now) (λ n. bytes_eq name n.now) names name (λ n. swap n.now name))

pub place_missed : (names : List (Bor (List ℕ))) (name : List ℕ) → position (λ n. bytes_eq name n.now) names ≡ None → length names ≡ place (names_in names) name
place_missed names name e =
    sym (missed (λ n. bytes_eq name n.now) names e) ∙ sym (place_of (λ n. n.now) (λ n. bytes_eq name n.now) names name (λ n. swap n.now name))

-- ---- the place of a host, from an entry on

here_by : (b : Bool) (m i n : ℕ) → b ≡ true → i + (if b then 0 else suc m) ≡ n → i ≡ n
here_by true m i n e h = omega (arith, h)
here_by false m i n e h = absurd cc

next_by : (b : Bool) (m i n : ℕ) → b ≡ false → i + (if b then 0 else suc m) ≡ n → (i + 1) + m ≡ n
next_by true m i n e h = absurd cc
next_by false m i n e h = omega (arith, h)

pub host_here : (hosts : List HostEntry) (i : ℕ) (h : HostEntry) (name : List ℕ) (n : ℕ) → i < length hosts → h ≡ get_or hosts i h → bytes_eq h.name name ≡ true
    → i + place (host_names (drop i hosts)) name ≡ n → i ≡ n
host_here hosts i h name n lt is e so_far =
    here_by (bytes_eq h.name name) (place (host_names (drop (i + 1) hosts)) name) i n e
    (subst (λ (z : List HostEntry). i + place (host_names z) name ≡ n) (cut hosts i h lt is) so_far)

pub host_next : (hosts : List HostEntry) (i : ℕ) (h : HostEntry) (name : List ℕ) (n : ℕ) → i < length hosts → h ≡ get_or hosts i h → bytes_eq h.name name ≡ false
    → i + place (host_names (drop i hosts)) name ≡ n → (i + 1) + place (host_names (drop (i + 1) hosts)) name ≡ n
host_next hosts i h name n lt is e so_far =
    next_by (bytes_eq h.name name) (place (host_names (drop (i + 1) hosts)) name) i n e
    (subst (λ (z : List HostEntry). i + place (host_names z) name ≡ n) (cut hosts i h lt is) so_far)

pub ruleset host_steps = (host_here, host_next)

-- ---- lengths

map_length : {A B : Type 0} (f : A → B) (xs : List A) → length (map f xs) ≡ length xs
map_length f [] = refl
map_length f (x ∷ xs) = ap suc (map_length f xs)

pub short : {A : Type 0} (f : A → List ℕ) (keys : List (Bor (List ℕ))) (xs : List A) (n : ℕ) → names_in keys ≡ map f xs → length xs < n → length keys < n
short f keys xs n e lt =
    let same : length keys ≡ length xs = sym (names_length keys) ∙ ap length e ∙ map_length f xs in omega arith

-- ---- one more name

none_at : (b : Bool) {A : Type 0} (test : A → Bool) (xs : List A) (i : ℕ) (d : A) → i < length xs → test (get_or xs i d) ≡ b → list_any test xs ≡ false → b ≡ false
none_at true test xs i d lt e h = absurd (clash (list_any_at test xs i d lt e) h)
  where
    clash : list_any test xs ≡ true → list_any test xs ≡ false → ⊥
    clash p q = cc
none_at false test xs i d lt e h = refl

any_names : (n : List ℕ) (names : List (Bor (List ℕ))) → list_any (bytes_eq n) (names_in names) ≡ list_any (λ k. bytes_eq n k.now) names
any_names n [] = refl
any_names n (k ∷ names) = ap (λ (b : Bool). bytes_eq n k.now || b) (any_names n names)

fresh : (names : List (Bor (List ℕ))) (i : ℕ) (n : Bor (List ℕ)) → IsOnce (names_in names) → i < length names → n ≡ get_or names i n → list_any (λ k. bytes_eq n.now k.now) (take i names) ≡ false
fresh [] i n once lt is = absurd (omega arith)
fresh (m ∷ names) zero n once lt is = refl
fresh (m ∷ names) (suc i) n once lt is =
    let below : i < length names = omega arith in
    let first : list_any (λ k. bytes_eq m.now k.now) names ≡ false = sym (any_names m.now names) ∙ once.0 in
    let here : bytes_eq m.now (get_or names i n).now ≡ false = none_at (bytes_eq m.now (get_or names i n).now) (λ k. bytes_eq m.now k.now) names i n below refl first in
    let back : bytes_eq n.now m.now ≡ false = swap n.now m.now ∙ ap (λ (z : Bor (List ℕ)). bytes_eq m.now z.now) is ∙ here in
    ap (λ (b : Bool). b || list_any (λ k. bytes_eq n.now k.now) (take i names)) back ∙ fresh names i n once.1 below is

added : (b : Bool) (ks : List (Bor (List ℕ))) (k : Bor (List ℕ)) → b ≡ false → (if b then ks else ks ++ k ∷ []) ≡ ks ++ k ∷ []
added true ks k e = absurd cc
added false ks k e = refl

pub one_more : (names keys more : List (Bor (List ℕ))) (i : ℕ) (n : Bor (List ℕ)) → IsOnce (names_in names) → i < length names → n ≡ get_or names i n → keys ≡ take i names
    → more ≡ insert_key (λ a b. bytes_eq a.now b.now) keys n → more ≡ take (i + 1) names
one_more names keys more i n once lt is so_far e =
    let new : list_any (λ k. bytes_eq n.now k.now) keys ≡ false = ap (list_any (λ k. bytes_eq n.now k.now)) so_far ∙ fresh names i n once lt is in
    e ∙ added (list_any (λ k. bytes_eq n.now k.now) keys) keys n new ∙ ap (λ (z : List (Bor (List ℕ))). z ++ n ∷ []) so_far
    ∙ ap (λ (z : Bor (List ℕ)). take i names ++ z ∷ []) is ∙ sym (take_more names i n lt)

same_item : {A : Type 0} (xs : List A) (k : ℕ) (u v : A) → k < length xs → get_or xs k u ≡ get_or xs k v
same_item [] k u v lt = absurd (omega arith)
same_item (x ∷ xs) zero u v lt = refl
same_item (x ∷ xs) (suc k) u v lt = same_item xs k u v (omega arith)

pub one_more_at : (names keys more : List (Bor (List ℕ))) (i : ℕ) (d : Bor (List ℕ)) → IsOnce (names_in names) → i < length names → keys ≡ take i names
    → more ≡ insert_key (λ a b. bytes_eq a.now b.now) keys (get_or names i d) → more ≡ take (i + 1) names
one_more_at names keys more i d once lt so_far e = one_more names keys more i (get_or names i d) once lt (same_item names i d (get_or names i d) lt) so_far e

pub ruleset set_steps = (one_more, one_more_at)
