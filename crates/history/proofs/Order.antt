-- Entries in stamp order: there is one such list for the entries of each stamp.
use Rattle.std.proofs.Common.{◌≡◌, ℕ, suc, ◌<◌, ◌≤◌, List, [], ◌∷◌, length, get_or, Bool, true, false, cond, refl, sym, ap, ◌∙◌, arith, inl, inr}
use Rattle.std.specs.Prelude.{◌==◌, nat_le, filter, if◌then◌else◌, ◌⊎◌}
use Rattle.std.specs.List.Sorted.{IsNonDecreasingBy}
use Rattle.std.proofs.lemmas.Grind.{common_steps}
use Rattle.std.proofs.lemmas.Bool.Decides.{nat_tests}
use Rattle.std.proofs.lemmas.Bool.{cases_lt}
use Rattle.history.specs.declared.entry.Entry.{Entry}
use Rattle.history.specs.Merge.{stamp_of, put_by_stamp, by_stamp}

-- no stamp is below this number
abbrev pub AllFrom : ℕ → List Entry → Type 0
AllFrom n [] = Unit {0}
AllFrom n (e ∷ es) = (n ≤ stamp_of e) × AllFrom n es

-- each stamp is at most the later ones
abbrev pub Rises : List Entry → Type 0
Rises [] = Unit {0}
Rises (e ∷ es) = AllFrom (stamp_of e) es × Rises es

abbrev pub with_stamp : ℕ → List Entry → List Entry
with_stamp n es = filter (λ e. stamp_of e == n) es

pub from_lower : (m n : ℕ) (es : List Entry) → m ≤ n → AllFrom n es → AllFrom m es
from_lower m n [] le h = tt
from_lower m n (e ∷ es) le h = (omega (arith, h.0), from_lower m n es le h.1)

pub put_from : (n : ℕ) (e : Entry) (es : List Entry) → n ≤ stamp_of e → AllFrom n es → AllFrom n (put_by_stamp e es)
put_from n e [] le h = (le, tt)
put_from n e (f ∷ fs) le h =
    elim (nat_le (stamp_of e) (stamp_of f)) as (λ b. AllFrom n (if b then e ∷ f ∷ fs else f ∷ put_by_stamp e fs)) [
      | true ↦ (le, (h.0, h.1))
      | false ↦ (h.0, put_from n e fs le h.1)
    ]

le_or : (a b : ℕ) → nat_le a b ≡ true → a ≤ b
le_or a b h = grind (arith, nat_tests)

not_le : (a b : ℕ) → nat_le a b ≡ false → b < a
not_le a b h = grind (arith, nat_tests)

put_rises_by : (e f : Entry) (fs : List Entry) (b : Bool) → nat_le (stamp_of e) (stamp_of f) ≡ b → AllFrom (stamp_of f) fs → Rises fs
    → Rises (put_by_stamp e fs) → Rises (if b then e ∷ f ∷ fs else f ∷ put_by_stamp e fs)
put_rises_by e f fs true is low h more =
    let le : stamp_of e ≤ stamp_of f = le_or (stamp_of e) (stamp_of f) is in
    ((le, from_lower (stamp_of e) (stamp_of f) fs le low), (low, h))
put_rises_by e f fs false is low h more =
    let lt : stamp_of f < stamp_of e = not_le (stamp_of e) (stamp_of f) is in
    (put_from (stamp_of f) e fs (omega arith) low, more)

pub put_rises : (e : Entry) (es : List Entry) → Rises es → Rises (put_by_stamp e es)
put_rises e [] h = (tt, tt)
put_rises e (f ∷ fs) h = put_rises_by e f fs (nat_le (stamp_of e) (stamp_of f)) refl h.0 h.1 (put_rises e fs h.1)

pub by_stamp_rises : (es : List Entry) → Rises (by_stamp es)
by_stamp_rises [] = tt
by_stamp_rises (e ∷ es) = put_rises e (by_stamp es) (by_stamp_rises es)

swap_two : (n : ℕ) (e f : Entry) (fs gs : List Entry) → stamp_of f < stamp_of e → with_stamp n gs ≡ with_stamp n (e ∷ fs)
    → with_stamp n (f ∷ gs) ≡ with_stamp n (e ∷ f ∷ fs)
swap_two n e f fs gs lt h = grind (arith, nat_tests, common_steps, h)

put_keeps_by : (n : ℕ) (e f : Entry) (fs : List Entry) (b : Bool) → nat_le (stamp_of e) (stamp_of f) ≡ b
    → with_stamp n (put_by_stamp e fs) ≡ with_stamp n (e ∷ fs)
    → with_stamp n (if b then e ∷ f ∷ fs else f ∷ put_by_stamp e fs) ≡ with_stamp n (e ∷ f ∷ fs)
put_keeps_by n e f fs true is h = refl
put_keeps_by n e f fs false is h =
    swap_two n e f fs (put_by_stamp e fs) (not_le (stamp_of e) (stamp_of f) is) h

pub with_stamp-put : (n : ℕ) (e : Entry) (es : List Entry) → with_stamp n (put_by_stamp e es) ≡ with_stamp n (e ∷ es)
with_stamp-put n e [] = refl
with_stamp-put n e (f ∷ fs) = put_keeps_by n e f fs (nat_le (stamp_of e) (stamp_of f)) refl (with_stamp-put n e fs)

cons_with : (n : ℕ) (e : Entry) (es fs : List Entry) → with_stamp n es ≡ with_stamp n fs → with_stamp n (e ∷ es) ≡ with_stamp n (e ∷ fs)
cons_with n e es fs h = ap (λ (rest : List Entry). cond (stamp_of e == n) (e ∷ rest) rest) h

pub with_stamp-by_stamp : (n : ℕ) (es : List Entry) → with_stamp n (by_stamp es) ≡ with_stamp n es
with_stamp-by_stamp n [] = refl
with_stamp-by_stamp n (e ∷ es) = with_stamp-put n e (by_stamp es) ∙ cons_with n e (by_stamp es) es (with_stamp-by_stamp n es)

none_below : (m n : ℕ) (es : List Entry) → n < m → AllFrom m es → with_stamp n es ≡ []
none_below m n [] lt h = refl
none_below m n (e ∷ es) lt h = grind (arith, nat_tests, h.0, none_below m n es lt h.1)

at_own : (e : Entry) (es : List Entry) → with_stamp (stamp_of e) (e ∷ es) ≡ e ∷ with_stamp (stamp_of e) es
at_own e es = grind (arith, nat_tests)

not_first : (x y : Entry) (xs ys : List Entry) → stamp_of x < stamp_of y → AllFrom (stamp_of y) ys
    → with_stamp (stamp_of x) (x ∷ xs) ≡ with_stamp (stamp_of x) (y ∷ ys) → ⊥
not_first x y xs ys lt low h =
    let none : with_stamp (stamp_of x) (y ∷ ys) ≡ [] = none_below (stamp_of y) (stamp_of x) (y ∷ ys) lt (omega arith, low) in
    let own : with_stamp (stamp_of x) (x ∷ xs) ≡ x ∷ with_stamp (stamp_of x) xs = at_own x xs in
    cc

same_first : (x y : Entry) (xs ys : List Entry) → stamp_of x ≡ stamp_of y
    → with_stamp (stamp_of x) (x ∷ xs) ≡ with_stamp (stamp_of x) (y ∷ ys) → x ≡ y
same_first x y xs ys eq h =
    let own : with_stamp (stamp_of x) (x ∷ xs) ≡ x ∷ with_stamp (stamp_of x) xs = at_own x xs in
    let other : with_stamp (stamp_of x) (y ∷ ys) ≡ y ∷ with_stamp (stamp_of x) ys = grind (arith, nat_tests, eq) in
    cc

same_rest : (n : ℕ) (x : Entry) (xs ys : List Entry) → with_stamp n (x ∷ xs) ≡ with_stamp n (x ∷ ys) → with_stamp n xs ≡ with_stamp n ys
same_rest n x xs ys h = strip (stamp_of x == n) (with_stamp n xs) (with_stamp n ys) h
  where
    strip : (b : Bool) (us vs : List Entry) → cond b (x ∷ us) us ≡ cond b (x ∷ vs) vs → us ≡ vs
    strip true us vs e = cc
    strip false us vs e = e

pub unique : (xs ys : List Entry) → Rises xs → Rises ys
    → ((e : Entry) → with_stamp (stamp_of e) xs ≡ with_stamp (stamp_of e) ys) → xs ≡ ys
unique [] [] hx hy h = refl
unique [] (y ∷ ys) hx hy h =
    let own : with_stamp (stamp_of y) (y ∷ ys) ≡ y ∷ with_stamp (stamp_of y) ys = at_own y ys in
    let same : [] ≡ with_stamp (stamp_of y) (y ∷ ys) = h y in
    absurd cc
unique (x ∷ xs) [] hx hy h =
    let own : with_stamp (stamp_of x) (x ∷ xs) ≡ x ∷ with_stamp (stamp_of x) xs = at_own x xs in
    let same : with_stamp (stamp_of x) (x ∷ xs) ≡ [] = h x in
    absurd cc
unique (x ∷ xs) (y ∷ ys) hx hy h =
    elim (order (stamp_of x) (stamp_of y)) [
      | inl (inl lt) ↦ absurd (not_first x y xs ys lt hy.0 (h x))
      | inl (inr gt) ↦ absurd (not_first y x ys xs gt hx.0 (sym (h y)))
      | inr eq ↦
          let first : x ≡ y = same_first x y xs ys eq (h x) in
          let again : (e : Entry) → with_stamp (stamp_of e) (x ∷ xs) ≡ with_stamp (stamp_of e) (x ∷ ys) =
          λ e. h e ∙ ap (λ (z : Entry). with_stamp (stamp_of e) (z ∷ ys)) (sym first) in
          let rest : xs ≡ ys = unique xs ys hx.1 hy.1 (λ e. same_rest (stamp_of e) x xs ys (again e)) in
          cc
    ]
  where
    order : (a b : ℕ) → ((a < b) ⊎ (b < a)) ⊎ (a ≡ b)
    order a b = elim (cases_lt a b) [ inl lt ↦ inl (inl lt) | inr le ↦ elim (cases_lt b a) [ inl gt ↦ inl (inr gt) | inr ge ↦ inr (omega arith) ] ]

from_each : (n : ℕ) (es : List Entry) → ((k : ℕ) (d : Entry) → k < length es → n ≤ stamp_of (get_or es k d)) → AllFrom n es
from_each n [] h = tt
from_each n (e ∷ es) h = (h 0 e (omega arith), from_each n es (λ k d lt. h (suc k) d (omega arith)))

pub rises_from : (es : List Entry) → IsNonDecreasingBy stamp_of es → Rises es
rises_from [] h = tt
rises_from (e ∷ es) h =
    (from_each (stamp_of e) es (λ k d lt. h 0 (suc k) d (omega arith) (omega arith)), rises_from es (λ i j d le lt. h (suc i) (suc j) d (omega arith) (omega arith)))
