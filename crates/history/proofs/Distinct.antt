-- Where no stamp stands twice, the entries in stamp order are their merge.
use Rattle.std.proofs.Common.{◌≡◌, ℕ, zero, suc, ◌<◌, ◌≤◌, List, [], ◌∷◌, ◌++◌, map, Bool, true, false, arith, nat_eq}
use Rattle.std.specs.Prelude.{◌≢◌, nat_le, IsPermutation, if◌then◌else◌, All}
use Rattle.std.specs.List.{IsDistinct, AllByRecursion}
use Rattle.std.specs.List.Sorted.{IsStrictlyIncreasing}
use Rattle.std.proofs.lemmas.Bool.Decides.{nat_tests}
use Rattle.std.proofs.lemmas.Map.Keys.{IsDistinct-IsPermutation}
use Rattle.std.proofs.lemmas.List.Sorted.{IsPermutation-refl, IsPermutation-cons, IsPermutation-trans, IsPermutation-middle, IsPermutation-map}
use Rattle.history.specs.declared.entry.Entry.{Entry}
use native.Mathlib.Numerals.{unary_clauses}
use Rattle.history.specs.Merge.{stamp_of, put_by_stamp, by_stamp, IsMerge, CanMerge}
use Rattle.history.proofs.Order.{Rises, by_stamp_rises}

put_moves_by : (e f : Entry) (fs : List Entry) (b : Bool) → IsPermutation (e ∷ fs) (put_by_stamp e fs)
    → IsPermutation (e ∷ f ∷ fs) (if b then e ∷ f ∷ fs else f ∷ put_by_stamp e fs)
put_moves_by e f fs true h = IsPermutation-refl (e ∷ f ∷ fs)
put_moves_by e f fs false h =
    IsPermutation-trans (e ∷ f ∷ fs) (f ∷ e ∷ fs) (f ∷ put_by_stamp e fs) (IsPermutation-middle (e ∷ []) f fs) (IsPermutation-cons f (e ∷ fs) (put_by_stamp e fs) h)

pub put_moves : (e : Entry) (es : List Entry) → IsPermutation (e ∷ es) (put_by_stamp e es)
put_moves e [] = IsPermutation-refl (e ∷ [])
put_moves e (f ∷ fs) = put_moves_by e f fs (nat_le (stamp_of e) (stamp_of f)) (put_moves e fs)

pub by_stamp_moves : (es : List Entry) → IsPermutation es (by_stamp es)
by_stamp_moves [] = IsPermutation-refl []
by_stamp_moves (e ∷ es) =
    IsPermutation-trans (e ∷ es) (e ∷ by_stamp es) (put_by_stamp e (by_stamp es)) (IsPermutation-cons e es (by_stamp es) (by_stamp_moves es)) (put_moves e (by_stamp es))

below_next : (a b : ℕ) → a ≤ b → nat_eq a b ≡ false → a < b
below_next a b le ne = grind (arith, nat_tests)

pub rises_strictly : (es : List Entry) → Rises es → IsDistinct nat_eq (map stamp_of es) → IsStrictlyIncreasing (map stamp_of es)
unfolding IsDistinct
rises_strictly [] h d k lt = absurd (omega arith)
rises_strictly (e ∷ []) h d k lt = absurd (omega arith)
rises_strictly (e ∷ f ∷ es) h d zero lt = below_next (stamp_of e) (stamp_of f) h.0.0 d.0.0
rises_strictly (e ∷ f ∷ es) h d (suc k) lt = simp unary_clauses (simp unary_clauses at (rises_strictly (f ∷ es) h.1 d.1 k (omega arith)))

eq_flips : (a b : ℕ) → nat_eq a b ≡ nat_eq b a
eq_flips a b = grind (arith, nat_tests)

pub by_stamp_merges : (es : List Entry) → IsDistinct nat_eq (map stamp_of es) → IsMerge es (by_stamp es)
by_stamp_merges es d = record {
  same = by_stamp_moves es;
  rising = rises_strictly (by_stamp es) (by_stamp_rises es)
      (IsDistinct-IsPermutation nat_eq eq_flips (map stamp_of es) (map stamp_of (by_stamp es)) (IsPermutation-map stamp_of es (by_stamp es) (by_stamp_moves es)) d);
}

rises_behind : (n : ℕ) (ns : List ℕ) → IsStrictlyIncreasing (n ∷ ns) → IsStrictlyIncreasing ns
rises_behind n ns up k lt = simp unary_clauses (simp unary_clauses at (up (suc k) (omega arith)))

unlike : (a b : ℕ) → a ≢ b → nat_eq a b ≡ false
unlike a b h = grind (arith, nat_tests, h)

below_unlike : (a b : ℕ) → a < b → nat_eq a b ≡ false
below_unlike a b lt = grind (arith, nat_tests)

unlike_all : (n : ℕ) (es : List Entry) → All (λ (y : Entry). n ≢ stamp_of y) es → AllByRecursion (λ m. nat_eq n m ≡ false) (map stamp_of es)
unlike_all n [] h = tt
unlike_all n (e ∷ es) h = (unlike n (stamp_of e) (h 0 e (omega arith)), unlike_all n es (λ k d lt. h (suc k) d (omega arith)))

unlike_both : (n b : ℕ) (es more : List Entry) → n ≤ b → IsStrictlyIncreasing (b ∷ map stamp_of es) → All (λ (y : Entry). n ≢ stamp_of y) more
    → AllByRecursion (λ m. nat_eq n m ≡ false) (map stamp_of (es ++ more))
unlike_both n b [] more le up h = unlike_all n more h
unlike_both n b (e ∷ es) more le up h =
    let lt : b < stamp_of e = up 0 (omega arith) in
    (below_unlike n (stamp_of e) (omega arith), unlike_both n (stamp_of e) es more (omega arith) (rises_behind b (map stamp_of (e ∷ es)) up) h)

above : (n b : ℕ) (ns : List ℕ) → n ≤ b → IsStrictlyIncreasing (b ∷ ns) → AllByRecursion (λ m. nat_eq n m ≡ false) ns
above n b [] le up = tt
above n b (m ∷ ms) le up =
    let lt : b < m = up 0 (omega arith) in
    (below_unlike n m (omega arith), above n m ms (omega arith) (rises_behind b (m ∷ ms) up))

distinct_rising : (ns : List ℕ) → IsStrictlyIncreasing ns → IsDistinct nat_eq ns
unfolding IsDistinct
distinct_rising [] up = tt
distinct_rising (n ∷ ns) up = (above n n ns (omega arith) up, distinct_rising ns (rises_behind n ns up))

distinct_both : (es more : List Entry) → IsStrictlyIncreasing (map stamp_of es) → IsStrictlyIncreasing (map stamp_of more)
    → All (λ (x : Entry). All (λ (y : Entry). stamp_of x ≢ stamp_of y) more) es → IsDistinct nat_eq (map stamp_of (es ++ more))
unfolding IsDistinct
distinct_both [] more up more_up h = distinct_rising (map stamp_of more) more_up
distinct_both (e ∷ es) more up more_up h =
    (unlike_both (stamp_of e) (stamp_of e) es more (omega arith) up (h 0 e (omega arith)), distinct_both es more (rises_behind (stamp_of e) (map stamp_of es) up) more_up (λ k d lt. h (suc k) d (omega arith)))

pub merges : (es more : List Entry) → CanMerge es more → IsMerge (es ++ more) (by_stamp (es ++ more))
merges es more can = by_stamp_merges (es ++ more) (distinct_both es more can.rising can.more_rising can.apart)

all_one : (P : Entry → Type 0) (x : Entry) → P x → All P (x ∷ [])
all_one P x h zero d lt = h
all_one P x h (suc k) d lt = absurd (omega arith)

pub can_merge_two : (x y : Entry) → stamp_of x ≢ stamp_of y → CanMerge (x ∷ []) (y ∷ [])
can_merge_two x y h = record {
  rising = λ k lt. absurd (omega arith);
  more_rising = λ k lt. absurd (omega arith);
  apart = all_one (λ (a : Entry). All (λ (b : Entry). stamp_of a ≢ stamp_of b) (y ∷ [])) x (all_one (λ (b : Entry). stamp_of x ≢ stamp_of b) y h);
}
