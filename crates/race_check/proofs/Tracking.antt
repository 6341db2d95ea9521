-- One entry more: what is kept of the accesses.
use Rattle.std.proofs.Common.{◌≡◌, ◌≢◌, ℕ, ◌+◌, ◌<◌, Bool, true, false, List, [], ◌∷◌, ◌++◌, length, get_or, length-append, refl, sym, ap, subst, ◌∙◌, arith, inl, inr}
use Rattle.std.specs.Prelude.{◌⊎◌, ◌==◌, ◌||◌, Option, Some, None, Contains, All}
use Rattle.std.specs.List.Sorted.{IsStrictlyIncreasing}
use Rattle.std.proofs.lemmas.Bool.Decides.{nat_tests}
use Rattle.std.proofs.lemmas.List.{get_or_default}
use Rattle.std.proofs.lemmas.List.Elements.{All-push, Contains-push, Contains-append_left}
use Rattle.std.proofs.Math.ListN.{get_or-append}
use Rattle.std.proofs.Math.Seq.{get_or-append_seam}
use Rattle.bsan_ids.specs.declared.numbers.AllocNo.{AllocNo}
use Rattle.history.specs.declared.entry.Entry.{Entry}
use Rattle.race_check.specs.declared.race.Race.{Race}
use Rattle.race_check.specs.declared.slots.Slots.{Slots}
use Rattle.race_check.specs.declared.uses.Access.{Access}
use Rattle.race_check.specs.declared.tracked.Tracked.{Tracked}
use Rattle.race_check.specs.declared.tracked.Allocations.{Allocations}
use Rattle.race_check.specs.Accesses.{accessed}
use Rattle.race_check.specs.Races.{has_race}
use Rattle.race_check.specs.Uses.{access_of}
use Rattle.race_check.specs.Tracked.{is_raced, tracked_at, places_in, Notes, IsKept, AreTracked, AreMarked}
use Rattle.race_check.proofs.Places.{lt_or_eq}

eq_or : (a b : ℕ) → (a ≡ b) ⊎ (a ≢ b)
eq_or a b = grind arith

number_is : (a b : AllocNo) → a.0 ≡ b.0 → a ≡ b
number_is a b h = ap (λ (n : ℕ). let m : AllocNo = record { 0 = n } in m) h

some_same : {a b : AllocNo} → Some a ≡ Some b → a ≡ b
some_same h = cc

pub number_of_access : (e : Entry) (m n : AllocNo) → accessed e ≡ Some m → accessed e ≡ Some n → m ≡ n
number_of_access e m n p q = some_same (sym p ∙ q)

-- the access of the entry at a place
abbrev access_at : Slots → ℕ → Entry → Access
access_at slots j e = access_of e j (get_or slots.of_entry.items j 0)

-- the entry at a place is the one that is read there
entry_is : (es : List Entry) (i : ℕ) (e f : Entry) → i < length es → get_or es i f ≡ f → get_or es i e ≡ e → e ≡ f
entry_is es i e f inside at is = sym is ∙ get_or_default es i e f inside ∙ at

below_more : (xs : List ℕ) (i : ℕ) → All (λ j. j < i) xs → All (λ j. j < i + 1) xs
below_more xs i below k d lt = let h : get_or xs k d < i = below k d lt in omega arith

pub tracked_other : (es : List Entry) (slots : Slots) (i : ℕ) (f : Entry) → i < length es → get_or es i f ≡ f → (allocs : Allocations) → accessed f ≡ None
    → AreTracked es slots i allocs → AreTracked es slots (i + 1) allocs
tracked_other es slots i f inside at allocs none tracked = record {
  kept = λ j e n lt j_in is names fresh. by_case j e n j_in is names fresh (lt_or_eq j i (omega arith));
  below = λ n fresh. below_more (places_in (tracked_at allocs n.0)) i (tracked.below n fresh);
  rising = tracked.rising;
}
  where
    never : (e : Entry) (n : AllocNo) → e ≡ f → accessed e ≡ Some n → ⊥
    never e n same names = let h : None ≡ Some n = sym none ∙ ap accessed (sym same) ∙ names in absurd cc

    by_case : (j : ℕ) (e : Entry) (n : AllocNo) → j < length es → get_or es j e ≡ e → accessed e ≡ Some n → is_raced (tracked_at allocs n.0) ≡ false
        → (j < i) ⊎ (j ≡ i) → IsKept e.request (access_at slots j e) (tracked_at allocs n.0)
    by_case j e n j_in is names fresh (inl lt) = tracked.kept j e n lt j_in is names fresh
    by_case j e n j_in is names fresh (inr same) = absurd (never e n (entry_is es i e f inside at (ap (λ (k : ℕ). get_or es k e) (sym same) ∙ is)) names)

rising_push : (xs : List ℕ) (x : ℕ) → IsStrictlyIncreasing xs → All (λ y. y < x) xs → IsStrictlyIncreasing (xs ++ x ∷ [])
rising_push xs x up below k lt = by_case (lt_or_eq (k + 1) (length xs) (omega (arith, length-append xs (x ∷ []))))
  where
    by_case : (k + 1 < length xs) ⊎ (k + 1 ≡ length xs) → get_or (xs ++ x ∷ []) k 0 < get_or (xs ++ x ∷ []) (k + 1) 0
    by_case (inl low) =
        let h : get_or xs k 0 < get_or xs (k + 1) 0 = up k low in
        let a : get_or (xs ++ x ∷ []) k 0 ≡ get_or xs k 0 = get_or-append xs (x ∷ []) 0 k (omega arith) in
        let b : get_or (xs ++ x ∷ []) (k + 1) 0 ≡ get_or xs (k + 1) 0 = get_or-append xs (x ∷ []) 0 (k + 1) low in
        omega arith
    by_case (inr last) =
        let h : get_or xs k 0 < x = below k 0 (omega arith) in
        let a : get_or (xs ++ x ∷ []) k 0 ≡ get_or xs k 0 = get_or-append xs (x ∷ []) 0 k (omega arith) in
        let b : get_or (xs ++ x ∷ []) (k + 1) 0 ≡ x = ap (λ (n : ℕ). get_or (xs ++ x ∷ []) n 0) last ∙ get_or-append_seam xs x [] 0 in
        omega arith

-- what is kept of the allocation that f accesses
kept_here : (es : List Entry) (slots : Slots) (i : ℕ) (f : Entry) → i < length es → get_or es i f ≡ f → (allocs : Allocations) (m : AllocNo) (new : Option Tracked)
    → Notes f.request (access_at slots i f) (tracked_at allocs m.0) new → AreTracked es slots i allocs → is_raced (tracked_at allocs m.0) ≡ false
    → (j : ℕ) (e : Entry) → j < length es → get_or es j e ≡ e → accessed e ≡ Some m → (j < i) ⊎ (j ≡ i) → IsKept e.request (access_at slots j e) new
kept_here es slots i f inside at allocs m new notes tracked fresh j e j_in is names (inl lt) =
    let old = tracked.kept j e m lt j_in is names fresh in
    record {
      place = subst (λ (xs : List ℕ). Contains xs j) (sym (notes.places fresh)) (Contains-append_left (places_in (tracked_at allocs m.0)) (i ∷ []) j old.place);
      left = λ spot leaves. notes.kept fresh spot (access_at slots j e) (old.left spot leaves);
    }
kept_here es slots i f inside at allocs m new notes tracked fresh j e j_in is names (inr same) =
    let here : IsKept f.request (access_at slots i f) new = record {
      place = subst (λ (xs : List ℕ). Contains xs i) (sym (notes.places fresh)) (Contains-push (places_in (tracked_at allocs m.0)) i);
      left = notes.left fresh;
    } in
    let is_f : e ≡ f = entry_is es i e f inside at (ap (λ (k : ℕ). get_or es k e) (sym same) ∙ is) in
    subst (λ (x : Entry). IsKept x.request (access_at slots j x) new) (sym is_f) (subst (λ (k : ℕ). IsKept f.request (access_at slots k f) new) (sym same) here)

pub tracked_more : (es : List Entry) (slots : Slots) (i : ℕ) (f : Entry) → i < length es → get_or es i f ≡ f → (allocs noted : Allocations) (m : AllocNo) → accessed f ≡ Some m
    → Notes f.request (access_at slots i f) (tracked_at allocs m.0) (tracked_at noted m.0) → ((n : ℕ) → n ≢ m.0 → tracked_at noted n ≡ tracked_at allocs n)
    → AreTracked es slots i allocs → AreTracked es slots (i + 1) noted
tracked_more es slots i f inside at allocs noted m is_m notes others tracked = record {
  kept = λ j e n lt j_in is names fresh. kept_by j e n j_in is names fresh (lt_or_eq j i (omega arith)) (eq_or n.0 m.0);
  below = λ n fresh. below_by n fresh (eq_or n.0 m.0);
  rising = λ n fresh. rising_by n fresh (eq_or n.0 m.0);
}
  where
    fresh_before : (n : AllocNo) → n.0 ≡ m.0 → is_raced (tracked_at noted n.0) ≡ false → is_raced (tracked_at allocs m.0) ≡ false
    fresh_before n same fresh = sym notes.raced ∙ ap (λ (k : ℕ). is_raced (tracked_at noted k)) (sym same) ∙ fresh

    fresh_other : (n : AllocNo) → n.0 ≢ m.0 → is_raced (tracked_at noted n.0) ≡ false → is_raced (tracked_at allocs n.0) ≡ false
    fresh_other n other fresh = ap is_raced (sym (others n.0 other)) ∙ fresh

    kept_by : (j : ℕ) (e : Entry) (n : AllocNo) → j < length es → get_or es j e ≡ e → accessed e ≡ Some n → is_raced (tracked_at noted n.0) ≡ false
        → (j < i) ⊎ (j ≡ i) → (n.0 ≡ m.0) ⊎ (n.0 ≢ m.0) → IsKept e.request (access_at slots j e) (tracked_at noted n.0)
    kept_by j e n j_in is names fresh when (inl same) =
        subst (λ (k : ℕ). IsKept e.request (access_at slots j e) (tracked_at noted k)) (sym same)
        (kept_here es slots i f inside at allocs m (tracked_at noted m.0) notes tracked (fresh_before n same fresh) j e j_in is (names ∙ ap (λ (x : AllocNo). Some x) (number_is n m same)) when)
    kept_by j e n j_in is names fresh (inl lt) (inr other) =
        subst (λ (t : Option Tracked). IsKept e.request (access_at slots j e) t) (sym (others n.0 other)) (tracked.kept j e n lt j_in is names (fresh_other n other fresh))
    kept_by j e n j_in is names fresh (inr same) (inr other) =
        let is_f : e ≡ f = entry_is es i e f inside at (ap (λ (k : ℕ). get_or es k e) (sym same) ∙ is) in
        absurd (other (ap (λ (x : AllocNo). x.0) (some_same (sym names ∙ ap accessed is_f ∙ is_m))))

    below_by : (n : AllocNo) → is_raced (tracked_at noted n.0) ≡ false → (n.0 ≡ m.0) ⊎ (n.0 ≢ m.0) → All (λ j. j < i + 1) (places_in (tracked_at noted n.0))
    below_by n fresh (inl same) =
        let before = fresh_before n same fresh in
        subst (λ (k : ℕ). All (λ j. j < i + 1) (places_in (tracked_at noted k))) (sym same)
        (subst (λ (xs : List ℕ). All (λ j. j < i + 1) xs) (sym (notes.places before))
        (All-push (λ j. j < i + 1) (places_in (tracked_at allocs m.0)) i (below_more (places_in (tracked_at allocs m.0)) i (tracked.below m before)) (omega arith)))
    below_by n fresh (inr other) =
        subst (λ (t : Option Tracked). All (λ j. j < i + 1) (places_in t)) (sym (others n.0 other))
        (below_more (places_in (tracked_at allocs n.0)) i (tracked.below n (fresh_other n other fresh)))

    rising_by : (n : AllocNo) → is_raced (tracked_at noted n.0) ≡ false → (n.0 ≡ m.0) ⊎ (n.0 ≢ m.0) → IsStrictlyIncreasing (places_in (tracked_at noted n.0))
    rising_by n fresh (inl same) =
        let before = fresh_before n same fresh in
        subst (λ (k : ℕ). IsStrictlyIncreasing (places_in (tracked_at noted k))) (sym same)
        (subst (λ (xs : List ℕ). IsStrictlyIncreasing xs) (sym (notes.places before))
        (rising_push (places_in (tracked_at allocs m.0)) i (tracked.rising m before) (tracked.below m before)))
    rising_by n fresh (inr other) =
        subst (λ (t : Option Tracked). IsStrictlyIncreasing (places_in t)) (sym (others n.0 other)) (tracked.rising n (fresh_other n other fresh))

-- no access is kept of an allocation on which a race is found
pub tracked_closed : (es : List Entry) (slots : Slots) (i : ℕ) (allocs closed : Allocations) (m : AllocNo) → is_raced (tracked_at closed m.0) ≡ true
    → ((n : ℕ) → n ≢ m.0 → tracked_at closed n ≡ tracked_at allocs n) → AreTracked es slots i allocs → AreTracked es slots i closed
tracked_closed es slots i allocs closed m raced others tracked = record {
  kept = λ j e n lt j_in is names fresh. kept_by j e n lt j_in is names fresh (eq_or n.0 m.0);
  below = λ n fresh. below_by n fresh (eq_or n.0 m.0);
  rising = λ n fresh. rising_by n fresh (eq_or n.0 m.0);
}
  where
    never : (n : AllocNo) → n.0 ≡ m.0 → is_raced (tracked_at closed n.0) ≡ false → ⊥
    never n same fresh = let h : true ≡ false = sym raced ∙ ap (λ (k : ℕ). is_raced (tracked_at closed k)) (sym same) ∙ fresh in absurd cc

    before : (n : AllocNo) → n.0 ≢ m.0 → is_raced (tracked_at closed n.0) ≡ false → is_raced (tracked_at allocs n.0) ≡ false
    before n other fresh = ap is_raced (sym (others n.0 other)) ∙ fresh

    kept_by : (j : ℕ) (e : Entry) (n : AllocNo) → j < i → j < length es → get_or es j e ≡ e → accessed e ≡ Some n → is_raced (tracked_at closed n.0) ≡ false
        → (n.0 ≡ m.0) ⊎ (n.0 ≢ m.0) → IsKept e.request (access_at slots j e) (tracked_at closed n.0)
    kept_by j e n lt j_in is names fresh (inl same) = absurd (never n same fresh)
    kept_by j e n lt j_in is names fresh (inr other) =
        subst (λ (t : Option Tracked). IsKept e.request (access_at slots j e) t) (sym (others n.0 other)) (tracked.kept j e n lt j_in is names (before n other fresh))

    below_by : (n : AllocNo) → is_raced (tracked_at closed n.0) ≡ false → (n.0 ≡ m.0) ⊎ (n.0 ≢ m.0) → All (λ j. j < i) (places_in (tracked_at closed n.0))
    below_by n fresh (inl same) = absurd (never n same fresh)
    below_by n fresh (inr other) = subst (λ (t : Option Tracked). All (λ j. j < i) (places_in t)) (sym (others n.0 other)) (tracked.below n (before n other fresh))

    rising_by : (n : AllocNo) → is_raced (tracked_at closed n.0) ≡ false → (n.0 ≡ m.0) ⊎ (n.0 ≢ m.0) → IsStrictlyIncreasing (places_in (tracked_at closed n.0))
    rising_by n fresh (inl same) = absurd (never n same fresh)
    rising_by n fresh (inr other) = subst (λ (t : Option Tracked). IsStrictlyIncreasing (places_in t)) (sym (others n.0 other)) (tracked.rising n (before n other fresh))

pub tracked_first : (es : List Entry) (slots : Slots) (allocs : Allocations) → ((n : ℕ) → tracked_at allocs n ≡ None) → AreTracked es slots 0 allocs
tracked_first es slots allocs none = record {
  kept = λ j e n lt j_in is names fresh. absurd (omega arith);
  below = λ n fresh. subst (λ (t : Option Tracked). All (λ j. j < 0) (places_in t)) (sym (none n.0)) (λ k d lt. absurd (omega arith));
  rising = λ n fresh. subst (λ (t : Option Tracked). IsStrictlyIncreasing (places_in t)) (sym (none n.0)) (λ k lt. absurd (omega arith));
}

-- ---- allocations on which a race is found

pub marked_noted : (races : List Race) (allocs noted : Allocations) (m : AllocNo) → is_raced (tracked_at noted m.0) ≡ is_raced (tracked_at allocs m.0)
    → ((n : ℕ) → n ≢ m.0 → tracked_at noted n ≡ tracked_at allocs n) → AreMarked races allocs → AreMarked races noted
marked_noted races allocs noted m same others marked n = by_case (eq_or n.0 m.0)
  where
    by_case : (n.0 ≡ m.0) ⊎ (n.0 ≢ m.0) → is_raced (tracked_at noted n.0) ≡ has_race races n
    by_case (inl is) = ap (λ (k : ℕ). is_raced (tracked_at noted k)) is ∙ same ∙ ap (λ (k : ℕ). is_raced (tracked_at allocs k)) (sym is) ∙ marked n
    by_case (inr other) = ap is_raced (others n.0 other) ∙ marked n

has_pushed : (races : List Race) (race : Race) (n : AllocNo) → has_race (races ++ race ∷ []) n ≡ (has_race races n || (race.alloc.0 == n.0))
has_pushed [] race n = by_test (race.alloc.0 == n.0)
  where
    by_test : (b : Bool) → (b || false) ≡ (false || b)
    by_test true = refl
    by_test false = refl
has_pushed (first ∷ races) race n = ap (λ (b : Bool). (first.alloc.0 == n.0) || b) (has_pushed races race n) ∙ by_test (first.alloc.0 == n.0) (has_race races n) (race.alloc.0 == n.0)
  where
    by_test : (a b c : Bool) → (a || (b || c)) ≡ ((a || b) || c)
    by_test true b c = refl
    by_test false b c = refl

pub marked_more : (races : List Race) (race : Race) (allocs closed : Allocations) → is_raced (tracked_at closed race.alloc.0) ≡ true
    → ((n : ℕ) → n ≢ race.alloc.0 → tracked_at closed n ≡ tracked_at allocs n) → AreMarked races allocs → AreMarked (races ++ race ∷ []) closed
marked_more races race allocs closed raced others marked n = by_case (eq_or n.0 race.alloc.0)
  where
    or_true : (b : Bool) → (b || true) ≡ true
    or_true true = refl
    or_true false = refl

    or_false : (b : Bool) → (b || false) ≡ b
    or_false true = refl
    or_false false = refl

    by_case : (n.0 ≡ race.alloc.0) ⊎ (n.0 ≢ race.alloc.0) → is_raced (tracked_at closed n.0) ≡ has_race (races ++ race ∷ []) n
    by_case (inl is) =
        let test : (race.alloc.0 == n.0) ≡ true = grind (arith, nat_tests) in
        ap (λ (k : ℕ). is_raced (tracked_at closed k)) is ∙ raced ∙ sym (has_pushed races race n ∙ ap (λ (b : Bool). has_race races n || b) test ∙ or_true (has_race races n))
    by_case (inr other) =
        let test : (race.alloc.0 == n.0) ≡ false = grind (arith, nat_tests) in
        ap is_raced (others n.0 other) ∙ marked n ∙ sym (has_pushed races race n ∙ ap (λ (b : Bool). has_race races n || b) test ∙ or_false (has_race races n))

pub marked_first : (races : List Race) (allocs : Allocations) → races ≡ [] → ((n : ℕ) → tracked_at allocs n ≡ None) → AreMarked races allocs
marked_first races allocs empty none n = ap is_raced (none n.0) ∙ ap (λ (rs : List Race). has_race rs n) (sym empty)
