-- The first race on each allocation, from one entry to the next.
use Rattle.std.proofs.Common.{length-append, ◌≡◌, ℕ, zero, suc, ◌+◌, ◌<◌, ◌≤◌, Bool, true, false, List, [], ◌∷◌, ◌++◌, length, get_or, map, refl, sym, ap, subst, ◌∙◌, arith, inl, inr}
use Rattle.std.specs.Prelude.{◌⊎◌, ◌==◌, ◌||◌, Contains, All, nat_le, Some, None, if◌then◌else◌}
use Rattle.std.specs.List.Sorted.{IsStrictlyIncreasing}
use Rattle.std.proofs.lemmas.Bool.Decides.{nat_tests}
use Rattle.std.proofs.lemmas.List.{get_or_default, get_or-map, length-map}
use Rattle.std.proofs.lemmas.List.Kept.{AllPairs-from_increasing}
use Rattle.std.proofs.lemmas.List.Elements.{All-push, Contains-push, Contains-append_left}
use Rattle.std.proofs.Math.ListN.{get_or-append}
use Rattle.std.proofs.Math.Seq.{get_or-append_seam}
use Rattle.bsan_ids.specs.declared.numbers.ThreadNo.{ThreadNo}
use Rattle.bsan_ids.specs.declared.numbers.AllocNo.{AllocNo}
use Rattle.history.specs.declared.entry.Entry.{Entry}
use Rattle.history.specs.Merge.{stamp_of}
use Rattle.race_check.specs.declared.race.Race.{Race}
use Rattle.race_check.specs.declared.slots.Slots.{Slots}
use Rattle.race_check.specs.Accesses.{conflict, accessed}
use Rattle.race_check.specs.Races.{IsRace, IsFirstRace, AreFirstRaces, later_stamp, has_race}
use Rattle.race_check.specs.Vectors.{IsSeen, IsBefore, IsMark, IsClock, AreSlots, AreRacesBefore, is_open, open_at, IsFirstOpen}
use Rattle.race_check.specs.declared.tracked.Allocations.{Allocations}
use Rattle.race_check.specs.Uses.{kind_of, access_of}
use Rattle.race_check.specs.Tracked.{is_raced, tracked_at, places_in, IsClear, AreTracked, AreMarked}
use Rattle.race_check.specs.Found.{IsFirstPlace}
use Rattle.race_check.proofs.Conflicts.{parts_of, conflict_alloc, accessed_is, kinds_clash, meeting}
use Rattle.race_check.proofs.Vectors.{before_of_mark, mark_of_before}
use Rattle.race_check.proofs.Places.{lt_or_eq, lt_or_ge, rises, place_below, by_stamp, next_at, seen_more, seen_last}

pub open_is : (es : List Entry) (of_entry clock : List ℕ) (i j slot : ℕ) (e f d : Entry) → i < length es → j < length es → j < length of_entry
    → e ≡ get_or es j e → f ≡ get_or es i f → slot ≡ get_or of_entry j slot
    → is_open e f (get_or clock slot 0) ≡ is_open (get_or es j (get_or es i d)) (get_or es i d) (get_or clock (get_or of_entry j 0) 0)
open_is es of_entry clock i j slot e f d i_in j_in at_in e_is f_is slot_is =
    let p : e ≡ get_or es j (get_or es i d) = e_is ∙ get_or_default es j e (get_or es i d) j_in in
    let q : f ≡ get_or es i d = f_is ∙ get_or_default es i f d i_in in
    let r : slot ≡ get_or of_entry j 0 = slot_is ∙ get_or_default of_entry j slot 0 at_in in
    ap (λ (x : Entry). is_open x f (get_or clock slot 0)) p
    ∙ ap (λ (x : Entry). is_open (get_or es j (get_or es i d)) x (get_or clock slot 0)) q
    ∙ ap (λ (x : ℕ). is_open (get_or es j (get_or es i d)) (get_or es i d) (get_or clock x 0)) r

-- what the slots of an entry say of its clock
by_clock : (es : List Entry) (slots : Slots) (i j : ℕ) (f e : Entry) (clock : List ℕ) → AreSlots es slots → j < length es → get_or es j f ≡ e
    → IsClock es slots.threads.items i f clock → IsMark (IsBefore es (IsSeen es i) f e.thread) (get_or clock (get_or slots.of_entry.items j 0) 0)
by_clock es slots i j f e clock are j_in is marks =
    let slot = are.each j f j_in in
    subst (λ (t : ThreadNo). IsMark (IsBefore es (IsSeen es i) f t) (get_or clock (get_or slots.of_entry.items j 0) 0)) (slot.is ∙ ap (λ (x : Entry). x.thread) is)
    (marks (get_or slots.of_entry.items j 0) (get_or es j f).thread slot.inside)

open_parts : (e f : Entry) (mark : ℕ) → is_open e f mark ≡ true → (mark ≤ stamp_of e) × (conflict e f ≡ true)
open_parts e f mark h = by_test (nat_le mark (stamp_of e)) refl h
  where
    by_test : (b : Bool) → nat_le mark (stamp_of e) ≡ b → (if b then conflict e f else false) ≡ true → (mark ≤ stamp_of e) × (conflict e f ≡ true)
    by_test true le at = (grind (arith, nat_tests), at)
    by_test false le at = absurd cc

open_of_parts : (e f : Entry) (mark : ℕ) → mark ≤ stamp_of e → conflict e f ≡ true → is_open e f mark ≡ true
open_of_parts e f mark le at = by_test (nat_le mark (stamp_of e)) refl
  where
    by_test : (b : Bool) → nat_le mark (stamp_of e) ≡ b → (if b then conflict e f else false) ≡ true
    by_test true is = at
    by_test false is = absurd (let lt : stamp_of e < mark = grind (arith, nat_tests) in omega arith)

-- an entry that races with f has a lower place, and is open there
race_is_open : (es : List Entry) → IsStrictlyIncreasing (map stamp_of es) → (slots : Slots) → AreSlots es slots → (i : ℕ) (f : Entry) → i < length es → get_or es i f ≡ f
    → (clock : List ℕ) → IsClock es slots.threads.items i f clock → (e : Entry) → (r : IsRace es e f)
    → (r.earlier.0 < i) × (open_at es slots f clock r.earlier.0 ≡ true)
race_is_open es up slots are i f inside at clock marks e r =
    let at_e : get_or es r.earlier.0 f ≡ e = get_or_default es r.earlier.0 f e r.earlier.1 ∙ r.earlier.2 in
    let ee : stamp_of (get_or es r.earlier.0 f) ≡ stamp_of e = ap stamp_of at_e in
    let ef : stamp_of (get_or es i f) ≡ stamp_of f = ap stamp_of at in
    let lt : stamp_of e < stamp_of f = r.order in
    let low : r.earlier.0 < i = place_below es f up r.earlier.0 i r.earlier.1 (omega arith) in (
      low,
      subst (λ (x : Entry). is_open x f (get_or clock (get_or slots.of_entry.items r.earlier.0 0) 0) ≡ true) (sym at_e)
          (open_of_parts e f (get_or clock (get_or slots.of_entry.items r.earlier.0 0) 0)
          (not_below (get_or clock (get_or slots.of_entry.items r.earlier.0 0) 0)
          (λ below. r.unordered (before_of_mark es (IsSeen es i) f (by_stamp es up) (next_at es up i f inside at) e (get_or clock (get_or slots.of_entry.items r.earlier.0 0) 0)
          (r.earlier.0, low, r.earlier.1, r.earlier.2) (by_clock es slots i r.earlier.0 f e clock are r.earlier.1 at_e marks) below)))
          r.conflicts),
    )
  where
    not_below : (mark : ℕ) → (stamp_of e < mark → ⊥) → mark ≤ stamp_of e
    not_below mark never = by_case (lt_or_ge (stamp_of e) mark)
      where
        by_case : (stamp_of e < mark) ⊎ (mark ≤ stamp_of e) → mark ≤ stamp_of e
        by_case (inl lt) = absurd (never lt)
        by_case (inr le) = le

-- an open entry races with f
open_is_race : (es : List Entry) → IsStrictlyIncreasing (map stamp_of es) → (slots : Slots) → AreSlots es slots → (i : ℕ) (f : Entry) → i < length es → get_or es i f ≡ f
    → (clock : List ℕ) → IsClock es slots.threads.items i f clock → (j : ℕ) → j < i → open_at es slots f clock j ≡ true → IsRace es (get_or es j f) f
open_is_race es up slots are i f inside at clock marks j low is_open_at =
    let parts = open_parts (get_or es j f) f (get_or clock (get_or slots.of_entry.items j 0) 0) is_open_at in
    let j_in : j < length es = omega arith in
    let lt : stamp_of (get_or es j f) < stamp_of (get_or es i f) = rises es f up j i low inside in
    let ef : stamp_of (get_or es i f) ≡ stamp_of f = ap stamp_of at in
    record {
      earlier = (j, j_in, get_or_default es j (get_or es j f) f j_in);
      later = (i, inside, at);
      order = omega arith;
      conflicts = parts.1;
      unordered = λ o.
          let below : stamp_of (get_or es j f) < get_or clock (get_or slots.of_entry.items j 0) 0 =
          mark_of_before es (IsSeen es i) f (get_or es j f) (get_or clock (get_or slots.of_entry.items j 0) 0)
          (j, low, j_in, get_or_default es j (get_or es j f) f j_in) (by_clock es slots i j f (get_or es j f) clock are j_in refl marks) o in
          let le : get_or clock (get_or slots.of_entry.items j 0) 0 ≤ stamp_of (get_or es j f) = parts.0 in
          omega arith;
    }

-- the races stay, where the next entry adds none
pub races_stay : (es : List Entry) (i : ℕ) (f : Entry) → i < length es → get_or es i f ≡ f → (races : List Race)
    → ((e : Entry) → IsRace es e f → (race : Race) × Contains races race × (f.alloc ≡ Some race.alloc))
    → AreRacesBefore es i races → AreRacesBefore es (i + 1) races
races_stay es i f inside at races here before = record {
  each = before.each;
  rising = before.rising;
  below = λ k d lt. seen_more es i f (get_or races k d).later inside at (inl (before.below k d lt));
  all = λ e g r seen. by_case e g r (seen_last es i f g inside at seen);
}
  where
    by_case : (e g : Entry) → IsRace es e g → IsSeen es i g ⊎ (g ≡ f) → (race : Race) × Contains races race × (g.alloc ≡ Some race.alloc)
    by_case e g r (inl seen) = before.all e g r seen
    by_case e g r (inr is) =
        let found = here e (subst (λ (x : Entry). IsRace es e x) is r) in
        (found.0, found.1, ap (λ (x : Entry). x.alloc) is ∙ found.2)

raced : (races : List Race) (number : AllocNo) → has_race races number ≡ true → (race : Race) × Contains races race × (race.alloc ≡ number)
raced [] number h = absurd cc
raced (race ∷ races) number h = by_test (race.alloc.0 == number.0) refl h (raced races number)
  where
    by_test : (b : Bool) → (race.alloc.0 == number.0) ≡ b → (b || has_race races number) ≡ true
        → (has_race races number ≡ true → (r : Race) × Contains races r × (r.alloc ≡ number)) → (r : Race) × Contains (race ∷ races) r × (r.alloc ≡ number)
    by_test true is at more = (race, (0, omega arith, refl), ap (λ (n : ℕ). record { 0 = n }) (let e : race.alloc.0 ≡ number.0 = grind (arith, nat_tests) in e))
    by_test false is at more = let found = more at in (found.0, (suc found.1.0, omega (arith, found.1.1), found.1.2), found.2)

not_raced : (races : List Race) (number : AllocNo) → has_race races number ≡ false → (race : Race) → Contains races race → race.alloc ≡ number → ⊥
not_raced [] number h race c e = let lt : c.0 < 0 = c.1 in omega arith
not_raced (r ∷ races) number h race (zero, lt, is) e =
    let at : r.alloc.0 ≡ number.0 = ap (λ (x : Race). x.alloc.0) is ∙ ap (λ (n : AllocNo). n.0) e in
    let test : (r.alloc.0 == number.0) ≡ true = grind (arith, nat_tests) in
    absurd (contra (r.alloc.0 == number.0) test h)
  where
    contra : (b : Bool) → b ≡ true → (b || has_race races number) ≡ false → ⊥
    contra true x y = absurd cc
    contra false x y = absurd cc
not_raced (r ∷ races) number h race (suc k, lt, is) e = not_raced races number (tail (r.alloc.0 == number.0) h) race (k, omega (arith, lt), is) e
  where
    tail : (b : Bool) → (b || has_race races number) ≡ false → has_race races number ≡ false
    tail true x = absurd cc
    tail false x = x

pub raced_stay : (es : List Entry) (i : ℕ) (f : Entry) → i < length es → get_or es i f ≡ f → (races : List Race) (number : AllocNo)
    → f.alloc ≡ Some number → has_race races number ≡ true → AreRacesBefore es i races → AreRacesBefore es (i + 1) races
raced_stay es i f inside at races number alloc h before =
    let found = raced races number h in
    races_stay es i f inside at races (λ e r. (found.0, found.1, alloc ∙ ap (λ (n : AllocNo). Some n) (sym found.2))) before

pub closed_stay : (es : List Entry) → IsStrictlyIncreasing (map stamp_of es) → (slots : Slots) → AreSlots es slots → (i : ℕ) (f : Entry) → i < length es → get_or es i f ≡ f
    → (clock : List ℕ) → IsClock es slots.threads.items i f clock → (races : List Race)
    → ((j : ℕ) → j < i → open_at es slots f clock j ≡ false) → AreRacesBefore es i races → AreRacesBefore es (i + 1) races
closed_stay es up slots are i f inside at clock marks races closed before =
    races_stay es i f inside at races
    (λ e r. let h = race_is_open es up slots are i f inside at clock marks e r in absurd (contra _ h.1 (closed r.earlier.0 h.0)))
    before
  where
    contra : (b : Bool) → b ≡ true → b ≡ false → ⊥
    contra b x y = absurd cc

rising_push : (races : List Race) (race : Race) → IsStrictlyIncreasing (map later_stamp races) → All (λ r. later_stamp r < later_stamp race) races
    → IsStrictlyIncreasing (map later_stamp (races ++ race ∷ []))
rising_push races race up below k lt = by_case (lt_or_eq (k + 1) (length races) (omega (arith, more)))
  where
    more : length (map later_stamp (races ++ race ∷ [])) ≡ length races + 1
    more = simp (length-map, length-append)

    at_low : (i : ℕ) → i < length races → get_or (map later_stamp (races ++ race ∷ [])) i 0 ≡ later_stamp (get_or races i race)
    at_low i low =
        let inside : i < length (races ++ race ∷ []) = omega (arith, length-append races (race ∷ [])) in
        get_or-map later_stamp (races ++ race ∷ []) i race 0 inside ∙ ap later_stamp (get_or-append races (race ∷ []) race i low)

    at_last : get_or (map later_stamp (races ++ race ∷ [])) (length races) 0 ≡ later_stamp race
    at_last =
        let inside : length races < length (races ++ race ∷ []) = omega (arith, length-append races (race ∷ [])) in
        get_or-map later_stamp (races ++ race ∷ []) (length races) race 0 inside ∙ ap later_stamp (get_or-append_seam races race [] race)

    was : (i : ℕ) → i < length races → get_or (map later_stamp races) i 0 ≡ later_stamp (get_or races i race)
    was i low = get_or-map later_stamp races i race 0 low

    by_case : (k + 1 < length races) ⊎ (k + 1 ≡ length races) → get_or (map later_stamp (races ++ race ∷ [])) k 0 < get_or (map later_stamp (races ++ race ∷ [])) (k + 1) 0
    by_case (inl low) =
        let h : get_or (map later_stamp races) k 0 < get_or (map later_stamp races) (k + 1) 0 = up k (subst (λ (n : ℕ). k + 1 < n) (sym (length-map races later_stamp)) low) in
        let a = at_low k (omega arith) in
        let b = at_low (k + 1) low in
        let a' = was k (omega arith) in
        let b' = was (k + 1) low in
        omega arith
    by_case (inr last) =
        let h : later_stamp (get_or races k race) < later_stamp race = below k race (omega arith) in
        let a = at_low k (omega arith) in
        let b : get_or (map later_stamp (races ++ race ∷ [])) (k + 1) 0 ≡ later_stamp race = ap (λ (n : ℕ). get_or (map later_stamp (races ++ race ∷ [])) n 0) last ∙ at_last in
        omega arith

-- the races with that of the next entry and the first open one
pub races_more : (es : List Entry) → IsStrictlyIncreasing (map stamp_of es) → (slots : Slots) → AreSlots es slots → (i : ℕ) (f : Entry) → i < length es → get_or es i f ≡ f
    → (clock : List ℕ) → IsClock es slots.threads.items i f clock → (races : List Race) (number : AllocNo) → f.alloc ≡ Some number → has_race races number ≡ false
    → (j : ℕ) → IsFirstOpen es slots f clock i j → AreRacesBefore es i races
    → AreRacesBefore es (i + 1) (races ++ record { alloc = number; earlier = get_or es j f; later = f } ∷ [])
races_more es up slots are i f inside at clock marks races number alloc none j is before = record {
  each = All-push (λ r. IsFirstRace es r) races race before.each first;
  rising = rising_push races race before.rising (λ k d lt. let s = before.below k d lt in lower (get_or races k d) s);
  below = All-push (λ r. IsSeen es (i + 1) r.later) races race (λ k d lt. seen_more es i f (get_or races k d).later inside at (inl (before.below k d lt)))
      (seen_more es i f f inside at (inr refl));
  all = λ e g r seen. by_seen e g r (seen_last es i f g inside at seen);
}
  where
    race : Race
    race = record { alloc = number; earlier = get_or es j f; later = f }

    lower : (r : Race) → IsSeen es i r.later → later_stamp r < stamp_of f
    lower r s = (next_at es up i f inside at).below r.later s

    by_seen : (e g : Entry) → IsRace es e g → IsSeen es i g ⊎ (g ≡ f) → (r : Race) × Contains (races ++ record { alloc = number; earlier = get_or es j f; later = f } ∷ []) r × (g.alloc ≡ Some r.alloc)
    by_seen e g r (inl seen) = let found = before.all e g r seen in (found.0, Contains-append_left races _ found.0 found.1, found.2)
    by_seen e g r (inr same) = (record { alloc = number; earlier = get_or es j f; later = f }, Contains-push races _, ap (λ (x : Entry). x.alloc) same ∙ alloc)

    lower_place : (e : Entry) → (r : IsRace es e f) → stamp_of (get_or es j f) ≤ stamp_of e
    lower_place e r = by_order (lt_or_ge r.earlier.0 j)
      where
        opened : (r.earlier.0 < i) × (open_at es slots f clock r.earlier.0 ≡ true)
        opened = race_is_open es up slots are i f inside at clock marks e r

        at_e : get_or es r.earlier.0 f ≡ e
        at_e = get_or_default es r.earlier.0 f e r.earlier.1 ∙ r.earlier.2

        contra : (b : Bool) → b ≡ true → b ≡ false → ⊥
        contra b x y = absurd cc

        by_eq : (j < r.earlier.0) ⊎ (j ≡ r.earlier.0) → stamp_of (get_or es j f) ≤ stamp_of e
        by_eq (inl lt) =
            let h : stamp_of (get_or es j f) < stamp_of (get_or es r.earlier.0 f) = rises es f up j r.earlier.0 lt r.earlier.1 in
            let ee : stamp_of (get_or es r.earlier.0 f) ≡ stamp_of e = ap stamp_of at_e in
            omega arith
        by_eq (inr same) = let ee : stamp_of (get_or es j f) ≡ stamp_of e = ap (λ (k : ℕ). stamp_of (get_or es k f)) same ∙ ap stamp_of at_e in omega arith

        by_order : (r.earlier.0 < j) ⊎ (j ≤ r.earlier.0) → stamp_of (get_or es j f) ≤ stamp_of e
        by_order (inl lt) = absurd (contra _ opened.1 (is.first r.earlier.0 lt))
        by_order (inr le) = by_eq (lt_or_eq j r.earlier.0 le)

    least : (e g : Entry) → IsRace es e g → g.alloc ≡ Some number → (stamp_of f < stamp_of g) ⊎ ((f ≡ g) × (stamp_of (get_or es j f) ≤ stamp_of e))
    least e g r names = by_stamps (lt_or_ge (stamp_of f) (stamp_of g))
      where
        by_eq : (stamp_of g < stamp_of f) ⊎ (stamp_of g ≡ stamp_of f) → (stamp_of f < stamp_of g) ⊎ ((f ≡ g) × (stamp_of (get_or es j f) ≤ stamp_of e))
        by_eq (inl lt) =
            let found = before.all e g r ((next_at es up i f inside at).each g r.later lt) in
            absurd (not_raced races number none found.0 found.1 (same_number (sym found.2 ∙ names)))
          where
            same_number : {a b : AllocNo} → Some a ≡ Some b → a ≡ b
            same_number h = cc
        by_eq (inr same) =
            let is_f : f ≡ g = by_stamp es up f g (i, inside, at) r.later (sym same) in
            inr (is_f, lower_place e (subst (λ (x : Entry). IsRace es e x) (sym is_f) r))

        by_stamps : (stamp_of f < stamp_of g) ⊎ (stamp_of g ≤ stamp_of f) → (stamp_of f < stamp_of g) ⊎ ((f ≡ g) × (stamp_of (get_or es j f) ≤ stamp_of e))
        by_stamps (inl lt) = inl lt
        by_stamps (inr le) = by_eq (lt_or_eq (stamp_of g) (stamp_of f) le)

    first : IsFirstRace es race
    first = record { races = open_is_race es up slots are i f inside at clock marks j is.inside is.is_open; alloc = alloc; least = least }

pub all_passed : (es : List Entry) (n : ℕ) (races : List Race) → length es ≤ n → AreRacesBefore es n races → AreFirstRaces es races
all_passed es n races le before = record {
  each = before.each;
  rising = before.rising;
  all = λ e f r. before.all e f r (let c = r.later in (c.0, omega (arith, c.1), c.1, c.2));
}

-- where each last use that f meets and clashes with goes before f, nothing races with f
pub clear_alone : (es : List Entry) → IsStrictlyIncreasing (map stamp_of es) → (slots : Slots) → AreSlots es slots → (i : ℕ) (f : Entry) → i < length es → get_or es i f ≡ f
    → (clock : List ℕ) → IsClock es slots.threads.items i f clock → (allocs : Allocations) → AreTracked es slots i allocs
    → (n : AllocNo) → f.alloc ≡ Some n → is_raced (tracked_at allocs n.0) ≡ false → IsClear f.request (kind_of f.request) clock (tracked_at allocs n.0)
    → (e : Entry) → IsRace es e f → ⊥
clear_alone es up slots are i f inside at clock is allocs tracked n names fresh clear e r =
    let h = race_is_open es up slots are i f inside at clock is e r in
    let parts = parts_of e f r.conflicts in
    let named = conflict_alloc e f r.conflicts in
    let same : named.0 ≡ n = same_number (sym named.2 ∙ names) in
    let kept = tracked.kept r.earlier.0 e n h.0 r.earlier.1 r.earlier.2 (accessed_is e n parts.earlier (named.1 ∙ ap (λ (m : AllocNo). Some m) same)) fresh in
    let spot = meeting e.request f.request parts.overlap in
    let slot = get_or slots.of_entry.items r.earlier.0 0 in
    let low : stamp_of e + 1 ≤ get_or clock slot 0 =
    clear fresh spot.0 spot.2 (access_of e r.earlier.0 slot) (kept.left spot.0 spot.1) (kinds_clash e.request f.request parts.write parts.apart) in
    let high : get_or clock (get_or slots.of_entry.items r.earlier.0 0) 0 ≤ stamp_of (get_or es r.earlier.0 f) = (open_parts (get_or es r.earlier.0 f) f (get_or clock (get_or slots.of_entry.items r.earlier.0 0) 0) h.1).0 in
    let ee : stamp_of (get_or es r.earlier.0 f) ≡ stamp_of e = ap stamp_of (get_or_default es r.earlier.0 f e r.earlier.1 ∙ r.earlier.2) in
    omega arith
  where
    same_number : {a b : AllocNo} → Some a ≡ Some b → a ≡ b
    same_number h = cc

pub alone_stay : (es : List Entry) (i : ℕ) (f : Entry) → i < length es → get_or es i f ≡ f → (races : List Race) → ((e : Entry) → IsRace es e f → ⊥)
    → AreRacesBefore es i races → AreRacesBefore es (i + 1) races
alone_stay es i f inside at races none before = races_stay es i f inside at races (λ e r. absurd (none e r)) before

-- the first open place is the first open entry
pub first_of_place : (es : List Entry) (slots : Slots) (f : Entry) (clock : List ℕ) (i : ℕ) → i < length es → (allocs : Allocations) → AreTracked es slots (i + 1) allocs
    → (n : AllocNo) → f.alloc ≡ Some n → is_raced (tracked_at allocs n.0) ≡ false
    → (k : ℕ) → k < i → open_at es slots f clock k ≡ true → Contains (places_in (tracked_at allocs n.0)) k
first_of_place es slots f clock i inside allocs tracked n names fresh k lt is_open_at =
    let parts' = open_parts (get_or es k f) f (get_or clock (get_or slots.of_entry.items k 0) 0) is_open_at in
    let parts = parts_of (get_or es k f) f parts'.1 in
    let named = conflict_alloc (get_or es k f) f parts'.1 in
    let same : named.0 ≡ n = same_number (sym named.2 ∙ names) in
    (tracked.kept k (get_or es k f) n (omega arith) (omega arith) (get_or_default es k (get_or es k f) f (omega arith)) (accessed_is (get_or es k f) n parts.earlier (named.1 ∙ ap (λ (m : AllocNo). Some m) same)) fresh).place
  where
    same_number : {a b : AllocNo} → Some a ≡ Some b → a ≡ b
    same_number h = cc

contra : (b : Bool) → b ≡ true → b ≡ false → ⊥
contra b x y = absurd cc

by_not : (b : Bool) → (b ≡ true → ⊥) → b ≡ false
by_not true h = absurd (h refl)
by_not false h = refl

pub first_open_is : (es : List Entry) (slots : Slots) (f : Entry) (clock : List ℕ) (i : ℕ) → i < length es → (allocs : Allocations) → AreTracked es slots (i + 1) allocs
    → (n : AllocNo) → f.alloc ≡ Some n → is_raced (tracked_at allocs n.0) ≡ false
    → (j : ℕ) → IsFirstPlace es slots f clock (places_in (tracked_at allocs n.0)) i j → IsFirstOpen es slots f clock i j
first_open_is es slots f clock i inside allocs tracked n names fresh j first = record {
  inside = first.inside;
  is_open = first.is_open;
  first = λ k lt. by_not (open_at es slots f clock k)
      (λ h. contra (open_at es slots f clock k) h (first.first k lt (first_of_place es slots f clock i inside allocs tracked n names fresh k (omega (arith, first.inside)) h)));
}

pub none_open_is : (es : List Entry) (slots : Slots) (f : Entry) (clock : List ℕ) (i : ℕ) → i < length es → (allocs : Allocations) → AreTracked es slots (i + 1) allocs
    → (n : AllocNo) → f.alloc ≡ Some n → is_raced (tracked_at allocs n.0) ≡ false
    → ((k : ℕ) → k < i → Contains (places_in (tracked_at allocs n.0)) k → open_at es slots f clock k ≡ false)
    → (k : ℕ) → k < i → open_at es slots f clock k ≡ false
none_open_is es slots f clock i inside allocs tracked n names fresh none k lt = by_not (open_at es slots f clock k)
    (λ h. contra (open_at es slots f clock k) h (none k lt (first_of_place es slots f clock i inside allocs tracked n names fresh k lt h)))

-- ---- the races after the next entry

-- it accesses no allocation
pub other_stay : (es : List Entry) (i : ℕ) (f : Entry) → i < length es → get_or es i f ≡ f → (races : List Race) → accessed f ≡ None
    → AreRacesBefore es i races → AreRacesBefore es (i + 1) races
other_stay es i f inside at races none before = races_stay es i f inside at races never before
  where
    never : (e : Entry) → IsRace es e f → (race : Race) × Contains races race × (f.alloc ≡ Some race.alloc)
    never e r =
        let named = conflict_alloc e f r.conflicts in
        let some : accessed f ≡ Some named.0 = accessed_is f named.0 (parts_of e f r.conflicts).later named.2 in
        let h : None ≡ Some named.0 = sym none ∙ some in
        absurd cc

-- nothing that clashes with it is open, or a race is found on its allocation
pub clear_stay : (es : List Entry) → IsStrictlyIncreasing (map stamp_of es) → (slots : Slots) → AreSlots es slots → (i : ℕ) (f : Entry) → i < length es → get_or es i f ≡ f
    → (clock : List ℕ) → IsClock es slots.threads.items i f clock → (races : List Race) (allocs : Allocations) → AreTracked es slots i allocs → AreMarked races allocs
    → (n : AllocNo) → f.alloc ≡ Some n → IsClear f.request (kind_of f.request) clock (tracked_at allocs n.0)
    → AreRacesBefore es i races → AreRacesBefore es (i + 1) races
clear_stay es up slots are i f inside at clock is races allocs tracked marked n names clear before = by_test (is_raced (tracked_at allocs n.0)) refl
  where
    by_test : (b : Bool) → is_raced (tracked_at allocs n.0) ≡ b → AreRacesBefore es (i + 1) races
    by_test true raced = raced_stay es i f inside at races n names (sym (marked n) ∙ raced) before
    by_test false fresh = alone_stay es i f inside at races (clear_alone es up slots are i f inside at clock is allocs tracked n names fresh clear) before

-- ---- places

not_above : (a b k : ℕ) → k < a → b ≡ k → a < b → ⊥
not_above a b k low is up = omega arith

not_at : (a b k : ℕ) → k < a → b ≡ k → a ≡ b → ⊥
not_at a b k low is same = omega arith

-- what holds of each place before one holds of each lower place
pub before_place : (places : List ℕ) → IsStrictlyIncreasing places → (P : ℕ → Type 0) → (n : ℕ) → n < length places → ((p : ℕ) → p < n → P (get_or places p 0))
    → (k : ℕ) → k < get_or places n 0 → Contains places k → P k
before_place places up P n inside below k lt (p, p_in, is) = by_order (lt_or_ge p n)
  where
    at_p : get_or places p 0 ≡ k
    at_p = get_or_default places p 0 k p_in ∙ is

    by_eq : (n < p) ⊎ (n ≡ p) → ⊥
    by_eq (inl low) = not_above (get_or places n 0) (get_or places p 0) k lt at_p (AllPairs-from_increasing places up n p 0 low p_in)
    by_eq (inr same) = not_at (get_or places n 0) (get_or places p 0) k lt at_p (ap (λ (j : ℕ). get_or places j 0) same)

    by_order : (p < n) ⊎ (n ≤ p) → P k
    by_order (inl low) = subst P at_p (below p low)
    by_order (inr high) = absurd (by_eq (lt_or_eq n p high))
