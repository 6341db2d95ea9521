-- A list of entries has one list of first races.
use Rattle.std.proofs.Common.{◌≡◌, ℕ, zero, suc, ◌<◌, ◌≤◌, List, [], ◌∷◌, length, get_or, map, refl, sym, ap, subst, ◌∙◌, arith, inl, inr}
use Rattle.std.specs.Prelude.{◌⊎◌, Some, Contains}
use Rattle.std.specs.List.Sorted.{IsStrictlyIncreasing}
use Rattle.std.proofs.lemmas.List.{get_or-map, length-map}
use Rattle.std.proofs.lemmas.List.Kept.{AllPairs-from_increasing}
use native.Mathlib.Numerals.{unary_clauses}
use Rattle.bsan_ids.specs.declared.numbers.AllocNo.{AllocNo}
use Rattle.history.specs.declared.entry.Entry.{Entry}
use Rattle.history.specs.Merge.{stamp_of}
use Rattle.race_check.specs.declared.race.Race.{Race}
use Rattle.race_check.specs.Races.{IsFirstRace, AreFirstRaces, later_stamp}
use Rattle.race_check.proofs.Places.{by_stamp}

-- ---- lists that rise and have the same items

rises_behind : (n : ℕ) (ns : List ℕ) → IsStrictlyIncreasing (n ∷ ns) → IsStrictlyIncreasing ns
rises_behind n ns up k lt = simp unary_clauses (simp unary_clauses at (up (suc k) (omega arith)))

first_or_behind : (r x : Race) (rs : List Race) → Contains (r ∷ rs) x → (r ≡ x) ⊎ Contains rs x
first_or_behind r x rs (zero, lt, is) = inl is
first_or_behind r x rs (suc k, lt, is) = inr (k, omega arith, is)

behind : (r x : Race) (rs : List Race) → Contains rs x → Contains (r ∷ rs) x
behind r x rs (k, lt, is) = (suc k, omega arith, is)

above : (r x : Race) (rs : List Race) → IsStrictlyIncreasing (map later_stamp (r ∷ rs)) → Contains rs x → later_stamp r < later_stamp x
above r x rs up (k, lt, is) =
    let inside : suc k < length (map later_stamp (r ∷ rs)) = subst (λ (n : ℕ). suc k < n) (sym (length-map (r ∷ rs) later_stamp)) (omega arith) in
    let low : get_or (map later_stamp (r ∷ rs)) 0 0 < get_or (map later_stamp (r ∷ rs)) (suc k) 0 = AllPairs-from_increasing (map later_stamp (r ∷ rs)) up 0 (suc k) 0 (omega arith) inside in
    let at : get_or (map later_stamp (r ∷ rs)) (suc k) 0 ≡ later_stamp (get_or (r ∷ rs) (suc k) x) = get_or-map later_stamp (r ∷ rs) (suc k) x 0 (omega arith) in
    let is_x : later_stamp (get_or rs k x) ≡ later_stamp x = ap later_stamp is in
    omega arith

same_first : (r s : Race) (rs ss : List Race) → IsStrictlyIncreasing (map later_stamp (r ∷ rs)) → IsStrictlyIncreasing (map later_stamp (s ∷ ss))
    → (s ≡ r) ⊎ Contains ss r → (r ≡ s) ⊎ Contains rs s → r ≡ s
same_first r s rs ss up vp (inl same) in_rs = sym same
same_first r s rs ss up vp (inr in_ss) (inl same) = same
same_first r s rs ss up vp (inr in_ss) (inr in_rs) =
    let a : later_stamp s < later_stamp r = above s r ss vp in_ss in
    let b : later_stamp r < later_stamp s = above r s rs up in_rs in
    absurd (omega arith)

rest_in : (r s x : Race) (rs ss : List Race) → r ≡ s → IsStrictlyIncreasing (map later_stamp (r ∷ rs)) → Contains rs x → (s ≡ x) ⊎ Contains ss x → Contains ss x
rest_in r s x rs ss same up in_rs (inl is) =
    let low : later_stamp r < later_stamp x = above r x rs up in_rs in
    let at : later_stamp r ≡ later_stamp x = ap later_stamp (same ∙ is) in
    absurd (omega arith)
rest_in r s x rs ss same up in_rs (inr in_ss) = in_ss

same_lists : (rs ss : List Race) → IsStrictlyIncreasing (map later_stamp rs) → IsStrictlyIncreasing (map later_stamp ss)
    → ((x : Race) → Contains rs x → Contains ss x) → ((x : Race) → Contains ss x → Contains rs x) → rs ≡ ss
same_lists [] [] up vp to from = refl
same_lists [] (s ∷ ss) up vp to from = let c = from s (0, omega arith, refl) in let lt : c.0 < 0 = c.1 in absurd (omega arith)
same_lists (r ∷ rs) [] up vp to from = let c = to r (0, omega arith, refl) in let lt : c.0 < 0 = c.1 in absurd (omega arith)
same_lists (r ∷ rs) (s ∷ ss) up vp to from =
    let first : r ≡ s = same_first r s rs ss up vp (first_or_behind s r ss (to r (0, omega arith, refl))) (first_or_behind r s rs (from s (0, omega arith, refl))) in
    let rest : rs ≡ ss = same_lists rs ss (rises_behind (later_stamp r) (map later_stamp rs) up) (rises_behind (later_stamp s) (map later_stamp ss) vp)
    (λ x c. rest_in r s x rs ss first up c (first_or_behind s x ss (to x (behind r x rs c))))
    (λ x c. rest_in s r x ss rs (sym first) vp c (first_or_behind r x rs (from x (behind s x ss c)))) in
    ap (λ (x : Race). x ∷ rs) first ∙ ap (λ (xs : List Race). s ∷ xs) rest

-- ---- the first race on an allocation is one

race_is : (r s : Race) → r.alloc ≡ s.alloc → r.earlier ≡ s.earlier → r.later ≡ s.later → r ≡ s
race_is r s a e l =
    ap (λ (x : AllocNo). let race : Race = record { alloc = x; earlier = r.earlier; later = r.later } in race) a
    ∙ ap (λ (x : Entry). let race : Race = record { alloc = s.alloc; earlier = x; later = r.later } in race) e
    ∙ ap (λ (x : Entry). let race : Race = record { alloc = s.alloc; earlier = s.earlier; later = x } in race) l

same_race : (es : List Entry) → IsStrictlyIncreasing (map stamp_of es) → (r s : Race) → IsFirstRace es r → IsFirstRace es s → r.alloc ≡ s.alloc → r ≡ s
same_race es up r s of_r of_s same =
    by_both (of_r.least s.earlier s.later of_s.races (of_s.alloc ∙ ap (λ (n : AllocNo). Some n) (sym same))) (of_s.least r.earlier r.later of_r.races (of_r.alloc ∙ ap (λ (n : AllocNo). Some n) same))
  where
    by_both : (stamp_of r.later < stamp_of s.later) ⊎ ((r.later ≡ s.later) × (stamp_of r.earlier ≤ stamp_of s.earlier))
        → (stamp_of s.later < stamp_of r.later) ⊎ ((s.later ≡ r.later) × (stamp_of s.earlier ≤ stamp_of r.earlier)) → r ≡ s
    by_both (inl a) (inl b) = absurd (omega arith)
    by_both (inl a) (inr b) = let at : stamp_of s.later ≡ stamp_of r.later = ap stamp_of b.0 in absurd (omega arith)
    by_both (inr a) (inl b) = let at : stamp_of r.later ≡ stamp_of s.later = ap stamp_of a.0 in absurd (omega arith)
    by_both (inr a) (inr b) =
        let low : stamp_of r.earlier ≤ stamp_of s.earlier = a.1 in
        let high : stamp_of s.earlier ≤ stamp_of r.earlier = b.1 in
        race_is r s same (by_stamp es up r.earlier s.earlier of_r.races.earlier of_s.races.earlier (omega arith)) a.0

among : (es : List Entry) → IsStrictlyIncreasing (map stamp_of es) → (rs ss : List Race) → AreFirstRaces es rs → AreFirstRaces es ss → (x : Race) → Contains rs x → Contains ss x
among es up rs ss of_rs of_ss x c =
    let of_x : IsFirstRace es x = subst (λ (r : Race). IsFirstRace es r) c.2 (of_rs.each c.0 x c.1) in
    let found = of_ss.all x.earlier x.later of_x.races in
    let of_found : IsFirstRace es found.0 = subst (λ (r : Race). IsFirstRace es r) found.1.2 (of_ss.each found.1.0 found.0 found.1.1) in
    let same : found.0 ≡ x = same_race es up found.0 x of_found of_x (some_same (sym found.2 ∙ of_x.alloc)) in
    subst (λ (r : Race). Contains ss r) same found.1
  where
    some_same : {m n : AllocNo} → Some m ≡ Some n → m ≡ n
    some_same h = cc

pub one_list : (es : List Entry) → IsStrictlyIncreasing (map stamp_of es) → (rs ss : List Race) → AreFirstRaces es rs → AreFirstRaces es ss → rs ≡ ss
one_list es up rs ss of_rs of_ss = same_lists rs ss of_rs.rising of_ss.rising (among es up rs ss of_rs of_ss) (among es up ss rs of_ss of_rs)
