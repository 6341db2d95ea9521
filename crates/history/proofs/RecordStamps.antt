-- Where no stamp stands twice, none stands twice among the first violations.
use Rattle.std.proofs.Common.{◌≡◌, ℕ, List, [], ◌∷◌, ◌++◌, map, Bool, true, false, cond, refl, sym, ap, subst, ◌∙◌, nat_eq}
use Rattle.std.specs.Prelude.{find, Option, Some, None}
use Rattle.std.specs.List.{IsDistinct, AllByRecursion, flat_map, filter_map, cons_option}
use Rattle.history.specs.declared.entry.Entry.{Entry}
use Rattle.history.specs.declared.log.AllocLog.{AllocLog}
use Rattle.history.specs.Merge.{stamp_of}
use Rattle.history.specs.Records.{violates, first_violation}

-- the number is no stamp of these entries
abbrev pub IsApart : ℕ → List Entry → Type 0
IsApart n es = AllByRecursion (λ y. nat_eq n y ≡ false) (map stamp_of es)

apart_behind : (n : ℕ) (es rest : List Entry) → IsApart n (es ++ rest) → IsApart n rest
apart_behind n [] rest h = h
apart_behind n (e ∷ es) rest h = apart_behind n es rest h.1

apart_found : (n : ℕ) (es rest : List Entry) (e : Entry) → IsApart n (es ++ rest) → find violates es ≡ Some e → nat_eq n (stamp_of e) ≡ false
apart_found n [] rest e h is = absurd cc
apart_found n (x ∷ xs) rest e h is = by_test (violates x) is (apart_found n xs rest e h.1)
  where
    by_test : (b : Bool) → cond b (Some x) (find violates xs) ≡ Some e → (find violates xs ≡ Some e → nat_eq n (stamp_of e) ≡ false) → nat_eq n (stamp_of e) ≡ false
    by_test true same more = let at : x ≡ e = cc in ap (λ (z : Entry). nat_eq n (stamp_of z)) (sym at) ∙ h.0
    by_test false later more = more later

distinct_behind : (es rest : List Entry) → IsDistinct nat_eq (map stamp_of (es ++ rest)) → IsDistinct nat_eq (map stamp_of rest)
unfolding IsDistinct
distinct_behind [] rest d = d
distinct_behind (e ∷ es) rest d = distinct_behind es rest d.1

found_apart : (es rest : List Entry) (e : Entry) → IsDistinct nat_eq (map stamp_of (es ++ rest)) → find violates es ≡ Some e → IsApart (stamp_of e) rest
unfolding IsDistinct
found_apart [] rest e d is = absurd cc
found_apart (x ∷ xs) rest e d is = by_test (violates x) d.0 is (found_apart xs rest e d.1)
  where
    by_test : (b : Bool) → IsApart (stamp_of x) (xs ++ rest) → cond b (Some x) (find violates xs) ≡ Some e → (find violates xs ≡ Some e → IsApart (stamp_of e) rest) → IsApart (stamp_of e) rest
    by_test true here same more = let at : x ≡ e = cc in apart_behind (stamp_of e) xs rest (subst (λ (z : Entry). IsApart (stamp_of z) (xs ++ rest)) at here)
    by_test false here later more = more later

firsts_apart : (n : ℕ) (logs : List AllocLog) → IsApart n (flat_map (λ (log : AllocLog). log.entries) logs) → IsApart n (filter_map first_violation logs)
firsts_apart n [] h = h
firsts_apart n (log ∷ logs) h =
    by_first (first_violation log) refl (firsts_apart n logs (apart_behind n log.entries (flat_map (λ (log : AllocLog). log.entries) logs) h))
  where
    by_first : (o : Option Entry) → first_violation log ≡ o → IsApart n (filter_map first_violation logs) → IsApart n (cons_option o (filter_map first_violation logs))
    by_first None is later = later
    by_first (Some e) is later = (apart_found n log.entries (flat_map (λ (log : AllocLog). log.entries) logs) e h is, later)

pub firsts_distinct : (logs : List AllocLog) → IsDistinct nat_eq (map stamp_of (flat_map (λ (log : AllocLog). log.entries) logs))
    → IsDistinct nat_eq (map stamp_of (filter_map first_violation logs))
unfolding IsDistinct
firsts_distinct [] d = d
firsts_distinct (log ∷ logs) d =
    by_first (first_violation log) refl (firsts_distinct logs (distinct_behind log.entries (flat_map (λ (log : AllocLog). log.entries) logs) d))
  where
    by_first : (o : Option Entry) → first_violation log ≡ o → IsDistinct nat_eq (map stamp_of (filter_map first_violation logs)) → IsDistinct nat_eq (map stamp_of (cons_option o (filter_map first_violation logs)))
    by_first None is later = later
    by_first (Some e) is later = (firsts_apart (stamp_of e) logs (found_apart log.entries (flat_map (λ (log : AllocLog). log.entries) logs) e d is), later)
