-- The violations that are shown, their count and the status.
use Rattle.std.proofs.Common.{◌≡◌, ℕ, ◌+◌, ◌==◌, ◌&&◌, ◌||◌, not, Bool, true, false, List, [], ◌∷◌, length, filter, count_by, find, cond, Option, Some, None, refl, sym, subst, arith, if◌then◌else◌}
use Rattle.std.specs.List.{list_any}
use Rattle.std.proofs.lemmas.List.Filters.{length-filter_both}
use Rattle.std.proofs.lemmas.List.Sums.{length-filter}
use Rattle.history.specs.declared.entry.Entry.{Entry}
use Rattle.history.specs.declared.log.AllocLog.{AllocLog}
use Rattle.history.specs.declared.record.RunRecord.{RunRecord}
use Rattle.history.specs.Records.{violates, has_violation, first_violation}
use Rattle.report.specs.Report.{any_end, is_no_memory, is_limit, is_trap, status_of}
use Rattle.suppress.specs.declared.rules.Rules.{Rules}
use Rattle.suppress.specs.Held.{is_some_shown, is_any_shown, held_status}

-- ---- the number of those that are left

pub kept_and_left : {A : Type 0} (p : A → Bool) (xs : List A) → length (filter (λ x. not (p x)) xs) + count_by p xs ≡ length xs
kept_and_left {A} p xs =
    let both : length (filter p xs) + length (filter (λ x. not (p x)) xs) ≡ length xs = length-filter_both p (λ (x : A). not (p x)) (λ (x : A). refl) xs in
    omega (arith, both, length-filter p xs)

-- ---- the status

no_find : (es : List Entry) → list_any violates es ≡ false → find violates es ≡ None
no_find [] h = refl
no_find (e ∷ es) h = by_test (violates e) h (no_find es)
  where
    by_test : (b : Bool) → (b || list_any violates es) ≡ false → (list_any violates es ≡ false → find violates es ≡ None) → cond b (Some e) (find violates es) ≡ None
    by_test true h more = absurd cc
    by_test false h more = more h

none_shown : (rules : Rules) (logs : List AllocLog) → list_any has_violation logs ≡ false → is_any_shown rules logs ≡ false
none_shown rules [] h = refl
none_shown rules (log ∷ logs) h = by_test (has_violation log) refl h (none_shown rules logs)
  where
    by_test : (b : Bool) → has_violation log ≡ b → (b || list_any has_violation logs) ≡ false → (list_any has_violation logs ≡ false → is_any_shown rules logs ≡ false)
        → is_any_shown rules (log ∷ logs) ≡ false
    by_test true is h more = absurd cc
    by_test false is h more =
        let none : first_violation log ≡ None = no_find log.entries is in
        subst (λ (o : Option Entry). (is_some_shown rules o || is_any_shown rules logs) ≡ false) (sym none) (more h)

by_ends : (memory limit trap violation shown : Bool) → (violation ≡ false → shown ≡ false)
    → ◌≡◌ {A = ℕ} (if ((if memory then 9 else (if limit then 6 else (if trap then 5 else (if violation then 1 else 0)))) == 1) && not shown then 0
    else (if memory then 9 else (if limit then 6 else (if trap then 5 else (if violation then 1 else 0)))))
    (if memory then 9 else (if limit then 6 else (if trap then 5 else (if shown then 1 else 0))))
by_ends true limit trap violation shown h = refl
by_ends false true trap violation shown h = refl
by_ends false false true violation shown h = refl
by_ends false false false true true h = refl
by_ends false false false true false h = refl
by_ends false false false false true h = let e : true ≡ false = h refl in absurd cc
by_ends false false false false false h = refl

pub status_is : (rules : Rules) (kept : RunRecord) → (if (status_of kept == 1) && not (is_any_shown rules kept.allocs) then 0 else status_of kept) ≡ held_status rules kept
status_is rules kept =
    by_ends (any_end is_no_memory kept) (any_end is_limit kept) (any_end is_trap kept) (list_any has_violation kept.allocs) (is_any_shown rules kept.allocs) (none_shown rules kept.allocs)
