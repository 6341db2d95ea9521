-- The first violations of a record of which a report can be made can be described.
use Rattle.std.proofs.Common.{◌≡◌, List, [], ◌∷◌, Bool, true, false, ◌++◌, length, map, nat_eq, cond, refl, sym, ap, ◌∙◌, subst, arith, All, find, Option, Some, None, IsTrue}
use Rattle.std.specs.List.{filter_map, cons_option, flat_map, IsDistinct}
use Rattle.std.proofs.lemmas.List.Elements.{All-cons, All-head, All-tail}
use Rattle.std.proofs.lemmas.List.Sorted.{All-permutation}
use Rattle.history.specs.declared.entry.Entry.{Entry}
use Rattle.history.specs.declared.log.AllocLog.{AllocLog}
use Rattle.history.specs.declared.record.RunRecord.{RunRecord}
use Rattle.history.specs.declared.log.ThreadLog.{ThreadLog}
use Rattle.history.specs.Merge.{stamp_of}
use Rattle.history.specs.Records.{thread_entries, alloc_entries, violates, first_violation, first_found, first_violations}
use Rattle.history.proofs.Distinct.{by_stamp_moves}
use Rattle.report.specs.Violation.{IsDescribable}
use Rattle.report.specs.Report.{IsReportable}

-- described where it is a violation
abbrev pub IsDescribed : Entry → Type 0
IsDescribed entry = IsTrue (violates entry) → IsDescribable entry

pub record IsFound (entry : Entry) : Type 0 where
  pub violation : IsTrue (violates entry)
  pub described : IsDescribable entry

pub found_in : (es : List Entry) (e : Entry) → All IsDescribed es → find violates es ≡ Some e → IsFound e
found_in [] e h is = absurd cc
found_in (x ∷ xs) e h is = by_test (violates x) refl is (found_in xs e (All-tail IsDescribed x xs h))
  where
    by_test : (b : Bool) → violates x ≡ b → cond b (Some x) (find violates xs) ≡ Some e → (find violates xs ≡ Some e → IsFound e) → IsFound e
    by_test true test same more =
        let at : x ≡ e = cc in
        subst IsFound at (record { violation = test; described = All-head IsDescribed x xs h test })
    by_test false test later more = more later

pub all_found : (logs : List AllocLog) → All (λ (log : AllocLog). All IsDescribed log.entries) logs → All IsFound (filter_map first_violation logs)
all_found [] h = λ k d lt. absurd (omega arith)
all_found (log ∷ logs) h =
    by_first (first_violation log) refl (all_found logs (All-tail (λ (log : AllocLog). All IsDescribed log.entries) log logs h))
  where
    by_first : (o : Option Entry) → first_violation log ≡ o → All IsFound (filter_map first_violation logs)
        → All IsFound (cons_option o (filter_map first_violation logs))
    by_first None is later = later
    by_first (Some e) is later =
        All-cons IsFound e (filter_map first_violation logs)
        (found_in log.entries e (All-head (λ (log : AllocLog). All IsDescribed log.entries) log logs h) is) later

pub first_violations_found : (kept : RunRecord) → IsReportable kept → All IsFound (first_violations kept)
first_violations_found kept h =
    All-permutation IsFound (first_found kept) (first_violations kept) (by_stamp_moves (first_found kept)) (all_found kept.allocs h.described)

pub found_described : (kept : RunRecord) (items : List Entry) → IsReportable kept → items ≡ first_violations kept → All IsDescribable items
found_described kept items h is k d lt =
    (subst (λ (es : List Entry). All IsFound es) (sym is) (first_violations_found kept h) k d lt).described

pub found_violate : (kept : RunRecord) (items : List Entry) → IsReportable kept → items ≡ first_violations kept → All (λ entry. IsTrue (violates entry)) items
found_violate kept items h is k d lt =
    (subst (λ (es : List Entry). All IsFound es) (sym is) (first_violations_found kept h) k d lt).violation

-- of one thread that made no step a report can be made
pub one_thread_reportable : (kept : RunRecord) (log : ThreadLog) → kept.threads ≡ log ∷ [] → log.entries ≡ [] → kept.allocs ≡ [] → IsReportable kept
unfolding IsDistinct
one_thread_reportable kept log threads entries allocs =
    let none : thread_entries kept ≡ [] = ap (flat_map (λ (l : ThreadLog). l.entries)) threads ∙ ap (λ (es : List Entry). es ++ []) entries in
    let alone : alloc_entries kept ≡ [] = ap (flat_map (λ (l : AllocLog). l.entries)) allocs in
    record {
      distinct = record {
        threads = subst (λ (es : List Entry). IsDistinct nat_eq (map stamp_of es)) (sym none) tt;
        allocs = subst (λ (es : List Entry). IsDistinct nat_eq (map stamp_of es)) (sym alone) tt;
      };
      described = λ k d lt. absurd (omega (arith, ap (length {A = AllocLog}) allocs));
    }
