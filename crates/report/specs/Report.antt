-- The report of a record, and the status of a run.
use Rattle.std.specs.Prelude.{ℕ, ◌==◌, Bool, true, false, IsTrue, All, List, [], ◌∷◌, ◌++◌, length, sum_by, count_by, codes, if◌then◌else◌}
use Rattle.std.specs.List.{list_any, flat_map}
use Rattle.std.specs.Fmt.{decimal}
use Rattle.history.specs.declared.entry.Entry.{Entry}
use Rattle.history.specs.declared.entry.Request.{Request}
use Rattle.history.specs.declared.entry.Request.TheVariants.{Print}
use Rattle.history.specs.declared.log.End.{End}
use Rattle.history.specs.declared.log.End.TheVariants.{Trapped, StepLimit, TurnLimit, NoMemory}
use Rattle.history.specs.declared.log.ThreadLog.{ThreadLog}
use Rattle.history.specs.declared.log.AllocLog.{AllocLog}
use Rattle.history.specs.declared.record.RunRecord.{RunRecord}
use Rattle.history.specs.Histories.{is_make_step}
use Rattle.history.specs.Records.{merged, first_violations, violates, has_violation, HasDistinctStamps}
use Rattle.report.specs.Violation.{violation_line, IsDescribable}
use Rattle.report.specs.End.{end_line}

-- 1. the values that threads printed, in stamp order
abbrev pub print_text : ℕ → Request → List ℕ
print_text thread (Print value) = codes "thread " ++ (decimal thread ++ (codes " prints " ++ (decimal value ++ 10 ∷ [])))
print_text thread _ = []

abbrev pub asks_print : Request → Bool
asks_print (Print value) = true
asks_print _ = false

abbrev pub is_print : Entry → Bool
is_print entry = asks_print entry.request

abbrev pub print_line : Entry → List ℕ
print_line entry = print_text entry.thread.0 entry.request

abbrev pub prints : RunRecord → List ℕ
prints kept = flat_map print_line (merged kept)

-- 2. the first violation on each allocation, in stamp order
abbrev pub violation_lines : RunRecord → List ℕ
violation_lines kept = flat_map violation_line (first_violations kept)

-- 3. each thread's end, in the order of the logs
abbrev pub end_lines : RunRecord → List ℕ
end_lines kept = flat_map end_line kept.threads

-- 4. how many steps, allocations, threads, and allocations with a violation
abbrev pub steps_of : List ThreadLog → ℕ
steps_of logs = sum_by (λ log. length log.entries) logs

abbrev pub makes_of : List ThreadLog → ℕ
makes_of logs = sum_by (λ log. count_by is_make_step log.entries) logs

abbrev pub violations_of : List AllocLog → ℕ
violations_of logs = count_by has_violation logs

abbrev pub summary : RunRecord → List ℕ
summary kept = codes "steps " ++ (decimal (steps_of kept.threads)
    ++ (codes ", allocations " ++ (decimal (makes_of kept.threads)
    ++ (codes ", threads " ++ (decimal (length kept.threads)
    ++ (codes ", violations " ++ (decimal (violations_of kept.allocs) ++ 10 ∷ [])))))))

-- 5. the status
abbrev pub is_no_memory : End → Bool
is_no_memory NoMemory = true
is_no_memory _ = false

abbrev pub is_limit : End → Bool
is_limit (StepLimit stamp) = true
is_limit TurnLimit = true
is_limit _ = false

abbrev pub is_trap : End → Bool
is_trap (Trapped trap) = true
is_trap _ = false

-- whether the end of some thread passes the test
abbrev pub any_end : (End → Bool) → RunRecord → Bool
any_end test kept = list_any (λ log. test log.end) kept.threads

-- 9 for out of memory, else 6 for a limit, else 5 for a trap, else 1 for a violation, else 0
abbrev pub status_of : RunRecord → ℕ
status_of kept =
    if any_end is_no_memory kept then 9
    else (if any_end is_limit kept then 6
    else (if any_end is_trap kept then 5
    else (if list_any has_violation kept.allocs then 1 else 0)))

abbrev pub status_line : RunRecord → List ℕ
status_line kept = codes "status " ++ (decimal (status_of kept) ++ 10 ∷ [])

-- the part of this number
abbrev pub part_of : ℕ → RunRecord → List ℕ
part_of item kept =
    if item == 1 then prints kept
    else (if item == 2 then violation_lines kept
    else (if item == 3 then end_lines kept
    else (if item == 4 then summary kept else status_line kept)))

-- the report: its five parts
abbrev pub text_of : RunRecord → List ℕ
text_of kept = prints kept ++ (violation_lines kept ++ (end_lines kept ++ (summary kept ++ status_line kept)))

-- a record of which a report can be made: no stamp stands twice, and each violation can be described
pub record IsReportable (kept : RunRecord) : Type 0 where
  pub distinct : HasDistinctStamps kept
  pub described : All (λ log. All (λ entry. IsTrue (violates entry) → IsDescribable entry) log.entries) kept.allocs
