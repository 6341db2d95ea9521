-- The report and the status of a run without the violations that rules hold.
use Rattle.std.specs.Prelude.{ℕ, not, Bool, false, Option, Some, None, List, [], ◌∷◌, ◌++◌, length, filter, count_by, codes, if◌then◌else◌}
use Rattle.std.specs.List.{flat_map, list_any}
use Rattle.std.specs.Fmt.{decimal}
use Rattle.history.specs.declared.entry.Entry.{Entry}
use Rattle.history.specs.declared.record.RunRecord.{RunRecord}
use Rattle.history.specs.declared.log.AllocLog.{AllocLog}
use Rattle.history.specs.Records.{first_violation, first_violations}
use Rattle.report.specs.Report.{prints, end_lines, steps_of, makes_of, any_end, is_no_memory, is_limit, is_trap}
use Rattle.report.specs.Violation.{violation_line}
use Rattle.suppress.specs.declared.case.Case.{Case}
use Rattle.suppress.specs.declared.rules.Rules.{Rules}
use Rattle.suppress.specs.Cases.{case_of}
use Rattle.suppress.specs.Rules.{holds}

-- whether the rules hold a violation back
abbrev pub holds_case : Rules → Option Case → Bool
holds_case rules None = false
holds_case rules (Some case) = holds rules case

abbrev pub is_held : Rules → Entry → Bool
is_held rules entry = holds_case rules (case_of entry)

abbrev pub is_shown : Rules → Entry → Bool
is_shown rules entry = not (is_held rules entry)

-- the first violations that are shown, in stamp order, and the number of those that are held
abbrev pub shown : Rules → RunRecord → List Entry
shown rules kept = filter (is_shown rules) (first_violations kept)

abbrev pub held_count : Rules → RunRecord → ℕ
held_count rules kept = count_by (is_held rules) (first_violations kept)

-- the line of a violation, if it is shown
abbrev pub shown_line : Rules → Entry → List ℕ
shown_line rules entry = if is_shown rules entry then violation_line entry else []

abbrev pub summary_with : RunRecord → ℕ → ℕ → List ℕ
summary_with kept violations held = codes "steps " ++ (decimal (steps_of kept.threads)
    ++ (codes ", allocations " ++ (decimal (makes_of kept.threads)
    ++ (codes ", threads " ++ (decimal (length kept.threads)
    ++ (codes ", violations " ++ (decimal violations
    ++ (codes ", held " ++ (decimal held ++ 10 ∷ [])))))))))

-- whether there is one on an allocation that is shown
abbrev pub is_some_shown : Rules → Option Entry → Bool
is_some_shown rules None = false
is_some_shown rules (Some entry) = is_shown rules entry

abbrev pub is_any_shown : Rules → List AllocLog → Bool
is_any_shown rules logs = list_any (λ log. is_some_shown rules (first_violation log)) logs

-- the run's status, where of the violations those that are shown count
abbrev pub held_status : Rules → RunRecord → ℕ
held_status rules kept =
    if any_end is_no_memory kept then 9
    else (if any_end is_limit kept then 6
    else (if any_end is_trap kept then 5
    else (if is_any_shown rules kept.allocs then 1 else 0)))

abbrev pub status_line : Rules → RunRecord → List ℕ
status_line rules kept = codes "status " ++ (decimal (held_status rules kept) ++ 10 ∷ [])

-- what was printed, the violations that are shown, the threads' ends, the summary, the status
abbrev pub held_text : Rules → RunRecord → List ℕ
held_text rules kept = prints kept
    ++ (flat_map (shown_line rules) (first_violations kept)
    ++ (end_lines kept
    ++ (summary_with kept (length (shown rules kept)) (held_count rules kept)
    ++ status_line rules kept)))
