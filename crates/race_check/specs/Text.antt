-- The text of the races of a record, and its status.
use Rattle.std.specs.Prelude.{ℕ, nat_le, ◌==◌, false, List, [], ◌∷◌, ◌++◌, length, codes, if◌then◌else◌}
use Rattle.std.specs.List.{flat_map}
use Rattle.std.specs.Fmt.{decimal}
use Rattle.history.specs.declared.entry.Entry.{Entry}
use Rattle.history.specs.declared.record.RunRecord.{RunRecord}
use Rattle.history.specs.Merge.{stamp_of}
use Rattle.report.specs.Report.{status_of}
use Rattle.report.specs.Violation.{what_text}
use Rattle.race_check.specs.declared.race.Race.{Race}

-- one entry of a race: by which thread, at which instruction, at which stamp, and what it did
abbrev pub side_text : Entry → List ℕ
side_text entry = codes "thread " ++ (decimal entry.thread.0
    ++ (codes " at instruction " ++ (decimal entry.site
    ++ (codes ", step " ++ (decimal (stamp_of entry)
    ++ (codes ", " ++ what_text false entry))))))

abbrev pub race_line : Race → List ℕ
race_line race = codes "race on allocation " ++ (decimal race.alloc.0
    ++ (codes ": " ++ (side_text race.earlier
    ++ (codes "; " ++ (side_text race.later ++ 10 ∷ [])))))

-- 10 where there is a race and the run itself is clean or has a violation, else the run's own status
abbrev pub race_status : RunRecord → List Race → ℕ
race_status kept races =
    if nat_le (status_of kept) 1 then (if length races == 0 then status_of kept else 10) else status_of kept

abbrev pub race_text : RunRecord → List Race → List ℕ
race_text kept races = flat_map race_line races
    ++ (codes "races " ++ (decimal (length races)
    ++ (codes "\nstatus " ++ (decimal (race_status kept races) ++ 10 ∷ []))))
