-- What the fields of a range map stand for.
use Rattle.std.specs.Prelude.{ℕ, ◌-◌, ◌<◌, List, [], ◌∷◌, Bool, map, suc, nat_lt, vec_len, vec_capacity, if◌then◌else◌}
use Rattle.std.specs.List.{range_with_len}
use Rattle.std.specs.List.Sorted.{IsNonDecreasingBy}
use Rattle.range_map.specs.declared.Run.{Run}
use Rattle.range_map.specs.declared.RangeMap.TheInside.{Inside}
use Rattle.range_map.specs.Ranges.{Ranges}

-- the value at byte `b`: that of the last run that begins at or before it
abbrev pub value_at : {T : Type 0} → T → List (Run T) → ℕ → T
value_at first [] b = first
value_at first (r ∷ rs) b = if nat_lt b r.start then first else value_at r.value rs b

-- the runs' starts rise, from above `low`, and are below `len`
abbrev pub IsRisingTo : {T : Type 0} → ℕ → ℕ → List (Run T) → Type 0
IsRisingTo len low [] = low < len
IsRisingTo len low (r ∷ rs) = (low < r.start) × IsRisingTo len r.start rs

-- how many runs begin at or before `at`
abbrev pub runs_until : {T : Type 0} → ℕ → List (Run T) → ℕ
runs_until at [] = 0
runs_until at (r ∷ rs) = if nat_lt at r.start then 0 else suc (runs_until at rs)

-- the run that has `at`
abbrev pub run_at : {T : Type 0} → ℕ → Run T → List (Run T) → Run T
run_at at run [] = run
run_at at run (r ∷ rs) = if nat_lt at r.start then run else run_at at r rs

-- the runs whose value is not that of the run kept before them
abbrev pub compacted : {T : Type 0} → (T → T → Bool) → T → List (Run T) → List (Run T)
compacted same before [] = []
compacted same before (r ∷ rs) = if same before r.value then compacted same before rs else r ∷ compacted same r.value rs

-- the value of the last run
abbrev pub last_value : {T : Type 0} → T → List (Run T) → T
last_value before [] = before
last_value before (r ∷ rs) = last_value r.value rs

-- no run begins before an earlier one
abbrev pub IsRising : {T : Type 0} → List (Run T) → Type 0
IsRising rs = IsNonDecreasingBy (λ r. r.start) rs

unfoldable pub bytes_of : {T : Type 0} → ℕ → T → List (Run T) → List T
bytes_of len first later = map (value_at first later) (range_with_len 0 len)

abbrev pub starts_of : {T : Type 0} → List (Run T) → List ℕ
starts_of later = 0 ∷ map (λ r. r.start) later

abbrev pub ranges_of : {T : Type 0} → Inside T → Ranges T
ranges_of m = record {
  bytes = bytes_of m.len m.first m.later.items;
  starts = starts_of m.later.items;
  spare = vec_capacity m.later - vec_len m.later;
}
