-- What the counters of a record say of its logs.
use Rattle.std.specs.Prelude.{◌≡◌, ℕ, suc, ◌+◌, ◌<◌, ◌≤◌, List, All, IsPermutation, count_by, length, nat_eq}
use Rattle.std.specs.List.{flat_map, IsDistinct}
use Rattle.history.specs.Histories.{is_make_step}
use Rattle.history.specs.declared.log.ThreadLog.{ThreadLog}
use Rattle.runs.specs.Merge.{merged}
use Rattle.runs.specs.Right.{alloc_numbers, beyond, counting_from, is_spawn, thread_numbers, AtLeast}

-- n of the logs are so, and no more
abbrev pub IsCount : (ThreadLog → Type 0) → List ThreadLog → ℕ → Type 0
IsCount P logs n = AtLeast P n logs × (AtLeast P (suc n) logs → ⊥)

-- so many stamps were drawn
pub record AreStamps (steps : ℕ) (logs : List ThreadLog) (drawn : ℕ) : Type 0 where
  pub sum : drawn ≡ length (merged logs) + length (beyond logs)
  pub above : IsPermutation (beyond logs) (counting_from (steps + 1) (length (beyond logs)))
  pub full : 0 < length (beyond logs) → length (merged logs) ≡ steps

-- so many allocation numbers were drawn, where so many logs stand asking for one
pub record AreAllocs (asking : ℕ) (logs : List ThreadLog) (drawn : ℕ) : Type 0 where
  pub few : drawn ≤ count_by is_make_step (merged logs) + asking
  pub within : All (λ n. n ≤ drawn) (flat_map alloc_numbers logs)
  pub differ : IsDistinct nat_eq (flat_map alloc_numbers logs)

-- so many thread numbers were drawn
pub record AreThreads (asking : ℕ) (logs : List ThreadLog) (drawn : ℕ) : Type 0 where
  pub few : drawn ≤ count_by is_spawn (merged logs) + asking
  pub within : All (λ n. n ≤ drawn) (flat_map thread_numbers logs)
  pub differ : IsDistinct nat_eq (flat_map thread_numbers logs)
