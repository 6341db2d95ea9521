-- Logs by their numbers.
use Rattle.std.specs.Prelude.{◌≡◌, ℕ, List, Some, slice_get}
use Rattle.bsan_ids.specs.declared.numbers.ThreadNo.{ThreadNo}
use Rattle.history.specs.declared.log.ThreadLog.{ThreadLog}

-- the log at this place has this number
abbrev pub IsLogAt : List ThreadLog → ThreadNo → ℕ → Type 0
IsLogAt logs number at = (log : ThreadLog) × (slice_get logs at ≡ Some log) × (log.number ≡ number)
