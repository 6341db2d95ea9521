-- All entries of the threads' logs in the order of their stamps.
use Rattle.std.specs.Prelude.{◌≡◌, ◌≢◌, ℕ, ◌==◌, if◌then◌else◌, List, [], ◌∷◌}
use Rattle.std.specs.List.{flat_map}
use Rattle.history.specs.declared.entry.Entry.{Entry}
use Rattle.history.specs.Merge.{by_stamp}
use Rattle.history.specs.declared.log.ThreadLog.{ThreadLog}
use Rattle.runs.specs.Parts.{Has, of_thread}
use Rattle.runs.specs.Stamps.{RisesFrom}

abbrev pub all_entries : List ThreadLog → List Entry
all_entries logs = flat_map (λ log. log.entries) logs

abbrev pub merged : List ThreadLog → List Entry
merged logs = by_stamp (all_entries logs)

-- the entries of the log with this number, or none
abbrev pub entries_of : List ThreadLog → ℕ → List Entry
entries_of [] t = []
entries_of (log ∷ logs) t = if log.number.0 == t then log.entries else entries_of logs t

-- in stamp order, and each thread's part is its log
pub record IsPartwiseMerge (logs : List ThreadLog) (entries : List Entry) : Type 0 where
  pub rises : RisesFrom 0 entries
  pub parts : (t : ℕ) → of_thread t entries ≡ entries_of logs t

-- the entries are all of this thread
abbrev pub IsOwn : ℕ → List Entry → Type 0
IsOwn t [] = Unit {0}
IsOwn t (e ∷ es) = (e.thread.0 ≡ t) × IsOwn t es

-- what is asked of logs: their entries are their own, stamps rise along each, and no stamp stands in two
pub data MayMerge : List ThreadLog → Type 0 where
  no_logs : MayMerge []
  one_more : {log : ThreadLog} {logs : List ThreadLog} → IsOwn log.number.0 log.entries → RisesFrom 0 log.entries
      → ((x y : Entry) → Has log.entries x → Has (merged logs) y → y.stamp.0 ≢ x.stamp.0) → MayMerge logs → MayMerge (log ∷ logs)
