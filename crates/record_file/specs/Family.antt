-- Which threads the entries of a record start.
use Rattle.std.specs.Prelude.{◌≡◌, ◌≢◌, ◌⊎◌, ◌+◌, ◌≤◌, ℕ, Bool, true, false, List, [], ◌∷◌, Some, None, slice_get, count_by}
use Rattle.bsan_ids.specs.declared.numbers.ThreadNo.{ThreadNo}
use Rattle.history.specs.declared.entry.Entry.{Entry}
use Rattle.history.specs.declared.entry.Request.{Request}
use Rattle.history.specs.declared.entry.Request.TheVariants as request
use Rattle.history.specs.declared.entry.Plain.TheVariants as plain
use Rattle.history.specs.declared.log.ThreadLog.{ThreadLog}
use Rattle.runs.specs.Parts.{Has}
use Rattle.runs.specs.Right.{starts_thread}

-- a Spawn of a function in the log of this number answers a thread that has a log: thread 0, or one of this parent and function
abbrev pub StartsOne : List ThreadLog → ThreadNo → Entry → ℕ → Type 0
StartsOne logs parent e f =
    (child : ThreadLog) × Has logs child × (e.reply.plain ≡ plain.Spawned child.number) × ((child.number.0 ≡ 0) ⊎ ((child.parent ≡ Some parent) × (child.entry_function ≡ f)))

abbrev pub StartsBy : List ThreadLog → ThreadNo → Entry → Request → Type 0
StartsBy logs parent e (request.Spawn f) = StartsOne logs parent e f
StartsBy logs parent e _ = Unit {0}

abbrev pub bit : Bool → ℕ
bit true = 1
bit false = 0

-- each thread with a log, but thread 0, was started so often by these entries, besides what was marked before
abbrev pub Marks : List ThreadLog → List Bool → List Entry → List Bool → Type 0
Marks logs before entries after =
    (at : ℕ) (log : ThreadLog) (old new : Bool) → slice_get logs at ≡ Some log → slice_get before at ≡ Some old → slice_get after at ≡ Some new
    → log.number.0 ≢ 0 → bit new ≡ bit old + count_by (starts_thread log.number.0) entries

-- one of these threads is started by these entries that was marked before, or twice
abbrev pub StartsAgain : List ThreadLog → List Bool → List Entry → Type 0
StartsAgain logs before entries =
    (at : ℕ) × (log : ThreadLog) × (old : Bool) × (slice_get logs at ≡ Some log) × (slice_get before at ≡ Some old) × (log.number.0 ≢ 0)
    × (2 ≤ bit old + count_by (starts_thread log.number.0) entries)

-- whether an entry's thread was marked: it was started right, and is marked once more; or it wasn't, or was marked before
abbrev pub MarksOne : Bool → List ThreadLog → ThreadNo → List Bool → Entry → List Bool → Type 0
MarksOne true logs parent before e after = StartsBy logs parent e e.request × Marks logs before (e ∷ []) after
MarksOne false logs parent before e after = (StartsBy logs parent e e.request → ⊥) ⊎ StartsAgain logs before (e ∷ [])

-- each of these entries of the log of this number starts its thread right
abbrev pub StartAll : List ThreadLog → ThreadNo → List Entry → Type 0
StartAll logs parent es = (e : Entry) → Has es e → StartsBy logs parent e e.request

abbrev pub MarksLog : Bool → List ThreadLog → ThreadNo → List Bool → List Entry → List Bool → Type 0
MarksLog true logs parent before es after = StartAll logs parent es × Marks logs before es after
MarksLog false logs parent before es after = (StartAll logs parent es → ⊥) ⊎ StartsAgain logs before es

-- the same of all logs, of which no thread was marked before
abbrev pub StartEach : List ThreadLog → List ThreadLog → Type 0
StartEach logs some = (log : ThreadLog) → Has some log → StartAll logs log.number log.entries

-- the first log is of thread 0, in this function and without a parent
abbrev pub IsFirstRight : ℕ → List ThreadLog → Type 0
IsFirstRight main [] = ⊥
IsFirstRight main (log ∷ logs) = (log.number.0 ≡ 0) × (log.parent ≡ None) × (log.entry_function ≡ main)
