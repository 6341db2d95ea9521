-- What it is to be the text of a record, and the first line of a text that is none.
use Rattle.std.specs.Prelude.{◌≡◌, ℕ, zero, suc, ◌+◌, ◌==◌, false, Result, Ok, Err, List, [], ◌∷◌, ◌++◌, length, map}
use Rattle.std.specs.List.{flat_map, AllByRecursion}
use Rattle.std.specs.List.Sorted.{IsStrictlyIncreasing}
use Rattle.history.specs.declared.entry.Entry.{Entry}
use Rattle.history.specs.declared.log.AllocLog.{AllocLog}
use Rattle.history.specs.declared.log.ThreadLog.{ThreadLog}
use Rattle.history.specs.declared.record.RunRecord.{RunRecord}
use Rattle.history.specs.Merge.{by_stamp}
use Rattle.history.specs.Restriction.{of_alloc}
use Rattle.record_text.specs.declared.record.RecordFault.{RecordFault}
use Rattle.record_text.specs.declared.record.RecordFault.TheVariants.{NotRecord, NoMemory}
use Rattle.record_text.specs.Lines.{step_of, head_of, line_text, ended, record_lines, record_text}
use Rattle.record_text.specs.Ranges.{CountersFit, HeadFits, StepFits}

-- ---- the allocation logs

-- the log of an allocation, of entries in stamp order
abbrev pub alloc_log : List Entry → ℕ → AllocLog
alloc_log entries number = record { number = record { 0 = number }; entries = of_alloc (record { 0 = number }) entries }

-- a log, where it has these entries; none, where they are none
abbrev pub kept_log : AllocLog → List Entry → List AllocLog
kept_log log [] = []
kept_log log (e ∷ es) = log ∷ []

-- the logs of so many allocations from a number on, of those that have an entry
abbrev pub logs_from : List Entry → ℕ → ℕ → List AllocLog
logs_from entries first zero = []
logs_from entries first (suc more) =
    kept_log (alloc_log entries first) (of_alloc (record { 0 = first }) entries) ++ logs_from entries (suc first) more

-- the entries of all threads in stamp order; equal stamps in thread order, those of one thread in its log's order
abbrev pub all_by_stamp : List ThreadLog → List Entry
all_by_stamp threads = by_stamp (flat_map (λ log. log.entries) threads)

-- the restrictions of all entries to the numbers from 1 to the limit
abbrev pub alloc_logs : ℕ → List ThreadLog → List AllocLog
alloc_logs limit threads = logs_from (all_by_stamp threads) 1 limit

-- ---- records that have a text

-- an entry of the thread, with its numbers in their ranges
pub record EntryFits (thread : ℕ) (e : Entry) : Type 0 where
  pub own : e.thread.0 ≡ thread
  pub step : StepFits (step_of e)

pub record LogFits (log : ThreadLog) : Type 0 where
  pub head : HeadFits (head_of log)
  pub entries : AllByRecursion (EntryFits log.number.0) log.entries

abbrev pub number_of_log : ThreadLog → ℕ
number_of_log log = log.number.0

-- thread numbers rise, each entry is of its log's thread and names the allocation that it is on, and numbers are in range
pub record HasText (kept : RunRecord) : Type 0 where
  pub rising : IsStrictlyIncreasing (map number_of_log kept.threads)
  pub threads : AllByRecursion LogFits kept.threads
  pub words : CountersFit kept.words

-- the bytes are the text of this record, in a run of at most so many allocations
pub record IsTextOf (limit : ℕ) (bytes : List ℕ) (kept : RunRecord) : Type 0 where
  pub text : bytes ≡ record_text kept
  pub fits : HasText kept
  pub allocs : kept.allocs ≡ alloc_logs limit kept.threads

-- ---- texts of no record

-- some record's text begins with these lines
abbrev pub Begins : List (List ℕ) → Type 0
Begins lines = (kept : RunRecord) × (more : List (List ℕ)) × HasText kept × (map line_text (record_lines kept) ≡ lines ++ more)

-- no newline
abbrev pub IsLine : List ℕ → Type 0
IsLine text = AllByRecursion (λ b. (b == 10) ≡ false) text

-- The line of this number, from 1, is the first with which the lines so far begin no record's text. Bytes without a
-- newline behind them are a wrong line. Where a record's lines are all right but some are missing, it is the next.
pub record IsFirstWrong (bytes : List ℕ) (number : ℕ) : Type 0 where
  pub before : List (List ℕ)
  pub rest : List ℕ
  pub whole : bytes ≡ flat_map ended before ++ rest
  pub counted : number ≡ length before + 1
  pub begins : Begins before
  pub wrong : (line more : List ℕ) → rest ≡ ended line ++ more → IsLine line → Begins (before ++ line ∷ []) → ⊥
  pub missing : rest ≡ [] → (kept : RunRecord) → HasText kept → map line_text (record_lines kept) ≡ before → ⊥

-- why bytes are refused; out of memory says nothing of them
abbrev pub IsFault : List ℕ → RecordFault → Type 0
IsFault bytes (NotRecord number) = IsFirstWrong bytes number
IsFault bytes NoMemory = Unit {0}

-- this record, unless memory runs out
abbrev pub IsUnlessMemory : RunRecord → Result RunRecord RecordFault → Type 0
IsUnlessMemory kept (Ok read) = read ≡ kept
IsUnlessMemory kept (Err fault) = fault ≡ NoMemory
