-- How the lines of a text are read one after the other.
use Rattle.std.specs.Prelude.{◌≡◌, ℕ, Option, None, List, []}
use Rattle.bsan_ids.specs.declared.numbers.Counters.{Counters}
use Rattle.history.specs.declared.log.ThreadLog.{ThreadLog}
use Rattle.history.specs.declared.record.RunRecord.{RunRecord}
use Rattle.record_text.specs.declared.record.RecordFault.{RecordFault}
use Rattle.record_text.specs.declared.record.RecordFault.TheVariants.{NotRecord, NoMemory}
use Rattle.record_text.specs.declared.state.State.{State}
use Rattle.record_text.specs.declared.state.State.TheVariants as state
use Rattle.record_text.specs.Lines.{record_text}
use Rattle.record_text.specs.Texts.{HasText}

-- the line of this number can't go on so
abbrev pub RefusesAs : ℕ → Option State → RecordFault → Type 0
RefusesAs number next NoMemory = Unit {0}
RefusesAs number next (NotRecord line) = (line ≡ number) × (next ≡ None)

-- lines are missing, or bytes stand behind the last newline
abbrev pub IsUnended : ℕ → State → List ℕ → RecordFault → Type 0
IsUnended number last rest NoMemory = ⊥
IsUnended number (state.Ended drawn threads) [] (NotRecord line) = ⊥
IsUnended number last rest (NotRecord line) = line ≡ number

-- the record of these threads and counters that has no allocation log
abbrev pub told_record : Counters → List ThreadLog → RunRecord
told_record drawn threads = record { threads = threads; allocs = []; words = drawn }

-- the bytes are the text of a record of these threads and counters
pub record IsTold (bytes : List ℕ) (drawn : Counters) (threads : List ThreadLog) : Type 0 where
  pub text : bytes ≡ record_text (told_record drawn threads)
  pub fits : HasText (told_record drawn threads)
