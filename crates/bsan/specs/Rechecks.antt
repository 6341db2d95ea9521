-- The file with a record of a call.
use Rattle.std.specs.Prelude.{◌≡◌, ◌⊎◌, ℕ, List, length}
use Rattle.bsan_ids.specs.declared.numbers.Limits.{Limits}
use Rattle.command_words.specs.Jobs.{RecordCheck}
use Rattle.history.specs.declared.record.RunRecord.{RunRecord}
use Rattle.ir_ast.specs.declared.hosts.HostTable.{HostTable}
use Rattle.ir_ast.specs.declared.program.Program.{Program}
use Rattle.record_file.specs.Checked.{IsAnswer}
use Rattle.record_file.specs.declared.clauses.Checked.TheVariants.{Fails}
use Rattle.record_file.specs.declared.clauses.Clause.{Clause}
use Rattle.record_text.specs.Texts.{IsTextOf, IsFirstWrong}
use Rattle.report.specs.Report.{steps_of}
use Rattle.source_sem.specs.Records.{IsRightRecord}
use Rattle.bsan.specs.Runs.{IsInput}
use Rattle.bsan.specs.Seen.{FilesSeen, Failed, WasTooLong, WasRead}
use Rattle.bsan.specs.declared.outcome.Outcome.{Outcome}
use Rattle.bsan.specs.declared.outcome.Outcome.TheVariants.{NotRecord, RecordBroken, RecordHolds}

-- the most bytes of a record's text, 64 MiB
abbrev pub most_record_bytes : ℕ
most_record_bytes = 67108864

-- what a text may be for a program, its input, the host functions and the limits
abbrev pub TextFact : Type 1
TextFact = Program → List ℕ → HostTable → Limits → List ℕ → Type 0

-- it is that of a right record
abbrev pub IsRightText : TextFact
IsRightText program input hosts limits text =
    (kept : RunRecord) × IsTextOf limits.allocs text kept × IsRightRecord program input hosts limits kept

-- it is not that of a right record
abbrev pub IsWrongText : TextFact
IsWrongText program input hosts limits text = ¬ IsRightText program input hosts limits text

-- it is that of a record of which this clause is broken, and none before it
abbrev pub IsBrokenText : Program → List ℕ → HostTable → Limits → Clause → List ℕ → Type 0
IsBrokenText program input hosts limits clause text =
    (kept : RunRecord) × IsTextOf limits.allocs text kept × IsAnswer program input hosts limits kept (Fails clause)

-- it is that of a right record of so many steps and threads
abbrev pub IsTextWith : Program → List ℕ → HostTable → Limits → ℕ → ℕ → List ℕ → Type 0
IsTextWith program input hosts limits steps threads text =
    (kept : RunRecord) × IsTextOf limits.allocs text kept × IsRightRecord program input hosts limits kept
    × (steps ≡ steps_of kept.threads) × (threads ≡ length kept.threads)

-- what is found of a text: its first wrong line, where it is no record's; else the first clause that is broken, or that the record is right
abbrev pub IsFoundOf : Program → List ℕ → HostTable → Limits → List ℕ → Outcome → Type 0
IsFoundOf program input hosts limits text (NotRecord line) = IsFirstWrong text line
IsFoundOf program input hosts limits text (RecordBroken clause) = IsBrokenText program input hosts limits clause text
IsFoundOf program input hosts limits text (RecordHolds steps threads) = IsTextWith program input hosts limits steps threads text
IsFoundOf program input hosts limits text found = ⊥

-- the input of a check was read
abbrev pub HasReadInput : FilesSeen → RecordCheck → Type 0
HasReadInput files check = (input : List ℕ) × IsInput files check.settings.input input

-- P holds of the input and of the record's text that were read
abbrev pub OfReadRecord : FilesSeen → RecordCheck → (List ℕ → List ℕ → Type 0) → Type 0
OfReadRecord files check P =
    (input : List ℕ) × IsInput files check.settings.input input × (text : List ℕ) × WasRead files check.record most_record_bytes text × P input text

-- a read of the record's file failed, or it was too long
abbrev pub IsRecordFault : FilesSeen → RecordCheck → Type 0
IsRecordFault files check = Failed files check.record ⊎ WasTooLong files check.record most_record_bytes
