-- The notes on what a call found.
use Rattle.std.specs.Prelude.{◌≡◌, ℕ, Bool, List, [], Option, Some, None, MatchOption}
use Rattle.std.specs.Option.{option_map, option_and_then}
use Rattle.command_words.specs.Jobs.{Job}
use Rattle.command_words.specs.Jobs.Job.{Check, Instrument, Replay, Run, Load, Races, Record, Recheck, Hush, Explain}
use Rattle.history.specs.Records.{empty_record, merged}
use Rattle.history.specs.declared.record.RunRecord.{RunRecord}
use Rattle.ir_ast.specs.declared.hosts.HostTable.{HostTable}
use Rattle.race_check.specs.Races.{AreFirstRaces}
use Rattle.race_check.specs.declared.race.Race.{Race}
use Rattle.notes.specs.Sources.{Source}
use Rattle.notes.specs.Whole.{AreNotes}
use Rattle.notes.specs.Words.{words_note}

-- the file of the program on which a job has notes; `load` has none
abbrev pub noted_file : Job → Option (List ℕ)
noted_file (Check file) = Some file
noted_file (Instrument file) = Some file
noted_file (Replay run) = Some run.file
noted_file (Run run) = Some run.file
noted_file (Load run) = None
noted_file (Races run) = Some run.file
noted_file (Record run) = Some run.file
noted_file (Recheck check) = Some check.file
noted_file (Hush run) = Some run.file
noted_file (Explain run) = Some run.file

-- what notes on a job show: the text that is kept of that file
abbrev pub source_for : Bool → (List ℕ → Option (List ℕ)) → Job → Option Source
source_for colours text job =
    option_and_then (λ file. option_map (λ bytes. record { name = file; text = bytes; colours = colours }) (text file)) (noted_file job)

-- the races that a job asks for: those of the record, or none
abbrev pub AreAskedRaces : RunRecord → List Race → Job → Type 0
AreAskedRaces kept races (Races run) = AreFirstRaces (merged kept) races
AreAskedRaces kept races job = races ≡ []

-- the notes are on a text and on the run that the record is of
abbrev pub AreReportNotes : HostTable → RunRecord → List ℕ → Job → Source → Type 0
AreReportNotes hosts kept notes job source = (races : List Race) × AreAskedRaces kept races job × AreNotes source hosts kept races notes

-- The notes are on what a job found in a text. Those of `hush` are on the text alone, since rules may hold its violations back.
abbrev pub AreNotesOn : HostTable → RunRecord → List ℕ → Job → Source → Type 0
AreNotesOn hosts kept notes (Hush run) source = AreNotes source hosts empty_record [] notes
AreNotesOn hosts kept notes job source = AreReportNotes hosts kept notes job source

-- The notes on a job: none where no text is kept that they could show; else those on it.
abbrev pub AreJobNotes : Bool → HostTable → RunRecord → (List ℕ → Option (List ℕ)) → List ℕ → Job → Type 0
AreJobNotes colours hosts kept text notes job = MatchOption (source_for colours text job) (notes ≡ []) (AreNotesOn hosts kept notes job)

-- The notes of a call by these words: on the words, where they ask for nothing, and else on what they ask for.
abbrev pub AreShown : Bool → HostTable → RunRecord → (List ℕ → Option (List ℕ)) → List (List ℕ) → Option Job → List ℕ → Type 0
AreShown colours hosts kept text words asked notes =
    MatchOption asked (notes ≡ words_note colours words) (AreJobNotes colours hosts kept text notes)
