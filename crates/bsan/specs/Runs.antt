-- The runs that a job asks for.
use Rattle.std.specs.Prelude.{◌≡◌, ℕ, List, [], Option, Some, None}
use Rattle.command_words.specs.Jobs.{Job, Settings, ScheduledRun, default_settings}
use Rattle.command_words.specs.Jobs.Job.{Replay, Run, Load, Races, Record, Hush, Explain}
use Rattle.core_model.specs.Kept.{Replayed}
use Rattle.history.specs.declared.record.RunRecord.{RunRecord}
use Rattle.ir_ast.specs.declared.hosts.HostTable.{HostTable}
use Rattle.ir_ast.specs.declared.program.Program.{Program}
use Rattle.ir_text.specs.Bytes.{most_bytes}
use Rattle.source_sem.specs.Records.{IsRightRecord}
use Rattle.bsan.specs.Seen.{FilesSeen, WasRead}
use Rattle.bsan.specs.Words.{Text}

-- the input of a run: these bytes were read of its file, or there are none where no file is named
abbrev pub IsInput : FilesSeen → Option Text → List ℕ → Type 0
IsInput files None input = input ≡ []
IsInput files (Some file) input = WasRead files file most_bytes input

-- the record is that of this run of the program, with the input that was read, and right
abbrev pub IsScheduledRun : FilesSeen → HostTable → RunRecord → Program → ScheduledRun → Type 0
IsScheduledRun files hosts kept program run =
    (input : List ℕ) × IsInput files run.settings.input input × Replayed program input hosts run.settings.limits run.schedule kept

-- the record is a right one of the program, with the input that was read, within the limits
abbrev pub IsNativeRun : FilesSeen → HostTable → RunRecord → Program → Settings → Type 0
IsNativeRun files hosts kept program settings =
    (input : List ℕ) × IsInput files settings.input input × IsRightRecord program input hosts settings.limits kept

-- the job has a run, and the record is that of it
abbrev pub IsOfRun : FilesSeen → HostTable → RunRecord → Program → Job → Type 0
IsOfRun files hosts kept program (Replay run) = IsScheduledRun files hosts kept program run
IsOfRun files hosts kept program (Run run) = IsNativeRun files hosts kept program run.settings
IsOfRun files hosts kept program (Load run) = IsNativeRun files hosts kept program default_settings
IsOfRun files hosts kept program (Races run) = IsScheduledRun files hosts kept program run
IsOfRun files hosts kept program (Record run) = IsNativeRun files hosts kept program run.settings
IsOfRun files hosts kept program (Hush run) = IsNativeRun files hosts kept program run.settings
IsOfRun files hosts kept program (Explain run) = IsScheduledRun files hosts kept program run
IsOfRun files hosts kept program job = ⊥
