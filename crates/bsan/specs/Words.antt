-- The words of a command line, and the files that they name.
use Rattle.std.specs.Prelude.{ℕ, ◌≡◌, ◌≤◌, List, Option, Some, None, Result, Ok, Err, IfSome}
use Rattle.std.specs.Option.{option_and_then}
use Rattle.command_words.specs.Jobs.{Job, LoadRun, RecordCheck, settings_in}
use Rattle.command_words.specs.Jobs.Job.{Check, Instrument, Replay, Run, Load, Races, Record, Recheck, Hush, Explain}
use Rattle.command_words.specs.Meaning.{job_meant}
use Rattle.command_words.specs.declared.WordsFault.{WordsFault}
use Rattle.command_words.specs.declared.WordsFault.TheVariants as words
use Rattle.command_words.specs.declared.jobs.Job.{Job as ReadJob}
use Rattle.core_model.specs.Running.{AreLimits}

-- a word, or a name of a file, as its bytes
abbrev pub Text : Type 0
Text = List ℕ

-- where the program of a job is from: its file, or a seed and a size
pub data Origin : Type 0 where
  InFile : (file : Text) → Origin
  Generated : (run : LoadRun) → Origin

abbrev pub origin_of : Job → Origin
origin_of (Check file) = InFile file
origin_of (Instrument file) = InFile file
origin_of (Replay run) = InFile run.file
origin_of (Run run) = InFile run.file
origin_of (Load run) = Generated run
origin_of (Races run) = InFile run.file
origin_of (Record run) = InFile run.file
origin_of (Recheck check) = InFile check.file
origin_of (Hush run) = InFile run.file
origin_of (Explain run) = InFile run.file

-- the program is from a file, of which P holds
abbrev pub IsFrom : (Text → Type 0) → Origin → Type 0
IsFrom P (InFile file) = P file
IsFrom P (Generated run) = ⊥

-- the file with the input, where the job has a run and names one
abbrev pub input_in : Job → Option Text
input_in job = option_and_then (λ settings. settings.input) (settings_in job)

-- the file with the rules that hold back reports, where the job has one
abbrev pub rules_in : Job → Option Text
rules_in (Hush run) = Some run.rules
rules_in job = None

-- the check of a record that the job is, where it is one
abbrev pub recheck_in : Job → Option RecordCheck
recheck_in (Recheck check) = Some check
recheck_in job = None

-- the job is a check of a record
abbrev pub IsRecheck : Job → Type 0
IsRecheck (Recheck check) = Unit {0}
IsRecheck job = ⊥

-- the limits of a run are in their ranges
abbrev pub HasLimits : Job → Type 0
HasLimits job = IfSome (settings_in job) (λ settings. AreLimits settings.limits)

-- the size of a generated program is in its range
abbrev pub HasSize : Origin → Type 0
HasSize (InFile file) = Unit {0}
HasSize (Generated run) = (1 ≤ run.size) × (run.size ≤ 10000)

-- both
abbrev pub IsInRange : Job → Type 0
IsInRange job = HasLimits job × HasSize (origin_of job)

-- what was read of the words is what they ask for, or that they ask for nothing; where memory ran out it tells nothing of that
abbrev pub IsReadOf : Option Job → Result ReadJob WordsFault → Type 0
IsReadOf asked (Ok job) = asked ≡ Some (job_meant job)
IsReadOf asked (Err words.Refused) = asked ≡ None
IsReadOf asked (Err words.NoMemory) = Unit {0}
