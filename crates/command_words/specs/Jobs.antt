-- What a command line asks for.
use Rattle.std.specs.Prelude.{ℕ, List, [], ◌∷◌, Option, Some, None, if◌then◌else◌, codes}
use Rattle.std.specs.Option.{option_map, option_map_or, option_and_then}
use Rattle.std.specs.Str.{bytes_eq}
use Rattle.clap.specs.Words.{App, Row, Text, Kinds, matches_of, first_of}
use Rattle.clap.specs.Faults.{fault_of}
use Rattle.bsan_ids.specs.declared.numbers.Limits.{Limits}
use Rattle.command_words.specs.Commands.{file_app, run_app, word_app, load_app}
use Rattle.command_words.specs.Numbers.{number_in}
use Rattle.command_words.specs.Schedules.{schedule_of}

-- what the options of a run say: a file with its input, where one is named, and the limits
pub record Settings : Type 0 where
  pub input : Option Text
  pub limits : Limits

-- what no option says: no input, and the limits where none is named
abbrev pub default_settings : Settings
default_settings = record { input = None; limits = record { steps = 1000000; turns = 10000000; allocs = 65536 } }

-- a run on one native thread: the program's file, the threads to be picked first, and what the options say
pub record ScheduledRun : Type 0 where
  pub file : Text
  pub schedule : List ℕ
  pub settings : Settings

-- a run on native threads: the program's file, and what the options say
pub record NativeRun : Type 0 where
  pub file : Text
  pub settings : Settings

-- a run on native threads of the program that a seed gives, whose workers make so many stores each
pub record LoadRun : Type 0 where
  pub seed : ℕ
  pub size : ℕ

-- a run on native threads: the program's file, the file with the rules on reports to hold back, and what the options say
pub record HeldRun : Type 0 where
  pub file : Text
  pub rules : Text
  pub settings : Settings

-- a check of a record: the program's file, the file with the record, and what the options say
pub record RecordCheck : Type 0 where
  pub file : Text
  pub «record» : Text
  pub settings : Settings

pub data Job : Type 0 where
  Check : (file : Text) → Job
  Instrument : (file : Text) → Job
  Replay : (run : ScheduledRun) → Job
  Run : (run : NativeRun) → Job
  Load : (run : LoadRun) → Job
  Races : (run : ScheduledRun) → Job
  Record : (run : NativeRun) → Job
  Recheck : (check : RecordCheck) → Job
  Hush : (run : HeldRun) → Job
  Explain : (run : ScheduledRun) → Job

-- the settings of a job that has any: what the options say, where the command takes them
abbrev pub settings_in : Job → Option Settings
settings_in (Check file) = None
settings_in (Instrument file) = None
settings_in (Replay run) = Some run.settings
settings_in (Run run) = Some run.settings
settings_in (Load run) = Some default_settings
settings_in (Races run) = Some run.settings
settings_in (Record run) = Some run.settings
settings_in (Recheck check) = Some check.settings
settings_in (Hush run) = Some run.settings
settings_in (Explain run) = Some run.settings

-- the job, where it is one for native threads
abbrev pub native_in : Job → Option Job
native_in (Run run) = Some (Run run)
native_in (Load run) = Some (Load run)
native_in (Record run) = Some (Record run)
native_in (Hush run) = Some (Hush run)
native_in job = None

abbrev pub unless_native : Option Job → Job → Option Job
unless_native None job = Some job
unless_native (Some native) job = None

-- what is asked for, where one native thread can serve it
abbrev pub on_one_thread : Option Job → Option Job
on_one_thread asked = option_and_then (λ job. unless_native (native_in job) job) asked

-- the limit of an option, from 1 on, or what it is where the option isn't there
abbrev pub limit_of : Text → ℕ → ℕ → List Row → Option ℕ
limit_of id most default rows = option_map_or (number_in 10 1 most) (first_of id rows) (Some default)

abbrev pub limits_of : List Row → Option Limits
limits_of rows =
    option_and_then (λ steps. option_and_then (λ turns. option_map (λ allocs. record {
      steps = steps;
      turns = turns;
      allocs = allocs;
    }) (limit_of (codes "allocs") 65536 65536 rows))
    (limit_of (codes "turns") 100000000 10000000 rows)) (limit_of (codes "steps") 4000000 1000000 rows)

abbrev pub settings_of : List Row → Option Settings
settings_of rows = option_map (λ limits. record { input = first_of (codes "input") rows; limits = limits }) (limits_of rows)

abbrev pub file_of : List Row → Option Text
file_of rows = first_of (codes "FILE") rows

abbrev pub native : Text → Settings → NativeRun
native file settings = record { file = file; settings = settings }

-- a run of the program in the word FILE, with what the options say
abbrev pub native_of : List Row → Option NativeRun
native_of rows = option_and_then (λ file. option_map (native file) (settings_of rows)) (file_of rows)

-- the words FILE and WORD, and what the options say
pub record FileAndWord : Type 0 where
  pub file : Text
  pub word : Text
  pub settings : Settings

abbrev pub both : Text → Text → Settings → FileAndWord
both file word settings = record { file = file; word = word; settings = settings }

-- what a command NAME FILE WORD is given, where WORD has this id
abbrev pub both_of : Text → List Row → Option FileAndWord
both_of id rows =
    option_and_then (λ file. option_and_then (λ word. option_map (both file word) (settings_of rows)) (first_of id rows)) (file_of rows)

abbrev pub seed_of : List Row → Option ℕ
seed_of rows = option_and_then (number_in 10 0 4294967295) (first_of (codes "SEED") rows)

abbrev pub size_of : List Row → Option ℕ
size_of rows = option_and_then (number_in 5 1 10000) (first_of (codes "SIZE") rows)

abbrev pub generated : ℕ → ℕ → LoadRun
generated seed size = record { seed = seed; size = size }

-- a run of the program that the words SEED and SIZE give
abbrev pub load_of : List Row → Option LoadRun
load_of rows = option_and_then (λ seed. option_map (generated seed) (size_of rows)) (seed_of rows)

-- nothing, where clap finds a fault
abbrev pub unless_fault : {A : Type 0} → Kinds → Option A → Option A
unless_fault [] answer = answer
unless_fault (kind ∷ kinds) answer = None

-- what the matches of a command say, where clap takes its words
unfoldable pub said_by : {A : Type 0} → App → (List Row → Option A) → List Text → Option A
said_by app says words = unless_fault (fault_of app words) (says (matches_of app words))

-- the word FILE of the command NAME FILE
abbrev pub file_by : Text → List Text → Option Text
file_by name words = said_by (file_app name) file_of words

-- the run of the command NAME FILE, with options
abbrev pub native_by : Text → List Text → Option NativeRun
native_by name words = said_by (run_app name) native_of words

-- the words of the command NAME FILE WORD, with options
abbrev pub both_by : Text → Text → List Text → Option FileAndWord
both_by name id words = said_by (word_app name id) (both_of id) words

-- the run of the command `load`
abbrev pub load_by : List Text → Option LoadRun
load_by words = said_by load_app load_of words

abbrev pub alone : NativeRun → ScheduledRun
alone run = record { file = run.file; schedule = []; settings = run.settings }

-- the run of the command `solo`, which has an empty schedule
abbrev pub solo_by : List Text → Option ScheduledRun
solo_by words = option_map alone (native_by (codes "solo") words)

abbrev pub scheduled : FileAndWord → List ℕ → ScheduledRun
scheduled asked schedule = record { file = asked.file; schedule = schedule; settings = asked.settings }

-- the run of the command NAME FILE SCHEDULE
abbrev pub scheduled_by : Text → List Text → Option ScheduledRun
scheduled_by name words =
    option_and_then (λ asked. option_map (scheduled asked) (schedule_of asked.word)) (both_by name (codes "SCHEDULE") words)

abbrev pub rechecked : FileAndWord → RecordCheck
rechecked asked = record { file = asked.file; «record» = asked.word; settings = asked.settings }

-- the check of the command `recheck FILE RECORD`
abbrev pub recheck_by : List Text → Option RecordCheck
recheck_by words = option_map rechecked (both_by (codes "recheck") (codes "RECORD") words)

abbrev pub held : FileAndWord → HeldRun
held asked = record { file = asked.file; rules = asked.word; settings = asked.settings }

-- the run of the command `hush FILE RULES`
abbrev pub hush_by : List Text → Option HeldRun
hush_by words = option_map held (both_by (codes "hush") (codes "RULES") words)

-- what the words ask for: the first is a command's name, and clap takes them as this command's
unfoldable pub job_of : List Text → Option Job
job_of [] = None
job_of (name ∷ rest) =
    if bytes_eq name (codes "check") then option_map Check (file_by (codes "check") (name ∷ rest))
    else (if bytes_eq name (codes "instrument") then option_map Instrument (file_by (codes "instrument") (name ∷ rest))
    else (if bytes_eq name (codes "solo") then option_map Replay (solo_by (name ∷ rest))
    else (if bytes_eq name (codes "replay") then option_map Replay (scheduled_by (codes "replay") (name ∷ rest))
    else (if bytes_eq name (codes "run") then option_map Run (native_by (codes "run") (name ∷ rest))
    else (if bytes_eq name (codes "load") then option_map Load (load_by (name ∷ rest))
    else (if bytes_eq name (codes "races") then option_map Races (scheduled_by (codes "races") (name ∷ rest))
    else (if bytes_eq name (codes "record") then option_map Record (native_by (codes "record") (name ∷ rest))
    else (if bytes_eq name (codes "recheck") then option_map Recheck (recheck_by (name ∷ rest))
    else (if bytes_eq name (codes "hush") then option_map Hush (hush_by (name ∷ rest))
    else (if bytes_eq name (codes "explain") then option_map Explain (scheduled_by (codes "explain") (name ∷ rest))
    else None))))))))))
