-- The limits of a run that the words ask for, and the size of a generated program, are in their ranges.
use Rattle.std.proofs.Common.{◌≡◌, ◌≤◌, ◌&&◌, ℕ, Bool, true, false, cond, List, [], ◌∷◌, Option, Some, None, refl, subst, arith, nat_le, codes}
use Rattle.std.specs.Option.{option_map, option_map_or, option_and_then}
use Rattle.std.specs.Str.{bytes_eq}
use Rattle.std.specs.Str.Parse.{digits_value}
use Rattle.std.proofs.lemmas.Bool.{leb-true}
use Rattle.bsan_ids.specs.declared.numbers.Limits.{Limits}
use Rattle.clap.specs.Words.{App, Row, Text, Kinds, matches_of, first_of}
use Rattle.clap.specs.Faults.{fault_of}
use Rattle.command_words.specs.Jobs.{Settings, ScheduledRun, NativeRun, LoadRun, HeldRun, RecordCheck, FileAndWord, Job, default_settings, settings_in, limit_of, limits_of, settings_of, file_of, native, native_of, both, both_of, seed_of, size_of, generated, load_of, unless_fault, said_by, file_by, native_by, both_by, load_by, alone, solo_by, scheduled, scheduled_by, rechecked, recheck_by, held, hush_by, job_of}
use Rattle.command_words.specs.Jobs.Job.{Check, Instrument, Replay, Run, Load, Races, Record, Recheck, Hush, Explain}
use Rattle.command_words.specs.Numbers.{has_digits, number_in}
use Rattle.command_words.specs.Schedules.{schedule_of}
use Rattle.command_words.specs.Commands.{run_app, word_app, load_app}

pub record AreInRange (limits : Limits) : Type 0 where
  pub some_steps : 1 ≤ limits.steps
  pub few_steps : limits.steps ≤ 4000000
  pub some_turns : 1 ≤ limits.turns
  pub few_turns : limits.turns ≤ 100000000
  pub some_allocs : 1 ≤ limits.allocs
  pub few_allocs : limits.allocs ≤ 65536

-- what holds of each thing of which another is made holds of what is made
of : {A B : Type 0} (Q : B → Type 0) (make : A → B) (from : Option A) → ((a : A) → from ≡ Some a → Q (make a))
    → (b : B) → option_map make from ≡ Some b → Q b
of Q make None each b is = absurd cc
of Q make (Some a) each b is = let same : make a ≡ b = cc in subst Q same (each a refl)

through : {A B : Type 0} (Q : B → Type 0) (make : A → Option B) (from : Option A)
    → ((a : A) → from ≡ Some a → (b : B) → make a ≡ Some b → Q b) → (b : B) → option_and_then make from ≡ Some b → Q b
through Q make None each b is = absurd cc
through Q make (Some a) each b is = each a refl b is

number_within : (digits least most n : ℕ) (text : Text) → number_in digits least most text ≡ Some n → (least ≤ n) × (n ≤ most)
number_within digits least most n text is =
    by_test (has_digits digits text) (nat_le least (digits_value 10 text)) (nat_le (digits_value 10 text) most) refl refl is
  where
    by_test : (digits low high : Bool) → nat_le least (digits_value 10 text) ≡ low → nat_le (digits_value 10 text) most ≡ high
        → cond (digits && (low && high)) (Some (digits_value 10 text)) None ≡ Some n → (least ≤ n) × (n ≤ most)
    by_test false low high lows highs found = absurd cc
    by_test true false high lows highs found = absurd cc
    by_test true true false lows highs found = absurd cc
    by_test true true true lows highs found =
        let value : digits_value 10 text ≡ n = cc in
        let above = leb-true least (digits_value 10 text) lows in
        let below = leb-true (digits_value 10 text) most highs in
        (omega (arith, value, above), omega (arith, value, below))

limit_within : (id : Text) (most default n : ℕ) (rows : List Row) → 1 ≤ default → default ≤ most → limit_of id most default rows ≡ Some n
    → (1 ≤ n) × (n ≤ most)
limit_within id most default n rows some few is = by_text (first_of id rows) is
  where
    by_text : (text : Option Text) → option_map_or (number_in 10 1 most) text (Some default) ≡ Some n → (1 ≤ n) × (n ≤ most)
    by_text None found = let same : default ≡ n = cc in (omega (arith, same, some), omega (arith, same, few))
    by_text (Some text) found = number_within 10 1 most n text found

limits_within : (rows : List Row) (limits : Limits) → limits_of rows ≡ Some limits → AreInRange limits
limits_within rows =
    through AreInRange (λ (steps : ℕ). option_and_then (λ (turns : ℕ). option_map (made steps turns) allocs_in) turns_in)
    (limit_of (codes "steps") 4000000 1000000 rows) (λ steps s.
    through AreInRange (λ (turns : ℕ). option_map (made steps turns) allocs_in) turns_in (λ turns t.
    of AreInRange (made steps turns) allocs_in (λ allocs a.
    all steps turns allocs (limit_within (codes "steps") 4000000 1000000 steps rows (omega arith) (omega arith) s)
    (limit_within (codes "turns") 100000000 10000000 turns rows (omega arith) (omega arith) t)
    (limit_within (codes "allocs") 65536 65536 allocs rows (omega arith) (omega arith) a))))
  where
    turns_in : Option ℕ
    turns_in = limit_of (codes "turns") 100000000 10000000 rows

    allocs_in : Option ℕ
    allocs_in = limit_of (codes "allocs") 65536 65536 rows

    made : ℕ → ℕ → ℕ → Limits
    made steps turns allocs = record { steps = steps; turns = turns; allocs = allocs }

    all : (steps turns allocs : ℕ) → (1 ≤ steps) × (steps ≤ 4000000) → (1 ≤ turns) × (turns ≤ 100000000) → (1 ≤ allocs) × (allocs ≤ 65536)
        → AreInRange (made steps turns allocs)
    all steps turns allocs s t a = record {
      some_steps = s.0;
      few_steps = s.1;
      some_turns = t.0;
      few_turns = t.1;
      some_allocs = a.0;
      few_allocs = a.1;
    }

abbrev settings_with : Option Text → Limits → Settings
settings_with input limits = record { input = input; limits = limits }

abbrev HasLimits : Settings → Type 0
HasLimits settings = AreInRange settings.limits

settings_within : (rows : List Row) (settings : Settings) → settings_of rows ≡ Some settings → HasLimits settings
settings_within rows =
    of HasLimits (settings_with (first_of (codes "input") rows)) (limits_of rows) (λ limits is. limits_within rows limits is)

said : {A : Type 0} (app : App) (says : List Row → Option A) (words : List Text) (x : A) → said_by app says words ≡ Some x → says (matches_of app words) ≡ Some x
unfolding said_by
said app says words x is = by_fault (fault_of app words) is
  where
    by_fault : (kinds : Kinds) → unless_fault kinds (says (matches_of app words)) ≡ Some x → says (matches_of app words) ≡ Some x
    by_fault [] found = found
    by_fault (kind ∷ kinds) found = absurd cc

native_within : (name : Text) (words : List Text) (run : NativeRun) → native_by name words ≡ Some run → HasLimits run.settings
native_within name words run is = by_rows (matches_of (run_app name) words) (said (run_app name) native_of words run is)
  where
    by_rows : (rows : List Row) → native_of rows ≡ Some run → HasLimits run.settings
    by_rows rows =
        through (λ (r : NativeRun). HasLimits r.settings) (λ (file : Text). option_map (native file) (settings_of rows)) (file_of rows) (λ file f.
        of (λ (r : NativeRun). HasLimits r.settings) (native file) (settings_of rows) (λ settings s. settings_within rows settings s)) run

both_within : (name id : Text) (words : List Text) (asked : FileAndWord) → both_by name id words ≡ Some asked → HasLimits asked.settings
both_within name id words asked is = by_rows (matches_of (word_app name id) words) (said (word_app name id) (both_of id) words asked is)
  where
    by_rows : (rows : List Row) → both_of id rows ≡ Some asked → HasLimits asked.settings
    by_rows rows =
        through (λ (a : FileAndWord). HasLimits a.settings)
        (λ (file : Text). option_and_then (λ (word : Text). option_map (both file word) (settings_of rows)) (first_of id rows)) (file_of rows) (λ file f.
        through (λ (a : FileAndWord). HasLimits a.settings) (λ (word : Text). option_map (both file word) (settings_of rows)) (first_of id rows) (λ word w.
        of (λ (a : FileAndWord). HasLimits a.settings) (both file word) (settings_of rows) (λ settings s. settings_within rows settings s))) asked

solo_within : (words : List Text) (run : ScheduledRun) → solo_by words ≡ Some run → HasLimits run.settings
solo_within words =
    of (λ (run : ScheduledRun). HasLimits run.settings) alone (native_by (codes "solo") words) (λ run is. native_within (codes "solo") words run is)

scheduled_within : (name : Text) (words : List Text) (run : ScheduledRun) → scheduled_by name words ≡ Some run → HasLimits run.settings
scheduled_within name words =
    through (λ (run : ScheduledRun). HasLimits run.settings) (λ (asked : FileAndWord). option_map (scheduled asked) (schedule_of asked.word))
    (both_by name (codes "SCHEDULE") words) (λ asked is.
    of (λ (run : ScheduledRun). HasLimits run.settings) (scheduled asked) (schedule_of asked.word) (λ picks p.
    both_within name (codes "SCHEDULE") words asked is))

recheck_within : (words : List Text) (check : RecordCheck) → recheck_by words ≡ Some check → HasLimits check.settings
recheck_within words =
    of (λ (check : RecordCheck). HasLimits check.settings) rechecked (both_by (codes "recheck") (codes "RECORD") words)
    (λ asked is. both_within (codes "recheck") (codes "RECORD") words asked is)

hush_within : (words : List Text) (run : HeldRun) → hush_by words ≡ Some run → HasLimits run.settings
hush_within words =
    of (λ (run : HeldRun). HasLimits run.settings) held (both_by (codes "hush") (codes "RULES") words)
    (λ asked is. both_within (codes "hush") (codes "RULES") words asked is)

-- the size of a generated program
abbrev pub IsSize : ℕ → Type 0
IsSize size = (1 ≤ size) × (size ≤ 10000)

load_within : (words : List Text) (run : LoadRun) → load_by words ≡ Some run → IsSize run.size
load_within words run is = by_rows (matches_of load_app words) (said load_app load_of words run is)
  where
    by_rows : (rows : List Row) → load_of rows ≡ Some run → IsSize run.size
    by_rows rows =
        through (λ (r : LoadRun). IsSize r.size) (λ (seed : ℕ). option_map (generated seed) (size_of rows)) (seed_of rows) (λ seed s.
        of (λ (r : LoadRun). IsSize r.size) (generated seed) (size_of rows) (
        through IsSize (number_in 5 1 10000) (first_of (codes "SIZE") rows) (λ text t size found.
        number_within 5 1 10000 size text found))) run

-- the settings of a job, where it has any, have limits in their ranges
abbrev pub AreWithin : Option Settings → Type 0
AreWithin None = Unit {0}
AreWithin (Some settings) = AreInRange settings.limits

default_within : AreInRange default_settings.limits
default_within = record {
  some_steps = omega arith;
  few_steps = omega arith;
  some_turns = omega arith;
  few_turns = omega arith;
  some_allocs = omega arith;
  few_allocs = omega arith;
}

-- the size of a job, where it has one, is in its range
abbrev pub HasSize : Job → Type 0
HasSize (Load run) = IsSize run.size
HasSize job = Unit {0}

abbrev IsInRange : Job → Type 0
IsInRange job = AreWithin (settings_in job) × HasSize job

-- what is found is the command's whose name is there, or a later one's
either : {P : Type 0} {here later : Option Job} {job : Job} (named : Bool) → (here ≡ Some job → P) → (later ≡ Some job → P)
    → cond named here later ≡ Some job → P
either true here later is = here is
either false here later is = later is

in_range : (words : List Text) (job : Job) → job_of words ≡ Some job → IsInRange job
unfolding job_of
in_range [] job is = absurd cc
in_range (name ∷ rest) job is =
    either (bytes_eq name (codes "check")) (of IsInRange Check (file_by (codes "check") words) (λ file f. (tt, tt)) job)
    (either (bytes_eq name (codes "instrument")) (of IsInRange Instrument (file_by (codes "instrument") words) (λ file f. (tt, tt)) job)
    (either (bytes_eq name (codes "solo")) (of IsInRange Replay (solo_by words) (λ run r. (solo_within words run r, tt)) job)
    (either (bytes_eq name (codes "replay")) (of IsInRange Replay (scheduled_by (codes "replay") words) (λ run r. (scheduled_within (codes "replay") words run r, tt)) job)
    (either (bytes_eq name (codes "run")) (of IsInRange Run (native_by (codes "run") words) (λ run r. (native_within (codes "run") words run r, tt)) job)
    (either (bytes_eq name (codes "load")) (of IsInRange Load (load_by words) (λ run r. (default_within, load_within words run r)) job)
    (either (bytes_eq name (codes "races")) (of IsInRange Races (scheduled_by (codes "races") words) (λ run r. (scheduled_within (codes "races") words run r, tt)) job)
    (either (bytes_eq name (codes "record")) (of IsInRange Record (native_by (codes "record") words) (λ run r. (native_within (codes "record") words run r, tt)) job)
    (either (bytes_eq name (codes "recheck")) (of IsInRange Recheck (recheck_by words) (λ check r. (recheck_within words check r, tt)) job)
    (either (bytes_eq name (codes "hush")) (of IsInRange Hush (hush_by words) (λ run r. (hush_within words run r, tt)) job)
    (either (bytes_eq name (codes "explain")) (of IsInRange Explain (scheduled_by (codes "explain") words) (λ run r. (scheduled_within (codes "explain") words run r, tt)) job)
    (λ none. absurd cc))))))))))) is
  where
    words : List Text
    words = name ∷ rest

pub limits_in_range : (words : List Text) (job : Job) → job_of words ≡ Some job → AreWithin (settings_in job)
limits_in_range words job is = (in_range words job is).0

pub size_in_range : (words : List Text) (run : LoadRun) → job_of words ≡ Some (Load run) → IsSize run.size
size_in_range words run is = (in_range words (Load run) is).1
