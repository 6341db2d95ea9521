-- The limits of a run that the words ask for, and the size of a generated program, are in their ranges.
use Rattle.std.proofs.Common.{◌≡◌, List, Option, Some, None, IfSome, IfOk, Result, Ok, Err, arith}
use Rattle.command_words.specs.Jobs.{Job, Settings, settings_in, job_of}
use Rattle.command_words.specs.Jobs.Job.{Check, Instrument, Replay, Run, Load, Races, Record, Recheck, Hush, Explain}
use Rattle.command_words.specs.Meaning.{job_meant}
use Rattle.command_words.specs.declared.WordsFault.{WordsFault}
use Rattle.command_words.specs.declared.jobs.Job.{Job as ReadJob}
use Rattle.command_words.proofs.Ranges.{AreWithin, limits_in_range, size_in_range}
use Rattle.core_model.specs.Running.{AreLimits}
use Rattle.bsan.specs.Words.{Text, HasLimits, HasSize, IsInRange, origin_of}

of_settings : (settings : Option Settings) → AreWithin settings → IfSome settings (λ s. AreLimits s.limits)
of_settings None within = tt
of_settings (Some settings) within = record {
  some_steps = omega (arith, within.some_steps);
  few_steps = within.few_steps;
  some_turns = omega (arith, within.some_turns);
  few_turns = within.few_turns;
  some_allocs = omega (arith, within.some_allocs);
  few_allocs = within.few_allocs;
}

pub has_limits : (words : List Text) (job : Job) → job_of words ≡ Some job → HasLimits job
has_limits words job asked = of_settings (settings_in job) (limits_in_range words job asked)

pub has_size : (words : List Text) (job : Job) → job_of words ≡ Some job → HasSize (origin_of job)
has_size words (Check file) asked = tt
has_size words (Instrument file) asked = tt
has_size words (Replay run) asked = tt
has_size words (Run run) asked = tt
has_size words (Load run) asked = size_in_range words run asked
has_size words (Races run) asked = tt
has_size words (Record run) asked = tt
has_size words (Recheck check) asked = tt
has_size words (Hush run) asked = tt
has_size words (Explain run) asked = tt

-- and so is what was read of words
pub read_in_range : (words : List Text) (read : Result ReadJob WordsFault) → IfOk read (λ job. job_of words ≡ Some (job_meant job))
    → IfOk read (λ job. IsInRange (job_meant job))
read_in_range words (Ok job) is = (has_limits words (job_meant job) is, has_size words (job_meant job) is)
read_in_range words (Err fault) is = is
