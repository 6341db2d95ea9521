-- What a job of the program stands for.
use Rattle.std.specs.Prelude.{map}
use Rattle.std.specs.Option.{option_map}
use Rattle.command_words.specs.Jobs as jobs
use Rattle.command_words.specs.declared.jobs.Job.{Job}
use Rattle.command_words.specs.declared.jobs.Job.TheVariants.{Check, Instrument, Replay, Run, Load, Races, Record, Recheck, Hush, Explain}
use Rattle.command_words.specs.declared.jobs.NativeJob.{NativeJob}
use Rattle.command_words.specs.declared.jobs.NativeJob.TheVariants as native
use Rattle.command_words.specs.declared.jobs.HeldRun.{HeldRun}
use Rattle.command_words.specs.declared.jobs.LoadRun.{LoadRun}
use Rattle.command_words.specs.declared.jobs.NativeRun.{NativeRun}
use Rattle.command_words.specs.declared.jobs.RecordCheck.{RecordCheck}
use Rattle.command_words.specs.declared.jobs.ScheduledRun.{ScheduledRun}
use Rattle.command_words.specs.declared.jobs.Settings.{Settings}

abbrev pub settings_meant : Settings → jobs.Settings
settings_meant settings = record { input = option_map (λ name. name.now) settings.input; limits = settings.limits }

abbrev pub run_meant : ScheduledRun → jobs.ScheduledRun
run_meant run = record {
  file = run.file.now;
  schedule = map (λ pick. pick.0) run.schedule;
  settings = settings_meant run.settings;
}

abbrev pub native_meant : NativeRun → jobs.NativeRun
native_meant run = record { file = run.file.now; settings = settings_meant run.settings }

abbrev pub load_meant : LoadRun → jobs.LoadRun
load_meant run = record { seed = run.seed; size = run.size }

abbrev pub recheck_meant : RecordCheck → jobs.RecordCheck
recheck_meant check = record { file = check.file.now; «record» = check.record.now; settings = settings_meant check.settings }

abbrev pub held_meant : HeldRun → jobs.HeldRun
held_meant run = record { file = run.file.now; rules = run.rules.now; settings = settings_meant run.settings }

abbrev pub native_job_meant : NativeJob → jobs.Job
native_job_meant (native.Run run) = jobs.Run (native_meant run)
native_job_meant (native.Load run) = jobs.Load (load_meant run)
native_job_meant (native.Record run) = jobs.Record (native_meant run)
native_job_meant (native.Hush run) = jobs.Hush (held_meant run)

abbrev pub job_meant : Job → jobs.Job
job_meant (Check file) = jobs.Check file.now
job_meant (Instrument file) = jobs.Instrument file.now
job_meant (Replay run) = jobs.Replay (run_meant run)
job_meant (Run run) = jobs.Run (native_meant run)
job_meant (Load run) = jobs.Load (load_meant run)
job_meant (Races run) = jobs.Races (run_meant run)
job_meant (Record run) = jobs.Record (native_meant run)
job_meant (Recheck check) = jobs.Recheck (recheck_meant check)
job_meant (Hush run) = jobs.Hush (held_meant run)
job_meant (Explain run) = jobs.Explain (run_meant run)
