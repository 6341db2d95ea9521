use Rattle.std.specs.Prelude.{string_bytes}
use Rattle.command_words.proofs.JobLemmas.{no_command}
use Rattle.command_words.proofs.jobs.read_job.Goals as goal

pub returns-in_default-as_str-clause-refused : goal.returns-in_default-as_str-clause-refused
returns-in_default-as_str-clause-refused c = λ err. no_command string_bytes c.args.words.now c.in-Some.name.now c.as_str.result.now c.in-Some.ensures.value c.as_str.ensures.value
    (record {
      not_check = c.in_default-as_str.not-check;
      not_instrument = c.in_default-as_str.not-instrument;
      not_solo = c.in_default-as_str.not-solo;
      not_replay = c.in_default-as_str.not-replay;
      not_run = c.in_default-as_str.not-run;
      not_load = c.in_default-as_str.not-load;
      not_races = c.in_default-as_str.not-races;
      not_record = c.in_default-as_str.not-record;
      not_recheck = c.in_default-as_str.not-recheck;
      not_hush = c.in_default-as_str.not-hush;
      not_explain = c.in_default-as_str.not-explain;
    })
