use Rattle.std.proofs.Common.{◌∙◌, sym, rules}
use Rattle.clap.specs.Words.{found_of, rows_of}
use Rattle.command_words.specs.Commands.{load_app}
use Rattle.command_words.specs.Jobs.{load_of}
use Rattle.command_words.proofs.CommandFacts.{load_command_readable}
use Rattle.command_words.proofs.JobLemmas.{taken_at, refused_at}
use Rattle.command_words.proofs.jobs.read_load.Goals as goal

pub matched-requires : goal.matched-requires
matched-requires c = load_command_readable _ c.in_ok-load_command.ensures

pub returns-in_err-matches-clause-refused : goal.returns-in_err-matches-clause-refused
returns-in_err-matches-clause-refused c =
    λ is. refused_at load_app _ load_of _ c.in_ok-load_command.ensures (c.matched.ensures.refused (search rules))

pub returns-in-Some-clause-run : goal.returns-in-Some-clause-run
returns-in-Some-clause-run c =
    taken_at load_app _ load_of _ (rows_of (found_of c.in_ok-matches.matches)) c.in_ok-load_command.ensures
    c.in_ok-matches.ensures.taken c.in_ok-matches.ensures.rows
    ∙ sym c.in-Some.ensures

pub returns-clause-refused : goal.returns-clause-refused
returns-clause-refused c =
    λ is. taken_at load_app _ load_of _ (rows_of (found_of c.in_ok-matches.matches)) c.in_ok-load_command.ensures
    c.in_ok-matches.ensures.taken c.in_ok-matches.ensures.rows
    ∙ sym c.in-None.ensures
