use Rattle.std.proofs.Common.{◌∙◌, sym, rules}
use Rattle.clap.specs.Words.{found_of, rows_of}
use Rattle.command_words.specs.Commands.{file_app}
use Rattle.command_words.specs.Jobs.{file_of}
use Rattle.command_words.proofs.CommandFacts.{file_command_readable}
use Rattle.command_words.proofs.JobLemmas.{taken_at, refused_at}
use Rattle.command_words.proofs.jobs.read_file.Goals as goal

pub matched-requires : goal.matched-requires
matched-requires c = file_command_readable _ c.args.name.now c.in_ok-file_command.ensures

pub returns-in_err-matches-clause-refused : goal.returns-in_err-matches-clause-refused
returns-in_err-matches-clause-refused c =
    λ is. refused_at (file_app c.args.name.now) _ file_of _ c.in_ok-file_command.ensures (c.matched.ensures.refused (search rules))

pub returns-in-Some-clause-file : goal.returns-in-Some-clause-file
returns-in-Some-clause-file c =
    taken_at (file_app c.args.name.now) _ file_of _ (rows_of (found_of c.in_ok-matches.matches)) c.in_ok-file_command.ensures
    c.in_ok-matches.ensures.taken c.in_ok-matches.ensures.rows
    ∙ sym c.in-Some.ensures

pub returns-clause-refused : goal.returns-clause-refused
returns-clause-refused c =
    λ is. taken_at (file_app c.args.name.now) _ file_of _ (rows_of (found_of c.in_ok-matches.matches)) c.in_ok-file_command.ensures
    c.in_ok-matches.ensures.taken c.in_ok-matches.ensures.rows
    ∙ sym c.in-None.ensures
