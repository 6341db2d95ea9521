use Rattle.std.proofs.Common.{◌∙◌, sym, rules}
use Rattle.clap.specs.Words.{found_of, rows_of}
use Rattle.command_words.specs.Commands.{word_app}
use Rattle.command_words.specs.Jobs.{both_of}
use Rattle.command_words.proofs.CommandFacts.{word_command_readable}
use Rattle.command_words.proofs.JobLemmas.{taken_at, refused_at}
use Rattle.command_words.proofs.jobs.read_both.Goals as goal

pub matched-requires : goal.matched-requires
matched-requires c = word_command_readable _ c.args.name.now c.args.id.now c.in_ok-word_command.ensures

pub returns-in_err-matches-clause-refused : goal.returns-in_err-matches-clause-refused
returns-in_err-matches-clause-refused c =
    λ is. refused_at (word_app c.args.name.now c.args.id.now) _ (both_of c.args.id.now) _ c.in_ok-word_command.ensures (c.matched.ensures.refused (search rules))

pub returns-in-Some-clause-both : goal.returns-in-Some-clause-both
returns-in-Some-clause-both c =
    taken_at (word_app c.args.name.now c.args.id.now) _ (both_of c.args.id.now) _ (rows_of (found_of c.in_ok-matches.matches)) c.in_ok-word_command.ensures
    c.in_ok-matches.ensures.taken c.in_ok-matches.ensures.rows
    ∙ sym c.in-Some.ensures

pub returns-clause-refused : goal.returns-clause-refused
returns-clause-refused c =
    λ is. taken_at (word_app c.args.name.now c.args.id.now) _ (both_of c.args.id.now) _ (rows_of (found_of c.in_ok-matches.matches)) c.in_ok-word_command.ensures
    c.in_ok-matches.ensures.taken c.in_ok-matches.ensures.rows
    ∙ sym c.in-None.ensures
