use Rattle.std.proofs.Common.{◌∙◌, ap}
use Rattle.clap.specs.Words.{App, with_rule, rule_of}
use Rattle.command_words.specs.Commands.{file_app, with_options}
use Rattle.command_words.proofs.CommandFacts.{word_app_is, made_as}
use Rattle.command_words.proofs.commands.word_command.Goals as goal

pub returns : goal.returns
returns c =
    let shape = c.in_ok-command.ensures.shape c.needed.ensures.local
    ∙ (ap (λ (app : App). with_rule app (rule_of c.needed.result)) c.in_ok-file_command.ensures
    ∙ ap (with_rule (file_app c.args.name.now)) c.needed.ensures.rule) in
    made_as c.with_options.result _ _ (ap with_options shape ∙ word_app_is c.args.name.now c.args.id.now) c.with_options.ensures
