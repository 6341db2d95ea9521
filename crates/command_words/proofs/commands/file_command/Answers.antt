use Rattle.std.proofs.Common.{◌∙◌, ap}
use Rattle.clap.specs.Words.{App, with_rule, rule_of}
use Rattle.command_words.specs.Commands.{plain}
use Rattle.command_words.proofs.CommandFacts.{file_app_is}
use Rattle.command_words.proofs.commands.file_command.Goals as goal

pub returns : goal.returns
returns c =
    c.in_ok-command.ensures.shape c.needed.ensures.local
    ∙ (ap (λ (app : App). with_rule app (rule_of c.needed.result)) c.plain.ensures
    ∙ (ap (with_rule (plain c.args.name.now)) c.needed.ensures.rule
    ∙ file_app_is c.args.name.now))
