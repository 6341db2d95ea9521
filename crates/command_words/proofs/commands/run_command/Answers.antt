use Rattle.std.proofs.Common.{◌∙◌, ap}
use Rattle.command_words.specs.Commands.{with_options}
use Rattle.command_words.proofs.CommandFacts.{run_app_is, made_as}
use Rattle.command_words.proofs.commands.run_command.Goals as goal

pub returns : goal.returns
returns c = made_as c.with_options.result _ _ (ap with_options c.in_ok-file_command.ensures ∙ run_app_is c.args.name.now) c.with_options.ensures
