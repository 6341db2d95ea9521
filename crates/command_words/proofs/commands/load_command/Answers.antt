use Rattle.std.proofs.Common.{◌∙◌, ap, codes}
use Rattle.clap.specs.Words.{App, with_rule, rule_of}
use Rattle.command_words.specs.Commands.{plain, needed}
use Rattle.command_words.proofs.CommandFacts.{load_app_is}
use Rattle.command_words.proofs.commands.load_command.Goals as goal

pub returns : goal.returns
returns c =
    let seed = c.in_ok-command.ensures.shape c.needed.ensures.local
    ∙ (ap (λ (app : App). with_rule app (rule_of c.needed.result)) c.plain.ensures
    ∙ ap (with_rule (plain (codes "load"))) c.needed.ensures.rule) in
    c.in_ok-command-2.ensures.shape c.needed-2.ensures.local
    ∙ (ap (λ (app : App). with_rule app (rule_of c.needed-2.result)) seed
    ∙ (ap (with_rule (with_rule (plain (codes "load")) (needed (codes "SEED")))) c.needed-2.ensures.rule
    ∙ load_app_is))
