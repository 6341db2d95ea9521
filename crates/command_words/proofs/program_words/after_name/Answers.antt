use Rattle.std.proofs.Common.{◌∙◌}
use Rattle.command_words.proofs.RestLemmas.{after_next, drained}
use Rattle.command_words.proofs.program_words.after_name.Goals as goal

pub returns : goal.returns
returns c =
    c.in_ok-collect.ensures.ran.2.0
    ∙ drained c.next-name.new.self _ c.in_ok-collect.ensures.ran.1
    ∙ after_next c.args.all c.next-name.new.self c.next-name.result c.next-name.ensures.cases
