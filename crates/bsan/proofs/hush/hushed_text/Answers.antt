use Rattle.std.proofs.Common.{◌≡◌, IfOk, subst, ◌∙◌}
use Rattle.suppress.specs.Held as held
use Rattle.suppress.specs.declared.rules.Rules.{Rules}
use Rattle.bsan.proofs.hush.hushed_text.Goals as goal

pub returns : goal.returns
returns c =
    subst (λ (rules : Rules). IfOk c.held_text.result (λ text. text.items ≡ held.held_text rules c.args.kept.now))
    (c.new-2.ensures ∙ c.in_ok-copy-2.ensures) c.held_text.ensures
