use Rattle.std.proofs.Common.{◌∙◌, ◌++◌, ℕ, List, ap, sym, subst}
use Rattle.suppress.specs.Lines.{NamesRule}
use Rattle.suppress.proofs.Places.{rule_written}
use Rattle.suppress.proofs.Texts.{no_hold}
use Rattle.suppress.proofs.line.rule_at.Goals as goal

pub returns-in_err-text : goal.returns-in_err-text
returns-in_err-text c =
    subst (NamesRule c.args.functions.now c.args.line.now) (sym c.from_residual.ensures)
    (no_hold c.args.line.now (λ rest e. c.in_err-text.ensures.none rest (e ∙ ap (λ (w : List ℕ). w ++ rest) (sym c.as_slice.ensures))))

pub returns : goal.returns
returns c =
    rule_written c.args.functions.now c.args.line.now c.in_ok-text.text.now c.in_ok-cause.place.now c.in_ok-cause.cause c.in_ok-sites.sites c.rule_on.result
    (c.in_ok-text.ensures.some ∙ ap (λ (w : List ℕ). w ++ c.in_ok-text.text.now) c.as_slice.ensures) c.in_ok-cause.ensures.some c.in_ok-sites.ensures c.rule_on.ensures
