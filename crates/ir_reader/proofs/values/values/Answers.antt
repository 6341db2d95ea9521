use Rattle.std.proofs.Common.{◌≡◌, sym, ◌∙◌, ap, List, [], ◌∷◌, ◌++◌}
use Rattle.std.proofs.lemmas.Result.{err_from_is_err_and}
use Rattle.ir_ast.specs.declared.program.TypedVal.{TypedVal}
use Rattle.ir_reader.specs.View.{lexes, with_front}
use Rattle.ir_reader.specs.Parts.{more_at, values_at}
use Rattle.ir_reader.proofs.ValueSteps.{values_is, fails_as}
use Rattle.ir_reader.proofs.values.values.Goals as goal

pub returns-in_err-first : goal.returns-in_err-first
returns-in_err-first c =
    let p = err_from_is_err_and c.from_residual.result c.from_residual.ensures.1 in
    rw (p.1, p.2) (fails_as c.args.text.now c.in_err-first.field-0.0 (lexes c.args.text.now c.args.tokens.now) c.in_err-first.ensures)

pub returns : goal.returns
returns c =
    let front : c.push.new.self ≡ c.in_ok-first.first ∷ [] = c.in_ok-push.ensures.ok ∙ ap (λ (z : List TypedVal). z ++ c.in_ok-first.first ∷ []) c.new-front.ensures in
    let whole : values_at (lexes c.args.text.now c.args.tokens.now) ≡ with_front c.push.new.self (more_at (lexes c.args.text.now c.in_ok-first.rest.now)) =
    values_is (lexes c.args.text.now c.args.tokens.now) c.in_ok-first.first (lexes c.args.text.now c.in_ok-first.rest.now) c.in_ok-first.ensures ∙ ap (λ (z : List TypedVal). with_front z (more_at (lexes c.args.text.now c.in_ok-first.rest.now))) (sym front) in
    rw whole c.more.ensures
