use Rattle.std.proofs.Common.{◌≡◌, suc, sym, ◌∙◌, ap, List, [], ◌∷◌, ◌++◌, add-one, arith}
use Rattle.std.proofs.lemmas.Result.{err_from_is_err_and}
use Rattle.ir_ast.specs.declared.program.Param.{Param}
use Rattle.ir_reader.specs.View.{lexes, with_front}
use Rattle.ir_reader.specs.Blocks.{more_params_at, params_at}
use Rattle.ir_reader.proofs.Counts.{param_below}
use Rattle.ir_reader.proofs.ParamSteps.{params_is, params_fail_as}
use Rattle.ir_reader.proofs.params.params.Goals as goal

pub returns-in_err-first : goal.returns-in_err-first
returns-in_err-first c =
    let p = err_from_is_err_and c.from_residual.result c.from_residual.ensures.1 in
    rw (p.1, p.2) (params_fail_as c.args.attrs c.args.registers c.args.text.now c.in_err-first.field-0.0 (lexes c.args.text.now c.args.tokens.now) c.in_err-first.ensures)

pub returns : goal.returns
returns c =
    let front : c.push.new.self ≡ c.in_ok-first.first ∷ [] = c.in_ok-push.ensures.ok ∙ ap (λ (z : List Param). z ++ c.in_ok-first.first ∷ []) c.new-front.ensures in
    let whole : params_at c.args.attrs c.args.registers (lexes c.args.text.now c.args.tokens.now) ≡ with_front c.push.new.self (more_params_at c.args.attrs (suc c.args.registers) (lexes c.args.text.now c.in_ok-first.rest.now)) =
    params_is c.args.attrs c.args.registers (lexes c.args.text.now c.args.tokens.now) c.in_ok-first.first (lexes c.args.text.now c.in_ok-first.rest.now) c.in_ok-first.ensures
    ∙ ap (λ (z : List Param). with_front z (more_params_at c.args.attrs (suc c.args.registers) (lexes c.args.text.now c.in_ok-first.rest.now))) (sym front) in
    let more = rw add-one at c.more_params.ensures in
    rw whole more

pub overflow_add-before : goal.overflow_add-before
overflow_add-before c =
    let below = param_below c.args.attrs c.args.registers (lexes c.args.text.now c.args.tokens.now) c.in_ok-first.first (lexes c.args.text.now c.in_ok-first.rest.now) c.in_ok-first.ensures in
    omega (arith, below)
