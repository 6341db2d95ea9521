use Rattle.std.proofs.Common.{sym, ◌∙◌, add-one, arith}
use Rattle.std.proofs.lemmas.Result.{err_from_is_err_and}
use Rattle.ir_reader.specs.View.{lexes, with_front}
use Rattle.ir_ast.specs.declared.mark.Mark.TheVariants.{Comma}
use Rattle.ir_reader.specs.Wants.{begins_if, is_mark}
use Rattle.ir_reader.specs.Blocks.{next_param_at, one_more, more_params_at}
use Rattle.ir_reader.proofs.Singles.{Any}
use Rattle.ir_reader.proofs.BlockParts.{ok_param, next_param_tokens, next_param_phrase, NoComma, param_begins}
use Rattle.ir_reader.proofs.Counts.{next_param_below}
use Rattle.ir_reader.proofs.Loop.{goes_on, is_done, breaks_as, falls}
use Rattle.ir_reader.proofs.params.more_params.Goals as goal

pub returns-in_err-param : goal.returns-in_err-param
unfolding more_params_at
returns-in_err-param c =
    let p = err_from_is_err_and c.from_residual.result c.from_residual.ensures.1 in
    rw (p.1, p.2) (breaks_as (λ _. ok_param c.args.attrs) next_param_tokens Any (next_param_at c.args.attrs) (next_param_phrase c.args.attrs) one_more (begins_if (is_mark Comma)) (param_begins c.args.attrs) NoComma (λ rest e. e) (λ _ _ _ _ _ _ _. tt) c.loop-alloc.before
    c.args.text.now c.in_err-param.field-0.0 c.loop-alloc.params (lexes c.args.text.now c.loop-alloc.rest.now) (with_front c.args.front (more_params_at c.args.attrs c.args.registers (lexes c.args.text.now c.args.tokens.now)))
    (sym (c.begins_mark.ensures c.args.text.now) ∙ c.loop-alloc-test.true) c.in_err-param.ensures c.loop-alloc.invariant)

pub loop-alloc-smaller : goal.loop-alloc-smaller
loop-alloc-smaller c = falls (λ _. ok_param c.args.attrs) next_param_tokens Any (next_param_at c.args.attrs) (next_param_phrase c.args.attrs) one_more (begins_if (is_mark Comma)) (param_begins c.args.attrs) NoComma (λ rest e. e) (λ _ _ _ _ _ _ _. tt) c.loop-alloc.before
    c.args.text.now c.loop-alloc.rest.now c.in_ok-param.param c.in_ok-param.after.now c.in_ok-param.ensures

pub loop-alloc-preserved : goal.loop-alloc-preserved
unfolding more_params_at
loop-alloc-preserved c = rw (c.in_ok-push.ensures.ok, add-one) (goes_on (λ _. ok_param c.args.attrs) next_param_tokens Any (next_param_at c.args.attrs) (next_param_phrase c.args.attrs) one_more (begins_if (is_mark Comma)) (param_begins c.args.attrs) NoComma (λ rest e. e) (λ _ _ _ _ _ _ _. tt) c.loop-alloc.before
    c.loop-alloc.params (lexes c.args.text.now c.loop-alloc.rest.now) c.in_ok-param.param (lexes c.args.text.now c.in_ok-param.after.now) (with_front c.args.front (more_params_at c.args.attrs c.args.registers (lexes c.args.text.now c.args.tokens.now)))
    (sym (c.begins_mark.ensures c.args.text.now) ∙ c.loop-alloc-test.true) c.in_ok-param.ensures c.loop-alloc.invariant)

pub returns : goal.returns
unfolding more_params_at
returns c = is_done (λ _. ok_param c.args.attrs) next_param_tokens Any (next_param_at c.args.attrs) (next_param_phrase c.args.attrs) one_more (begins_if (is_mark Comma)) (param_begins c.args.attrs) NoComma (λ rest e. e) (λ _ _ _ _ _ _ _. tt) c.loop-alloc.before
    c.loop-alloc.params (lexes c.args.text.now c.loop-alloc.rest.now) (with_front c.args.front (more_params_at c.args.attrs c.args.registers (lexes c.args.text.now c.args.tokens.now)))
    (sym (c.begins_mark.ensures c.args.text.now) ∙ c.loop-alloc-test.false) c.loop-alloc.invariant

pub overflow_add-before : goal.overflow_add-before
overflow_add-before c =
    let below = next_param_below c.args.attrs c.loop-alloc.before (lexes c.args.text.now c.loop-alloc.rest.now) c.in_ok-param.param (lexes c.args.text.now c.in_ok-param.after.now) c.in_ok-param.ensures in
    omega (arith, below)
