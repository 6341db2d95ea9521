use Rattle.std.proofs.Common.{sym, ◌∙◌}
use Rattle.std.proofs.lemmas.Result.{err_from_is_err_and}
use Rattle.ir_ast.specs.Grammar.{next_tokens}
use Rattle.ir_ast.specs.Shapes.{IsTyped}
use Rattle.ir_reader.specs.View.{lexes, with_front}
use Rattle.ir_ast.specs.declared.mark.Mark.TheVariants.{Comma}
use Rattle.ir_reader.specs.Wants.{begins_if, is_mark}
use Rattle.ir_reader.specs.Parts.{next_typed_at, same_state, more_at}
use Rattle.ir_reader.proofs.Singles.{Any}
use Rattle.ir_reader.proofs.ValueParts.{next_typed_phrase, NoComma, comma_begins}
use Rattle.ir_reader.proofs.Loop.{goes_on, is_done, breaks_as, falls}
use Rattle.ir_reader.proofs.values.more.Goals as goal

pub returns-in_err-value : goal.returns-in_err-value
unfolding more_at
returns-in_err-value c =
    let p = err_from_is_err_and c.from_residual.result c.from_residual.ensures.1 in
    rw (p.1, p.2) (breaks_as (λ _. IsTyped) (λ _. next_tokens) Any (λ (s : Unit {0}). next_typed_at) (λ _. next_typed_phrase) same_state (begins_if (is_mark Comma)) comma_begins NoComma (λ rest e. e) (λ _ _ _ _ _ _ _. tt) tt
    c.args.text.now c.in_err-value.field-0.0 c.loop-alloc.values (lexes c.args.text.now c.loop-alloc.rest.now) (with_front c.args.front (more_at (lexes c.args.text.now c.args.tokens.now)))
    (sym (c.begins_mark.ensures c.args.text.now) ∙ c.loop-alloc-test.true) c.in_err-value.ensures c.loop-alloc.invariant)

pub loop-alloc-smaller : goal.loop-alloc-smaller
loop-alloc-smaller c = falls (λ _. IsTyped) (λ _. next_tokens) Any (λ (s : Unit {0}). next_typed_at) (λ _. next_typed_phrase) same_state (begins_if (is_mark Comma)) comma_begins NoComma (λ rest e. e) (λ _ _ _ _ _ _ _. tt) tt
    c.args.text.now c.loop-alloc.rest.now c.in_ok-value.value c.in_ok-value.after.now c.in_ok-value.ensures

pub loop-alloc-preserved : goal.loop-alloc-preserved
unfolding more_at
loop-alloc-preserved c = rw c.in_ok-push.ensures.ok (goes_on (λ _. IsTyped) (λ _. next_tokens) Any (λ (s : Unit {0}). next_typed_at) (λ _. next_typed_phrase) same_state (begins_if (is_mark Comma)) comma_begins NoComma (λ rest e. e) (λ _ _ _ _ _ _ _. tt) tt
    c.loop-alloc.values (lexes c.args.text.now c.loop-alloc.rest.now) c.in_ok-value.value (lexes c.args.text.now c.in_ok-value.after.now) (with_front c.args.front (more_at (lexes c.args.text.now c.args.tokens.now)))
    (sym (c.begins_mark.ensures c.args.text.now) ∙ c.loop-alloc-test.true) c.in_ok-value.ensures c.loop-alloc.invariant)

pub returns : goal.returns
unfolding more_at
returns c = is_done (λ _. IsTyped) (λ _. next_tokens) Any (λ (s : Unit {0}). next_typed_at) (λ _. next_typed_phrase) same_state (begins_if (is_mark Comma)) comma_begins NoComma (λ rest e. e) (λ _ _ _ _ _ _ _. tt) tt
    c.loop-alloc.values (lexes c.args.text.now c.loop-alloc.rest.now) (with_front c.args.front (more_at (lexes c.args.text.now c.args.tokens.now)))
    (sym (c.begins_mark.ensures c.args.text.now) ∙ c.loop-alloc-test.false) c.loop-alloc.invariant
