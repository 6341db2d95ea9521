use Rattle.std.proofs.Common.{◌≡◌, ◌≢◌, ◌∙◌, ◌==◌, ℕ, Bool, false, sym, ap, arith, true≢false}
use Rattle.command_words.proofs.NumberLemmas.{number_read, number_refused}
use Rattle.command_words.proofs.numbers.number_in.Goals as goal

no_plus : (first : ℕ) (starts : Bool) → starts ≡ (first == 43) → starts ≡ false → first ≢ 43
no_plus first starts is no_start at = true≢false (sym (is ∙ ap (λ (n : ℕ). n == 43) at) ∙ no_start)

pub returns-in-Ok-clause-number : goal.returns-in-Ok-clause-number
returns-in-Ok-clause-number c =
    number_read c.args.digits c.args.least c.args.most c.in-Ok.number c.args.text.now c.parse.result c.in-Ok.is c.parse.ensures.value.0
    (no_plus _ _ (c.starts_with.ensures.byte (omega arith) (omega arith) (λ w o f. f)) c.if-starts_with.false)
    c.if-text-digits.false c.if-least-number.true c.if-number-most.true

pub returns-in_default-3-clause-number : goal.returns-in_default-3-clause-number
returns-in_default-3-clause-number c =
    number_refused c.args.digits c.args.least c.args.most c.args.text.now c.in_default.field-0 c.parse.result c.in_default.is c.parse.ensures.value.0
    (no_plus _ _ (c.starts_with.ensures.byte (omega arith) (omega arith) (λ w o f. f)) c.if-starts_with.false)
    c.ranges.most.fits
