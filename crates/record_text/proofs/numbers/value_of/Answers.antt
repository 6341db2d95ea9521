use Rattle.std.proofs.Common.{◌≡◌, ℕ, ◌+◌, ◌*◌, ◌^◌, ◌≤◌, ◌<◌, get_or, take, sym, ap, ◌∙◌, subst, arith, None, Some}
use Rattle.std.specs.Char.{digit_value}
use Rattle.std.specs.Str.Parse.{digits_value}
use Rattle.std.proofs.lemmas.Int.Digits.{digits_value_more}
use Rattle.std.proofs.lemmas.Str.Parse.{digits_value-take-le}
use Rattle.record_text.specs.Reading.{under}
use Rattle.record_text.proofs.Decimals.{over, under_none, under_some}
use Rattle.record_text.proofs.numbers.value_of.Goals as goal

pub returns-in_err-value : goal.returns-in_err-value
returns-in_err-value c =
    let ds = c.args.digits.now in
    let i = c.loop-digit.digit-index in
    let v = c.loop-digit.value in
    let next = v * 10 + digit_value (get_or ds i 0) in
    let none : under next (2 ^ 64) ≡ None = ap (λ (d : ℕ). under (v * 10 + d) (2 ^ 64)) (sym c.digit_value.ensures) ∙ sym c.with_digit.ensures ∙ c.in_err-value.was in
    let le : 2 ^ 64 ≤ next = under_none next (2 ^ 64) none in
    let more : digits_value 10 (take (i + 1) ds) ≡ digits_value 10 (take i ds) * 10 + digit_value (get_or ds i 0) = digits_value_more 10 ds i c.loop-digit-test.true in
    let here : next ≡ digits_value 10 (take (i + 1) ds) = ap (λ (n : ℕ). n * 10 + digit_value (get_or ds i 0)) c.loop-digit.invariant.so_far ∙ sym more in
    let far : next ≤ digits_value 10 ds = omega (arith, here, digits_value-take-le 10 ds (i + 1) (omega arith)) in
    rw c.from_residual.ensures (sym (over (digits_value 10 ds) (2 ^ 64) (omega (arith, le, far))))

pub loop-digit-preserved : goal.loop-digit-preserved
loop-digit-preserved c =
    let ds = c.args.digits.now in
    let i = c.loop-digit.digit-index in
    let v = c.loop-digit.value in
    let next = v * 10 + digit_value (get_or ds i 0) in
    let some : under next (2 ^ 64) ≡ Some c.in_ok-value.value = ap (λ (d : ℕ). under (v * 10 + d) (2 ^ 64)) (sym c.digit_value.ensures) ∙ sym c.with_digit.ensures ∙ c.in_ok-value.was in
    let s = under_some next (2 ^ 64) c.in_ok-value.value some in
    let more : digits_value 10 (take (i + 1) ds) ≡ digits_value 10 (take i ds) * 10 + digit_value (get_or ds i 0) = digits_value_more 10 ds i c.loop-digit-test.true in
    let here : next ≡ digits_value 10 (take (i + 1) ds) = ap (λ (n : ℕ). n * 10 + digit_value (get_or ds i 0)) c.loop-digit.invariant.so_far ∙ sym more in
    record { so_far = sym s.1 ∙ here; small = subst (λ (n : ℕ). n < 2 ^ 64) s.1 s.0 }
