use Rattle.std.proofs.Common.{◌≡◌, ℕ, ◌+◌, ◌*◌, ◌≤◌, ◌<◌, get_or, take, sym, ap, ◌∙◌, arith, None, Some}
use Rattle.std.specs.Char.{digit_value}
use Rattle.std.specs.Str.Parse.{digits_value}
use Rattle.std.proofs.lemmas.Int.Digits.{digits_value_more}
use Rattle.std.proofs.lemmas.Str.Parse.{digits_value-take-le}
use Rattle.ir_reader.specs.Wants.{under}
use Rattle.ir_reader.proofs.Numerals.{over, under-none, under-some}
use Rattle.ir_reader.proofs.numbers.number.Goals as goal

pub returns-in_err-value-clause-value : goal.returns-in_err-value-clause-value
returns-in_err-value-clause-value c =
    let ds = c.args.digits.now in
    let i = c.loop-digit.digit-index in
    let v = c.loop-digit.value in
    let next = v * 10 + digit_value (get_or ds i 0) in
    let none : under next (c.args.most + 1) ≡ None = ap (λ (d : ℕ). under (v * 10 + d) (c.args.most + 1)) (sym c.digit_value.ensures) ∙ sym c.with_digit.ensures ∙ c.in_err-value.was in
    let lt : c.args.most < next = under-none next c.args.most none in
    let more : digits_value 10 (take (i + 1) ds) ≡ digits_value 10 (take i ds) * 10 + digit_value (get_or ds i 0) = digits_value_more 10 ds i c.loop-digit-test.true in
    let here : next ≡ digits_value 10 (take (i + 1) ds) = ap (λ (n : ℕ). n * 10 + digit_value (get_or ds i 0)) c.loop-digit.invariant.so_far ∙ sym more in
    let le : next ≤ digits_value 10 ds = omega (arith, here, digits_value-take-le 10 ds (i + 1) (omega arith)) in
    rw c.from_residual.ensures (sym (over (digits_value 10 ds) c.args.most (omega (arith, lt, le))))

pub loop-digit-preserved : goal.loop-digit-preserved
loop-digit-preserved c =
    let ds = c.args.digits.now in
    let i = c.loop-digit.digit-index in
    let v = c.loop-digit.value in
    let next = v * 10 + digit_value (get_or ds i 0) in
    let some : under next (c.args.most + 1) ≡ Some c.in_ok-value.value = ap (λ (d : ℕ). under (v * 10 + d) (c.args.most + 1)) (sym c.digit_value.ensures) ∙ sym c.with_digit.ensures ∙ c.in_ok-value.was in
    let s = under-some next c.args.most c.in_ok-value.value some in
    let more : digits_value 10 (take (i + 1) ds) ≡ digits_value 10 (take i ds) * 10 + digit_value (get_or ds i 0) = digits_value_more 10 ds i c.loop-digit-test.true in
    let here : next ≡ digits_value 10 (take (i + 1) ds) = ap (λ (n : ℕ). n * 10 + digit_value (get_or ds i 0)) c.loop-digit.invariant.so_far ∙ sym more in
    record { so_far = s.0 ∙ here; small = omega (arith, s.0, s.1) }
