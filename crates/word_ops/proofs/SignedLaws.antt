-- The signed operations on words are those on the numbers that the words stand for.
use Rattle.std.proofs.Common.{◌≡◌, ◌≢◌, ◌<◌, ◌≤◌, ℕ, zero, suc, ◌+◌, ◌-◌, ◌*◌, ◌/◌, ◌%◌, ◌^◌, pos, negsuc, neg_ℤ, Bool, true, false, if◌then◌else◌, refl, sym, ap, ◌∙◌, subst, inl, inr, arith, int_div, int_rem, int_lt, int_le}
use Rattle.std.proofs.Math.Nat.{mod-eq_of_lt, mod_self, two-pow-succ, div-le_self, mod-le, add-mul-mod_self_left, pow-le-pow_right}
use Rattle.std.proofs.lemmas.Nat.{pow_pos, pow-add}
use Rattle.std.proofs.lemmas.Bool.Decides.{leb_tells, nat_tests}
use Rattle.ir_ast.specs.Arithmetic.{word, differ, is_negative, signed_rank, signed_word, holds, unless_zero}
use Rattle.ir_ast.specs.declared.operators.Cond.TheVariants as cond
use Rattle.word_ops.specs.Signed.{signed, word_for, halved, DividesSigned, LeavesSigned, OrdersSigned, ShiftsSigned, WidensSigned}

two_halves : (w : ℕ) → 0 < w → 2 ^ w ≡ 2 ^ (w - 1) + 2 ^ (w - 1)
two_halves zero some = absurd (omega arith)
two_halves (suc k) some =
    let e : k ≡ suc k - 1 = omega arith in
    subst (λ n. 2 ^ suc k ≡ 2 ^ n + 2 ^ n) e (two-pow-succ k)

-- the word of a number below zero
below_zero : (w q : ℕ) → q ≤ 2 ^ w → word_for w (neg_ℤ (pos q)) ≡ (2 ^ w - q) % 2 ^ w
below_zero w zero fits =
    let none : 2 ^ w - 0 ≡ 2 ^ w = omega arith in
    mod-eq_of_lt (pow_pos w) ∙ sym (ap (λ n. n % 2 ^ w) none ∙ mod_self (2 ^ w))
below_zero w (suc n) fits =
    let short : n < 2 ^ w = omega arith in
    let rest : 2 ^ w - suc n < 2 ^ w = omega (arith, pow_pos w) in
    let less : 2 ^ w - 1 - n ≡ 2 ^ w - suc n = omega arith in
    ap (λ k. 2 ^ w - 1 - k) (mod-eq_of_lt short) ∙ (less ∙ sym (mod-eq_of_lt rest))

-- how far the number of a word with its highest bit set is below zero
depth : (m a : ℕ) → a < m → suc (m - 1 - a) ≡ m - a
depth m a fits = omega arith

-- the quotient, by the two signs
quotient : (w a b : ℕ) (p q : Bool) → 0 < w → a < 2 ^ w → b < 2 ^ w → (p ≡ true → 2 ^ (w - 1) ≤ a)
    → signed_word w (differ p q) ((if p then 2 ^ w - a else a) / (if q then 2 ^ w - b else b))
    ≡ word_for w (int_div (if p then negsuc (2 ^ w - 1 - a) else pos a) (if q then negsuc (2 ^ w - 1 - b) else pos b))
quotient w a b false false some first second high =
    sym (mod-eq_of_lt (let less = div-le_self a b in omega arith))
quotient w a b false true some first second high =
    let e = depth (2 ^ w) b second in
    let less : a / suc (2 ^ w - 1 - b) ≤ 2 ^ w = omega (arith, div-le_self a (suc (2 ^ w - 1 - b))) in
    ap (λ m. (2 ^ w - a / m) % 2 ^ w) (sym e) ∙ sym (below_zero w (a / suc (2 ^ w - 1 - b)) less)
quotient w a b true false some first second high =
    let e = depth (2 ^ w) a first in
    let less : suc (2 ^ w - 1 - a) / b ≤ 2 ^ w = omega (arith, div-le_self (suc (2 ^ w - 1 - a)) b) in
    ap (λ m. (2 ^ w - m / b) % 2 ^ w) (sym e) ∙ sym (below_zero w (suc (2 ^ w - 1 - a) / b) less)
quotient w a b true true some first second high =
    let e = depth (2 ^ w) a first in
    let f = depth (2 ^ w) b second in
    let least : 2 ^ (w - 1) ≤ a = high refl in
    let less : suc (2 ^ w - 1 - a) / suc (2 ^ w - 1 - b) < 2 ^ w =
    omega (arith, div-le_self (suc (2 ^ w - 1 - a)) (suc (2 ^ w - 1 - b)), pow_pos (w - 1)) in
    ap (λ m. m / (2 ^ w - b)) (sym e) ∙ (ap (λ m. suc (2 ^ w - 1 - a) / m) (sym f) ∙ sym (mod-eq_of_lt less))

-- the remainder, by the two signs
remainder : (w a b : ℕ) (p q : Bool) → a < 2 ^ w → b < 2 ^ w
    → signed_word w p ((if p then 2 ^ w - a else a) % (if q then 2 ^ w - b else b))
    ≡ word_for w (int_rem (if p then negsuc (2 ^ w - 1 - a) else pos a) (if q then negsuc (2 ^ w - 1 - b) else pos b))
remainder w a b false false first second =
    sym (mod-eq_of_lt (let less = mod-le a b in omega arith))
remainder w a b false true first second =
    let f = depth (2 ^ w) b second in
    let less : a % suc (2 ^ w - 1 - b) < 2 ^ w = omega (arith, mod-le a (suc (2 ^ w - 1 - b))) in
    ap (λ m. a % m) (sym f) ∙ sym (mod-eq_of_lt less)
remainder w a b true false first second =
    let e = depth (2 ^ w) a first in
    let less : suc (2 ^ w - 1 - a) % b ≤ 2 ^ w = omega (arith, mod-le (suc (2 ^ w - 1 - a)) b) in
    ap (λ m. (2 ^ w - m % b) % 2 ^ w) (sym e) ∙ sym (below_zero w (suc (2 ^ w - 1 - a) % b) less)
remainder w a b true true first second =
    let e = depth (2 ^ w) a first in
    let f = depth (2 ^ w) b second in
    let n = suc (2 ^ w - 1 - a) in
    let m = suc (2 ^ w - 1 - b) in
    let less : n % m ≤ 2 ^ w = omega (arith, mod-le n m) in
    ap (λ k. (2 ^ w - k % (2 ^ w - b)) % 2 ^ w) (sym e)
    ∙ (ap (λ k. (2 ^ w - n % k) % 2 ^ w) (sym f) ∙ sym (below_zero w (n % m) less))

not_zero : (b n : ℕ) → b ≢ 0 → unless_zero b n ≡ word n
not_zero zero n some = absurd (some refl)
not_zero (suc b) n some = refl

high_bit : (w a : ℕ) → is_negative w a ≡ true → 2 ^ (w - 1) ≤ a
high_bit w a is = grind (arith, nat_tests)

pub divides_signed : DividesSigned
divides_signed w a b some first second nonzero =
    not_zero b _ nonzero
    ∙ ap word (quotient w a b (is_negative w a) (is_negative w b) some first second (high_bit w a))

pub leaves_signed : LeavesSigned
leaves_signed w a b some first second nonzero =
    not_zero b _ nonzero ∙ ap word (remainder w a b (is_negative w a) (is_negative w b) first second)

-- the rank of a word, by its sign
rank_high : (w a : ℕ) → 0 < w → a < 2 ^ w → 2 ^ (w - 1) ≤ a → signed_rank w a ≡ a - 2 ^ (w - 1)
rank_high w a some fits high =
    let h = two_halves w some in
    let less : a - 2 ^ (w - 1) < 2 ^ w = omega arith in
    let split : a + 2 ^ (w - 1) ≡ (a - 2 ^ (w - 1)) + 2 ^ w * 1 = omega arith in
    ap (λ n. n % 2 ^ w) split ∙ (add-mul-mod_self_left (a - 2 ^ (w - 1)) (2 ^ w) 1 ∙ mod-eq_of_lt less)

rank_low : (w a : ℕ) → 0 < w → a < 2 ^ (w - 1) → signed_rank w a ≡ a + 2 ^ (w - 1)
rank_low w a some low = let h = two_halves w some in mod-eq_of_lt (omega arith)

less_signed : (w a b : ℕ) → 0 < w → a < 2 ^ w → b < 2 ^ w → holds cond.Slt w a b ≡ int_lt (signed w a) (signed w b)
less_signed w a b some first second =
    let h = two_halves w some in
    elim (leb_tells (2 ^ (w - 1)) a) as (λ _. holds cond.Slt w a b ≡ int_lt (signed w a) (signed w b)) [
      | inl p ↦ elim (leb_tells (2 ^ (w - 1)) b) as (λ _. holds cond.Slt w a b ≡ int_lt (signed w a) (signed w b)) [
        | inl q ↦ let x = rank_high w a some first p.1 in let y = rank_high w b some second q.1 in
            rw (p.0, q.0, x, y) (grind (arith, nat_tests))
        | inr q ↦ let x = rank_high w a some first p.1 in let y = rank_low w b some q.1 in
            rw (p.0, q.0, x, y) (grind (arith, nat_tests))
      ]
      | inr p ↦ elim (leb_tells (2 ^ (w - 1)) b) as (λ _. holds cond.Slt w a b ≡ int_lt (signed w a) (signed w b)) [
        | inl q ↦ let x = rank_low w a some p.1 in let y = rank_high w b some second q.1 in
            rw (p.0, q.0, x, y) (grind (arith, nat_tests))
        | inr q ↦ let x = rank_low w a some p.1 in let y = rank_low w b some q.1 in
            rw (p.0, q.0, x, y) (grind (arith, nat_tests))
      ]
    ]

at_most_signed : (w a b : ℕ) → 0 < w → a < 2 ^ w → b < 2 ^ w → holds cond.Sle w a b ≡ int_le (signed w a) (signed w b)
at_most_signed w a b some first second =
    let h = two_halves w some in
    elim (leb_tells (2 ^ (w - 1)) a) as (λ _. holds cond.Sle w a b ≡ int_le (signed w a) (signed w b)) [
      | inl p ↦ elim (leb_tells (2 ^ (w - 1)) b) as (λ _. holds cond.Sle w a b ≡ int_le (signed w a) (signed w b)) [
        | inl q ↦ let x = rank_high w a some first p.1 in let y = rank_high w b some second q.1 in
            rw (p.0, q.0, x, y) (grind (arith, nat_tests))
        | inr q ↦ let x = rank_high w a some first p.1 in let y = rank_low w b some q.1 in
            rw (p.0, q.0, x, y) (grind (arith, nat_tests))
      ]
      | inr p ↦ elim (leb_tells (2 ^ (w - 1)) b) as (λ _. holds cond.Sle w a b ≡ int_le (signed w a) (signed w b)) [
        | inl q ↦ let x = rank_low w a some p.1 in let y = rank_high w b some second q.1 in
            rw (p.0, q.0, x, y) (grind (arith, nat_tests))
        | inr q ↦ let x = rank_low w a some p.1 in let y = rank_low w b some q.1 in
            rw (p.0, q.0, x, y) (grind (arith, nat_tests))
      ]
    ]

pub orders_signed : OrdersSigned
orders_signed w a b some first second =
    record {
      less = less_signed w a b some first second;
      at_most = at_most_signed w a b some first second;
      greater = less_signed w b a some second first;
      at_least = at_most_signed w b a some second first;
    }

-- the shift, by the sign
shift : (w a b : ℕ) (p : Bool) → a < 2 ^ w
    → (if p then 2 ^ w - 1 - (2 ^ w - 1 - a) / 2 ^ b else a / 2 ^ b)
    ≡ word_for w (halved (if p then negsuc (2 ^ w - 1 - a) else pos a) b)
shift w a b true fits =
    let less : (2 ^ w - 1 - a) / 2 ^ b < 2 ^ w = omega (arith, div-le_self (2 ^ w - 1 - a) (2 ^ b)) in
    ap (λ n. 2 ^ w - 1 - n) (sym (mod-eq_of_lt less))
shift w a b false fits =
    let less : a / 2 ^ b < 2 ^ w = omega (arith, div-le_self a (2 ^ b)) in
    sym (mod-eq_of_lt less)

pub shifts_signed : ShiftsSigned
shifts_signed w a b some fits = shift w a b (is_negative w a) fits

-- the numbers of 64 bits are so many times those of w bits
turns_of : (w : ℕ) → w ≤ 64 → 2 ^ 64 ≡ 2 ^ w * (2 ^ (64 - w) - 1) + 2 ^ w
turns_of w short =
    let sum : w + (64 - w) ≡ 64 = omega arith in
    let one : 2 ^ (64 - w) ≡ (2 ^ (64 - w) - 1) + 1 = omega (arith, pow_pos (64 - w)) in
    let spread : 2 ^ w * ((2 ^ (64 - w) - 1) + 1) ≡ 2 ^ w * (2 ^ (64 - w) - 1) + 2 ^ w =
    mul-add-one (2 ^ w) (2 ^ (64 - w) - 1) in
    ap (λ n. 2 ^ n) (sym sum) ∙ (pow-add 2 w (64 - w) ∙ (ap (λ n. 2 ^ w * n) one ∙ spread))
  where
    mul-add-one : (m k : ℕ) → m * (k + 1) ≡ m * k + m
    mul-add-one m k = omega arith

parted : (a v m k all : ℕ) → all ≡ m * k + m → v ≤ m → a + (all - v) ≡ (a + (m - v)) + m * k
parted a v m k all whole more = omega arith

-- the wider word, by the sign
widened : (v w a : ℕ) (p : Bool) → v ≤ w → w ≤ 64 → a < 2 ^ v
    → (if p then (a + (2 ^ 64 - 2 ^ v)) % 2 ^ w else a % 2 ^ w)
    ≡ word_for w (if p then negsuc (2 ^ v - 1 - a) else pos a)
widened v w a false wider short fits = refl
widened v w a true wider short fits =
    let more : 2 ^ v ≤ 2 ^ w = pow-le-pow_right (omega arith) wider in
    let k : ℕ = 2 ^ (64 - w) - 1 in
    let split : a + (2 ^ 64 - 2 ^ v) ≡ (a + (2 ^ w - 2 ^ v)) + 2 ^ w * k =
    parted a (2 ^ v) (2 ^ w) k (2 ^ 64) (turns_of w short) more in
    let less : a + (2 ^ w - 2 ^ v) < 2 ^ w = omega arith in
    let back : 2 ^ v - 1 - a < 2 ^ w = omega arith in
    let same : a + (2 ^ w - 2 ^ v) ≡ 2 ^ w - 1 - (2 ^ v - 1 - a) = omega arith in
    ap (λ n. n % 2 ^ w) split
    ∙ (add-mul-mod_self_left (a + (2 ^ w - 2 ^ v)) (2 ^ w) k
    ∙ (mod-eq_of_lt less ∙ (same ∙ ap (λ n. 2 ^ w - 1 - n) (sym (mod-eq_of_lt back)))))

pub widens_signed : WidensSigned
widens_signed v w a some wider short fits = widened v w a (is_negative v a) wider short fits
