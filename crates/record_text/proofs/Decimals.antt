-- Numbers in shortest decimal, read and written.
use Rattle.std.proofs.Common.{◌≡◌, ℕ, ◌<◌, ◌≤◌, ◌^◌, ◌&&◌, Bool, true, false, cond, List, [], ◌∷◌, Option, Some, None, refl, sym, ap, subst, ◌∙◌, arith, rules}
use Rattle.std.specs.Prelude.{nat_lt}
use Rattle.std.specs.Fmt.{decimal}
use Rattle.std.specs.List.{list_all}
use Rattle.std.specs.Str.{bytes_eq}
use Rattle.std.specs.Str.Parse.{digits_value}
use Rattle.std.proofs.lemmas.Bool.{ltb-true, ltb-false}
use Rattle.std.proofs.lemmas.Bool.Decides.{nat_tests}
use Rattle.std.proofs.lemmas.Fmt.{decimal_is_IsNumeral, digits_decimal}
use Rattle.std.proofs.lemmas.Str.Parse.{IsNumeralModel, IsDigitsTest, numerals_by_value}
use Rattle.bsan_ids.specs.Names.{is_digit}
use Rattle.record_text.specs.Ranges.{Fits8, Fits32, Fits64}
use Rattle.record_text.specs.Reading.{◌>>=◌, under, if_decimal, number64, number32, number8}
use Rattle.record_text.proofs.Codecs.{IsWord, Seen, is_seen, bind_some, cond_some, told_equal, equal_told}

-- ---- what bytes a number's word has

AreDigits : List ℕ → Type 0
AreDigits ds = list_all is_digit ds ≡ true

digits_test : IsDigitsTest (λ ds. list_all is_digit ds ≡ true)
digits_test = search rules

own : IsNumeralModel (λ ds. list_all is_digit ds ≡ true) (digits_value 10)
own = numerals_by_value (λ ds. list_all is_digit ds ≡ true) digits_test

pub all_weaker : (p q : ℕ → Bool) → ((b : ℕ) → p b ≡ true → q b ≡ true) → (w : List ℕ) → list_all p w ≡ true → list_all q w ≡ true
all_weaker p q f [] h = refl
all_weaker p q f (b ∷ bs) h = by_test (p b) refl h (all_weaker p q f bs)
  where
    by_test : (t : Bool) → p b ≡ t → (t && list_all p bs) ≡ true → (list_all p bs ≡ true → list_all q bs ≡ true) → (q b && list_all q bs) ≡ true
    by_test true e h more = rw (f b e) (more h)
    by_test false e h more = absurd cc

digit_seen : (b : ℕ) → is_digit b ≡ true → is_seen b ≡ true
digit_seen b h = grind (arith, nat_tests)

pub number_digits : (n : ℕ) → n < 2 ^ 64 → list_all is_digit (decimal n) ≡ true
number_digits n h = digits_decimal own n h

pub number_seen : (n : ℕ) → n < 2 ^ 64 → Seen (decimal n)
number_seen n h = all_weaker is_digit is_seen digit_seen (decimal n) (number_digits n h)

-- ---- numbers below a bound

pub under_some : (n bound x : ℕ) → under n bound ≡ Some x → (n < bound) × (n ≡ x)
under_some n bound x e = let t = cond_some (nat_lt n bound) n x e in (ltb-true n bound t.0, t.1)

pub under_again : (n bound : ℕ) → n < bound → under n bound ≡ Some n
under_again n bound h = by_test (nat_lt n bound) refl
  where
    by_test : (b : Bool) → nat_lt n bound ≡ b → cond b (Some n) None ≡ Some n
    by_test true e = refl
    by_test false e = let k = ltb-false n bound e in absurd (omega (arith, k, h))

pub under_none : (n bound : ℕ) → under n bound ≡ None → bound ≤ n
under_none n bound e = by_test (nat_lt n bound) refl e
  where
    by_test : (b : Bool) → nat_lt n bound ≡ b → cond b (Some n) None ≡ None → bound ≤ n
    by_test true t h = absurd cc
    by_test false t h = ltb-false n bound t

pub over : (n bound : ℕ) → bound ≤ n → under n bound ≡ None
over n bound le = by_test (nat_lt n bound) refl
  where
    by_test : (b : Bool) → nat_lt n bound ≡ b → cond b (Some n) None ≡ None
    by_test true t = let k = ltb-true n bound t in absurd (omega (arith, k, le))
    by_test false t = refl

pub number64_takes : (w : List ℕ) (n : ℕ) → number64 w ≡ Some n → (w ≡ decimal n) × Fits64 n
unfolding number64
number64_takes w n e =
    let k = bind_some (under (digits_value 10 w) (2 ^ 64)) (if_decimal w) n e in
    let u = under_some (digits_value 10 w) (2 ^ 64) k.0 k.1 in
    let t = cond_some (bytes_eq (decimal k.0) w) k.0 n k.2 in
    (sym (told_equal (decimal k.0) w t.0) ∙ ap decimal t.1, subst (λ (m : ℕ). m < 2 ^ 64) (u.1 ∙ t.1) u.0)

pub number64_again : (n : ℕ) → Fits64 n → number64 (decimal n) ≡ Some n
unfolding number64
number64_again n h =
    let value : digits_value 10 (decimal n) ≡ n = (decimal_is_IsNumeral n h).1 in
    ap (λ (m : ℕ). under m (2 ^ 64) >>= if_decimal (decimal n)) value
    ∙ ap (λ (o : Option ℕ). o >>= if_decimal (decimal n)) (under_again n (2 ^ 64) h)
    ∙ ap (λ (b : Bool). cond b (Some n) None) (equal_told (decimal n))

pub number64_word : IsWord Fits64 decimal number64
number64_word = record { again = number64_again; takes = number64_takes; seen = number_seen }

-- a number below a smaller bound
below_takes : (bound : ℕ) (w : List ℕ) (n : ℕ) → (number64 w >>= λ m. under m bound) ≡ Some n → (w ≡ decimal n) × (n < bound)
below_takes bound w n e =
    let k = bind_some (number64 w) (λ m. under m bound) n e in
    let u = under_some k.0 bound n k.2 in
    let t = number64_takes w k.0 k.1 in
    (t.0 ∙ ap decimal u.1, subst (λ (m : ℕ). m < bound) u.1 u.0)

below_again : (bound n : ℕ) → n < 2 ^ 64 → n < bound → (number64 (decimal n) >>= λ m. under m bound) ≡ Some n
below_again bound n h k = ap (λ (o : Option ℕ). o >>= λ m. under m bound) (number64_again n h) ∙ under_again n bound k

pub number32_word : IsWord Fits32 decimal number32
unfolding number32
number32_word = record {
  again = λ n h. below_again (2 ^ 32) n (omega arith) h;
  takes = λ w n e. below_takes (2 ^ 32) w n e;
  seen = λ n h. number_seen n (omega arith);
}

pub number8_word : IsWord Fits8 decimal number8
unfolding number8
number8_word = record {
  again = λ n h. below_again 256 n (omega arith) h;
  takes = λ w n e. below_takes 256 w n e;
  seen = λ n h. number_seen n (omega arith);
}
