-- Numbers below a bound.
use Rattle.std.proofs.Common.{◌≡◌, ℕ, ◌+◌, ◌≤◌, ◌<◌, Bool, true, false, cond, Some, None, refl, sym, arith}
use Rattle.std.specs.Prelude.{nat_lt}
use Rattle.std.proofs.lemmas.Bool.{ltb-true, ltb-false}
use Rattle.ir_reader.specs.Wants.{under}

pub under-none : (n most : ℕ) → under n (most + 1) ≡ None → most < n
under-none n most e = by_test (nat_lt n (most + 1)) refl e
  where
    by_test : (b : Bool) → nat_lt n (most + 1) ≡ b → cond b (Some n) None ≡ None → most < n
    by_test true t h = absurd cc
    by_test false t h = let k = ltb-false n (most + 1) t in omega (arith, k)

pub over : (n most : ℕ) → most < n → under n (most + 1) ≡ None
over n most lt = by_test (nat_lt n (most + 1)) refl
  where
    by_test : (b : Bool) → nat_lt n (most + 1) ≡ b → cond b (Some n) None ≡ None
    by_test true t = let k = ltb-true n (most + 1) t in absurd (omega (arith, k, lt))
    by_test false t = refl

pub under-some : (n most v : ℕ) → under n (most + 1) ≡ Some v → (v ≡ n) × (n ≤ most)
under-some n most v e = by_test (nat_lt n (most + 1)) refl e
  where
    by_test : (b : Bool) → nat_lt n (most + 1) ≡ b → cond b (Some n) None ≡ Some v → (v ≡ n) × (n ≤ most)
    by_test true t h = let same : n ≡ v = cc in let k = ltb-true n (most + 1) t in (sym same, omega (arith, k))
    by_test false t h = absurd cc
