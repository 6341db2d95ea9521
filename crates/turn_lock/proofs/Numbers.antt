-- The numbers from 1 to n, weighed.
use Rattle.std.proofs.Common.{◌≡◌, ℕ, zero, suc, ◌+◌, ◌<◌, ◌≤◌, ◌≢◌, ◌⊎◌, cond, leb, refl, ap, inl, inr, ⊎_elim, arith}
use Rattle.std.proofs.lemmas.Bool.Decides.{leb_tells, eqb_tells}
use Rattle.turn_lock.specs.Weights.{sum_up_to, above, equals}

pub above_cases : (limit n : ℕ) → ((n ≤ limit) × (above limit n ≡ 0)) ⊎ ((limit < n) × (above limit n ≡ 1))
above_cases limit n = ⊎_elim (λ t. inl (t.1, ap (λ b. cond b 0 1) t.0)) (λ t. inr (t.1, ap (λ b. cond b 0 1) t.0)) (leb_tells n limit)

-- 1 for numbers up to the limit
abbrev pub within : ℕ → ℕ → ℕ
within limit n = cond (leb n limit) 1 0

pub within_cases : (limit n : ℕ) → ((n ≤ limit) × (within limit n ≡ 1)) ⊎ ((limit < n) × (within limit n ≡ 0))
within_cases limit n = ⊎_elim (λ t. inl (t.1, ap (λ b. cond b 1 0) t.0)) (λ t. inr (t.1, ap (λ b. cond b 1 0) t.0)) (leb_tells n limit)

pub equals_cases : (m n : ℕ) → ((n ≡ m) × (equals m n ≡ 1)) ⊎ ((n ≢ m) × (equals m n ≡ 0))
equals_cases m n = ⊎_elim (λ t. inl (t.1, ap (λ b. cond b 1 0) t.0)) (λ t. inr (t.1, ap (λ b. cond b 1 0) t.0)) (eqb_tells n m)

pub equals_same : (m : ℕ) → equals m m ≡ 1
equals_same m = ⊎_elim (λ t. t.1) (λ t. absurd (t.0 refl)) (equals_cases m m)

pub equals_other : (m n : ℕ) → n ≢ m → equals m n ≡ 0
equals_other m n apart = ⊎_elim (λ t. absurd (apart t.0)) (λ t. t.1) (equals_cases m n)

-- a word counts no more numbers than its limit and those above it
pub sum_up_to_above : (limit n : ℕ) → n ≤ limit + sum_up_to (above limit) n
sum_up_to_above limit zero = omega arith
sum_up_to_above limit (suc n) = let rest = sum_up_to_above limit n in ⊎_elim (λ t. let a = t.0 in omega arith) (λ t. let a = t.1 in omega arith) (above_cases limit (suc n))

pub sum_up_to_within : (limit n : ℕ) → sum_up_to (within limit) n ≤ limit
sum_up_to_within limit zero = omega arith
sum_up_to_within limit (suc n) = let rest = sum_up_to_within limit n in ⊎_elim (λ t. let a = t.0 in let b = within_less limit n (omega arith) in omega arith) (λ t. let a = t.1 in omega arith) (within_cases limit (suc n))
  where
    within_less : (limit n : ℕ) → n < limit → sum_up_to (within limit) n ≤ n
    within_less limit zero lt = omega arith
    within_less limit (suc n) lt = let rest = within_less limit n (omega arith) in ⊎_elim (λ t. let a = t.1 in omega arith) (λ t. let a = t.1 in omega arith) (within_cases limit (suc n))

-- each number stands once among those from 1 to n, and no other one does
pub sum_up_to_beyond : (m n : ℕ) → n < m → sum_up_to (equals m) n ≡ 0
sum_up_to_beyond m zero lt = refl
sum_up_to_beyond m (suc n) lt = let rest = sum_up_to_beyond m n (omega arith) in let other = equals_other m (suc n) (λ e. omega arith) in omega arith

pub sum_up_to_once : (m n : ℕ) → sum_up_to (equals m) n ≤ 1
sum_up_to_once m zero = omega arith
sum_up_to_once m (suc n) = ⊎_elim (λ (t : (suc n ≡ m) × (equals m (suc n) ≡ 1)). let a = t.0 in let b = t.1 in let c = sum_up_to_beyond m n (omega arith) in omega arith) (λ t. let a = t.1 in let rest = sum_up_to_once m n in omega arith) (equals_cases m (suc n))

pub sum_up_to_zero : (n : ℕ) → sum_up_to (equals 0) n ≡ 0
sum_up_to_zero zero = refl
sum_up_to_zero (suc n) = let rest = sum_up_to_zero n in let other = equals_other 0 (suc n) (λ e. omega arith) in omega arith
