-- A number of a list, by the sums over it.
use Rattle.std.proofs.Common.{◌≡◌, ℕ, zero, suc, ◌+◌, ◌<◌, ◌≤◌, ◌≢◌, ◌⊎◌, Bool, true, false, cond, eqb, List, [], ◌∷◌, ◌++◌, length, All, Contains, sum_by, refl, sym, ap, ◌∙◌, subst, inl, inr, ⊎_elim, arith}
use Rattle.std.proofs.lemmas.Bool.Decides.{eqb_tells}
use Rattle.std.proofs.lemmas.List.Sums.{sum_by-cons, sum_by_push, get_or-le-sum_by}
use Rattle.std.proofs.lemmas.List.Elements.{All-head, All-tail, All-cons}
use Rattle.turn_lock.specs.Weights.{AreOnce, equals}
use Rattle.bsan_ids.specs.Lists.{without}
use Rattle.turn_lock.proofs.Numbers.{equals_same, equals_cases}

pub contained : (xs : List ℕ) (n : ℕ) → Contains xs n → 1 ≤ sum_by (equals n) xs
contained xs n c = let a = get_or-le-sum_by (equals n) xs c.0 n c.1 in let b : equals n (Rattle.std.proofs.Common.get_or xs c.0 n) ≡ 1 = ap (equals n) c.2 ∙ equals_same n in omega arith

pub not_contained : (xs : List ℕ) (n : ℕ) → sum_by (equals n) xs ≡ 0 → ¬ (Contains xs n)
not_contained xs n none c = let a = contained xs n c in absurd (omega arith)

-- where each element is a number of the list or nothing is
pub contains_here : (xs : List ℕ) (n : ℕ) → ¬ (Contains xs n) → sum_by (equals n) xs ≡ 0
contains_here [] n away = refl
contains_here (x ∷ xs) n away =
    ⊎_elim (λ (t : (x ≡ n) × (equals n x ≡ 1)). absurd (away (0, omega arith, t.0)))
    (λ (t : (x ≢ n) × (equals n x ≡ 0)). let rest = contains_here xs n (λ c. away (suc c.0, (let a = c.1 in omega arith), c.2)) in let a = t.1 in omega (arith, sum_by-cons (equals n) x xs)) (equals_cases n x)

-- the weights of the numbers other than n
abbrev pub except : ℕ → (ℕ → ℕ) → ℕ → ℕ
except n h x = cond (eqb x n) 0 (h x)

except_cases : (n : ℕ) (h : ℕ → ℕ) (x : ℕ) → ((x ≡ n) × (equals n x ≡ 1) × (except n h x ≡ 0)) ⊎ ((x ≢ n) × (equals n x ≡ 0) × (except n h x ≡ h x))
except_cases n h x = ⊎_elim (λ t. inl (t.1, ap (λ b. cond b 1 0) t.0, ap (λ b. cond b 0 (h x)) t.0)) (λ t. inr (t.1, ap (λ b. cond b 1 0) t.0, ap (λ b. cond b 0 (h x)) t.0)) (eqb_tells x n)

pub except_le : (n : ℕ) (h : ℕ → ℕ) (xs : List ℕ) → sum_by (except n h) xs ≤ sum_by h xs
except_le n h [] = omega arith
except_le n h (x ∷ xs) = let rest = except_le n h xs in
    ⊎_elim (λ t. let a = t.2 in omega (arith, sum_by-cons h x xs, sum_by-cons (except n h) x xs)) (λ t. let a = t.2 in omega (arith, sum_by-cons h x xs, sum_by-cons (except n h) x xs)) (except_cases n h x)

pub except_none : (n : ℕ) (h : ℕ → ℕ) (xs : List ℕ) → sum_by (equals n) xs ≡ 0 → sum_by (except n h) xs ≡ sum_by h xs
except_none n h [] none = refl
except_none n h (x ∷ xs) none = let both = sum_by-cons (equals n) x xs in let rest = except_none n h xs (omega arith) in
    ⊎_elim (λ t. let a = t.1 in absurd (omega arith)) (λ t. let a = t.2 in omega (arith, sum_by-cons h x xs, sum_by-cons (except n h) x xs)) (except_cases n h x)

pub except_some : (n : ℕ) (h : ℕ → ℕ) (xs : List ℕ) → 1 ≤ sum_by (equals n) xs → sum_by (except n h) xs + h n ≤ sum_by h xs
except_some n h [] some_is = absurd (omega arith)
except_some n h (x ∷ xs) some_is = let both = sum_by-cons (equals n) x xs in
    ⊎_elim (λ (t : (x ≡ n) × (equals n x ≡ 1) × (except n h x ≡ 0)). let a = t.2 in let e : h x ≡ h n = ap h t.0 in let rest = except_le n h xs in omega (arith, sum_by-cons h x xs, sum_by-cons (except n h) x xs))
    (λ t. let a = t.2 in let b = t.1 in let rest = except_some n h xs (omega arith) in omega (arith, sum_by-cons h x xs, sum_by-cons (except n h) x xs)) (except_cases n h x)

without_cases : (n x : ℕ) (xs : List ℕ) → ((x ≡ n) × (without n (x ∷ xs) ≡ xs)) ⊎ ((x ≢ n) × (without n (x ∷ xs) ≡ x ∷ without n xs))
without_cases n x xs = ⊎_elim (λ t. inl (sym t.1, ap (λ b. cond b xs (x ∷ without n xs)) t.0)) (λ t. inr (λ same. t.1 (sym same), ap (λ b. cond b xs (x ∷ without n xs)) t.0)) (eqb_tells n x)

pub sum_without : (n : ℕ) (h : ℕ → ℕ) (xs : List ℕ) → 1 ≤ sum_by (equals n) xs → sum_by h (without n xs) + h n ≡ sum_by h xs
sum_without n h [] some_is = absurd (omega arith)
sum_without n h (x ∷ xs) some_is = let both = sum_by-cons (equals n) x xs in
    ⊎_elim (λ (t : (x ≡ n) × (without n (x ∷ xs) ≡ xs)). let e : h x ≡ h n = ap h t.0 in let w : sum_by h (without n (x ∷ xs)) ≡ sum_by h xs = ap (sum_by h) t.1 in omega (arith, sum_by-cons h x xs))
    (λ (t : (x ≢ n) × (without n (x ∷ xs) ≡ x ∷ without n xs)).
    let other : equals n x ≡ 0 = Rattle.turn_lock.proofs.Numbers.equals_other n x t.0 in
    let rest = sum_without n h xs (omega arith) in
    let w : sum_by h (without n (x ∷ xs)) ≡ sum_by h (x ∷ without n xs) = ap (sum_by h) t.1 in
    omega (arith, sum_by-cons h x xs, sum_by-cons h x (without n xs))) (without_cases n x xs)

pub all_without : (P : ℕ → Type 0) (n : ℕ) (xs : List ℕ) → All P xs → All P (without n xs)
all_without P n [] h = h
all_without P n (x ∷ xs) h = let rest = All-tail P x xs h in
    ⊎_elim (λ (t : (x ≡ n) × (without n (x ∷ xs) ≡ xs)). subst (All P) (sym t.1) rest)
    (λ (t : (x ≢ n) × (without n (x ∷ xs) ≡ x ∷ without n xs)). subst (All P) (sym t.1) (All-cons P x (without n xs) (All-head P x xs h) (all_without P n xs rest))) (without_cases n x xs)

-- a number more that is not among them, and one fewer
pub once_more : (xs : List ℕ) (n : ℕ) → ¬ (Contains xs n) → AreOnce xs → AreOnce (xs ++ n ∷ [])
once_more xs n away are = record { once = λ m. by m (equals_cases m n) } where
  by : (m : ℕ) → ((n ≡ m) × (equals m n ≡ 1)) ⊎ ((n ≢ m) × (equals m n ≡ 0)) → sum_by (equals m) (xs ++ n ∷ []) ≤ 1
  by m (inl t) =
      let none : sum_by (equals m) xs ≡ 0 = ap (λ k. sum_by (equals k) xs) (sym t.0) ∙ contains_here xs n away in
      let here = t.1 in
      omega (arith, sum_by_push (equals m) xs n)
  by m (inr t) = let other = t.1 in let before = are.once m in omega (arith, sum_by_push (equals m) xs n)

pub once_less : (xs : List ℕ) (n : ℕ) → Contains xs n → AreOnce xs → AreOnce (without n xs)
once_less xs n has are = record {
  once = λ m. let less = sum_without n (equals m) xs (contained xs n has) in let before = are.once m in omega arith;
}

pub none_left : (xs : List ℕ) (n : ℕ) → Contains xs n → AreOnce xs → ¬ (Contains (without n xs) n)
none_left xs n has are =
    let less = sum_without n (equals n) xs (contained xs n has) in
    let same = equals_same n in
    let before = are.once n in
    not_contained (without n xs) n (omega arith)
