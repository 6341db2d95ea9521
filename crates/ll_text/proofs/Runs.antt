-- The bytes in front that pass a test.
use Rattle.std.proofs.Common.{◌≡◌, ℕ, zero, suc, ◌≤◌, Bool, true, false, cond, ◌&&◌, List, [], ◌∷◌, ◌++◌, length, take, drop, refl, ap, arith}
use Rattle.std.specs.Prelude.{take_while}
use Rattle.std.specs.List.{list_all}
use Rattle.std.proofs.lemmas.List.Sums.{take_while-cons}
pub use Rattle.ll_text.specs.Laws.{StopsAt}

run : (ℕ → Bool) → List ℕ → ℕ
run p xs = length (take_while p xs)

pub all_run : (p : ℕ → Bool) (xs : List ℕ) → list_all p (take (length (take_while p xs)) xs) ≡ true
all_run p [] = refl
all_run p (x ∷ xs) = rw (take_while-cons p x xs) (by_test (p x) refl (all_run p xs))
  where
    by_test : (b : Bool) → p x ≡ b → list_all p (take (length (take_while p xs)) xs) ≡ true → list_all p (take (length (cond b (x ∷ take_while p xs) [])) (x ∷ xs)) ≡ true
    by_test true t again = rw t again
    by_test false t again = refl

pub run_le : (p : ℕ → Bool) (xs : List ℕ) → length (take_while p xs) ≤ length xs
run_le p [] = omega arith
run_le p (x ∷ xs) = rw (take_while-cons p x xs) (by_test (p x) (run_le p xs))
  where
    by_test : (b : Bool) → length (take_while p xs) ≤ length xs → length (cond b (x ∷ take_while p xs) []) ≤ length (x ∷ xs)
    by_test true again = omega arith
    by_test false again = omega arith

pub run_most : (p : ℕ → Bool) (xs : List ℕ) (j : ℕ) → j ≤ length xs → list_all p (take j xs) ≡ true → j ≤ length (take_while p xs)
run_most p [] j le h = omega arith
run_most p (x ∷ xs) zero le h = omega arith
run_most p (x ∷ xs) (suc j) le h = rw (take_while-cons p x xs) (by_test (p x) h (λ k. run_most p xs j (omega arith) k))
  where
    by_test : (b : Bool) → (b && list_all p (take j xs)) ≡ true → (list_all p (take j xs) ≡ true → j ≤ length (take_while p xs)) → suc j ≤ length (cond b (x ∷ take_while p xs) [])
    by_test true h again = let k : j ≤ length (take_while p xs) = again h in omega arith
    by_test false h again = absurd cc

-- what is left after them begins with a byte that fails
pub run_stops : (p : ℕ → Bool) (xs : List ℕ) → StopsAt p (drop (length (take_while p xs)) xs)
run_stops p [] = tt
run_stops p (x ∷ xs) = rw (take_while-cons p x xs) (by_test (p x) refl (run_stops p xs))
  where
    by_test : (b : Bool) → p x ≡ b → StopsAt p (drop (length (take_while p xs)) xs) → StopsAt p (drop (length (cond b (x ∷ take_while p xs) [])) (x ∷ xs))
    by_test true t again = again
    by_test false t again = t

pub run_exact : (p : ℕ → Bool) (bs rest : List ℕ) → list_all p bs ≡ true → length (take_while p rest) ≡ 0 → length (take_while p (bs ++ rest)) ≡ length bs
run_exact p [] rest all none = none
run_exact p (b ∷ bs) rest all none = by_test (p b) refl all (λ h. run_exact p bs rest h none)
  where
    by_test : (x : Bool) → p b ≡ x → (x && list_all p bs) ≡ true → (list_all p bs ≡ true → length (take_while p (bs ++ rest)) ≡ length bs) → length (take_while p (b ∷ (bs ++ rest))) ≡ suc (length bs)
    by_test true t h again = rw (take_while-cons p b (bs ++ rest), t) (ap suc (again h))
    by_test false t h again = absurd cc

pub none_run : (p : ℕ → Bool) (c : ℕ) (rest : List ℕ) → p c ≡ false → length (take_while p (c ∷ rest)) ≡ 0
none_run p c rest t = rw (take_while-cons p c rest, t) refl

pub drop_front : (bs rest : List ℕ) → drop (length bs) (bs ++ rest) ≡ rest
drop_front [] rest = refl
drop_front (b ∷ bs) rest = drop_front bs rest
