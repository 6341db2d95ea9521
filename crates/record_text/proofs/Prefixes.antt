-- A text that is cut at its first byte of a value.
use Rattle.std.proofs.Common.{◌≡◌, ℕ, suc, ◌+◌, ◌<◌, ◌≤◌, ◌==◌, Bool, true, false, not, cond, List, [], ◌∷◌, length, take, drop, None, refl, sym, ap, subst, ◌∙◌, arith}
use Rattle.std.specs.Prelude.{take_while}
use Rattle.std.specs.List.{slice_split, onto_first, prefix_len}
use Rattle.record_text.specs.Reading.{Words, other_than, two_of, three_of, nothing_left}
use Rattle.record_text.specs.Parts.{byte_from}

-- how many bytes stand before the first of this value
abbrev pub place : ℕ → List ℕ → ℕ
place c [] = 0
place c (b ∷ bs) = cond (b == c) 0 (suc (place c bs))

pub place_is : (c : ℕ) (xs : List ℕ) → length (take_while (other_than c) xs) ≡ place c xs
place_is c [] = refl
place_is c (b ∷ bs) = by_test (b == c) (place_is c bs)
  where
    by_test : (t : Bool) → length (take (prefix_len (other_than c) bs) bs) ≡ place c bs → length (take (cond (not t) (1 + prefix_len (other_than c) bs) 0) (b ∷ bs)) ≡ cond t 0 (suc (place c bs))
    by_test true more = refl
    by_test false more =
        let e : 1 + prefix_len (other_than c) bs ≡ suc (prefix_len (other_than c) bs) = omega arith in
        ap (λ (i : ℕ). length (take i (b ∷ bs))) e ∙ ap (λ (i : ℕ). suc i) more

none_split : (c : ℕ) (xs : List ℕ) → length xs ≤ place c xs → slice_split (λ b. b == c) xs ≡ xs ∷ []
none_split c [] h = refl
none_split c (b ∷ bs) h = by_test (b == c) h (none_split c bs)
  where
    by_test : (t : Bool) → suc (length bs) ≤ cond t 0 (suc (place c bs)) → (length bs ≤ place c bs → slice_split (λ b. b == c) bs ≡ bs ∷ [])
        → cond t ([] ∷ slice_split (λ b. b == c) bs) (onto_first b (slice_split (λ b. b == c) bs)) ≡ (b ∷ bs) ∷ []
    by_test true k more = absurd (omega (arith, k))
    by_test false k more = ap (onto_first b) (more (omega (arith, k)))

pub split_none : (c : ℕ) (xs : List ℕ) (n : ℕ) → n ≡ length (take_while (other_than c) xs) → length xs ≤ n → slice_split (λ b. b == c) xs ≡ xs ∷ []
split_none c xs n is h = none_split c xs (omega (arith, is, h, place_is c xs))

place_split : (c : ℕ) (xs : List ℕ) (n : ℕ) → n ≡ place c xs → n < length xs → slice_split (λ b. b == c) xs ≡ take n xs ∷ slice_split (λ b. b == c) (drop (n + 1) xs)
place_split c [] n is h = absurd (omega arith)
place_split c (b ∷ bs) n is h = by_test (b == c) is (place_split c bs)
  where
    by_test : (t : Bool) → n ≡ cond t 0 (suc (place c bs)) → ((m : ℕ) → m ≡ place c bs → m < length bs → slice_split (λ b. b == c) bs ≡ take m bs ∷ slice_split (λ b. b == c) (drop (m + 1) bs))
        → cond t ([] ∷ slice_split (λ b. b == c) bs) (onto_first b (slice_split (λ b. b == c) bs)) ≡ take n (b ∷ bs) ∷ slice_split (λ b. b == c) (drop (n + 1) (b ∷ bs))
    by_test true k more = subst (λ (i : ℕ). [] ∷ slice_split (λ b. b == c) bs ≡ take i (b ∷ bs) ∷ slice_split (λ b. b == c) (drop (i + 1) (b ∷ bs))) (sym k) refl
    by_test false k more =
        let m : ℕ = place c bs in
        let e : suc m + 1 ≡ suc (m + 1) = omega arith in
        let one : onto_first b (slice_split (λ b. b == c) bs) ≡ (b ∷ take m bs) ∷ slice_split (λ b. b == c) (drop (m + 1) bs) = ap (onto_first b) (more m refl (omega (arith, k, h))) in
        subst (λ (i : ℕ). onto_first b (slice_split (λ b. b == c) bs) ≡ take i (b ∷ bs) ∷ slice_split (λ b. b == c) (drop (i + 1) (b ∷ bs))) (sym k)
        (one ∙ ap (λ (i : ℕ). (b ∷ take m bs) ∷ slice_split (λ b. b == c) (drop i (b ∷ bs))) (sym e))

pub split_at : (c : ℕ) (xs first rest : List ℕ) (n : ℕ) → n ≡ length (take_while (other_than c) xs) → n < length xs → first ≡ take n xs → rest ≡ drop (n + 1) xs
    → slice_split (λ b. b == c) xs ≡ first ∷ slice_split (λ b. b == c) rest
split_at c xs first rest n is h front back =
    place_split c xs n (is ∙ place_is c xs) h ∙ ap (λ (v : List ℕ). v ∷ slice_split (λ b. b == c) (drop (n + 1) xs)) (sym front)
    ∙ ap (λ (v : List ℕ). first ∷ slice_split (λ b. b == c) v) (sym back)

-- ---- more parts than are wanted

onto_cons : (b : ℕ) (parts : Words) (P : Words → Type 0) → ((p : List ℕ) (ps : Words) → P (p ∷ ps)) → P (onto_first b parts)
onto_cons b [] P h = h (b ∷ []) []
onto_cons b (p ∷ ps) P h = h (b ∷ p) ps

split_cons : (c : ℕ) (xs : List ℕ) (P : Words → Type 0) → ((p : List ℕ) (ps : Words) → P (p ∷ ps)) → P (slice_split (λ b. b == c) xs)
split_cons c [] P h = h [] []
split_cons c (b ∷ bs) P h = by_test (b == c)
  where
    by_test : (t : Bool) → P (cond t ([] ∷ slice_split (λ b. b == c) bs) (onto_first b (slice_split (λ b. b == c) bs)))
    by_test true = h [] (slice_split (λ b. b == c) bs)
    by_test false = onto_cons b (slice_split (λ b. b == c) bs) P h

pub two_more : (a b : List ℕ) (c : ℕ) (xs : List ℕ) → two_of (a ∷ b ∷ slice_split (λ x. x == c) xs) ≡ None
two_more a b c xs = split_cons c xs (λ ws. two_of (a ∷ b ∷ ws) ≡ None) (λ p ps. refl)

pub three_more : (a b d : List ℕ) (c : ℕ) (xs : List ℕ) → three_of (a ∷ b ∷ d ∷ slice_split (λ x. x == c) xs) ≡ None
three_more a b d c xs = split_cons c xs (λ ws. three_of (a ∷ b ∷ d ∷ ws) ≡ None) (λ p ps. refl)

pub byte_more : (a b : List ℕ) (c : ℕ) (xs : List ℕ) → byte_from (a ∷ b ∷ slice_split (λ x. x == c) xs) ≡ None
byte_more a b c xs = split_cons c xs (λ ws. byte_from (a ∷ b ∷ ws) ≡ None) (λ p ps. refl)

pub nothing_more : {A : Type 0} (a : A) (c : ℕ) (xs : List ℕ) → nothing_left (a, slice_split (λ x. x == c) xs) ≡ None
nothing_more a c xs = split_cons c xs (λ ws. nothing_left (a, ws) ≡ None) (λ p ps. refl)
