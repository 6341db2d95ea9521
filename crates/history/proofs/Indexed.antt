-- The pair at an index of a piece.
use Rattle.std.proofs.Common.{◌≡◌, ℕ, zero, suc, ◌+◌, ◌-◌, ◌<◌, ◌≤◌, Option, Some, None, List, [], ◌∷◌, ◌++◌, length, length-append, slice_get, refl, ap, ◌∙◌, arith}
use Rattle.std.specs.List.{zip}
use Rattle.bsan_ids.specs.declared.numbers.Prov.{Prov}
use Rattle.bsan_ids.specs.declared.numbers.Frag.{Frag}
use Rattle.history.specs.declared.piece.Run.{Run}
use Rattle.history.proofs.Runs.{length-zip}
use Rattle.history.specs.Pieces.{fragments_from, run_of, fragments_of}

pub slice_get-left : {A : Type 0} (xs ys : List A) (k : ℕ) → k < length xs → slice_get (xs ++ ys) k ≡ slice_get xs k
slice_get-left [] ys k lt = absurd (omega (arith, lt))
slice_get-left (x ∷ xs) ys zero lt = refl
slice_get-left (x ∷ xs) ys (suc k) lt = slice_get-left xs ys k (omega (arith, lt))

pub slice_get-right : {A : Type 0} (xs ys : List A) (k : ℕ) → slice_get (xs ++ ys) (length xs + k) ≡ slice_get ys k
slice_get-right [] ys k = let same : 0 + k ≡ k = omega arith in ap (λ (i : ℕ). slice_get ys i) same
slice_get-right (x ∷ xs) ys k =
    let less : length (x ∷ xs) + k ≡ suc (length xs + k) = omega arith in
    ap (λ (i : ℕ). slice_get (x ∷ (xs ++ ys)) i) less ∙ slice_get-right xs ys k

fragments_from-get : (prov : Prov) (index n k : ℕ) → k < n → slice_get (fragments_from prov index n) k ≡ Some (Some (record { prov = prov; index = index + k }))
fragments_from-get prov index zero k lt = absurd (omega (arith, lt))
fragments_from-get prov index (suc n) zero lt =
    let same : index ≡ index + 0 = omega arith in
    ap (λ (i : ℕ). Some (Some (record { prov = prov; index = i }))) same
fragments_from-get prov index (suc n) (suc k) lt =
    let place : index + 1 + k ≡ index + suc k = omega arith in
    fragments_from-get prov (index + 1) n k (omega (arith, lt))
    ∙ ap (λ (i : ℕ). Some (Some (record { prov = prov; index = i }))) place

pub none_run_at : (len k : ℕ) → k < len → slice_get (run_of len None) k ≡ Some None
none_run_at zero k lt = absurd (omega (arith, lt))
none_run_at (suc len) zero lt = refl
none_run_at (suc len) (suc k) lt = none_run_at len k (omega (arith, lt))

pub some_run_at : (len k : ℕ) (first : Frag) → k < len → slice_get (run_of len (Some first)) k ≡ Some (Some (record first { index = first.index + k }))
some_run_at len k first lt = fragments_from-get first.prov first.index len k lt

length-fragments_from : (prov : Prov) (index n : ℕ) → length (fragments_from prov index n) ≡ n
length-fragments_from prov index zero = refl
length-fragments_from prov index (suc n) = ap (λ (k : ℕ). suc k) (length-fragments_from prov (index + 1) n)

length-none : (n : ℕ) → length (run_of n None) ≡ n
length-none zero = refl
length-none (suc n) = ap (λ (k : ℕ). suc k) (length-none n)

pub length-run_of : (len : ℕ) (first : Option Frag) → length (run_of len first) ≡ len
length-run_of len None = length-none len
length-run_of len (Some first) = length-fragments_from first.prov first.index len

-- a byte of the first run
pub first_run_at : (run : Run) (runs : List Run) (k : ℕ) → k < run.len → slice_get (fragments_of (run ∷ runs)) k ≡ slice_get (run_of run.len run.first) k
first_run_at run runs k lt =
    slice_get-left (run_of run.len run.first) (fragments_of runs) k (omega (arith, lt, length-run_of run.len run.first))

-- a byte after the first run
pub later_run_at : (run : Run) (runs : List Run) (k : ℕ) → run.len ≤ k → slice_get (fragments_of (run ∷ runs)) k ≡ slice_get (fragments_of runs) (k - run.len)
later_run_at run runs k le =
    let place : k ≡ length (run_of run.len run.first) + (k - run.len) = omega (arith, le, length-run_of run.len run.first) in
    ap (λ (i : ℕ). slice_get (fragments_of (run ∷ runs)) i) place
    ∙ slice_get-right (run_of run.len run.first) (fragments_of runs) (k - run.len)

pub length_fragments : (run : Run) (runs : List Run) → length (fragments_of (run ∷ runs)) ≡ run.len + length (fragments_of runs)
length_fragments run runs =
    length-append (run_of run.len run.first) (fragments_of runs)
    ∙ ap (λ (n : ℕ). n + length (fragments_of runs)) (length-run_of run.len run.first)

pub pair_at : {A B : Type 0} (xs : List A) (ys : List B) (k : ℕ) (a : A) (b : B) → slice_get xs k ≡ Some a → slice_get ys k ≡ Some b → slice_get (zip xs ys) k ≡ Some (a, b)
pair_at [] ys zero a b e f = absurd (let none : None ≡ Some a = e in cc)
pair_at [] ys (suc k) a b e f = absurd (let none : None ≡ Some a = e in cc)
pair_at (x ∷ xs) [] zero a b e f = absurd (let none : None ≡ Some b = f in cc)
pair_at (x ∷ xs) [] (suc k) a b e f = absurd (let none : None ≡ Some b = f in cc)
pair_at (x ∷ xs) (y ∷ ys) zero a b e f =
    let first : x ≡ a = cc in
    let second : y ≡ b = cc in
    rw (first, second) refl
pair_at (x ∷ xs) (y ∷ ys) (suc k) a b e f = pair_at xs ys k a b e f

pub length_pairs : {A B : Type 0} (xs : List A) (ys : List B) → length xs ≡ length ys → length (zip xs ys) ≡ length xs
length_pairs xs ys e = length-zip xs ys e
