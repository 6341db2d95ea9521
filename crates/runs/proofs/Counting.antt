-- Counts and weights of entries, in a list and in the merge of logs.
use Rattle.std.proofs.Common.{◌≡◌, ℕ, zero, suc, ◌+◌, ◌≤◌, Bool, true, false, cond, List, [], ◌∷◌, refl, sym, ◌∙◌, ap, inl, inr, arith, length, sum_by}
use Rattle.std.specs.Prelude.{count_by}
use Rattle.std.proofs.lemmas.List.Sums.{sum_by-cons}
use Rattle.history.specs.declared.entry.Entry.{Entry}
use Rattle.history.specs.declared.log.ThreadLog.{ThreadLog}
use Rattle.history.specs.Merge.{by_stamp, put_by_stamp}
use Rattle.runs.specs.Parts.{Has}
use Rattle.runs.specs.Right.{AtLeast}
use Rattle.runs.proofs.MergeLaws.{merged_with, at_most_tells}

-- 1 where the entry passes
abbrev pub one_if : (Entry → Bool) → Entry → ℕ
one_if p e = cond (p e) 1 0

pub one_is : (p : Entry → Bool) (e : Entry) → p e ≡ true → one_if p e ≡ 1
one_is p e is = ap (λ b. cond b 1 0) is

pub none_is : (p : Entry → Bool) (e : Entry) → p e ≡ false → one_if p e ≡ 0
none_is p e is = ap (λ b. cond b 1 0) is

pub count_cons : (p : Entry → Bool) (e : Entry) (es : List Entry) → count_by p (e ∷ es) ≡ one_if p e + count_by p es
count_cons p e es = sum_by-cons (one_if p) e es

pub count_there : (p : Entry → Bool) (es : List Entry) (x : Entry) → Has es x → p x ≡ true → 1 ≤ count_by p es
count_there p [] x h is = absurd h
count_there p (e ∷ es) x (inl same) is = let one = one_is p e (ap p same ∙ is) in omega (arith, count_cons p e es, one)
count_there p (e ∷ es) x (inr h) is = let more = count_there p es x h is in omega (arith, count_cons p e es, more)

pub count_none : (p : Entry → Bool) (es : List Entry) → ((x : Entry) → Has es x → p x ≡ false) → count_by p es ≡ 0
count_none p [] h = refl
count_none p (e ∷ es) h =
    let none = none_is p e (h e (inl refl)) in
    let more = count_none p es (λ x g. h x (inr g)) in
    omega (arith, count_cons p e es, none, more)

-- what passes once is one entry
pub one_passes : (p : Entry → Bool) (es : List Entry) (x y : Entry) → count_by p es ≤ 1 → Has es x → Has es y → p x ≡ true → p y ≡ true → x ≡ y
one_passes p [] x y le h g is also = absurd h
one_passes p (e ∷ es) x y le (inl same) (inl there) is also = sym same ∙ there
one_passes p (e ∷ es) x y le (inl same) (inr g) is also =
    let one = one_is p e (ap p same ∙ is) in
    let more = count_there p es y g also in
    absurd (omega (arith, count_cons p e es, le, one, more))
one_passes p (e ∷ es) x y le (inr h) (inl there) is also =
    let one = one_is p e (ap p there ∙ also) in
    let more = count_there p es x h is in
    absurd (omega (arith, count_cons p e es, le, one, more))
one_passes p (e ∷ es) x y le (inr h) (inr g) is also = one_passes p es x y (omega (arith, count_cons p e es, le)) h g is also

-- the merge has the weight of all entries -----------------------------------------

pub weigh_inserted : (w : Entry → ℕ) (x : Entry) (ys : List Entry) → sum_by w (put_by_stamp x ys) ≡ w x + sum_by w ys
weigh_inserted w x [] = sum_by-cons w x []
weigh_inserted w x (y ∷ ys) = elim (at_most_tells x.stamp.0 y.stamp.0) [
  | inl hit ↦ rw hit.0 (sum_by-cons w x (y ∷ ys))
  | inr miss ↦
      let more = weigh_inserted w x ys in
      rw miss.0 (let all : sum_by w (y ∷ put_by_stamp x ys) ≡ w x + sum_by w (y ∷ ys) = omega (arith, more, sum_by-cons w y (put_by_stamp x ys), sum_by-cons w y ys) in all)
]

pub weigh_with : (w : Entry → ℕ) (xs ys : List Entry) → sum_by w (merged_with xs ys) ≡ sum_by w xs + sum_by w (by_stamp ys)
weigh_with w [] ys = let none : sum_by w [] ≡ 0 = refl in omega (arith, none)
weigh_with w (x ∷ xs) ys =
    let more = weigh_with w xs ys in
    let one = weigh_inserted w x (merged_with xs ys) in
    omega (arith, more, one, sum_by-cons w x xs)

pub length_inserted : (x : Entry) (ys : List Entry) → length (put_by_stamp x ys) ≡ suc (length ys)
length_inserted x [] = refl
length_inserted x (y ∷ ys) = elim (at_most_tells x.stamp.0 y.stamp.0) [
  | inl hit ↦ rw hit.0 refl
  | inr miss ↦ rw miss.0 (ap suc (length_inserted x ys))
]

pub length_with : (xs ys : List Entry) → length (merged_with xs ys) ≡ length xs + length (by_stamp ys)
length_with [] ys = omega arith
length_with (x ∷ xs) ys = let more = length_with xs ys in let one = length_inserted x (merged_with xs ys) in omega (arith, more, one)

-- so many logs ---------------------------------------------------------------------

pub at_least_later : (P : ThreadLog → Type 0) (n : ℕ) (l : ThreadLog) (ls : List ThreadLog) → AtLeast P n ls → AtLeast P n (l ∷ ls)
at_least_later P zero l ls h = tt
at_least_later P (suc n) l ls h = inr h
