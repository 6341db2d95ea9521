-- What the first byte says of the token in front: all of it, and no longer one.
use Rattle.std.proofs.Common.{◌≡◌, ℕ, zero, suc, ◌+◌, ◌≤◌, ◌<◌, Bool, true, false, cond, ◌&&◌, ◌||◌, leb, eqb, List, [], ◌∷◌, length, take, drop, refl, sym, ap, subst, ◌∙◌, arith, ◌⊎◌, inl, inr}
use Rattle.std.specs.Prelude.{take_while, not, nat_lt}
use Rattle.std.specs.List.{list_all}
use Rattle.std.proofs.lemmas.Bool.{eqb-true, leb-true, lt-leb, lt-ltb, ltb-true}
use Rattle.std.proofs.lemmas.List.Sums.{take_while-cons}
use Rattle.bsan_ids.specs.Names.{is_digit}
use Rattle.ll_text.specs.Bytes.{is_blank, in_line, in_quote, is_part, is_figure, begins_word, begins_number, is_mark}
use Rattle.ll_text.specs.Step.{closed_len, name_len, sized, step_of}
use Rattle.ll_text.specs.Lexed.{IsForm, IsComment, is_end, is_closed, is_named}
use Rattle.ll_text.specs.declared.token.TokenKind.{TokenKind}
use Rattle.ll_text.specs.declared.token.TokenKind.TheVariants.{Word, Number, Quoted, Local, Global, Comdat, Attribute, Meta, Mark}
use Rattle.ll_text.specs.declared.step.Step.{Step}
use Rattle.ll_text.specs.declared.step.Step.TheVariants.{Skip, Token, Bad}
use Rattle.ll_text.proofs.Runs.{all_run, run_le, run_most, run_stops, StopsAt}

form_nil : (k : TokenKind) → IsForm k [] → ⊥
form_nil k h = h

-- a byte that passes a test isn't one that fails it
apart : (p : ℕ → Bool) (b c : ℕ) → p b ≡ true → p c ≡ false → eqb b c ≡ false
apart p b c passes fails = by_test (eqb b c) refl
  where
    by_test : (x : Bool) → eqb b c ≡ x → x ≡ false
    by_test true t = let same : p b ≡ p c = ap p (eqb-true b c t) in let q : true ≡ false = sym passes ∙ same ∙ fails in absurd cc
    by_test false t = refl

pub not_head : (b : ℕ) → begins_word b ≡ true → (is_blank b ≡ false) × (eqb b 59 ≡ false)
not_head b h = (rw (apart begins_word b 32 h refl, apart begins_word b 9 h refl, apart begins_word b 13 h refl, apart begins_word b 10 h refl) refl, apart begins_word b 59 h refl)

either : (x y : Bool) → (x || y) ≡ true → (x ≡ true) ⊎ (y ≡ true)
either true y h = inl refl
either false y h = inr h

both : (x y : Bool) → (x && y) ≡ true → (x ≡ true) × (y ≡ true)
both true y h = (refl, h)
both false y h = absurd cc

digit_range : (b : ℕ) → is_digit b ≡ true → (48 ≤ b) × (b ≤ 57)
digit_range b h = let p = both (leb 48 b) (leb b 57) h in (leb-true 48 b p.0, leb-true b 57 p.1)

not_word : (b : ℕ) → b ≤ 64 → eqb b 46 ≡ false → begins_word b ≡ false
not_word b le dot =
    let x : leb 97 b ≡ false = lt-leb 97 b (omega arith) in
    let y : leb 65 b ≡ false = lt-leb 65 b (omega arith) in
    rw (x, y, other b le, dot) refl
  where
    other : (b : ℕ) → b ≤ 64 → eqb b 95 ≡ false
    other b le = by_test (eqb b 95) refl
      where
        by_test : (x : Bool) → eqb b 95 ≡ x → x ≡ false
        by_test true t = let e : b ≡ 95 = eqb-true b 95 t in absurd (omega arith)
        by_test false t = refl

number_range : (b : ℕ) → begins_number b ≡ true → b ≤ 57
number_range b h = elim (either (is_digit b || eqb b 45) (eqb b 43) h) [
  | inl o ↦ elim (either (is_digit b) (eqb b 45) o) [
    | inl d ↦ (digit_range b d).1
    | inr t ↦ let e : b ≡ 45 = eqb-true b 45 t in omega arith
  ]
  | inr t ↦ let e : b ≡ 43 = eqb-true b 43 t in omega arith
]

pub number_plain : (b : ℕ) → begins_number b ≡ true → (is_blank b ≡ false) × (eqb b 59 ≡ false) × (begins_word b ≡ false)
number_plain b h = (
  rw (apart begins_number b 32 h refl, apart begins_number b 9 h refl, apart begins_number b 13 h refl, apart begins_number b 10 h refl) refl,
  apart begins_number b 59 h refl,
  not_word b (let le : b ≤ 57 = number_range b h in omega arith) (apart begins_number b 46 h refl),
)

-- ---- strings and names

pub not_zero : (n : ℕ) → 0 < n → eqb n 0 ≡ false
not_zero n lt = by_test (eqb n 0) refl
  where
    by_test : (x : Bool) → eqb n 0 ≡ x → x ≡ false
    by_test true t = let z : n ≡ 0 = eqb-true n 0 t in absurd (omega arith)
    by_test false t = refl

end_short : (j : ℕ) (rest : List ℕ) → j ≤ length rest → is_end (take j rest) ≡ true → j ≡ 0
end_short zero rest le h = refl
end_short (suc j) [] le h = absurd (omega arith)
end_short (suc j) (x ∷ rest) le h = absurd cc

pub closed_most : (rest : List ℕ) (j : ℕ) → j ≤ length rest → is_closed (take j rest) ≡ true → (length (take_while in_quote rest) < length rest) × (j ≡ suc (length (take_while in_quote rest)))
closed_most rest zero le h = absurd cc
closed_most [] (suc j) le h = absurd (omega arith)
closed_most (x ∷ rest) (suc j) le h = rw (take_while-cons in_quote x rest) (by_test (eqb x 34) h (λ k. closed_most rest j (omega arith) k))
  where
    by_test : (t : Bool) → cond t (is_end (take j rest)) (is_closed (take j rest)) ≡ true
        → (is_closed (take j rest) ≡ true → (length (take_while in_quote rest) < length rest) × (j ≡ suc (length (take_while in_quote rest))))
        → (length (cond (not t) (x ∷ take_while in_quote rest) []) < suc (length rest)) × (suc j ≡ suc (length (cond (not t) (x ∷ take_while in_quote rest) [])))
    by_test true h again = let z : j ≡ 0 = end_short j rest (omega arith) h in (omega arith, ap suc z)
    by_test false h again = let k = again h in (omega (arith, k.0), ap suc k.1)

closed_there : (rest : List ℕ) → length (take_while in_quote rest) < length rest → is_closed (take (suc (length (take_while in_quote rest))) rest) ≡ true
closed_there [] lt = absurd (omega arith)
closed_there (x ∷ rest) lt = by_test (eqb x 34) refl (λ l. closed_there rest l)
  where
    by_test : (t : Bool) → eqb x 34 ≡ t → (length (take_while in_quote rest) < length rest → is_closed (take (suc (length (take_while in_quote rest))) rest) ≡ true) → is_closed (take (suc (length (take_while in_quote (x ∷ rest)))) (x ∷ rest)) ≡ true
    by_test true t again = rw (take_while-cons in_quote x rest, t) refl
    by_test false t again =
        let e : length (take_while in_quote (x ∷ rest)) ≡ suc (length (take_while in_quote rest)) = rw (take_while-cons in_quote x rest, t) refl in
        rw (e, t) (again (omega (arith, e, lt)))

-- what a count of bytes says: they are there and pass, or it is 0
abbrev Counts : (List ℕ → Bool) → List ℕ → ℕ → Type 0
Counts p rest n = (n ≤ length rest) × (0 < n → p (take n rest) ≡ true)

-- and it is of the most that pass
abbrev Most : (List ℕ → Bool) → List ℕ → ℕ → Type 0
Most p rest n = (j : ℕ) → j ≤ length rest → p (take j rest) ≡ true → (j ≤ n) × (0 < n)

pick : {A : Type 0} (P : A → Type 0) (x : Bool) (p q : A) → (x ≡ true → P p) → (x ≡ false → P q) → P (cond x p q)
pick P true p q when unless = when refl
pick P false p q when unless = unless refl

closed_counts : (rest : List ℕ) → Counts is_closed rest (closed_len rest)
closed_counts rest = pick (Counts is_closed rest) (nat_lt (length (take_while in_quote rest)) (length rest)) (1 + length (take_while in_quote rest)) 0
    (λ t. let lt : length (take_while in_quote rest) < length rest = ltb-true (length (take_while in_quote rest)) (length rest) t in
    (omega arith, λ _. rw one_more (closed_there rest lt)))
    (λ _. (omega arith, λ lt. absurd (omega arith)))
  where
    one_more : 1 + length (take_while in_quote rest) ≡ suc (length (take_while in_quote rest))
    one_more = omega arith

closed_is_most : (rest : List ℕ) → Most is_closed rest (closed_len rest)
closed_is_most rest j le h =
    let k = closed_most rest j le h in
    let t : nat_lt (length (take_while in_quote rest)) (length rest) ≡ true = lt-ltb (length (take_while in_quote rest)) (length rest) k.0 in
    rw t (omega (arith, k.1), omega arith)

name_counts : (rest : List ℕ) → Counts is_named rest (name_len rest)
name_counts [] = (omega arith, λ lt. absurd (omega arith))
name_counts (b ∷ rest) = by_test (eqb b 34) refl
  where
    quoted : (n : ℕ) → eqb b 34 ≡ true → Counts is_closed rest n → Counts is_named (b ∷ rest) (cond (eqb n 0) 0 (1 + n))
    quoted zero t c = (omega arith, λ lt. absurd (omega arith))
    quoted (suc n) t c = let e : 1 + suc n ≡ suc (suc n) = omega arith in rw (not_zero (suc n) (omega arith), e) (omega (arith, c.0), λ _. rw t (c.1 (omega arith)))

    plain : (n : ℕ) → eqb b 34 ≡ false → n ≤ length (b ∷ rest) → list_all is_part (take n (b ∷ rest)) ≡ true → Counts is_named (b ∷ rest) n
    plain zero t le h = (omega arith, λ lt. absurd (omega arith))
    plain (suc n) t le h = (le, λ _. rw t h)

    by_test : (x : Bool) → eqb b 34 ≡ x → Counts is_named (b ∷ rest) (name_len (b ∷ rest))
    by_test true t = rw t (quoted (closed_len rest) t (closed_counts rest))
    by_test false t = rw t (plain (length (take_while is_part (b ∷ rest))) t (run_le is_part (b ∷ rest)) (all_run is_part (b ∷ rest)))

name_is_most : (rest : List ℕ) → Most is_named rest (name_len rest)
name_is_most rest zero le h = absurd cc
name_is_most [] (suc j) le h = absurd (omega arith)
name_is_most (b ∷ rest) (suc j) le h = by_test (eqb b 34) refl
  where
    by_test : (x : Bool) → eqb b 34 ≡ x → (suc j ≤ name_len (b ∷ rest)) × (0 < name_len (b ∷ rest))
    by_test true t =
        let h' : is_closed (take j rest) ≡ true = quoted (eqb b 34) t h in
        let m = closed_is_most rest j (omega arith) h' in
        rw (t, not_zero (closed_len rest) m.1) (omega (arith, m.0), omega arith)
      where
        quoted : (x : Bool) → x ≡ true → cond x (is_closed (take j rest)) (list_all is_part (b ∷ take j rest)) ≡ true → is_closed (take j rest) ≡ true
        quoted true e h = h
        quoted false e h = absurd cc
    by_test false t =
        let h' : list_all is_part (b ∷ take j rest) ≡ true = plain (eqb b 34) t h in
        let m : suc j ≤ length (take_while is_part (b ∷ rest)) = run_most is_part (b ∷ rest) (suc j) le h' in
        rw t (m, omega (arith, m))
      where
        plain : (x : Bool) → x ≡ false → cond x (is_closed (take j rest)) (list_all is_part (b ∷ take j rest)) ≡ true → list_all is_part (b ∷ take j rest) ≡ true
        plain true e h = absurd cc
        plain false e h = h

-- ---- a token in front is the one that the first byte says, or a front of it

short_nil : (j : ℕ) (rest : List ℕ) → suc j ≤ length (0 ∷ rest) → take j rest ≡ [] → j ≤ 0
short_nil zero rest le h = omega arith
short_nil (suc j) [] le h = absurd (omega arith)
short_nil (suc j) (x ∷ rest) le h = absurd cc

some_sized : (p : List ℕ → Bool) (k : TokenKind) (rest : List ℕ) (n j : ℕ) → Most p rest n → j ≤ length rest → p (take j rest) ≡ true → (m : ℕ) × (sized k n ≡ Token k m) × (suc j ≤ m)
some_sized p k rest n j most le h = let m = most j le h in (1 + n, rw (not_zero n m.1) refl, omega (arith, m.0))

-- what is known of a mark
abbrev pub IsPlainMark : ℕ → Type 0
IsPlainMark b = (rest : List ℕ) → step_of b rest ≡ Token (Mark b) 1

or_else : (P : ℕ → Type 0) (b c : ℕ) (x : Bool) → P c → (x ≡ true → P b) → (x || eqb b c) ≡ true → P b
or_else P b c x here there h = elim (either x (eqb b c) h) [ inl t ↦ there t | inr t ↦ subst P (sym (eqb-true b c t)) here ]

pub mark_plain : (b : ℕ) → is_mark b ≡ true → IsPlainMark b
mark_plain b h = or_else P b 124 _ (λ r. refl) (or_else P b 58 _ (λ r. refl) (or_else P b 42 _ (λ r. refl) (or_else P b 61 _ (λ r. refl) (or_else P b 44 _ (λ r. refl) (or_else P b 62 _ (λ r. refl) (or_else P b 60 _ (λ r. refl) (or_else P b 93 _ (λ r. refl) (or_else P b 91 _ (λ r. refl) (or_else P b 125 _ (λ r. refl) (or_else P b 123 _ (λ r. refl) (or_else P b 41 _ (λ r. refl) (λ t. subst P (sym (eqb-true b 40 t)) (λ r. refl))))))))))))) h
  where
    P : ℕ → Type 0
    P = IsPlainMark

some_attribute : (rest : List ℕ) (j : ℕ) → j ≤ length rest → 0 < length (take j rest) → list_all is_part (take j rest) ≡ true → (m : ℕ) × (sized Attribute (length (take_while is_part rest)) ≡ Token Attribute m) × (suc j ≤ m)
some_attribute rest zero le some all = absurd (omega arith)
some_attribute rest (suc j) le some all =
    let most : suc j ≤ length (take_while is_part rest) = run_most is_part rest (suc j) le all in
    (1 + length (take_while is_part rest), rw (not_zero (length (take_while is_part rest)) (omega arith)) refl, omega arith)

pub found : (k : TokenKind) (b : ℕ) (rest : List ℕ) (m : ℕ) → m ≤ length (b ∷ rest) → IsForm k (take m (b ∷ rest)) → (n : ℕ) × (step_of b rest ≡ Token k n) × (m ≤ n)
found k b rest zero le h = absurd (form_nil k h)
found Word b rest (suc j) le h =
    let p = not_head b h.0 in
    let most : j ≤ length (take_while is_part rest) = run_most is_part rest j (omega arith) h.1 in
    (1 + length (take_while is_part rest), rw (p.0, p.1, h.0) refl, omega arith)
found Number b rest (suc j) le h =
    let p = number_plain b h.0 in
    let most : j ≤ length (take_while is_figure rest) = run_most is_figure rest j (omega arith) h.1 in
    (1 + length (take_while is_figure rest), rw (p.0, p.1, p.2, h.0) refl, omega arith)
found Quoted b rest (suc j) le h = let s = some_sized is_closed Quoted rest (closed_len rest) j (closed_is_most rest) (omega arith) h.1 in (s.0, rw h.0 s.1, s.2)
found Local b rest (suc j) le h = let s = some_sized is_named Local rest (name_len rest) j (name_is_most rest) (omega arith) h.1 in (s.0, rw h.0 s.1, s.2)
found Global b rest (suc j) le h = let s = some_sized is_named Global rest (name_len rest) j (name_is_most rest) (omega arith) h.1 in (s.0, rw h.0 s.1, s.2)
found Comdat b rest (suc j) le h = let s = some_sized is_named Comdat rest (name_len rest) j (name_is_most rest) (omega arith) h.1 in (s.0, rw h.0 s.1, s.2)
found Attribute b rest (suc j) le h = let s = some_attribute rest j (omega arith) h.1 h.2 in (s.0, rw h.0 s.1, s.2)
found Meta b rest (suc j) le h =
    let most : j ≤ length (take_while is_part rest) = run_most is_part rest j (omega arith) h.1 in
    (1 + length (take_while is_part rest), rw h.0 refl, omega arith)
found (Mark c) b rest (suc j) le h = let z : j ≤ 0 = short_nil j rest le h.2 in (1, mark_plain b h.1 rest ∙ ap (λ (x : ℕ). Token (Mark x) 1) h.0, omega arith)

-- ---- and what the first byte says is there

abbrev pub IsThere : ℕ → List ℕ → Step → Type 0
IsThere b rest (Skip n) = (1 ≤ n) × (n ≤ length (b ∷ rest)) × (((is_blank b ≡ true) × (n ≡ 1)) ⊎ IsComment (take n (b ∷ rest)) (drop n (b ∷ rest)))
IsThere b rest (Token k n) = (1 ≤ n) × (n ≤ length (b ∷ rest)) × IsForm k (take n (b ∷ rest))
IsThere b rest Bad = (is_blank b ≡ false) × (eqb b 59 ≡ false)

there_sized : (p : List ℕ → Bool) (k : TokenKind) (b : ℕ) (rest : List ℕ) (n : ℕ) → (is_blank b ≡ false) × (eqb b 59 ≡ false) → Counts p rest n → ((j : ℕ) → p (take j rest) ≡ true → IsForm k (b ∷ take j rest)) → IsThere b rest (sized k n)
there_sized p k b rest zero plain c form = plain
there_sized p k b rest (suc n) plain c form =
    let e : 1 + suc n ≡ suc (suc n) = omega arith in
    rw (not_zero (suc n) (omega arith), e) (omega arith, omega (arith, c.0), form (suc n) (c.1 (omega arith)))

there_attribute : (b : ℕ) (rest : List ℕ) (n : ℕ) → (is_blank b ≡ false) × (eqb b 59 ≡ false) → b ≡ 35 → n ≤ length rest → list_all is_part (take n rest) ≡ true → IsThere b rest (sized Attribute n)
there_attribute b rest zero plain e le all = plain
there_attribute b [] (suc n) plain e le all = absurd (omega arith)
there_attribute b (x ∷ rest) (suc n) plain e le all =
    let more : 1 + suc n ≡ suc (suc n) = omega arith in
    rw (not_zero (suc n) (omega arith), more) (omega arith, omega arith, (e, omega arith, all))

there_run : (p : ℕ → Bool) (k : TokenKind) (b : ℕ) (rest : List ℕ) → ((bs : List ℕ) → list_all p bs ≡ true → IsForm k (b ∷ bs)) → IsThere b rest (Token k (1 + length (take_while p rest)))
there_run p k b rest form =
    let le : length (take_while p rest) ≤ length rest = run_le p rest in
    let one_more : 1 + length (take_while p rest) ≡ suc (length (take_while p rest)) = omega arith in
    (omega arith, omega arith, rw one_more (form (take (length (take_while p rest)) rest) (all_run p rest)))

there_line : (b : ℕ) (rest : List ℕ) → b ≡ 59 → IsComment (take (1 + length (take_while in_line rest)) (b ∷ rest)) (drop (1 + length (take_while in_line rest)) (b ∷ rest))
there_line b rest e = rw one_more (ends (drop (length (take_while in_line rest)) rest) (run_stops in_line rest) (all_run in_line rest))
  where
    one_more : 1 + length (take_while in_line rest) ≡ suc (length (take_while in_line rest))
    one_more = omega arith

    is_newline : (c : ℕ) → in_line c ≡ false → c ≡ 10
    is_newline c h = by_test (eqb c 10) refl h
      where
        by_test : (x : Bool) → eqb c 10 ≡ x → not x ≡ false → c ≡ 10
        by_test true t h = eqb-true c 10 t
        by_test false t h = absurd cc

    ends : (back : List ℕ) → StopsAt in_line back → list_all in_line (take (length (take_while in_line rest)) rest) ≡ true → IsComment (b ∷ take (length (take_while in_line rest)) rest) back
    ends [] stop all = (e, all)
    ends (c ∷ back) stop all = (e, all, is_newline c stop)

pub there : (b : ℕ) (rest : List ℕ) → IsThere b rest (step_of b rest)
there b rest =
    pick P (is_blank b) (Skip 1) _ (λ t. (omega arith, omega arith, inl (t, refl))) (λ not_blank.
    pick P (eqb b 59) (Skip (1 + length (take_while in_line rest))) _ (λ t. (omega arith, let le : length (take_while in_line rest) ≤ length rest = run_le in_line rest in omega arith, inr (there_line b rest (eqb-true b 59 t)))) (λ no_comment.
    pick P (begins_word b) (Token Word (1 + length (take_while is_part rest))) _ (λ t. there_run is_part Word b rest (λ bs all. (t, all))) (λ _.
    pick P (begins_number b) (Token Number (1 + length (take_while is_figure rest))) _ (λ t. there_run is_figure Number b rest (λ bs all. (t, all))) (λ _.
    pick P (eqb b 34) (sized Quoted (closed_len rest)) _ (λ t. there_sized is_closed Quoted b rest (closed_len rest) (not_blank, no_comment) (closed_counts rest) (λ j h. (eqb-true b 34 t, h))) (λ _.
    pick P (eqb b 37) (sized Local (name_len rest)) _ (λ t. there_sized is_named Local b rest (name_len rest) (not_blank, no_comment) (name_counts rest) (λ j h. (eqb-true b 37 t, h))) (λ _.
    pick P (eqb b 64) (sized Global (name_len rest)) _ (λ t. there_sized is_named Global b rest (name_len rest) (not_blank, no_comment) (name_counts rest) (λ j h. (eqb-true b 64 t, h))) (λ _.
    pick P (eqb b 36) (sized Comdat (name_len rest)) _ (λ t. there_sized is_named Comdat b rest (name_len rest) (not_blank, no_comment) (name_counts rest) (λ j h. (eqb-true b 36 t, h))) (λ _.
    pick P (eqb b 35) (sized Attribute (length (take_while is_part rest))) _ (λ t. there_attribute b rest (length (take_while is_part rest)) (not_blank, no_comment) (eqb-true b 35 t) (run_le is_part rest) (all_run is_part rest)) (λ _.
    pick P (eqb b 33) (Token Meta (1 + length (take_while is_part rest))) _ (λ t. there_run is_part Meta b rest (λ bs all. (eqb-true b 33 t, all))) (λ _.
    pick P (is_mark b) (Token (Mark b) 1) Bad (λ t. (omega arith, omega arith, (refl, t, refl))) (λ _. (not_blank, no_comment))))))))))))
  where
    P : Step → Type 0
    P = IsThere b rest
