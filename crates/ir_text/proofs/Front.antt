-- What the first byte says of the token in front: all of it, and no longer one.
use Rattle.std.proofs.Common.{◌≡◌, ℕ, zero, suc, ◌+◌, ◌≤◌, ◌<◌, Bool, true, false, cond, ◌&&◌, leb, eqb, List, [], ◌∷◌, length, take, drop, Option, Some, None, refl, sym, ap, ◌∙◌, arith, ◌⊎◌, inl, inr}
use Rattle.std.specs.Prelude.{take_while, not}
use Rattle.std.specs.List.{list_all}
use Rattle.std.proofs.lemmas.Bool.{eqb-true, leb-true, lt-leb}
use Rattle.bsan_ids.specs.Names.{is_digit, is_start, is_name}
use Rattle.ir_text.specs.Bytes.{is_blank, in_line, mark_of}
use Rattle.ir_text.specs.Step.{named, arrow_of, marked, step_of}
use Rattle.ir_text.specs.Lexed.{IsForm, IsComment}
use Rattle.ir_text.specs.declared.token.TokenKind.{TokenKind}
use Rattle.ir_text.specs.declared.token.TokenKind.TheVariants.{Word, Local, Global, Number, OpenRound, CloseRound, OpenBrace, CloseBrace, Comma, Colon, Equals, Arrow}
use Rattle.ir_text.specs.declared.step.Step.{Step}
use Rattle.ir_text.specs.declared.step.Step.TheVariants.{Skip, Token, Bad}
use Rattle.ir_text.proofs.Runs.{all_run, run_le, run_most, run_stops, StopsAt}

form_nil : (k : TokenKind) → IsForm k [] → ⊥
form_nil k h = h

-- a byte that passes a test isn't one that fails it
apart : (p : ℕ → Bool) (b c : ℕ) → p b ≡ true → p c ≡ false → eqb b c ≡ false
apart p b c passes fails = by_test (eqb b c) refl
  where
    by_test : (x : Bool) → eqb b c ≡ x → x ≡ false
    by_test true t = let same : p b ≡ p c = ap p (eqb-true b c t) in let q : true ≡ false = sym passes ∙ same ∙ fails in absurd cc
    by_test false t = refl

and_right : (x y : Bool) → (x && y) ≡ true → y ≡ true
and_right true y h = h
and_right false y h = absurd cc

pub start_plain : (b : ℕ) → is_start b ≡ true → (is_blank b ≡ false) × (eqb b 59 ≡ false)
start_plain b h = (rw (apart is_start b 32 h refl, apart is_start b 9 h refl, apart is_start b 13 h refl, apart is_start b 10 h refl) refl, apart is_start b 59 h refl)

pub digit_plain : (b : ℕ) → is_digit b ≡ true → (is_blank b ≡ false) × (eqb b 59 ≡ false) × (is_start b ≡ false)
digit_plain b h =
    let low : b ≤ 57 = leb-true b 57 (and_right (leb 48 b) (leb b 57) h) in
    let x : leb 97 b ≡ false = lt-leb 97 b (omega arith) in
    let y : leb 65 b ≡ false = lt-leb 65 b (omega arith) in
    (rw (apart is_digit b 32 h refl, apart is_digit b 9 h refl, apart is_digit b 13 h refl, apart is_digit b 10 h refl) refl, apart is_digit b 59 h refl, rw (x, y, apart is_digit b 95 h refl) refl)

-- ---- a token in front is the one that the first byte says, or a front of it

short_nil : (j : ℕ) (rest : List ℕ) → suc j ≤ length (0 ∷ rest) → take j rest ≡ [] → j ≤ 0
short_nil zero rest le h = omega arith
short_nil (suc j) [] le h = absurd (omega arith)
short_nil (suc j) (x ∷ rest) le h = absurd cc

some_named : (k : TokenKind) (rest : List ℕ) (j : ℕ) → j ≤ length rest → 0 < length (take j rest) → list_all is_name (take j rest) ≡ true → (n : ℕ) × (named k rest ≡ Token k n) × (suc j ≤ n)
some_named k rest j le some all =
    let most : j ≤ length (take_while is_name rest) = run_most is_name rest j le all in
    let pos : 0 < length (take_while is_name rest) = some_run j rest most some in
    (1 + length (take_while is_name rest), rw (not_zero (length (take_while is_name rest)) pos) refl, omega arith)
  where
    not_zero : (n : ℕ) → 0 < n → eqb n 0 ≡ false
    not_zero n lt = by_test (eqb n 0) refl
      where
        by_test : (x : Bool) → eqb n 0 ≡ x → x ≡ false
        by_test true t = let z : n ≡ 0 = eqb-true n 0 t in absurd (omega arith)
        by_test false t = refl

    some_run : (j : ℕ) (rest : List ℕ) → j ≤ length (take_while is_name rest) → 0 < length (take j rest) → 0 < length (take_while is_name rest)
    some_run zero rest le some = absurd (omega arith)
    some_run (suc j) rest le some = omega arith

pub found : (k : TokenKind) (b : ℕ) (rest : List ℕ) (m : ℕ) → m ≤ length (b ∷ rest) → IsForm k (take m (b ∷ rest)) → (n : ℕ) × (step_of b rest ≡ Token k n) × (m ≤ n)
found k b rest zero le h = absurd (form_nil k h)
found Word b rest (suc j) le h =
    let p = start_plain b h.0 in
    let most : j ≤ length (take_while is_name rest) = run_most is_name rest j (omega arith) h.1 in
    (1 + length (take_while is_name rest), rw (p.0, p.1, h.0) refl, omega arith)
found Number b rest (suc j) le h =
    let p = digit_plain b h.0 in
    let most : j ≤ length (take_while is_digit rest) = run_most is_digit rest j (omega arith) h.1 in
    (1 + length (take_while is_digit rest), rw (p.0, p.1, p.2, h.0) refl, omega arith)
found Local b rest (suc j) le h = let s = some_named Local rest j (omega arith) h.1 h.2 in (s.0, rw h.0 s.1, s.2)
found Global b rest (suc j) le h = let s = some_named Global rest j (omega arith) h.1 h.2 in (s.0, rw h.0 s.1, s.2)
found OpenRound b rest (suc j) le h = let z : j ≤ 0 = short_nil j rest le h.1 in (1, rw h.0 refl, omega arith)
found CloseRound b rest (suc j) le h = let z : j ≤ 0 = short_nil j rest le h.1 in (1, rw h.0 refl, omega arith)
found OpenBrace b rest (suc j) le h = let z : j ≤ 0 = short_nil j rest le h.1 in (1, rw h.0 refl, omega arith)
found CloseBrace b rest (suc j) le h = let z : j ≤ 0 = short_nil j rest le h.1 in (1, rw h.0 refl, omega arith)
found Comma b rest (suc j) le h = let z : j ≤ 0 = short_nil j rest le h.1 in (1, rw h.0 refl, omega arith)
found Colon b rest (suc j) le h = let z : j ≤ 0 = short_nil j rest le h.1 in (1, rw h.0 refl, omega arith)
found Equals b rest (suc j) le h = let z : j ≤ 0 = short_nil j rest le h.1 in (1, rw h.0 refl, omega arith)
found Arrow b rest (suc j) le h = found_arrow b rest j le h.0 h.1
  where
    found_arrow : (b : ℕ) (rest : List ℕ) (j : ℕ) → suc j ≤ length (b ∷ rest) → b ≡ 45 → take j rest ≡ 62 ∷ [] → (n : ℕ) × (step_of b rest ≡ Token Arrow n) × (suc j ≤ n)
    found_arrow b [] zero le h t = absurd cc
    found_arrow b [] (suc j) le h t = absurd (omega arith)
    found_arrow b (c ∷ rest) zero le h t = absurd cc
    found_arrow b (c ∷ rest) (suc j) le h t =
        let e : c ≡ 62 = cc in
        let n : take j rest ≡ [] = cc in
        let z : j ≤ 0 = short_nil j rest (omega arith) n in
        (2, rw (h, e) refl, omega arith)

-- ---- and what the first byte says is there

pick : {A : Type 0} (P : A → Type 0) (x : Bool) (p q : A) → (x ≡ true → P p) → (x ≡ false → P q) → P (cond x p q)
pick P true p q when unless = when refl
pick P false p q when unless = unless refl

abbrev pub IsThere : ℕ → List ℕ → Step → Type 0
IsThere b rest (Skip n) = (1 ≤ n) × (n ≤ length (b ∷ rest)) × (((is_blank b ≡ true) × (n ≡ 1)) ⊎ IsComment (take n (b ∷ rest)) (drop n (b ∷ rest)))
IsThere b rest (Token k n) = (1 ≤ n) × (n ≤ length (b ∷ rest)) × IsForm k (take n (b ∷ rest))
IsThere b rest Bad = (is_blank b ≡ false) × (eqb b 59 ≡ false)

there_named : (k : TokenKind) (b : ℕ) (rest : List ℕ) → (is_blank b ≡ false) × (eqb b 59 ≡ false) → ((n : ℕ) → 0 < length (take n rest) → list_all is_name (take n rest) ≡ true → IsForm k (b ∷ take n rest)) → IsThere b rest (named k rest)
there_named k b rest plain form = pick (IsThere b rest) (eqb (length (take_while is_name rest)) 0) Bad (Token k (1 + length (take_while is_name rest)))
    (λ t. plain)
    (λ t.
    let le : length (take_while is_name rest) ≤ length rest = run_le is_name rest in
    (omega arith, omega arith, rw one_more (form (length (take_while is_name rest)) (some (length (take_while is_name rest)) rest le t) (all_run is_name rest))))
  where
    one_more : 1 + length (take_while is_name rest) ≡ suc (length (take_while is_name rest))
    one_more = omega arith

    some : (n : ℕ) (rest : List ℕ) → n ≤ length rest → eqb n 0 ≡ false → 0 < length (take n rest)
    some zero rest le t = absurd cc
    some (suc n) [] le t = absurd (omega arith)
    some (suc n) (x ∷ rest) le t = omega arith

there_line : (b : ℕ) (rest : List ℕ) → b ≡ 59 → IsComment (take (1 + length (take_while in_line rest)) (b ∷ rest)) (drop (1 + length (take_while in_line rest)) (b ∷ rest))
there_line b rest e = rw one_more (ends (drop (length (take_while in_line rest)) rest) (run_stops in_line rest) (all_run in_line rest))
  where
    one_more : 1 + length (take_while in_line rest) ≡ suc (length (take_while in_line rest))
    one_more = omega arith

    is_newline : (c : ℕ) → in_line c ≡ false → c ≡ 10
    is_newline c h = by_test (eqb c 10) refl h
      where
        by_test : (x : Bool) → eqb c 10 ≡ x → not x ≡ false → c ≡ 10
        by_test true t h = eqb-true c 10 t
        by_test false t h = absurd cc

    ends : (back : List ℕ) → StopsAt in_line back → list_all in_line (take (length (take_while in_line rest)) rest) ≡ true → IsComment (b ∷ take (length (take_while in_line rest)) rest) back
    ends [] stop all = (e, all)
    ends (c ∷ back) stop all = (e, all, is_newline c stop)

there_mark : (b : ℕ) (rest : List ℕ) → (is_blank b ≡ false) × (eqb b 59 ≡ false) → IsThere b rest (marked (mark_of b))
there_mark b rest plain =
    pick P (eqb b 40) (Some OpenRound) _ (λ t. one (eqb-true b 40 t, refl)) (λ _.
    pick P (eqb b 41) (Some CloseRound) _ (λ t. one (eqb-true b 41 t, refl)) (λ _.
    pick P (eqb b 123) (Some OpenBrace) _ (λ t. one (eqb-true b 123 t, refl)) (λ _.
    pick P (eqb b 125) (Some CloseBrace) _ (λ t. one (eqb-true b 125 t, refl)) (λ _.
    pick P (eqb b 44) (Some Comma) _ (λ t. one (eqb-true b 44 t, refl)) (λ _.
    pick P (eqb b 58) (Some Colon) _ (λ t. one (eqb-true b 58 t, refl)) (λ _.
    pick P (eqb b 61) (Some Equals) None (λ t. one (eqb-true b 61 t, refl)) (λ _. plain)))))))
  where
    P : Option TokenKind → Type 0
    P o = IsThere b rest (marked o)

    one : {X : Type 0} → X → (1 ≤ 1) × (1 ≤ length (b ∷ rest)) × X
    one x = (omega arith, omega arith, x)

there_arrow : (b : ℕ) (rest : List ℕ) → (is_blank b ≡ false) × (eqb b 59 ≡ false) → b ≡ 45 → IsThere b rest (arrow_of rest)
there_arrow b [] plain e = plain
there_arrow b (c ∷ rest) plain e = pick (IsThere b (c ∷ rest)) (eqb c 62) (Token Arrow 2) Bad (λ t. (omega arith, omega arith, (e, rw (eqb-true c 62 t) refl))) (λ _. plain)

pub there : (b : ℕ) (rest : List ℕ) → IsThere b rest (step_of b rest)
there b rest =
    pick P (is_blank b) (Skip 1) _ (λ t. (omega arith, omega arith, inl (t, refl))) (λ not_blank.
    pick P (eqb b 59) (Skip (1 + length (take_while in_line rest))) _ (λ t. (omega arith, let le : length (take_while in_line rest) ≤ length rest = run_le in_line rest in omega arith, inr (there_line b rest (eqb-true b 59 t)))) (λ no_comment.
    pick P (is_start b) (Token Word (1 + length (take_while is_name rest))) _ (λ t. there_word t) (λ _.
    pick P (is_digit b) (Token Number (1 + length (take_while is_digit rest))) _ (λ t. there_number t) (λ _.
    pick P (eqb b 37) (named Local rest) _ (λ t. there_named Local b rest (not_blank, no_comment) (λ n some all. (eqb-true b 37 t, some, all))) (λ _.
    pick P (eqb b 64) (named Global rest) _ (λ t. there_named Global b rest (not_blank, no_comment) (λ n some all. (eqb-true b 64 t, some, all))) (λ _.
    pick P (eqb b 45) (arrow_of rest) (marked (mark_of b)) (λ t. there_arrow b rest (not_blank, no_comment) (eqb-true b 45 t)) (λ _.
    there_mark b rest (not_blank, no_comment))))))))
  where
    P : Step → Type 0
    P = IsThere b rest

    there_word : is_start b ≡ true → IsThere b rest (Token Word (1 + length (take_while is_name rest)))
    there_word t =
        let le : length (take_while is_name rest) ≤ length rest = run_le is_name rest in
        let one_more : 1 + length (take_while is_name rest) ≡ suc (length (take_while is_name rest)) = omega arith in
        (omega arith, omega arith, rw one_more (t, all_run is_name rest))

    there_number : is_digit b ≡ true → IsThere b rest (Token Number (1 + length (take_while is_digit rest)))
    there_number t =
        let le : length (take_while is_digit rest) ≤ length rest = run_le is_digit rest in
        let one_more : 1 + length (take_while is_digit rest) ≡ suc (length (take_while is_digit rest)) = omega arith in
        (omega arith, omega arith, rw one_more (t, all_run is_digit rest))
