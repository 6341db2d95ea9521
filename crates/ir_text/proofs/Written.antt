-- A token before a byte that continues no token is cut off there.
use Rattle.std.proofs.Common.{◌≡◌, ℕ, suc, ◌+◌, ◌<◌, Bool, true, false, ◌&&◌, eqb, List, [], ◌∷◌, ◌++◌, length, drop, refl, sym, ap, subst, arith}
use Rattle.std.specs.Prelude.{take_while}
use Rattle.std.specs.List.{list_all}
use Rattle.std.proofs.lemmas.List.Sums.{take_while-cons}
use Rattle.bsan_ids.specs.Names.{is_digit, is_name}
use Rattle.ir_text.specs.Step.{step_of, named}
use Rattle.ir_text.specs.Lexed.{IsForm, Outcome, after_token, Lexed}
use Rattle.ir_text.specs.Laws.{StopsAt, EndsBefore}
use Rattle.ir_text.specs.declared.token.TokenKind.{TokenKind}
use Rattle.ir_text.specs.declared.token.TokenKind.TheVariants.{Word, Local, Global, Number, OpenRound, CloseRound, OpenBrace, CloseBrace, Comma, Colon, Equals, Arrow}
use Rattle.ir_text.specs.declared.step.Step.TheVariants.{Token}
use Rattle.ir_text.proofs.Front.{start_plain, digit_plain}
use Rattle.ir_text.proofs.Steps.{lexed_token, cut_at}

-- the next byte is no name byte, so no digit either
abbrev pub Separates : List ℕ → Type 0
Separates [] = Unit {0}
Separates (c ∷ rest) = (is_name c ≡ false) × (is_digit c ≡ false)

pub run_exact : (p : ℕ → Bool) (bs rest : List ℕ) → list_all p bs ≡ true → length (take_while p rest) ≡ 0 → length (take_while p (bs ++ rest)) ≡ length bs
run_exact p [] rest all none = none
run_exact p (b ∷ bs) rest all none = by_test (p b) refl all (λ h. run_exact p bs rest h none)
  where
    by_test : (x : Bool) → p b ≡ x → (x && list_all p bs) ≡ true → (list_all p bs ≡ true → length (take_while p (bs ++ rest)) ≡ length bs) → length (take_while p (b ∷ (bs ++ rest))) ≡ suc (length bs)
    by_test true t h again = rw (take_while-cons p b (bs ++ rest), t) (ap suc (again h))
    by_test false t h again = absurd cc

pub none_run : (p : ℕ → Bool) (c : ℕ) (rest : List ℕ) → p c ≡ false → length (take_while p (c ∷ rest)) ≡ 0
none_run p c rest t = rw (take_while-cons p c rest, t) refl

none_stops : (p : ℕ → Bool) (rest : List ℕ) → StopsAt p rest → length (take_while p rest) ≡ 0
none_stops p [] h = refl
none_stops p (c ∷ rest) h = none_run p c rest h

named_exact : (k : TokenKind) (b : ℕ) (bs rest : List ℕ) → 0 < length bs → list_all is_name bs ≡ true → StopsAt is_name rest → named k (bs ++ rest) ≡ Token k (length (b ∷ bs))
named_exact k b [] rest lt all h = absurd (omega arith)
named_exact k b (x ∷ bs) rest lt all h =
    let e : length (take_while is_name ((x ∷ bs) ++ rest)) ≡ suc (length bs) = run_exact is_name (x ∷ bs) rest all (none_stops is_name rest h) in
    let n : 1 + suc (length bs) ≡ suc (suc (length bs)) = omega arith in
    let z : eqb (suc (length bs)) 0 ≡ false = suc_not_zero (length bs) in
    rw (e, z) (ap (λ (m : ℕ). Token k m) n)
  where
    suc_not_zero : (n : ℕ) → eqb (suc n) 0 ≡ false
    suc_not_zero n = grind arith

pub exact_step : (k : TokenKind) (b : ℕ) (bs rest : List ℕ) → IsForm k (b ∷ bs) → EndsBefore k rest → step_of b (bs ++ rest) ≡ Token k (length (b ∷ bs))
exact_step Word b bs rest f h =
    let p = start_plain b f.0 in
    let e : length (take_while is_name (bs ++ rest)) ≡ length bs = run_exact is_name bs rest f.1 (none_stops is_name rest h) in
    let n : 1 + length bs ≡ suc (length bs) = omega arith in
    rw (p.0, p.1, f.0, e) (ap (λ (m : ℕ). Token Word m) n)
exact_step Number b bs rest f h =
    let p = digit_plain b f.0 in
    let e : length (take_while is_digit (bs ++ rest)) ≡ length bs = run_exact is_digit bs rest f.1 (none_stops is_digit rest h) in
    let n : 1 + length bs ≡ suc (length bs) = omega arith in
    rw (p.0, p.1, p.2, f.0, e) (ap (λ (m : ℕ). Token Number m) n)
exact_step Local b bs rest f h = rw f.0 (named_exact Local 37 bs rest f.1 f.2 h)
exact_step Global b bs rest f h = rw f.0 (named_exact Global 64 bs rest f.1 f.2 h)
exact_step OpenRound b bs rest f h = rw (f.0, f.1) refl
exact_step CloseRound b bs rest f h = rw (f.0, f.1) refl
exact_step OpenBrace b bs rest f h = rw (f.0, f.1) refl
exact_step CloseBrace b bs rest f h = rw (f.0, f.1) refl
exact_step Comma b bs rest f h = rw (f.0, f.1) refl
exact_step Colon b bs rest f h = rw (f.0, f.1) refl
exact_step Equals b bs rest f h = rw (f.0, f.1) refl
exact_step Arrow b bs rest f h = rw (f.0, f.1) refl

pub drop_front : (bs rest : List ℕ) → drop (length bs) (bs ++ rest) ≡ rest
drop_front [] rest = refl
drop_front (b ∷ bs) rest = drop_front bs rest

-- a token written before bytes that can't continue it is cut there
pub written_token : (k : TokenKind) (bs rest : List ℕ) (at : ℕ) (r : Outcome) → IsForm k bs → EndsBefore k rest → Lexed rest (at + length bs) r → Lexed (bs ++ rest) at (after_token (cut_at k at (length bs)) r)
written_token k [] rest at r f h later = absurd (form_some k f)
  where
    form_some : (k : TokenKind) → IsForm k [] → ⊥
    form_some k f = f
written_token k (b ∷ bs) rest at r f h later =
    lexed_token b (bs ++ rest) k (length (b ∷ bs)) at r (exact_step k b bs rest f h)
    (subst (λ (z : List ℕ). Lexed z (at + length (b ∷ bs)) r) (sym (drop_front (b ∷ bs) rest)) later)

no_name : (rest : List ℕ) → Separates rest → StopsAt is_name rest
no_name [] h = tt
no_name (c ∷ rest) h = h.0

no_digit : (rest : List ℕ) → Separates rest → StopsAt is_digit rest
no_digit [] h = tt
no_digit (c ∷ rest) h = h.1

-- what begins with no name byte ends every token
separated : (k : TokenKind) (rest : List ℕ) → Separates rest → EndsBefore k rest
separated Word rest h = no_name rest h
separated Local rest h = no_name rest h
separated Global rest h = no_name rest h
separated Number rest h = no_digit rest h
separated OpenRound rest h = tt
separated CloseRound rest h = tt
separated OpenBrace rest h = tt
separated CloseBrace rest h = tt
separated Comma rest h = tt
separated Colon rest h = tt
separated Equals rest h = tt
separated Arrow rest h = tt

pub written : (k : TokenKind) (bs rest : List ℕ) (at : ℕ) (r : Outcome) → IsForm k bs → Separates rest → Lexed rest (at + length bs) r → Lexed (bs ++ rest) at (after_token (cut_at k at (length bs)) r)
written k bs rest at r f h later = written_token k bs rest at r f (separated k rest h) later
