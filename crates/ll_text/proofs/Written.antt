-- A token before bytes that can't continue it is cut off there.
use Rattle.std.proofs.Common.{◌≡◌, ℕ, suc, ◌+◌, ◌<◌, Bool, true, false, cond, eqb, List, [], ◌∷◌, ◌++◌, length, take, length-append, refl, sym, ap, subst, ◌∙◌, arith}
use Rattle.std.specs.Prelude.{take_while, nat_lt}
use Rattle.std.specs.List.{list_all}
use Rattle.std.proofs.lemmas.Bool.{lt-ltb}
use Rattle.ll_text.specs.Bytes.{is_part, is_figure, in_quote}
use Rattle.ll_text.specs.Step.{step_of, closed_len, name_len, sized}
use Rattle.ll_text.specs.Lexed.{IsForm, is_closed, is_named, Outcome, after_token, Lexed}
use Rattle.ll_text.specs.Laws.{StopsAt, EndsBefore}
use Rattle.ll_text.specs.declared.token.TokenKind.{TokenKind}
use Rattle.ll_text.specs.declared.token.TokenKind.TheVariants.{Word, Number, Quoted, Local, Global, Comdat, Attribute, Meta, Mark}
use Rattle.ll_text.specs.declared.step.Step.TheVariants.{Token}
use Rattle.ll_text.proofs.Front.{not_head, number_plain, mark_plain, closed_most, not_zero}
use Rattle.ll_text.proofs.Runs.{run_exact, none_run, drop_front}
use Rattle.ll_text.proofs.Steps.{lexed_token, cut_at}

none_stops : (p : ℕ → Bool) (rest : List ℕ) → StopsAt p rest → length (take_while p rest) ≡ 0
none_stops p [] h = refl
none_stops p (c ∷ rest) h = none_run p c rest h

run_ends : (p : ℕ → Bool) (bs rest : List ℕ) → list_all p bs ≡ true → StopsAt p rest → length (take_while p (bs ++ rest)) ≡ length bs
run_ends p bs rest all h = run_exact p bs rest all (none_stops p rest h)

front_of_both : (bs rest : List ℕ) → take (length bs) (bs ++ rest) ≡ bs
front_of_both [] rest = refl
front_of_both (b ∷ bs) rest = ap (λ (z : List ℕ). b ∷ z) (front_of_both bs rest)

closed_exact : (bs rest : List ℕ) → is_closed bs ≡ true → closed_len (bs ++ rest) ≡ length bs
closed_exact bs rest h =
    let m = closed_most (bs ++ rest) (length bs) (omega (arith, length-append bs rest)) (rw (front_of_both bs rest) h) in
    let t : nat_lt (length (take_while in_quote (bs ++ rest))) (length (bs ++ rest)) ≡ true = lt-ltb (length (take_while in_quote (bs ++ rest))) (length (bs ++ rest)) m.0 in
    rw t (omega (arith, m.1))

closed_some : (bs : List ℕ) → is_closed bs ≡ true → 0 < length bs
closed_some [] h = absurd cc
closed_some (b ∷ bs) h = omega arith

named_exact : (bs rest : List ℕ) → is_named bs ≡ true → StopsAt is_part rest → name_len (bs ++ rest) ≡ length bs
named_exact [] rest h stop = absurd cc
named_exact (b ∷ bs) rest h stop = by_test (eqb b 34) refl
  where
    as_closed : (x : Bool) → x ≡ true → cond x (is_closed bs) (list_all is_part (b ∷ bs)) ≡ true → is_closed bs ≡ true
    as_closed true e h = h
    as_closed false e h = absurd cc

    as_run : (x : Bool) → x ≡ false → cond x (is_closed bs) (list_all is_part (b ∷ bs)) ≡ true → list_all is_part (b ∷ bs) ≡ true
    as_run true e h = absurd cc
    as_run false e h = h

    by_test : (x : Bool) → eqb b 34 ≡ x → name_len ((b ∷ bs) ++ rest) ≡ suc (length bs)
    by_test true t =
        let c : is_closed bs ≡ true = as_closed (eqb b 34) t h in
        rw (t, closed_exact bs rest c, not_zero (length bs) (closed_some bs c)) (omega arith)
    by_test false t = rw t (run_ends is_part (b ∷ bs) rest (as_run (eqb b 34) t h) stop)

sized_exact : (k : TokenKind) (n m : ℕ) → n ≡ m → 0 < m → sized k n ≡ Token k (suc m)
sized_exact k n m e lt =
    let more : 1 + m ≡ suc m = omega arith in
    rw (e, not_zero m lt) (ap (λ (x : ℕ). Token k x) more)

named_some : (bs : List ℕ) → is_named bs ≡ true → 0 < length bs
named_some [] h = absurd cc
named_some (b ∷ bs) h = omega arith

run_token : (k : TokenKind) (n m : ℕ) → n ≡ m → Token k (1 + n) ≡ Token k (suc m)
run_token k n m e = let more : 1 + n ≡ suc m = omega (arith, e) in ap (λ (x : ℕ). Token k x) more

exact_step : (k : TokenKind) (b : ℕ) (bs rest : List ℕ) → IsForm k (b ∷ bs) → EndsBefore k rest → step_of b (bs ++ rest) ≡ Token k (length (b ∷ bs))
exact_step Word b bs rest f h = let p = not_head b f.0 in rw (p.0, p.1, f.0) (run_token Word (length (take_while is_part (bs ++ rest))) (length bs) (run_ends is_part bs rest f.1 h))
exact_step Number b bs rest f h =
    let p = number_plain b f.0 in
    rw (p.0, p.1, p.2, f.0) (run_token Number (length (take_while is_figure (bs ++ rest))) (length bs) (run_ends is_figure bs rest f.1 h))
exact_step Quoted b bs rest f h = rw f.0 (sized_exact Quoted (closed_len (bs ++ rest)) (length bs) (closed_exact bs rest f.1) (closed_some bs f.1))
exact_step Local b bs rest f h = rw f.0 (sized_exact Local (name_len (bs ++ rest)) (length bs) (named_exact bs rest f.1 h) (named_some bs f.1))
exact_step Global b bs rest f h = rw f.0 (sized_exact Global (name_len (bs ++ rest)) (length bs) (named_exact bs rest f.1 h) (named_some bs f.1))
exact_step Comdat b bs rest f h = rw f.0 (sized_exact Comdat (name_len (bs ++ rest)) (length bs) (named_exact bs rest f.1 h) (named_some bs f.1))
exact_step Attribute b bs rest f h = rw f.0 (sized_exact Attribute (length (take_while is_part (bs ++ rest))) (length bs) (run_ends is_part bs rest f.2 h) f.1)
exact_step Meta b bs rest f h = rw f.0 (run_token Meta (length (take_while is_part (bs ++ rest))) (length bs) (run_ends is_part bs rest f.1 h))
exact_step (Mark c) b bs rest f h = rw f.2 (mark_plain b f.1 rest ∙ ap (λ (x : ℕ). Token (Mark x) 1) f.0)

-- a token written before bytes that can't continue it is cut there
pub written_token : (k : TokenKind) (bs rest : List ℕ) (at : ℕ) (r : Outcome) → IsForm k bs → EndsBefore k rest → Lexed rest (at + length bs) r → Lexed (bs ++ rest) at (after_token (cut_at k at (length bs)) r)
written_token k [] rest at r f h later = absurd (form_some k f)
  where
    form_some : (k : TokenKind) → IsForm k [] → ⊥
    form_some k f = f
written_token k (b ∷ bs) rest at r f h later =
    lexed_token b (bs ++ rest) k (length (b ∷ bs)) at r (exact_step k b bs rest f h)
    (subst (λ (z : List ℕ). Lexed z (at + length (b ∷ bs)) r) (sym (drop_front (b ∷ bs) rest)) later)
