-- A text has an outcome, and only one.
use Rattle.std.proofs.Common.{◌≡◌, ℕ, zero, suc, ◌+◌, ◌≤◌, ◌<◌, true, List, [], ◌∷◌, ◌++◌, length, take, drop, length-append, length-drop, refl, sym, ap, subst, ◌∙◌, arith, inl, inr}
use Rattle.std.specs.Prelude.{take_while}
use Rattle.std.specs.List.{list_all}
use Rattle.std.proofs.lemmas.Bool.{cases_lt}
use Rattle.ll_text.specs.Bytes.{in_line}
use Rattle.ll_text.specs.Step.{step_of}
use Rattle.ll_text.specs.Lexed.{IsForm, IsLongest, IsComment, IsBad, Outcome, after_token, Lexed}
use Rattle.ll_text.specs.Lexed.Outcome.{good, bad}
use Rattle.ll_text.specs.Lexed.Lexed.{ended, blank, comment, token, refused}
use Rattle.ll_text.specs.declared.token.TokenKind.{TokenKind}
use Rattle.ll_text.specs.declared.step.Step.{Step}
use Rattle.ll_text.specs.declared.step.Step.TheVariants.{Skip, Token, Bad}
use Rattle.ll_text.proofs.Front.{found}
use Rattle.ll_text.proofs.Steps.{at_step, cut_at, lexed_skip, lexed_token, lexed_bad}
use Rattle.ll_text.proofs.Runs.{run_exact, none_run, drop_front}

-- what the first byte says of the outcome
abbrev Next : ℕ → List ℕ → ℕ → Outcome → Step → Type 0
Next b rest at r (Skip n) = (1 ≤ n) × Lexed (drop n (b ∷ rest)) (at + n) r
Next b rest at r (Token k n) = (1 ≤ n) × (later : Outcome) × (r ≡ after_token (cut_at k at n) later) × Lexed (drop n (b ∷ rest)) (at + n) later
Next b rest at r Bad = r ≡ bad at

as_step : (b : ℕ) (rest : List ℕ) (at : ℕ) (r : Outcome) (s : Step) → step_of b rest ≡ s → Next b rest at r s → Next b rest at r (step_of b rest)
as_step b rest at r s e n = subst (Next b rest at r) (sym e) n

no_newline : (rest : List ℕ) (bs : List ℕ) → IsComment (59 ∷ bs) rest → length (take_while in_line rest) ≡ 0
no_newline [] bs h = refl
no_newline (c ∷ rest) bs h = none_run in_line c rest (rw h.2 refl)

in_comment : (bs rest : List ℕ) → IsComment (59 ∷ bs) rest → list_all in_line bs ≡ true
in_comment bs [] h = h.1
in_comment bs (c ∷ rest) h = h.1

sign : (b : ℕ) (bs rest : List ℕ) → IsComment (b ∷ bs) rest → b ≡ 59
sign b bs [] h = h.0
sign b bs (c ∷ rest) h = h.0

take_front : (bs rest : List ℕ) → take (length bs) (bs ++ rest) ≡ bs
take_front [] rest = refl
take_front (b ∷ bs) rest = ap (λ (z : List ℕ). b ∷ z) (take_front bs rest)

by_comment : (b : ℕ) (rest bs later : List ℕ) (at : ℕ) (r : Outcome) → b ∷ rest ≡ bs ++ later → IsComment bs later → Lexed later (at + length bs) r → Next b rest at r (step_of b rest)
by_comment b rest [] later at r e h l = absurd h
by_comment b rest (c ∷ bs) later at r e h l =
    let is : c ≡ 59 = sign c bs later h in
    let h' : IsComment (59 ∷ bs) later = subst (λ (z : ℕ). IsComment (z ∷ bs) later) is h in
    let run : length (take_while in_line (bs ++ later)) ≡ length bs = run_exact in_line bs later (in_comment bs later h') (no_newline later bs h') in
    let n : 1 + length bs ≡ suc (length bs) = omega arith in
    let head : b ≡ 59 = (let q : b ≡ c = cc in q) ∙ is in
    let tail : rest ≡ bs ++ later = cc in
    as_step b rest at r (Skip (suc (length bs))) (rw (head, tail, run) (ap (λ (m : ℕ). Skip m) n))
    (omega arith, subst (λ (z : List ℕ). Lexed z (at + suc (length bs)) r) (sym (ap (λ (z : List ℕ). drop (length bs) z) tail ∙ drop_front bs later)) l)

by_token : (b : ℕ) (rest bs later : List ℕ) (at : ℕ) (k : TokenKind) (r : Outcome) → b ∷ rest ≡ bs ++ later → IsForm k bs → IsLongest (b ∷ rest) (length bs) → Lexed later (at + length bs) r
    → Next b rest at (after_token (cut_at k at (length bs)) r) (step_of b rest)
by_token b rest bs later at k r e f longest l =
    let front : take (length bs) (b ∷ rest) ≡ bs = ap (λ (z : List ℕ). take (length bs) z) e ∙ take_front bs later in
    let back : drop (length bs) (b ∷ rest) ≡ later = ap (λ (z : List ℕ). drop (length bs) z) e ∙ drop_front bs later in
    let le : length bs ≤ length (b ∷ rest) = omega (arith, ap length e, length-append bs later) in
    let s = found k b rest (length bs) le (subst (IsForm k) (sym front) f) in
    let t = at_step b rest (Token k s.0) s.1 in
    let n : s.0 ≡ length bs = same s.0 s.2 t.1 t.2 in
    as_step b rest at (after_token (cut_at k at (length bs)) r) (Token k (length bs)) (s.1 ∙ ap (λ (m : ℕ). Token k m) n)
    (omega (arith, t.0, n), r, refl, subst (λ (z : List ℕ). Lexed z (at + length bs) r) (sym back) l)
  where
    same : (n : ℕ) → length bs ≤ n → n ≤ length (b ∷ rest) → IsForm k (take n (b ∷ rest)) → n ≡ length bs
    same n ge le f = elim (cases_lt (length bs) n) [ inl lt ↦ absurd (longest n k lt le f) | inr small ↦ omega arith ]

by_bad : (b : ℕ) (rest : List ℕ) (at : ℕ) → IsBad b rest → Next b rest at (bad at) (step_of b rest)
by_bad b rest at h = by_step (step_of b rest) refl
  where
    by_step : (s : Step) → step_of b rest ≡ s → Next b rest at (bad at) (step_of b rest)
    by_step (Skip n) e = elim (at_step b rest (Skip n) e).2 [
      | inl x ↦ absurd (h.no_blank x.0)
      | inr x ↦ absurd (not_here n (at_step b rest (Skip n) e).0 x)
    ]
      where
        not_here : (n : ℕ) → 1 ≤ n → IsComment (take n (b ∷ rest)) (drop n (b ∷ rest)) → ⊥
        not_here zero le x = absurd (omega arith)
        not_here (suc n) le x = h.no_comment (sign b (take n rest) (drop n rest) x)
    by_step (Token k n) e = let t = at_step b rest (Token k n) e in absurd (h.no_token n k t.1 t.2)
    by_step Bad e = as_step b rest at (bad at) Bad e refl

next_is : (b : ℕ) (rest : List ℕ) (at : ℕ) (r : Outcome) → Lexed (b ∷ rest) at r → Next b rest at r (step_of b rest)
next_is b rest at r l = go (b ∷ rest) b rest at r refl l
  where
    go : (text : List ℕ) (b : ℕ) (rest : List ℕ) (at : ℕ) (r : Outcome) → b ∷ rest ≡ text → Lexed text at r → Next b rest at r (step_of b rest)
    go _ b rest at _ e (ended _) = absurd cc
    go _ b rest at r e (blank c others _ _ h l) =
        let head : b ≡ c = cc in
        let tail : rest ≡ others = cc in
        as_step b rest at r (Skip 1) (rw (head, h) refl) (omega arith, subst (λ (z : List ℕ). Lexed z (at + 1) r) (sym tail) l)
    go _ b rest at r e (comment text bs later _ _ w h l) = by_comment b rest bs later at r (e ∙ w) h l
    go _ b rest at _ e (token text bs later _ k r w f longest l) = by_token b rest bs later at k r (e ∙ w) f (subst (λ (z : List ℕ). IsLongest z (length bs)) (sym e) longest) l
    go _ b rest at _ e (refused c others _ h) =
        let head : b ≡ c = cc in
        let tail : rest ≡ others = cc in
        by_bad b rest at (subst (λ (z : ℕ). IsBad z rest) (sym head) (subst (λ (z : List ℕ). IsBad c z) (sym tail) h))

nil_is : (text : List ℕ) (at : ℕ) (r : Outcome) → text ≡ [] → Lexed text at r → r ≡ good []
nil_is _ _ _ e (ended at) = refl
nil_is _ _ _ e (blank b rest at r h l) = absurd cc
nil_is _ _ _ e (comment text [] rest at r w h l) = absurd h
nil_is _ _ _ e (comment text (b ∷ bs) rest at r w h l) = let q : [] ≡ b ∷ (bs ++ rest) = sym e ∙ w in absurd cc
nil_is _ _ _ e (token text [] rest at k r w f longest l) = absurd (none k f)
  where
    none : (k : TokenKind) → IsForm k [] → ⊥
    none k f = f
nil_is _ _ _ e (token text (b ∷ bs) rest at k r w f longest l) = let q : [] ≡ b ∷ (bs ++ rest) = sym e ∙ w in absurd cc
nil_is _ _ _ e (refused b rest at h) = absurd cc

one_by : (n : ℕ) (text : List ℕ) (at : ℕ) (r s : Outcome) → length text ≤ n → Lexed text at r → Lexed text at s → r ≡ s
one_by n [] at r s le l m = nil_is [] at r refl l ∙ sym (nil_is [] at s refl m)
one_by zero (b ∷ rest) at r s le l m = absurd (omega arith)
one_by (suc n) (b ∷ rest) at r s le l m = by_step (λ x i o p lt u v. one_by n x i o p (omega arith) u v) (step_of b rest) (next_is b rest at r l) (next_is b rest at s m)
  where
    fewer : (k : ℕ) → 1 ≤ k → length (drop k (b ∷ rest)) < suc (length rest)
    fewer k le = omega (arith, length-drop k (b ∷ rest))

    by_step : ((x : List ℕ) (i : ℕ) (o p : Outcome) → length x < suc (length rest) → Lexed x i o → Lexed x i p → o ≡ p) → (t : Step) → Next b rest at r t → Next b rest at s t → r ≡ s
    by_step again (Skip k) u v = again (drop k (b ∷ rest)) (at + k) r s (fewer k u.0) u.1 v.1
    by_step again (Token kind k) u v = u.2 ∙ ap (after_token (cut_at kind at k)) (again (drop k (b ∷ rest)) (at + k) u.1 v.1 (fewer k u.0) u.3 v.3) ∙ sym v.2
    by_step again Bad u v = u ∙ sym v

pub one_outcome : (text : List ℕ) (at : ℕ) (r s : Outcome) → Lexed text at r → Lexed text at s → r ≡ s
one_outcome text at r s l m = one_by (length text) text at r s (omega arith) l m

outcome_by : (n : ℕ) (text : List ℕ) (at : ℕ) → length text ≤ n → (r : Outcome) × Lexed text at r
outcome_by n [] at le = (good [], ended at)
outcome_by zero (b ∷ rest) at le = absurd (omega arith)
outcome_by (suc n) (b ∷ rest) at le = by_step (λ x i lt. outcome_by n x i (omega arith)) (step_of b rest) refl
  where
    fewer : (k : ℕ) → 1 ≤ k → length (drop k (b ∷ rest)) < suc (length rest)
    fewer k le = omega (arith, length-drop k (b ∷ rest))

    by_step : ((x : List ℕ) (i : ℕ) → length x < suc (length rest) → (r : Outcome) × Lexed x i r) → (s : Step) → step_of b rest ≡ s → (r : Outcome) × Lexed (b ∷ rest) at r
    by_step again (Skip k) e =
        let t = at_step b rest (Skip k) e in
        let later = again (drop k (b ∷ rest)) (at + k) (fewer k t.0) in
        (later.0, lexed_skip b rest k at later.0 e later.1)
    by_step again (Token kind k) e =
        let t = at_step b rest (Token kind k) e in
        let later = again (drop k (b ∷ rest)) (at + k) (fewer k t.0) in
        (after_token (cut_at kind at k) later.0, lexed_token b rest kind k at later.0 e later.1)
    by_step again Bad e = (bad at, lexed_bad b rest at e)

pub some_outcome : (text : List ℕ) (at : ℕ) → (r : Outcome) × Lexed text at r
some_outcome text at = outcome_by (length text) text at (omega arith)
