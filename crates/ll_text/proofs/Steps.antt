-- One step of the loop, and what it means for the whole text.
use Rattle.std.proofs.Common.{◌≡◌, ℕ, zero, suc, ◌+◌, ◌≤◌, ◌<◌, true, false, eqb, List, [], ◌∷◌, ◌++◌, length, take, drop, get_or, length-take, length-drop, drop-cons, add-one, refl, sym, ap, subst, ◌∙◌, append_assoc, arith, inl, inr}
use Rattle.std.proofs.lemmas.List.{append-nil, take-append-drop, drop-drop}
use Rattle.ll_text.specs.Step.{step_of}
use Rattle.ll_text.specs.Lexed.{IsForm, Outcome, after_token, Lexed}
pub use Rattle.ll_text.specs.Lexed.{cut_at}
use Rattle.ll_text.specs.Lexed.Outcome.{good, bad}
use Rattle.ll_text.specs.Lexed.Lexed.{ended, blank, comment, token, refused}
use Rattle.ll_text.specs.declared.token.TokenKind.{TokenKind}
use Rattle.ll_text.specs.declared.token.Token.{Token as Cut}
use Rattle.ll_text.specs.declared.step.Step.{Step}
use Rattle.ll_text.specs.declared.step.Step.TheVariants.{Skip, Token, Bad}
use Rattle.ll_text.proofs.Front.{found, IsThere, there}

pub at_step : (b : ℕ) (rest : List ℕ) (s : Step) → step_of b rest ≡ s → IsThere b rest s
at_step b rest s e = subst (λ (z : Step). IsThere b rest z) e (there b rest)

pub lexed_token : (b : ℕ) (rest : List ℕ) (k : TokenKind) (n at : ℕ) (r : Outcome) → step_of b rest ≡ Token k n → Lexed (drop n (b ∷ rest)) (at + n) r → Lexed (b ∷ rest) at (after_token (cut_at k at n) r)
lexed_token b rest k n at r e later =
    let t = at_step b rest (Token k n) e in
    let len : length (take n (b ∷ rest)) ≡ n = omega (arith, length-take n (b ∷ rest), t.1) in
    subst (λ (z : ℕ). Lexed (drop n (b ∷ rest)) (at + z) r → Lexed (b ∷ rest) at (after_token (cut_at k at z) r)) len
    (λ later'. token (b ∷ rest) (take n (b ∷ rest)) (drop n (b ∷ rest)) at k r (sym (take-append-drop n (b ∷ rest))) t.2 (λ m j lt le h. longest m j (omega (arith, len, lt)) le h) later') later
  where
    longest : (m : ℕ) (j : TokenKind) → n < m → m ≤ length (b ∷ rest) → IsForm j (take m (b ∷ rest)) → ⊥
    longest m j lt le h =
        let f = found j b rest m le h in
        let same : Token k n ≡ Token j f.0 = sym e ∙ f.1 in
        let len : n ≡ f.0 = cc in
        absurd (omega (arith, f.2))

pub lexed_skip : (b : ℕ) (rest : List ℕ) (n at : ℕ) (r : Outcome) → step_of b rest ≡ Skip n → Lexed (drop n (b ∷ rest)) (at + n) r → Lexed (b ∷ rest) at r
lexed_skip b rest n at r e later =
    let t = at_step b rest (Skip n) e in
    let len : length (take n (b ∷ rest)) ≡ n = omega (arith, length-take n (b ∷ rest), t.1) in
    elim t.2 [
      | inl h ↦ blank b rest at r h.0 (subst (λ (z : ℕ). Lexed (drop z (b ∷ rest)) (at + z) r) h.1 later)
      | inr h ↦ comment (b ∷ rest) (take n (b ∷ rest)) (drop n (b ∷ rest)) at r (sym (take-append-drop n (b ∷ rest))) h (subst (λ (z : ℕ). Lexed (drop n (b ∷ rest)) (at + z) r) (sym len) later)
    ]

pub lexed_bad : (b : ℕ) (rest : List ℕ) (at : ℕ) → step_of b rest ≡ Bad → Lexed (b ∷ rest) at (bad at)
lexed_bad b rest at e =
    let t = at_step b rest Bad e in
    refused b rest at (record {
      no_blank = λ h. let q : true ≡ false = sym h ∙ t.0 in cc;
      no_comment = λ h. no_59 h t.1;
      no_token = λ n k le h. let f = found k b rest n le h in let same : Bad ≡ Token k f.0 = sym e ∙ f.1 in cc;
    })
  where
    no_59 : b ≡ 59 → eqb b 59 ≡ false → ⊥
    no_59 h t = let q : eqb 59 59 ≡ false = subst (λ (z : ℕ). eqb z 59 ≡ false) h t in cc

-- ---- after the tokens so far

abbrev pub prepend : List Cut → Outcome → Outcome
prepend ts (good us) = good (ts ++ us)
prepend ts (bad at) = bad at

prepend-after : (ts : List Cut) (t : Cut) (r : Outcome) → prepend (ts ++ t ∷ []) r ≡ prepend ts (after_token t r)
prepend-after ts t (good us) = ap good (append_assoc ts (t ∷ []) us)
prepend-after ts t (bad at) = refl

-- whatever is found from here on completes what was found before
abbrev pub GoesOn : List ℕ → ℕ → List Cut → Type 0
GoesOn text at ts = (r : Outcome) → Lexed (drop at text) at r → Lexed text 0 (prepend ts r)

pub begins : (text : List ℕ) → GoesOn text 0 []
begins text (good us) h = h
begins text (bad at) h = h

front_is : (text : List ℕ) (at : ℕ) → at < length text → drop at text ≡ get_or text at 0 ∷ drop (at + 1) text
front_is text at lt = rw (add-one, drop-cons text at 0) refl

pub after_cut : (text : List ℕ) (at n : ℕ) (k : TokenKind) (ts : List Cut) → at < length text → step_of (get_or text at 0) (drop (at + 1) text) ≡ Token k n → GoesOn text at ts → GoesOn text (at + n) (ts ++ cut_at k at n ∷ [])
after_cut text at n k ts lt e goes r h =
    let f = front_is text at lt in
    let later : Lexed (drop n (get_or text at 0 ∷ drop (at + 1) text)) (at + n) r = subst (λ (z : List ℕ). Lexed z (at + n) r) (sym (drop-drop n at text) ∙ ap (λ (z : List ℕ). drop n z) f) h in
    rw (prepend-after ts (cut_at k at n) r) (goes (after_token (cut_at k at n) r) (subst (λ (z : List ℕ). Lexed z at (after_token (cut_at k at n) r)) (sym f) (lexed_token (get_or text at 0) (drop (at + 1) text) k n at r e later)))

pub after_skip : (text : List ℕ) (at n : ℕ) (ts : List Cut) → at < length text → step_of (get_or text at 0) (drop (at + 1) text) ≡ Skip n → GoesOn text at ts → GoesOn text (at + n) ts
after_skip text at n ts lt e goes r h =
    let f = front_is text at lt in
    let later : Lexed (drop n (get_or text at 0 ∷ drop (at + 1) text)) (at + n) r = subst (λ (z : List ℕ). Lexed z (at + n) r) (sym (drop-drop n at text) ∙ ap (λ (z : List ℕ). drop n z) f) h in
    goes r (subst (λ (z : List ℕ). Lexed z at r) (sym f) (lexed_skip (get_or text at 0) (drop (at + 1) text) n at r e later))

pub at_bad : (text : List ℕ) (at : ℕ) (ts : List Cut) → at < length text → step_of (get_or text at 0) (drop (at + 1) text) ≡ Bad → GoesOn text at ts → Lexed text 0 (bad at)
at_bad text at ts lt e goes = goes (bad at) (subst (λ (z : List ℕ). Lexed z at (bad at)) (sym (front_is text at lt)) (lexed_bad (get_or text at 0) (drop (at + 1) text) at e))

pub at_end : (text : List ℕ) (at : ℕ) (ts : List Cut) → at ≡ length text → GoesOn text at ts → Lexed text 0 (good ts)
at_end text at ts e goes = subst (λ (z : List Cut). Lexed text 0 (good z)) (append-nil ts) (goes (good []) (subst (λ (z : List ℕ). Lexed z at (good [])) (sym (all_dropped text at e)) (ended at)))
  where
    all_dropped : (text : List ℕ) (at : ℕ) → at ≡ length text → drop at text ≡ []
    all_dropped [] zero e = refl
    all_dropped [] (suc at) e = absurd (omega arith)
    all_dropped (x ∷ text) zero e = absurd (omega arith)
    all_dropped (x ∷ text) (suc at) e = all_dropped text at (omega arith)

pub step_fits : (text : List ℕ) (at n : ℕ) (k : TokenKind) → at < length text → step_of (get_or text at 0) (drop (at + 1) text) ≡ Token k n → (1 ≤ n) × (at + n ≤ length text)
step_fits text at n k lt e = let t = at_step (get_or text at 0) (drop (at + 1) text) (Token k n) e in (t.0, omega (arith, t.1, length-drop (at + 1) text))

pub skip_fits : (text : List ℕ) (at n : ℕ) → at < length text → step_of (get_or text at 0) (drop (at + 1) text) ≡ Skip n → (1 ≤ n) × (at + n ≤ length text)
skip_fits text at n lt e = let t = at_step (get_or text at 0) (drop (at + 1) text) (Skip n) e in (t.0, omega (arith, t.1, length-drop (at + 1) text))
