-- The tokens of a text are in order.
use Rattle.std.proofs.Common.{◌≡◌, ℕ, ◌+◌, ◌≤◌, ◌<◌, List, [], ◌∷◌, ◌++◌, length, length-append, subst, ap, arith}
use Rattle.ll_text.specs.Lexed.{IsForm, Outcome, after_token, cut_at, Lexed}
use Rattle.ll_text.specs.Lexed.Outcome.{good, bad}
use Rattle.ll_text.specs.Lexed.Lexed.{ended, blank, comment, token, refused}
use Rattle.ll_text.specs.Laws.{AreBetween}
use Rattle.ll_text.specs.declared.token.TokenKind.{TokenKind}
use Rattle.ll_text.specs.declared.token.Token.{Token}

abbrev InOrder : ℕ → ℕ → Outcome → Type 0
InOrder start end (good ts) = AreBetween start end ts
InOrder start end (bad at) = Unit {0}

sooner : (early start end : ℕ) (ts : List Token) → early ≤ start → AreBetween start end ts → AreBetween early end ts
sooner early start end [] le h = omega (arith, h)
sooner early start end (t ∷ ts) le h = (omega (arith, h.0), h.1, h.2)

after_skip : (at n end : ℕ) (r : Outcome) → InOrder (at + n) end r → InOrder at end r
after_skip at n end (good ts) h = sooner at (at + n) end ts (omega arith) h
after_skip at n end (bad b) h = tt

after_cut : (at n end : ℕ) (k : TokenKind) (r : Outcome) → 0 < n → InOrder (at + n) end r → InOrder at end (after_token (cut_at k at n) r)
after_cut at n end k (good ts) some h = (omega arith, some, h)
after_cut at n end k (bad b) some h = tt

form_some : (k : TokenKind) (bs : List ℕ) → IsForm k bs → 0 < length bs
form_some k [] f = absurd (none k f)
  where
    none : (k : TokenKind) → IsForm k [] → ⊥
    none k f = f
form_some k (b ∷ bs) f = omega arith

ends : (text bs rest : List ℕ) (at : ℕ) → text ≡ bs ++ rest → at + length bs + length rest ≡ at + length text
ends text bs rest at e = omega (arith, ap length e, length-append bs rest)

in_order : (text : List ℕ) (at : ℕ) (r : Outcome) → Lexed text at r → InOrder at (at + length text) r
in_order _ _ _ (ended at) = omega arith
in_order _ _ _ (blank b rest at r h l) =
    let e : at + 1 + length rest ≡ at + length (b ∷ rest) = omega arith in
    after_skip at 1 (at + length (b ∷ rest)) r (subst (λ (z : ℕ). InOrder (at + 1) z r) e (in_order rest (at + 1) r l))
in_order _ _ _ (comment text bs rest at r w h l) =
    after_skip at (length bs) (at + length text) r (subst (λ (z : ℕ). InOrder (at + length bs) z r) (ends text bs rest at w) (in_order rest (at + length bs) r l))
in_order _ _ _ (token text bs rest at k r w f longest l) =
    after_cut at (length bs) (at + length text) k r (form_some k bs f) (subst (λ (z : ℕ). InOrder (at + length bs) z r) (ends text bs rest at w) (in_order rest (at + length bs) r l))
in_order _ _ _ (refused b rest at h) = tt

pub spans_in_order : (text : List ℕ) (at : ℕ) (ts : List Token) → Lexed text at (good ts) → AreBetween at (at + length text) ts
spans_in_order text at ts l = in_order text at (good ts) l
