-- A program that is read is one that the grammar can give: the tokens of a text can stand in a text.
use Rattle.std.proofs.Common.{◌≡◌, ℕ, ◌+◌, List, [], ◌∷◌, ◌++◌, length, take, drop, refl, sym, ap, subst, ◌∙◌}
use Rattle.std.proofs.lemmas.List.{drop-drop}
use Rattle.ir_text.specs.declared.token.TokenKind.{TokenKind}
use Rattle.ir_text.specs.declared.token.TokenKind.TheVariants.{Word, Local, Global, Number, OpenRound, CloseRound, OpenBrace, CloseBrace, Comma, Colon, Equals, Arrow}
use Rattle.ir_text.specs.Lexed.{IsForm, Outcome, after_token, cut_at, Lexed}
use Rattle.ir_text.specs.Lexed.Outcome.{good, bad}
use Rattle.ir_text.specs.Lexed.Lexed.{ended, blank, comment, token, refused}
use Rattle.ir_text.proofs.Written.{drop_front}
use Rattle.ir_ast.specs.Tokens.{Lex, Asked, Each, Spelled}
use Rattle.phrase.specs.Lexes.{form_of}
use Rattle.ir_ast.specs.Lines.{spell}
use Rattle.ir_ast.specs.Programs.{IsPossible, CanStand, IsProgram}
use Rattle.ir_ast.specs.declared.program.Program.{Program}
use Rattle.ir_reader.specs.View.{lexes}
use Rattle.ir_reader.specs.Readings.{IsProgramOf}

abbrev AllPossible : List ℕ → Outcome → Type 0
AllPossible full (good ts) = Each (λ l. IsPossible l.form) (lexes full ts)
AllPossible full (bad at) = Unit {0}

nothing : (k : TokenKind) → IsForm k [] → ⊥
nothing k f = f

form_possible : (k : TokenKind) (bs : List ℕ) → IsForm k bs → IsPossible (form_of k bs)
form_possible k [] f = absurd (nothing k f)
form_possible Word (b ∷ bs) f = f
form_possible Local (b ∷ bs) f = (f.1, f.2)
form_possible Global (b ∷ bs) f = (f.1, f.2)
form_possible Number (b ∷ bs) f = tt
form_possible OpenRound (b ∷ bs) f = tt
form_possible CloseRound (b ∷ bs) f = tt
form_possible OpenBrace (b ∷ bs) f = tt
form_possible CloseBrace (b ∷ bs) f = tt
form_possible Comma (b ∷ bs) f = tt
form_possible Colon (b ∷ bs) f = tt
form_possible Equals (b ∷ bs) f = tt
form_possible Arrow (b ∷ bs) f = tt

take_front : (xs ys : List ℕ) → take (length xs) (xs ++ ys) ≡ xs
take_front [] ys = refl
take_front (x ∷ xs) ys = ap (λ (z : List ℕ). x ∷ z) (take_front xs ys)

behind : (full xs ys : List ℕ) (at : ℕ) → drop at full ≡ xs ++ ys → drop (at + length xs) full ≡ ys
behind full xs ys at here = sym (drop-drop (length xs) at full) ∙ ap (λ (z : List ℕ). drop (length xs) z) here ∙ drop_front xs ys

one_more : (full bs rest : List ℕ) (at : ℕ) (k : TokenKind) (r : Outcome) → drop at full ≡ bs ++ rest → IsForm k bs → AllPossible full r → AllPossible full (after_token (cut_at k at (length bs)) r)
one_more full bs rest at k (good ts) here f h =
    let bytes : take (length bs) (drop at full) ≡ bs = ap (λ (z : List ℕ). take (length bs) z) here ∙ take_front bs rest in
    (subst (λ (z : List ℕ). IsPossible (form_of k z)) (sym bytes) (form_possible k bs f), h)
one_more full bs rest at k (bad b) here f h = tt

possible : (full text : List ℕ) (at : ℕ) (r : Outcome) → drop at full ≡ text → Lexed text at r → AllPossible full r
possible full _ _ _ here (ended at) = tt
possible full _ _ _ here (blank b rest at r h l) = possible full rest (at + 1) r (behind full (b ∷ []) rest at here) l
possible full _ _ _ here (comment text bs rest at r w h l) = possible full rest (at + length bs) r (behind full bs rest at (here ∙ w)) l
possible full _ _ _ here (token text bs rest at k r w f longest l) = one_more full bs rest at k r (here ∙ w) f (possible full rest (at + length bs) r (behind full bs rest at (here ∙ w)) l)
possible full _ _ _ here (refused b rest at h) = tt

can_stand : (asked : List Asked) (ls : List Lex) → Spelled asked ls → Each (λ l. IsPossible l.form) ls → Each CanStand asked
can_stand [] ls h k = tt
can_stand (a ∷ asked) [] h k = absurd h
can_stand (a ∷ asked) (l ∷ ls) h k = ((subst IsPossible h.0.0 k.0, h.1), can_stand asked ls h.2 k.1)

pub is_program : (text : List ℕ) (p : Program) → IsProgramOf text p → IsProgram p
is_program text p h = record {
  shaped = h.reads.0;
  spelled = can_stand (spell p) (lexes text h.tokens) h.reads.1 (possible text text 0 (good h.tokens) refl h.lexed);
}
