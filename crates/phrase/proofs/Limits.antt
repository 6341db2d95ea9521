-- A limit that is passed is what is answered: the other direction of a refusal.
use Rattle.std.proofs.Common.{◌≡◌, List, [], ◌∷◌, ◌++◌, Some, Err, refl, sym, ap, subst, ◌∙◌}
use Rattle.std.proofs.lemmas.List.{append-nil}
use Rattle.ir_ast.specs.Tokens.{Lex, Asked, Fits, Matches, Spelled, Limit}
use Rattle.phrase.specs.Reading.{Reader}
use Rattle.phrase.specs.Whole.{cause_of, all_of}
use Rattle.phrase.proofs.Phrase.{Spelled-matches, Matches-append, Phrase, judged}

-- the first fault is answered at its token
judged-stops : {A : Type 0} (before : List Asked) (p : Asked) (after : List Asked) (front : List Lex) (t : Lex) (back : List Lex) (a : A) (rest : List Lex) (c : Limit) → Spelled before front → p.fault ≡ Some c
    → judged (before ++ p ∷ after) (front ++ t ∷ back) a rest ≡ Err (cause_of c, t ∷ (back ++ rest))
judged-stops [] p after [] t back a rest c h e = rw e refl
judged-stops [] p after (l ∷ front) t back a rest c h e = absurd h
judged-stops (q ∷ before) p after [] t back a rest c h e = absurd h
judged-stops (q ∷ before) p after (l ∷ front) t back a rest c h e = rw h.1 (judged-stops before p after front t back a rest c h.2 e)

module _ {A : Type 0} (ok : A → Type 0) (spell : A → List Asked) (ends : List Lex → Type 0) (read : Reader A) (pa : Phrase ok spell ends read) (at_end : ends []) where
  -- Where some value begins with these tokens, within the limits, and asks for a piece past its limit that the next
  -- token is, that limit's cause is answered there, whatever follows.
  pub limit_is_told : (a : A) (before : List Asked) (p : Asked) (after : List Asked) (front : List Lex) (t : Lex) (more later : List Lex) (c : Limit)
      → ok a → spell a ≡ before ++ p ∷ after → Spelled before front → Fits p t → Matches after more → p.fault ≡ Some c → all_of read (front ++ t ∷ later) ≡ Err (cause_of c, t ∷ later)
  limit_is_told a before p after front t more later c k parts h fits completes e =
      let text = front ++ t ∷ more in
      let m : Matches (before ++ p ∷ after) text = Matches-append before (p ∷ after) front (t ∷ more) (Spelled-matches before front h) (fits, completes) in
      let m' : Matches (spell a) text = subst (λ (z : List Asked). Matches z text) (sym parts) m in
      let whole : read text ≡ judged (spell a) text a [] = ap read (sym (append-nil text)) ∙ pa.complete a text [] k m' at_end in
      let stop : read text ≡ Err (cause_of c, t ∷ more) =
      whole ∙ ap (λ (z : List Asked). judged z text a []) parts ∙ judged-stops before p after front t (more) a [] c h e ∙ ap (λ (z : List Lex). Err (cause_of c, t ∷ z)) (append-nil (more)) in
      rw (pa.local_stop front t (more) (cause_of c) stop later) refl
