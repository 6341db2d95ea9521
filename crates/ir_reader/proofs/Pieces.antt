-- Readers that put others together: what each of them reads.
use Rattle.std.proofs.Common.{◌≡◌, List, [], ◌∷◌, ◌++◌, refl}
use Rattle.ir_ast.specs.Tokens.{Lex, Asked, Matches, plain}
use Rattle.ir_ast.specs.Tokens.Form.{open_round, close_round, comma}
use Rattle.phrase.specs.Reading.{Reader, both, mapped}
use Rattle.phrase.proofs.Phrase.{Phrase, ok_both, spell_both, both_phrase}
use Rattle.phrase.proofs.Repeat.{mapped_phrase}
use Rattle.ir_ast.specs.declared.mark.Mark.{Mark}
use Rattle.ir_ast.specs.declared.mark.Mark.TheVariants.{OpenRound, CloseRound, Comma}
use Rattle.ir_ast.specs.Marks.{mark_form}
use Rattle.ir_reader.specs.Parts.{second, first_of, mark_at, after_comma, in_round}
use Rattle.ir_reader.proofs.Singles.{Any, mark_phrase}

-- one after the other, where anything may follow each
pub pair_phrase : {A B : Type 0} (okA : A → Type 0) (okB : A → B → Type 0) (spellA : A → List Asked) (spellB : A → B → List Asked) (readA : Reader A) (readB : A → Reader B)
    → Phrase okA spellA Any readA → ((a : A) → Phrase (okB a) (spellB a) Any (readB a)) → Phrase (ok_both okA okB) (spell_both spellA spellB) Any (both readA readB)
pair_phrase okA okB spellA spellB readA readB pa pb = both_phrase okA okB spellA spellB Any Any readA readB pa pb (λ _ _ _ _ _ _ _. tt)

-- one after the other, where anything may follow the first
pub first_phrase : {A B : Type 0} (okA : A → Type 0) (okB : A → B → Type 0) (spellA : A → List Asked) (spellB : A → B → List Asked) (ends : List Lex → Type 0) (readA : Reader A) (readB : A → Reader B)
    → Phrase okA spellA Any readA → ((a : A) → Phrase (okB a) (spellB a) ends (readB a)) → Phrase (ok_both okA okB) (spell_both spellA spellB) ends (both readA readB)
first_phrase okA okB spellA spellB ends readA readB pa pb = both_phrase okA okB spellA spellB Any ends readA readB pa pb (λ _ _ _ _ _ _ _. tt)

-- a mark, and then this
pub after_mark : {A : Type 0} (m : Mark) (ok : A → Type 0) (spell : A → List Asked) (ends : List Lex → Type 0) (read : Reader A) → Phrase ok spell ends read
    → Phrase ok (λ a. plain (mark_form m) ∷ spell a) ends (mapped second (both (mark_at m) (λ _. read)))
after_mark m ok spell ends read p = mapped_phrase (ok_both Any (λ _. ok)) (spell_both (λ _. plain (mark_form m) ∷ []) (λ _. spell)) ends _
    (first_phrase Any (λ _. ok) (λ _. plain (mark_form m) ∷ []) (λ _. spell) ends (mark_at m) (λ _. read) (mark_phrase m) (λ _. p))
    second ok (λ a. plain (mark_form m) ∷ spell a) (λ x k. (k.1, refl)) (λ a k. ((tt, a), (tt, k), refl))

pub comma_phrase : {A : Type 0} (ok : A → Type 0) (spell : A → List Asked) (ends : List Lex → Type 0) (read : Reader A) → Phrase ok spell ends read
    → Phrase ok (λ a. plain comma ∷ spell a) ends (after_comma read)
comma_phrase = after_mark Comma

-- this, and then a mark that may follow it
pub before_mark : {A : Type 0} (m : Mark) (ok : A → Type 0) (spell : A → List Asked) (ends : List Lex → Type 0) (read : Reader A) → Phrase ok spell ends read
    → ((l : Lex) (rest : List Lex) → l.form ≡ mark_form m → ends (l ∷ rest))
    → Phrase ok (λ a. spell a ++ plain (mark_form m) ∷ []) Any (mapped first_of (both read (λ _. mark_at m)))
before_mark m ok spell ends read p may = mapped_phrase (ok_both ok (λ _. Any)) (spell_both spell (λ _ _. plain (mark_form m) ∷ [])) Any _
    (both_phrase ok (λ _. Any) spell (λ _ _. plain (mark_form m) ∷ []) ends Any read (λ _. mark_at m) p (λ _. mark_phrase m) (λ _ _ back rest _ h _. follows back rest h))
    first_of ok (λ a. spell a ++ plain (mark_form m) ∷ []) (λ x k. (k.0, refl)) (λ a k. ((a, tt), (k, tt), refl))
  where
    follows : (back rest : List Lex) → Matches (plain (mark_form m) ∷ []) back → ends (back ++ rest)
    follows [] rest h = absurd h
    follows (l ∷ back) rest h = may l (back ++ rest) h.0.0

pub round_phrase : {A : Type 0} (ok : A → Type 0) (spell : A → List Asked) (ends : List Lex → Type 0) (read : Reader A) → Phrase ok spell ends read
    → ((l : Lex) (rest : List Lex) → l.form ≡ close_round → ends (l ∷ rest))
    → Phrase ok (λ a. plain open_round ∷ spell a ++ plain close_round ∷ []) Any (in_round read)
round_phrase ok spell ends read p may =
    after_mark OpenRound ok (λ a. spell a ++ plain close_round ∷ []) Any (mapped first_of (both read (λ _. mark_at CloseRound))) (before_mark CloseRound ok spell ends read p may)
