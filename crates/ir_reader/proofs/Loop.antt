-- A loop that reads parts as long as the next token begins one more.
use Rattle.std.proofs.Common.{◌≡◌, ℕ, suc, ◌<◌, Bool, true, false, List, [], ◌∷◌, ◌++◌, length, Ok, Err, refl, sym, ap, ◌∙◌, append_assoc, arith}
use Rattle.std.proofs.lemmas.List.{append-nil}
use Rattle.ir_text.specs.declared.token.Token.{Token}
use Rattle.ir_ast.specs.Tokens.{Lex, Asked, Matches}
use Rattle.phrase.specs.Reading.{Got, Reader, many_from}
use Rattle.phrase.specs.declared.Cause.{Cause}
use Rattle.phrase.proofs.Phrase.{Phrase}
use Rattle.phrase.proofs.Repeat.{Ends, Begins}
use Rattle.phrase.proofs.ManyFrom.{ok_from, spell_from, many_step, many_none, many_err, joined, shorter_from}
use Rattle.ir_reader.specs.View.{lexes, Fails, begins, with_front}
use Rattle.ir_reader.specs.declared.stop.Stop.{Stop}
use Rattle.ir_reader.specs.declared.stop.Stop.TheVariants.{Memory, At}

pub length-lexes : (text : List ℕ) (ts : List Token) → length (lexes text ts) ≡ length ts
length-lexes text [] = refl
length-lexes text (t ∷ ts) = ap suc (length-lexes text ts)

regroup : {A : Type 0} (front : List A) (a : A) (r : Got (List A)) → with_front front (joined a r) ≡ with_front (front ++ a ∷ []) r
regroup {A = A} front a (Ok x) = ap (λ (z : List A). Ok (z, x.1)) (sym (append_assoc front (a ∷ []) x.0))
regroup front a (Err d) = refl

pub begins-false : (test : Lex → Bool) (ts : List Lex) → begins test ts ≡ false → Ends test ts
begins-false test [] e = tt
begins-false test (l ∷ ls) e = e

module _ {S A : Type 0} (ok : S → A → Type 0) (spell : S → A → List Asked) (ends : List Lex → Type 0) (read : S → Reader A) (pa : (s : S) → Phrase (ok s) (spell s) ends (read s)) (after : S → A → S)
    (test : Lex → Bool) (starts : (s : S) (a : A) → ok s a → Begins (ok s) (spell s) test a)
    (last : List Lex → Type 0) (closing : (rest : List Lex) → last rest → Ends test rest)
    (follows : (s : S) (xs : List A) (back rest : List Lex) → ok_from ok after s xs → Matches (spell_from spell after s xs) back → last rest → ends (back ++ rest)) where
  pub goes_on : (s : S) (front : List A) (ts : List Lex) (a : A) (rest : List Lex) (total : Got (List A)) → begins test ts ≡ true → read s ts ≡ Ok (a, rest)
      → with_front front (many_from test read after s ts) ≡ total → with_front (front ++ a ∷ []) (many_from test read after (after s a) rest) ≡ total
  goes_on s front [] a rest total b e so_far = absurd cc
  goes_on s front (l ∷ ls) a rest total b e so_far =
      sym (regroup front a (many_from test read after (after s a) rest)) ∙ ap (with_front front) (sym (many_step ok spell ends read pa after test starts last closing follows s l ls a rest b e)) ∙ so_far

  pub is_done : (s : S) (front : List A) (ts : List Lex) (total : Got (List A)) → begins test ts ≡ false → with_front front (many_from test read after s ts) ≡ total → total ≡ Ok (front, ts)
  is_done s front ts total b so_far =
      sym so_far ∙ ap (with_front front) (many_none ok spell ends read pa after test starts last closing follows s ts (begins-false test ts b)) ∙ ap (λ (z : List A). Ok (z, ts)) (append-nil front)

  breaks : (s : S) (front : List A) (ts : List Lex) (d : Cause × List Lex) (total : Got (List A)) → begins test ts ≡ true → read s ts ≡ Err d → with_front front (many_from test read after s ts) ≡ total → total ≡ Err d
  breaks s front [] d total b e so_far = absurd cc
  breaks s front (l ∷ ls) d total b e so_far = sym so_far ∙ ap (with_front front) (many_err ok spell ends read pa after test starts last closing follows s l ls d b e)

  pub breaks_as : (s : S) (text : List ℕ) (stop : Stop) (front : List A) (ts : List Lex) (total : Got (List A)) → begins test ts ≡ true → Fails text stop (read s ts) → with_front front (many_from test read after s ts) ≡ total
      → Fails text stop total
  breaks_as s text Memory front ts total b e so_far = tt
  breaks_as s text (At c rest) front ts total b e so_far = breaks s front ts (c, lexes text rest.now) total b e so_far

  pub falls : (s : S) (text : List ℕ) (ts : List Token) (a : A) (rest : List Token) → read s (lexes text ts) ≡ Ok (a, lexes text rest) → length rest < length ts
  falls s text ts a rest e = omega (arith, shorter_from ok spell ends read pa after test starts last closing follows s (lexes text ts) a (lexes text rest) e, length-lexes text ts, length-lexes text rest)
