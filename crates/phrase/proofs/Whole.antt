-- What a reader answers of a whole list of tokens.
use Rattle.std.proofs.Common.{◌≡◌, List, [], ◌∷◌, ◌++◌, Ok, Err, refl, sym, ap, subst, ◌∙◌, append_assoc, inl, inr}
use Rattle.std.proofs.lemmas.List.{append-nil}
use Rattle.ir_ast.specs.Tokens.{Lex, Asked, Matches, Spelled, Limit}
use Rattle.ir_ast.specs.Tokens.Limit.{of_number, of_count}
use Rattle.phrase.specs.Reading.{Reader}
use Rattle.phrase.specs.Whole.{Reads, Refused, Here, cause_of, ended, all_of}
use Rattle.phrase.specs.declared.Cause.{Cause}
use Rattle.phrase.specs.declared.Cause.TheVariants.{Unexpected}
use Rattle.phrase.proofs.Phrase.{Spelled-matches, bind_ok, bind_err, pair_is, err_is, ok_not_err, Phrase, judged, judged-spelled, judged_is}

limit_is_expected : (c : Limit) → cause_of c ≡ Unexpected → ⊥
limit_is_expected of_number e = cc
limit_is_expected of_count e = cc

ended_ok : {A : Type 0} (x : A) (ls : List Lex) (a : A) → ended x ls ≡ Ok a → (x ≡ a) × (ls ≡ [])
ended_ok x [] a e = (cc, refl)
ended_ok x (l ∷ ls) a e = absurd cc

ended_err : {A : Type 0} (x : A) (ls : List Lex) (c : Cause) (rest : List Lex) → ended x ls ≡ Err (c, rest) → (t : Lex) × (later : List Lex) × (ls ≡ t ∷ later) × (c ≡ Unexpected) × (rest ≡ t ∷ later)
ended_err x [] c rest e = absurd cc
ended_err {A = A} x (l ∷ ls) c rest e =
    let h : (let k : Cause × List Lex = (Unexpected, l ∷ ls) in k) ≡ (c, rest) = cc in
    (l, ls, refl, sym (ap (λ (z : Cause × List Lex). z.0) h), sym (ap (λ (z : Cause × List Lex). z.1) h))

module _ {A : Type 0} (ok : A → Type 0) (spell : A → List Asked) (ends : List Lex → Type 0) (read : Reader A) (pa : Phrase ok spell ends read) (at_end : ends []) where
  pub all_ok : (ts : List Lex) (a : A) → all_of read ts ≡ Ok a → Reads ok spell ts a
  all_ok ts a e =
      let x = bind_ok (read ts) (λ x. ended x.0 x.1) a e in
      let h = ended_ok x.0.0 x.0.1 a x.2 in
      let t = pa.sound ts x.0.0 x.0.1 x.1 in
      let w : ts ≡ t.front = t.whole ∙ ap (λ (z : List Lex). t.front ++ z) h.1 ∙ append-nil t.front in
      subst (λ (z : A). Reads ok spell ts z) h.0 (t.is_ok, subst (λ (z : List Lex). Spelled (spell x.0.0) z) (sym w) t.spelled)

  -- what tokens that match are read as
  matching : (ts : List Lex) (a : A) → ok a → Matches (spell a) ts → read ts ≡ judged (spell a) ts a []
  matching ts a k h = ap read (sym (append-nil ts)) ∙ pa.complete a ts [] k h at_end

  pub all_only : (ts : List Lex) (a : A) → Reads ok spell ts a → all_of read ts ≡ Ok a
  all_only ts a h = rw (matching ts a h.0 (Spelled-matches (spell a) ts h.1) ∙ judged-spelled (spell a) ts a [] h.1) refl

  -- a list that matches isn't refused as unexpected
  not_unexpected : (ts : List Lex) (a : A) (rest : List Lex) → ok a → Matches (spell a) ts → read ts ≡ Err (Unexpected, rest) → ⊥
  not_unexpected ts a rest k h e = elim (judged_is (spell a) ts a []) [
    | inl j ↦ ok_not_err (a, []) (Unexpected, rest) (sym (matching ts a k h ∙ j) ∙ e)
    | inr j ↦ limit_is_expected j.0 (ap (λ (z : Cause × List Lex). z.0) (err_is (cause_of j.0, j.1) (Unexpected, rest) (sym (matching ts a k h ∙ j.2) ∙ e)))
  ]

  -- nor is a front of it read to its own end
  not_ended : (ts : List Lex) (a b : A) (t : Lex) (later : List Lex) → ok a → Matches (spell a) ts → read ts ≡ Ok (b, t ∷ later) → ⊥
  not_ended ts a b t later k h e = elim (judged_is (spell a) ts a []) [
    | inl j ↦ let p = pair_is b a (t ∷ later) [] (sym (matching ts a k h ∙ j) ∙ e) in cc
    | inr j ↦ ok_not_err (b, t ∷ later) (cause_of j.0, j.1) (sym e ∙ (matching ts a k h ∙ j.2))
  ]

  regroup : (front : List Lex) (t : Lex) (more : List Lex) → (front ++ t ∷ []) ++ more ≡ front ++ t ∷ more
  regroup front t more = append_assoc front (t ∷ []) more

  pub all_refused : (ts : List Lex) (c : Cause) (rest : List Lex) → all_of read ts ≡ Err (c, rest) → Refused ok spell c ts rest
  all_refused ts c rest e = elim (bind_err (read ts) (λ x. ended x.0 x.1) (c, rest) e) [
    | inl h ↦
        let s = pa.stops ts c rest h in
        record {
          front = s.front;
          whole = s.whole;
          value = s.value;
          is_ok = s.is_ok;
          before = s.before;
          after = s.after;
          parts = s.parts;
          spelled = s.spelled;
          more = s.more;
          completes = s.completes;
          here = s.here;
          dead = λ u t later r start.
              let m : Matches (spell start.0) (s.front ++ t ∷ start.1) = subst (λ (z : List Lex). Matches (spell start.0) z) (regroup s.front t start.1) start.3 in
              let here : read (s.front ++ t ∷ later) ≡ Err (Unexpected, t ∷ later) =
              ap read (ap (λ (z : List Lex). s.front ++ z) (sym r)) ∙ ap read (sym s.whole) ∙ h ∙ ap (λ (z : Cause). Err (z, rest)) u ∙ ap (λ (z : List Lex). Err (Unexpected, z)) r in
              not_unexpected (s.front ++ t ∷ start.1) start.0 (t ∷ start.1) start.2 m (pa.local_stop s.front t later Unexpected here start.1);
          short = λ u r a k m. not_unexpected ts a rest k m (h ∙ ap (λ (z : Cause). Err (z, rest)) u);
        }
    | inr x ↦
        let d = ended_err x.0.0 x.0.1 c rest x.2 in
        let s = pa.sound ts x.0.0 x.0.1 x.1 in
        let w : x.0.1 ≡ rest = d.2 ∙ sym d.4 in
        record {
          front = s.front;
          whole = s.whole ∙ ap (λ (z : List Lex). s.front ++ z) w;
          value = x.0.0;
          is_ok = s.is_ok;
          before = spell x.0.0;
          after = [];
          parts = sym (append-nil (spell x.0.0));
          spelled = s.spelled;
          more = [];
          completes = tt;
          here = subst (λ (z : Cause). Here z [] rest) (sym d.3) tt;
          dead = λ u t later r start.
              let m : Matches (spell start.0) (s.front ++ t ∷ start.1) = subst (λ (z : List Lex). Matches (spell start.0) z) (regroup s.front t start.1) start.3 in
              let here : read (s.front ++ t ∷ later) ≡ Ok (x.0.0, t ∷ later) =
              ap read (ap (λ (z : List Lex). s.front ++ z) (sym (w ∙ r))) ∙ ap read (sym s.whole) ∙ x.1 ∙ ap (λ (z : List Lex). Ok (x.0.0, z)) (w ∙ r) in
              not_ended (s.front ++ t ∷ start.1) start.0 x.0.0 t start.1 start.2 m (pa.local_ok s.front (t ∷ later) x.0.0 here (t ∷ start.1) refl);
          short = λ u r a k m. let q : d.0 ∷ d.1 ≡ [] = sym d.4 ∙ r in cc;
        }
  ]
