-- A refusal as unexpected is the only answer: the other direction.
use Rattle.std.proofs.Common.{◌≡◌, ◌≤◌, List, [], ◌∷◌, ◌++◌, length, length-append, Option, Some, None, Result, Ok, Err, refl, sym, ap, subst, ◌∙◌, append_assoc, arith, ◌⊎◌, inl, inr}
use Rattle.std.proofs.lemmas.List.{append-nil}
use Rattle.ir_ast.specs.Tokens.{Lex, Asked, Fits, Matches, Spelled, Limit}
use Rattle.ir_ast.specs.Tokens.Limit.{of_number, of_count}
use Rattle.phrase.specs.Reading.{Reader}
use Rattle.phrase.specs.Whole.{cause_of, Here, IsStart, Refused, all_of, Reads}
use Rattle.phrase.specs.declared.Cause.{Cause}
use Rattle.phrase.specs.declared.Cause.TheVariants.{Unexpected, NumberTooLarge, TooLarge}
use Rattle.phrase.proofs.Phrase.{Spelled-matches, Matches-append, Phrase, judged, judged_at, judged_is, err_is, ok_not_err}
use Rattle.phrase.proofs.Whole.{all_ok, all_refused}
use Rattle.phrase.proofs.Limits.{limit_is_told}

-- two cuts of one list
data Cuts (xs ys xs' ys' : List Lex) : Type 0 where
  same : xs ≡ xs' → ys ≡ ys' → Cuts xs ys xs' ys'
  sooner : (t : Lex) (more : List Lex) → xs ≡ xs' ++ t ∷ more → ys' ≡ t ∷ (more ++ ys) → Cuts xs ys xs' ys'
  later : (t : Lex) (more : List Lex) → xs' ≡ xs ++ t ∷ more → ys ≡ t ∷ (more ++ ys') → Cuts xs ys xs' ys'

cuts : (xs ys xs' ys' : List Lex) → xs ++ ys ≡ xs' ++ ys' → Cuts xs ys xs' ys'
cuts [] ys [] ys' e = same refl e
cuts [] ys (x ∷ xs') ys' e = later x xs' refl e
cuts (x ∷ xs) ys [] ys' e = sooner x xs refl (sym e)
cuts (x ∷ xs) ys (z ∷ xs') ys' e =
    let h : x ≡ z = cc in
    let t : xs ++ ys ≡ xs' ++ ys' = cc in
    elim (cuts xs ys xs' ys' t) [
      | same a b ↦ same (ap (λ (q : List Lex). x ∷ q) a ∙ ap (λ (q : Lex). q ∷ xs') h) b
      | sooner u more a b ↦ sooner u more (ap (λ (q : List Lex). x ∷ q) a ∙ ap (λ (q : Lex). q ∷ (xs' ++ u ∷ more)) h) b
      | later u more a b ↦ later u more (ap (λ (q : List Lex). z ∷ q) a ∙ ap (λ (q : Lex). q ∷ (xs ++ u ∷ more)) (sym h)) b
    ]

judged-past : {A : Type 0} (before after : List Asked) (front back : List Lex) (a : A) (rest : List Lex) → Spelled before front → judged (before ++ after) (front ++ back) a rest ≡ judged after back a rest
judged-past [] after [] back a rest h = refl
judged-past [] after (l ∷ front) back a rest h = absurd h
judged-past (p ∷ before) after [] back a rest h = absurd h
judged-past (p ∷ before) after (l ∷ front) back a rest h = rw h.1 (judged-past before after front back a rest h.2)

judged_short : {A : Type 0} (ps : List Asked) (ls : List Lex) (a : A) (rest : List Lex) (c : Cause) (z : List Lex) → judged ps ls a rest ≡ Err (c, z) → length z ≤ length (ls ++ rest)
judged_short [] ls a rest c z e = absurd (ok_not_err (a, rest) (c, z) e)
judged_short (p ∷ ps) [] a rest c z e = absurd (ok_not_err (a, rest) (c, z) e)
judged_short {A = A} (p ∷ ps) (l ∷ ls) a rest c z e = at_fault p.fault e (λ h. judged_short ps ls a rest c z h)
  where
    at_fault : (o : Option Limit) → judged_at o (judged ps ls a rest) l (ls ++ rest) ≡ Err (c, z) → (judged ps ls a rest ≡ Err (c, z) → length z ≤ length (ls ++ rest)) → length z ≤ length (l ∷ (ls ++ rest))
    at_fault None h again = let k : length z ≤ length (ls ++ rest) = again h in omega arith
    at_fault (Some d) h again = let k = err_is (cause_of d, l ∷ (ls ++ rest)) (c, z) h in omega (arith, ap (λ (q : Cause × List Lex). length q.1) k)

-- a limit's piece is there, and its token fits
limit_here : (c : Cause) (after : List Asked) (rest : List Lex) → Here c after rest → (c ≡ Unexpected) ⊎ ((p : Asked) × (ps : List Asked) × (t : Lex) × (ls : List Lex) × (d : Limit) × (after ≡ p ∷ ps) × (rest ≡ t ∷ ls) × Fits p t × (p.fault ≡ Some d) × (c ≡ cause_of d))
limit_here Unexpected after rest h = inl refl
limit_here NumberTooLarge [] rest h = absurd h
limit_here NumberTooLarge (p ∷ ps) [] h = absurd h
limit_here NumberTooLarge (p ∷ ps) (t ∷ ls) h = inr (p, ps, t, ls, of_number, refl, refl, h.0, h.1, refl)
limit_here TooLarge [] rest h = absurd h
limit_here TooLarge (p ∷ ps) [] h = absurd h
limit_here TooLarge (p ∷ ps) (t ∷ ls) h = inr (p, ps, t, ls, of_count, refl, refl, h.0, h.1, refl)

tail_of : (p : Asked) (ps : List Asked) (more : List Lex) → Matches (p ∷ ps) more → (ms : List Lex) × Matches ps ms
tail_of p ps [] h = absurd h
tail_of p ps (m ∷ ms) h = (ms, h.1)

answer_apart : {A : Type 0} (a : A) (d : Cause × List Lex) → (let k : Result A (Cause × List Lex) = Ok a in k) ≡ Err d → ⊥
answer_apart a d e = cc

refusal_is : {A : Type 0} (x y : Cause × List Lex) → (let k : Result A (Cause × List Lex) = Err x in k) ≡ Err y → x ≡ y
refusal_is x y e = cc

module _ {A : Type 0} (ok : A → Type 0) (spell : A → List Asked) (ends : List Lex → Type 0) (read : Reader A) (pa : Phrase ok spell ends read) (at_end : ends []) where
  -- a front of what is spelled so far is a start
  front_starts : (c : Cause) (ts rest : List Lex) (r : Refused ok spell c ts rest) (xs : List Lex) (t : Lex) (more : List Lex) → r.front ≡ xs ++ t ∷ more → IsStart ok spell (xs ++ t ∷ [])
  front_starts c ts rest r xs t more e =
      let m : Matches (r.before ++ r.after) (r.front ++ r.more) = Matches-append r.before r.after r.front r.more (Spelled-matches r.before r.front r.spelled) r.completes in
      let g : r.front ++ r.more ≡ (xs ++ t ∷ []) ++ (more ++ r.more) =
      ap (λ (z : List Lex). z ++ r.more) e ∙ append_assoc xs (t ∷ more) r.more ∙ sym (append_assoc xs (t ∷ []) (more ++ r.more)) in
      (r.value, more ++ r.more, r.is_ok, subst (λ (z : List Asked). Matches z ((xs ++ t ∷ []) ++ (more ++ r.more))) (sym r.parts) (subst (λ (z : List Lex). Matches (r.before ++ r.after) z) g m))

  -- so is a front with the token of a limit
  limit_starts : (c : Cause) (ts rest : List Lex) (s : Refused ok spell c ts rest) (p : Asked) (ps : List Asked) (t : Lex) → s.after ≡ p ∷ ps → Fits p t → IsStart ok spell (s.front ++ t ∷ [])
  limit_starts c ts rest s p ps t e fits =
      let k = tail_of p ps s.more (subst (λ (z : List Asked). Matches z s.more) e s.completes) in
      let m : Matches (s.before ++ (p ∷ ps)) (s.front ++ t ∷ k.0) = Matches-append s.before (p ∷ ps) s.front (t ∷ k.0) (Spelled-matches s.before s.front s.spelled) (fits, k.1) in
      let q : spell s.value ≡ s.before ++ (p ∷ ps) = s.parts ∙ ap (λ (z : List Asked). s.before ++ z) e in
      (s.value, k.0, s.is_ok, subst (λ (z : List Asked). Matches z ((s.front ++ t ∷ []) ++ k.0)) (sym q) (subst (λ (z : List Lex). Matches (s.before ++ (p ∷ ps)) z) (sym (append_assoc s.front (t ∷ []) k.0)) m))

  -- a limit that is passed earlier would be told in each completion of the start
  no_limit_sooner : (c : Cause) (ts rest : List Lex) (r : Refused ok spell c ts rest) (xs : List Lex) (t : Lex) (more : List Lex) (d : Limit) → r.front ≡ xs ++ t ∷ more
      → ((later : List Lex) → all_of read (xs ++ t ∷ later) ≡ Err (cause_of d, t ∷ later)) → ⊥
  no_limit_sooner c ts rest r xs t more d e told =
      let text = r.front ++ r.more in
      let m : Matches (r.before ++ r.after) text = Matches-append r.before r.after r.front r.more (Spelled-matches r.before r.front r.spelled) r.completes in
      let m' : Matches (spell r.value) text = subst (λ (z : List Asked). Matches z text) (sym r.parts) m in
      let whole : read text ≡ judged r.after r.more r.value [] =
      ap read (sym (append-nil text)) ∙ pa.complete r.value text [] r.is_ok m' at_end ∙ ap (λ (z : List Asked). judged z text r.value []) r.parts ∙ judged-past r.before r.after r.front r.more r.value [] r.spelled in
      let same : text ≡ xs ++ t ∷ (more ++ r.more) = ap (λ (z : List Lex). z ++ r.more) e ∙ append_assoc xs (t ∷ more) r.more in
      let err : all_of read text ≡ Err (cause_of d, t ∷ (more ++ r.more)) = ap (all_of read) same ∙ told (more ++ r.more) in
      elim (judged_is r.after r.more r.value []) [
        | inl j ↦
            let o : all_of read text ≡ Ok r.value = rw (whole ∙ j) refl in
            answer_apart r.value (cause_of d, t ∷ (more ++ r.more)) (sym o ∙ err)
        | inr j ↦
            let o : all_of read text ≡ Err (cause_of j.0, j.1) = rw (whole ∙ j.2) refl in
            let k = refusal_is (cause_of j.0, j.1) (cause_of d, t ∷ (more ++ r.more)) (sym o ∙ err) in
            let le : length j.1 ≤ length (r.more ++ []) = judged_short r.after r.more r.value [] (cause_of j.0) j.1 j.2 in
            absurd (omega (arith, le, ap (λ (q : Cause × List Lex). length q.1) k, length-append more r.more, ap length (append-nil r.more)))
      ]

  pub unexpected_is_told : (ts rest : List Lex) → Refused ok spell Unexpected ts rest → all_of read ts ≡ Err (Unexpected, rest)
  unexpected_is_told ts rest r = by_answer (all_of read ts) refl
    where
      by_answer : (x : Result A (Cause × List Lex)) → all_of read ts ≡ x → all_of read ts ≡ Err (Unexpected, rest)
      by_answer (Ok a) e = absurd (not_read rest refl (all_ok ok spell ends read pa at_end ts a e))
        where
          not_read : (z : List Lex) → rest ≡ z → Reads ok spell ts a → ⊥
          not_read [] h k = r.short refl h a k.0 (Spelled-matches (spell a) ts k.1)
          not_read (t ∷ later') h k = r.dead refl t later' h (a, later', k.0, subst (λ (z : List Lex). Matches (spell a) z) (r.whole ∙ ap (λ (z : List Lex). r.front ++ z) h ∙ sym (append_assoc r.front (t ∷ []) later')) (Spelled-matches (spell a) ts k.1))
      by_answer (Err (c, rest')) e = by_cut (cuts r.front rest s.front rest' (sym r.whole ∙ s.whole))
        where
          s : Refused ok spell c ts rest'
          s = all_refused ok spell ends read pa at_end ts c rest' e

          by_cut : Cuts r.front rest s.front rest' → all_of read ts ≡ Err (Unexpected, rest)
          by_cut (later t more a b) = absurd (r.dead refl t (more ++ rest') b (front_starts c ts rest' s r.front t more a))
          by_cut (same a b) = elim (limit_here c s.after rest' s.here) [
            | inl u ↦ e ∙ ap (λ (z : Cause). Err (z, rest')) u ∙ ap (λ (z : List Lex). Err (Unexpected, z)) (sym b)
            | inr l ↦ absurd (r.dead refl l.2 l.3 (b ∙ l.6) (subst (λ (z : List Lex). IsStart ok spell (z ++ l.2 ∷ [])) (sym a) (limit_starts c ts rest' s l.0 l.1 l.2 l.5 l.7)))
          ]
          by_cut (sooner t more a b) = elim (limit_here c s.after rest' s.here) [
            | inl u ↦ absurd (s.dead u t (more ++ rest) b (front_starts Unexpected ts rest r s.front t more a))
            | inr l ↦
                let h : t ∷ (more ++ rest) ≡ l.2 ∷ l.3 = sym b ∙ l.6 in
                let same : l.2 ≡ t = cc in
                let tail = tail_of l.0 l.1 s.more (subst (λ (z : List Asked). Matches z s.more) l.5 s.completes) in
                absurd (no_limit_sooner Unexpected ts rest r s.front t more l.4 a (λ later. limit_is_told ok spell ends read pa at_end s.value s.before l.0 l.1 s.front t tail.0 later l.4 s.is_ok
                (s.parts ∙ ap (λ (z : List Asked). s.before ++ z) l.5) s.spelled (subst (λ (z : Lex). Fits l.0 z) same l.7) tail.1 l.8))
          ]

  -- a refusal is what is answered
  pub refused_is_told : (c : Cause) (ts rest : List Lex) → Refused ok spell c ts rest → all_of read ts ≡ Err (c, rest)
  refused_is_told c ts rest r = elim (limit_here c r.after rest r.here) [
    | inl u ↦
        subst (λ (z : Cause). all_of read ts ≡ Err (z, rest)) (sym u) (unexpected_is_told ts rest (subst (λ (z : Cause). Refused ok spell z ts rest) u r))
    | inr l ↦
        let tail = tail_of l.0 l.1 r.more (subst (λ (z : List Asked). Matches z r.more) l.5 r.completes) in
        let told : all_of read (r.front ++ l.2 ∷ l.3) ≡ Err (cause_of l.4, l.2 ∷ l.3) =
        limit_is_told ok spell ends read pa at_end r.value r.before l.0 l.1 r.front l.2 tail.0 l.3 l.4 r.is_ok (r.parts ∙ ap (λ (z : List Asked). r.before ++ z) l.5) r.spelled l.7 tail.1 l.8 in
        let same : ts ≡ r.front ++ l.2 ∷ l.3 = r.whole ∙ ap (λ (z : List Lex). r.front ++ z) l.6 in
        ap (all_of read) same ∙ told ∙ ap (λ (z : Cause). Err (z, l.2 ∷ l.3)) (sym l.9) ∙ ap (λ (z : List Lex). Err (c, z)) (sym l.6)
  ]
