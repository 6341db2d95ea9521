-- A reader that looks one token ahead, and what it reads.
use Rattle.std.proofs.Common.{◌≡◌, List, [], ◌∷◌, ◌++◌, length, length-append, Option, Some, None, Result, Ok, Err, refl, sym, ap, subst, ◌∙◌, append_assoc, arith, ◌⊎◌, inl, inr}
use Rattle.std.proofs.lemmas.List.{append_cancel_right}
use Rattle.ir_ast.specs.Tokens.{Lex, Asked, Fits, Matches, Spelled, Limit}
use Rattle.phrase.specs.Whole.{Here, cause_of}
use Rattle.phrase.specs.Reading.{Got, Reader, ◌>>=◌, both, at_head, one}
use Rattle.phrase.specs.declared.Cause.{Cause}
use Rattle.phrase.specs.declared.Cause.TheVariants.{Unexpected, NumberTooLarge, TooLarge}

-- ---- results

pub bind_ok : {A B : Type 0} (r : Result A (Cause × List Lex)) (f : A → Result B (Cause × List Lex)) (y : B) → (r >>= f) ≡ Ok y → (x : A) × (r ≡ Ok x) × (f x ≡ Ok y)
bind_ok (Ok x) f y e = (x, refl, e)
bind_ok (Err d) f y e = absurd cc

pub bind_err : {A B : Type 0} (r : Result A (Cause × List Lex)) (f : A → Result B (Cause × List Lex)) (d : Cause × List Lex) → (r >>= f) ≡ Err d → (r ≡ Err d) ⊎ ((x : A) × (r ≡ Ok x) × (f x ≡ Err d))
bind_err (Ok x) f d e = inr (x, refl, e)
bind_err (Err c) f d e = inl cc

-- ---- spelled lists

pub Spelled-append : (ps qs : List Asked) (xs ys : List Lex) → Spelled ps xs → Spelled qs ys → Spelled (ps ++ qs) (xs ++ ys)
Spelled-append [] qs [] ys h k = k
Spelled-append [] qs (x ∷ xs) ys h k = absurd h
Spelled-append (p ∷ ps) qs [] ys h k = absurd h
Spelled-append (p ∷ ps) qs (x ∷ xs) ys h k = (h.0, h.1, Spelled-append ps qs xs ys h.2 k)

pub Spelled-matches : (ps : List Asked) (ls : List Lex) → Spelled ps ls → Matches ps ls
Spelled-matches [] [] h = tt
Spelled-matches [] (l ∷ ls) h = absurd h
Spelled-matches (p ∷ ps) [] h = absurd h
Spelled-matches (p ∷ ps) (l ∷ ls) h = (h.0, Spelled-matches ps ls h.2)

pub Matches-append : (ps qs : List Asked) (xs ys : List Lex) → Matches ps xs → Matches qs ys → Matches (ps ++ qs) (xs ++ ys)
Matches-append [] qs [] ys h k = k
Matches-append [] qs (x ∷ xs) ys h k = absurd h
Matches-append (p ∷ ps) qs [] ys h k = absurd h
Matches-append (p ∷ ps) qs (x ∷ xs) ys h k = (h.0, Matches-append ps qs xs ys h.1 k)

-- a matching list is cut where its pieces are
pub record Cut (ps qs : List Asked) (zs : List Lex) : Type 0 where
  pub front : List Lex
  pub back : List Lex
  pub whole : zs ≡ front ++ back
  pub first : Matches ps front
  pub second : Matches qs back

pub Matches-cut : (ps qs : List Asked) (zs : List Lex) → Matches (ps ++ qs) zs → Cut ps qs zs
Matches-cut [] qs zs h = record { front = []; back = zs; whole = refl; first = tt; second = h }
Matches-cut (p ∷ ps) qs [] h = absurd h
Matches-cut (p ∷ ps) qs (z ∷ zs) h =
    let c = Matches-cut ps qs zs h.1 in
    record { front = z ∷ c.front; back = c.back; whole = ap (λ (x : List Lex). z ∷ x) c.whole; first = (h.0, c.first); second = c.second }

-- what reading matching tokens gives: the value, or the first limit that is passed
abbrev pub judged_at : {A : Type 0} → Option Limit → Got A → Lex → List Lex → Got A
judged_at None later l rest = later
judged_at (Some c) later l rest = Err (cause_of c, l ∷ rest)

abbrev pub judged : {A : Type 0} → List Asked → List Lex → A → List Lex → Got A
judged [] ls a rest = Ok (a, rest)
judged (p ∷ ps) [] a rest = Ok (a, rest)
judged (p ∷ ps) (l ∷ ls) a rest = judged_at p.fault (judged ps ls a rest) l (ls ++ rest)

-- where nothing is past its limit, the value
pub judged-spelled : {A : Type 0} (ps : List Asked) (ls : List Lex) (a : A) (rest : List Lex) → Spelled ps ls → judged ps ls a rest ≡ Ok (a, rest)
judged-spelled [] ls a rest h = refl
judged-spelled (p ∷ ps) [] a rest h = refl
judged-spelled (p ∷ ps) (l ∷ ls) a rest h = rw h.1 (judged-spelled ps ls a rest h.2)

-- it is the value, or a limit's cause
pub judged_is : {A : Type 0} (ps : List Asked) (ls : List Lex) (a : A) (rest : List Lex) → (judged ps ls a rest ≡ Ok (a, rest)) ⊎ ((c : Limit) × (z : List Lex) × (judged ps ls a rest ≡ Err (cause_of c, z)))
judged_is [] ls a rest = inl refl
judged_is (p ∷ ps) [] a rest = inl refl
judged_is {A = A} (p ∷ ps) (l ∷ ls) a rest = at_fault (judged_is ps ls a rest) p.fault
  where
    at_fault : (judged ps ls a rest ≡ Ok (a, rest)) ⊎ ((c : Limit) × (z : List Lex) × (judged ps ls a rest ≡ Err (cause_of c, z))) → (o : Option Limit)
        → (judged_at o (judged ps ls a rest) l (ls ++ rest) ≡ Ok (a, rest)) ⊎ ((c : Limit) × (z : List Lex) × (judged_at o (judged ps ls a rest) l (ls ++ rest) ≡ Err (cause_of c, z)))
    at_fault again None = again
    at_fault again (Some c) = inr (c, l ∷ (ls ++ rest), refl)

pub judged-map : {A B : Type 0} (f : A → B) (ps : List Asked) (ls : List Lex) (a : A) (rest : List Lex) → (judged ps ls a rest >>= λ x. let y : B × List Lex = (f x.0, x.1) in Ok y) ≡ judged ps ls (f a) rest
judged-map {B = B} f [] ls a rest = refl
judged-map {B = B} f (p ∷ ps) [] a rest = refl
judged-map {B = B} f (p ∷ ps) (l ∷ ls) a rest = at_fault (judged-map f ps ls a rest) p.fault
  where
    at_fault : (judged ps ls a rest >>= λ x. let y : B × List Lex = (f x.0, x.1) in Ok y) ≡ judged ps ls (f a) rest → (o : Option Limit) → (judged_at o (judged ps ls a rest) l (ls ++ rest) >>= λ x. let y : B × List Lex = (f x.0, x.1) in Ok y) ≡ judged_at o (judged ps ls (f a) rest) l (ls ++ rest)
    at_fault again None = again
    at_fault again (Some c) = refl

pub Here-more : (c : Cause) (after more : List Asked) (rest : List Lex) → Here c after rest → Here c (after ++ more) rest
Here-more Unexpected after more rest h = tt
Here-more NumberTooLarge [] more rest h = absurd h
Here-more NumberTooLarge (p ∷ after) more [] h = h
Here-more NumberTooLarge (p ∷ after) more (l ∷ rest) h = h
Here-more TooLarge [] more rest h = absurd h
Here-more TooLarge (p ∷ after) more [] h = h
Here-more TooLarge (p ∷ after) more (l ∷ rest) h = h

-- ---- what a reader took, and where it stopped

pub record Took {A : Type 0} (ok : A → Type 0) (spell : A → List Asked) (a : A) (ts rest : List Lex) : Type 0 where
  pub front : List Lex
  pub whole : ts ≡ front ++ rest
  pub is_ok : ok a
  pub spelled : Spelled (spell a) front

pub record Stopped {A : Type 0} (ok : A → Type 0) (spell : A → List Asked) (c : Cause) (ts rest : List Lex) : Type 0 where
  pub front : List Lex
  pub whole : ts ≡ front ++ rest
  pub value : A
  pub is_ok : ok value
  pub before : List Asked
  pub after : List Asked
  pub parts : spell value ≡ before ++ after
  pub spelled : Spelled before front
  pub more : List Lex
  pub completes : Matches after more
  pub here : Here c after rest

-- a value, and tokens that it is written with, limits aside
pub record Sample {A : Type 0} (ok : A → Type 0) (spell : A → List Asked) : Type 0 where
  pub value : A
  pub is_ok : ok value
  pub tokens : List Lex
  pub matches : Matches (spell value) tokens

abbrev pub SameHead : List Lex → List Lex → Type 0
SameHead [] [] = Unit {0}
SameHead [] (l ∷ ls) = ⊥
SameHead (k ∷ ks) [] = ⊥
SameHead (k ∷ ks) (l ∷ ls) = k ≡ l

pub record Phrase {A : Type 0} (ok : A → Type 0) (spell : A → List Asked) (ends : List Lex → Type 0) (read : Reader A) : Type 0 where
  pub sample : Sample ok spell
  pub sound : (ts : List Lex) (a : A) (rest : List Lex) → read ts ≡ Ok (a, rest) → Took ok spell a ts rest
  pub complete : (a : A) (front rest : List Lex) → ok a → Matches (spell a) front → ends rest → read (front ++ rest) ≡ judged (spell a) front a rest
  pub stops : (ts : List Lex) (c : Cause) (rest : List Lex) → read ts ≡ Err (c, rest) → Stopped ok spell c ts rest
  pub local_ok : (front rest : List Lex) (a : A) → read (front ++ rest) ≡ Ok (a, rest) → (other : List Lex) → SameHead rest other → read (front ++ other) ≡ Ok (a, other)
  pub local_stop : (front : List Lex) (t : Lex) (rest : List Lex) (c : Cause) → read (front ++ t ∷ rest) ≡ Err (c, t ∷ rest) → (other : List Lex) → read (front ++ t ∷ other) ≡ Err (c, t ∷ other)

-- ---- one after the other

abbrev pub ok_both : {A B : Type 0} → (A → Type 0) → (A → B → Type 0) → A × B → Type 0
ok_both p q c = p c.0 × q c.0 c.1

abbrev pub spell_both : {A B : Type 0} → (A → List Asked) → (A → B → List Asked) → A × B → List Asked
spell_both p q c = p c.0 ++ q c.0 c.1

pub ok_is : {A : Type 0} (x y : A × List Lex) → (let k : Got A = Ok x in k) ≡ Ok y → x ≡ y
ok_is x y e = cc

pub err_is : {A : Type 0} (x y : Cause × List Lex) → (let k : Got A = Err x in k) ≡ Err y → x ≡ y
err_is x y e = cc

pub pair_is : {A : Type 0} (a x : A) (rest r : List Lex) → (let k : Got A = Ok (x, r) in k) ≡ Ok (a, rest) → (x ≡ a) × (r ≡ rest)
pair_is {A = A} a x rest r e = let h = ok_is (x, r) (a, rest) e in (ap (λ (p : A × List Lex). p.0) h, ap (λ (p : A × List Lex). p.1) h)

pub ok_not_err : {A : Type 0} (x : A × List Lex) (y : Cause × List Lex) → (let k : Got A = Ok x in k) ≡ Err y → ⊥
ok_not_err x y e = cc

pub SameHead-append : (front rest other : List Lex) → SameHead rest other → SameHead (front ++ rest) (front ++ other)
SameHead-append [] rest other h = h
SameHead-append (x ∷ front) rest other h = refl

module _ {A B : Type 0} (okA : A → Type 0) (okB : A → B → Type 0) (spellA : A → List Asked) (spellB : A → B → List Asked)
    (endsA endsB : List Lex → Type 0) (readA : Reader A) (readB : A → Reader B)
    (pa : Phrase okA spellA endsA readA) (pb : (a : A) → Phrase (okB a) (spellB a) endsB (readB a))
    (follows : (a : A) (b : B) (back rest : List Lex) → okB a b → Matches (spellB a b) back → endsB rest → endsA (back ++ rest)) where
  both_sound : (ts : List Lex) (c : A × B) (rest : List Lex) → both readA readB ts ≡ Ok (c, rest) → Took (ok_both okA okB) (spell_both spellA spellB) c ts rest
  both_sound ts c rest e =
      let x = bind_ok (readA ts) (λ x. readB x.0 x.1 >>= λ y. Ok ((x.0, y.0), y.1)) (c, rest) e in
      let y = bind_ok (readB x.0.0 x.0.1) (λ y. Ok ((x.0.0, y.0), y.1)) (c, rest) x.2 in
      let ends = pair_is c (x.0.0, y.0.0) rest y.0.1 y.2 in
      let one = pa.sound ts x.0.0 x.0.1 x.1 in
      let two = (pb x.0.0).sound x.0.1 y.0.0 y.0.1 y.1 in
      subst (λ (d : A × B). Took (ok_both okA okB) (spell_both spellA spellB) d ts rest) ends.0 (record {
        front = one.front ++ two.front;
        whole = one.whole ∙ ap (λ (z : List Lex). one.front ++ z) (two.whole ∙ ap (λ (z : List Lex). two.front ++ z) ends.1) ∙ sym (append_assoc one.front two.front rest);
        is_ok = (one.is_ok, two.is_ok);
        spelled = Spelled-append (spellA x.0.0) (spellB x.0.0 y.0.0) one.front two.front one.spelled two.spelled;
      })

  both_judged : (a : A) (b : B) (ps : List Asked) (front back rest : List Lex) → Matches ps front → Matches (spellB a b) back → okB a b → endsB rest
      → (judged ps front a (back ++ rest) >>= λ x. readB x.0 x.1 >>= λ y. let z : (A × B) × List Lex = ((x.0, y.0), y.1) in Ok z) ≡ judged (ps ++ spellB a b) (front ++ back) (a, b) rest
  both_judged a b [] [] back rest h k ok e = rw ((pb a).complete b back rest ok k e) (judged-map (λ (y : B). (a, y)) (spellB a b) back b rest)
  both_judged a b [] (l ∷ front) back rest h k ok e = absurd h
  both_judged a b (p ∷ ps) [] back rest h k ok e = absurd h
  both_judged a b (p ∷ ps) (l ∷ front) back rest h k ok e = at_fault (both_judged a b ps front back rest h.1 k ok e) (append_assoc front back rest) p.fault
    where
      at_fault : (judged ps front a (back ++ rest) >>= λ x. readB x.0 x.1 >>= λ y. let z : (A × B) × List Lex = ((x.0, y.0), y.1) in Ok z) ≡ judged (ps ++ spellB a b) (front ++ back) (a, b) rest
          → (front ++ back) ++ rest ≡ front ++ (back ++ rest) → (o : Option Limit)
          → (judged_at o (judged ps front a (back ++ rest)) l (front ++ (back ++ rest)) >>= λ x. readB x.0 x.1 >>= λ y. let z : (A × B) × List Lex = ((x.0, y.0), y.1) in Ok z) ≡ judged_at o (judged (ps ++ spellB a b) (front ++ back) (a, b) rest) l ((front ++ back) ++ rest)
      at_fault again assoc None = again
      at_fault again assoc (Some c) = ap (λ (z : List Lex). Err (cause_of c, l ∷ z)) (sym assoc)

  both_complete : (c : A × B) (front rest : List Lex) → ok_both okA okB c → Matches (spell_both spellA spellB c) front → endsB rest → both readA readB (front ++ rest) ≡ judged (spell_both spellA spellB c) front c rest
  both_complete c front rest ok h e =
      let k = Matches-cut (spellA c.0) (spellB c.0 c.1) front h in
      let whole : front ++ rest ≡ k.front ++ (k.back ++ rest) = ap (λ (z : List Lex). z ++ rest) k.whole ∙ append_assoc k.front k.back rest in
      let one = pa.complete c.0 k.front (k.back ++ rest) ok.0 k.first (follows c.0 c.1 k.back rest ok.1 k.second e) in
      rw (whole, one) (both_judged c.0 c.1 (spellA c.0) k.front k.back rest k.first k.second ok.1 e ∙ ap (λ (z : List Lex). judged (spell_both spellA spellB c) z c rest) (sym k.whole))

  both_stops : (ts : List Lex) (c : Cause) (rest : List Lex) → both readA readB ts ≡ Err (c, rest) → Stopped (ok_both okA okB) (spell_both spellA spellB) c ts rest
  both_stops ts c rest e = elim (bind_err (readA ts) (λ x. readB x.0 x.1 >>= λ y. Ok ((x.0, y.0), y.1)) (c, rest) e) [
    | inl h ↦
        let one = pa.stops ts c rest h in
        let b = (pb one.value).sample in
        record {
          front = one.front;
          whole = one.whole;
          value = (one.value, b.value);
          is_ok = (one.is_ok, b.is_ok);
          before = one.before;
          after = one.after ++ spellB one.value b.value;
          parts = ap (λ (z : List Asked). z ++ spellB one.value b.value) one.parts ∙ append_assoc one.before one.after (spellB one.value b.value);
          spelled = one.spelled;
          more = one.more ++ b.tokens;
          completes = Matches-append one.after (spellB one.value b.value) one.more b.tokens one.completes b.matches;
          here = Here-more c one.after (spellB one.value b.value) rest one.here;
        }
    | inr x ↦ elim (bind_err (readB x.0.0 x.0.1) (λ y. Ok ((x.0.0, y.0), y.1)) (c, rest) x.2) [
      | inl h ↦
          let one = pa.sound ts x.0.0 x.0.1 x.1 in
          let two = (pb x.0.0).stops x.0.1 c rest h in
          record {
            front = one.front ++ two.front;
            whole = one.whole ∙ ap (λ (z : List Lex). one.front ++ z) two.whole ∙ sym (append_assoc one.front two.front rest);
            value = (x.0.0, two.value);
            is_ok = (one.is_ok, two.is_ok);
            before = spellA x.0.0 ++ two.before;
            after = two.after;
            parts = ap (λ (z : List Asked). spellA x.0.0 ++ z) two.parts ∙ sym (append_assoc (spellA x.0.0) two.before two.after);
            spelled = Spelled-append (spellA x.0.0) two.before one.front two.front one.spelled two.spelled;
            more = two.more;
            completes = two.completes;
            here = two.here;
          }
      | inr y ↦ absurd (ok_not_err ((x.0.0, y.0.0), y.0.1) (c, rest) y.2)
    ]
  ]

  both_local_ok : (front rest : List Lex) (c : A × B) → both readA readB (front ++ rest) ≡ Ok (c, rest) → (other : List Lex) → SameHead rest other → both readA readB (front ++ other) ≡ Ok (c, other)
  both_local_ok front rest c e other same =
      let x = bind_ok (readA (front ++ rest)) (λ x. readB x.0 x.1 >>= λ y. Ok ((x.0, y.0), y.1)) (c, rest) e in
      let y = bind_ok (readB x.0.0 x.0.1) (λ y. Ok ((x.0.0, y.0), y.1)) (c, rest) x.2 in
      let ends = pair_is c (x.0.0, y.0.0) rest y.0.1 y.2 in
      let one = pa.sound (front ++ rest) x.0.0 x.0.1 x.1 in
      let two = (pb x.0.0).sound x.0.1 y.0.0 y.0.1 y.1 in
      let mid : x.0.1 ≡ two.front ++ rest = two.whole ∙ ap (λ (z : List Lex). two.front ++ z) ends.1 in
      let all : front ++ rest ≡ one.front ++ (two.front ++ rest) = one.whole ∙ ap (λ (z : List Lex). one.front ++ z) mid in
      let cut : front ≡ one.front ++ two.front = append_cancel_right front (one.front ++ two.front) rest (all ∙ sym (append_assoc one.front two.front rest)) in
      let goes : front ++ other ≡ one.front ++ (two.front ++ other) = ap (λ (z : List Lex). z ++ other) cut ∙ append_assoc one.front two.front other in
      let first : readA (one.front ++ (two.front ++ rest)) ≡ Ok (x.0.0, two.front ++ rest) = ap readA (sym all) ∙ x.1 ∙ ap (λ (z : List Lex). Ok (x.0.0, z)) mid in
      let first' : readA (one.front ++ (two.front ++ other)) ≡ Ok (x.0.0, two.front ++ other) = pa.local_ok one.front (two.front ++ rest) x.0.0 first (two.front ++ other) (SameHead-append two.front rest other same) in
      let second : readB x.0.0 (two.front ++ rest) ≡ Ok (y.0.0, rest) = ap (readB x.0.0) (sym mid) ∙ y.1 ∙ ap (λ (z : List Lex). Ok (y.0.0, z)) ends.1 in
      let second' : readB x.0.0 (two.front ++ other) ≡ Ok (y.0.0, other) = (pb x.0.0).local_ok two.front rest y.0.0 second other same in
      rw (goes, first', second') (ap (λ (z : A × B). Ok (z, other)) ends.0)

  both_local_stop : (front : List Lex) (t : Lex) (rest : List Lex) (c : Cause) → both readA readB (front ++ t ∷ rest) ≡ Err (c, t ∷ rest) → (other : List Lex) → both readA readB (front ++ t ∷ other) ≡ Err (c, t ∷ other)
  both_local_stop front t rest c e other = elim (bind_err (readA (front ++ t ∷ rest)) (λ x. readB x.0 x.1 >>= λ y. Ok ((x.0, y.0), y.1)) (c, t ∷ rest) e) [
    | inl h ↦ rw (pa.local_stop front t rest c h other) refl
    | inr x ↦ elim (bind_err (readB x.0.0 x.0.1) (λ y. Ok ((x.0.0, y.0), y.1)) (c, t ∷ rest) x.2) [
      | inl h ↦
          let one = pa.sound (front ++ t ∷ rest) x.0.0 x.0.1 x.1 in
          let two = (pb x.0.0).stops x.0.1 c (t ∷ rest) h in
          let all : front ++ t ∷ rest ≡ one.front ++ (two.front ++ t ∷ rest) = one.whole ∙ ap (λ (z : List Lex). one.front ++ z) two.whole in
          let cut : front ≡ one.front ++ two.front = append_cancel_right front (one.front ++ two.front) (t ∷ rest) (all ∙ sym (append_assoc one.front two.front (t ∷ rest))) in
          let goes : front ++ t ∷ other ≡ one.front ++ (two.front ++ t ∷ other) = ap (λ (z : List Lex). z ++ t ∷ other) cut ∙ append_assoc one.front two.front (t ∷ other) in
          let first : readA (one.front ++ (two.front ++ t ∷ rest)) ≡ Ok (x.0.0, two.front ++ t ∷ rest) = ap readA (sym all) ∙ x.1 ∙ ap (λ (z : List Lex). Ok (x.0.0, z)) two.whole in
          let first' : readA (one.front ++ (two.front ++ t ∷ other)) ≡ Ok (x.0.0, two.front ++ t ∷ other) = pa.local_ok one.front (two.front ++ t ∷ rest) x.0.0 first (two.front ++ t ∷ other) (SameHead-append two.front (t ∷ rest) (t ∷ other) refl) in
          let second : readB x.0.0 (two.front ++ t ∷ rest) ≡ Err (c, t ∷ rest) = ap (readB x.0.0) (sym two.whole) ∙ h in
          let second' : readB x.0.0 (two.front ++ t ∷ other) ≡ Err (c, t ∷ other) = (pb x.0.0).local_stop two.front t rest c second other in
          rw (goes, first', second') refl
      | inr y ↦ absurd (ok_not_err ((x.0.0, y.0.0), y.0.1) (c, t ∷ rest) y.2)
    ]
  ]

  pub both_phrase : Phrase (ok_both okA okB) (spell_both spellA spellB) endsB (both readA readB)
  both_phrase = record {
    sample =
        let a = pa.sample in
        let b = (pb a.value).sample in
        record { value = (a.value, b.value); is_ok = (a.is_ok, b.is_ok); tokens = a.tokens ++ b.tokens; matches = Matches-append (spellA a.value) (spellB a.value b.value) a.tokens b.tokens a.matches b.matches };
    sound = both_sound;
    complete = both_complete;
    stops = both_stops;
    local_ok = both_local_ok;
    local_stop = both_local_stop;
  }

-- ---- one token

-- what is answered at a token that fits
abbrev pub verdict : {A : Type 0} → Option Limit → A → Result A Cause
verdict None a = Ok a
verdict (Some c) a = Err (cause_of c)

at_ok : {A : Type 0} (r : Result A Cause) (a : A) (l : Lex) (ls rest : List Lex) → at_head r l ls ≡ Ok (a, rest) → (r ≡ Ok a) × (ls ≡ rest)
at_ok {A = A} (Ok x) a l ls rest e = let h = pair_is a x rest ls e in (ap (λ (z : A). Ok z) h.0, h.1)
at_ok (Err c) a l ls rest e = absurd cc

at_err : {A : Type 0} (r : Result A Cause) (c : Cause) (l : Lex) (ls rest : List Lex) → at_head r l ls ≡ Err (c, rest) → (r ≡ Err c) × (l ∷ ls ≡ rest)
at_err (Ok x) c l ls rest e = absurd cc
at_err (Err d) c l ls rest e =
    let h = err_is (d, l ∷ ls) (c, rest) e in
    (ap (λ (z : Cause × List Lex). Err (z.0)) h, ap (λ (z : Cause × List Lex). z.1) h)

one_front : (p : Asked) (front : List Lex) → Matches (p ∷ []) front → (l : Lex) × (front ≡ l ∷ []) × Fits p l
one_front p [] h = absurd h
one_front p (l ∷ []) h = (l, refl, h.0)
one_front p (l ∷ k ∷ ls) h = absurd h.1

pub cons_not_self : (l : Lex) (ls : List Lex) → l ∷ ls ≡ ls → ⊥
cons_not_self l ls e = omega (arith, ap length e)

module _ {A : Type 0} (ok : A → Type 0) (spell : A → List Asked) (ends : List Lex → Type 0) (want : Lex → Result A Cause)
    (sample : Sample ok spell)
    (takes : (l : Lex) (a : A) → want l ≡ Ok a → ok a × Spelled (spell a) (l ∷ []))
    (single : (a : A) → (p : Asked) × (spell a ≡ p ∷ []))
    (gives : (a : A) (l : Lex) → ok a → Fits (single a).0 l → want l ≡ verdict (single a).0.fault a)
    (refuses : (l : Lex) (c : Cause) → want l ≡ Err c → (s : Sample ok spell) × ((rest : List Lex) → Here c (spell s.value) (l ∷ rest))) where
  one_sound : (ts : List Lex) (a : A) (rest : List Lex) → one want ts ≡ Ok (a, rest) → Took ok spell a ts rest
  one_sound [] a rest e = absurd cc
  one_sound (l ∷ ls) a rest e =
      let h = at_ok (want l) a l ls rest e in
      let t = takes l a h.0 in
      record { front = l ∷ []; whole = ap (λ (z : List Lex). l ∷ z) h.1; is_ok = t.0; spelled = t.1 }

  one_complete : (a : A) (front rest : List Lex) → ok a → Matches (spell a) front → ends rest → one want (front ++ rest) ≡ judged (spell a) front a rest
  one_complete a front rest k h e =
      let p = single a in
      let f = one_front p.0 front (subst (λ (z : List Asked). Matches z front) p.1 h) in
      let w = gives a f.0 k f.2 in
      rw (p.1, f.1, w) (at_fault f.0 p.0.fault)
    where
      at_fault : (l : Lex) (o : Option Limit) → at_head (verdict o a) l rest ≡ judged_at o (Ok (a, rest)) l rest
      at_fault l None = refl
      at_fault l (Some c) = refl

  one_stops : (ts : List Lex) (c : Cause) (rest : List Lex) → one want ts ≡ Err (c, rest) → Stopped ok spell c ts rest
  one_stops [] c rest e =
      let h = err_is (Unexpected, []) (c, rest) e in
      record {
        front = [];
        whole = ap (λ (z : Cause × List Lex). z.1) h;
        value = sample.value;
        is_ok = sample.is_ok;
        before = [];
        after = spell sample.value;
        parts = refl;
        spelled = tt;
        more = sample.tokens;
        completes = sample.matches;
        here = subst (λ (z : Cause). Here z (spell sample.value) rest) (ap (λ (z : Cause × List Lex). z.0) h) tt;
      }
  one_stops (l ∷ ls) c rest e =
      let h = at_err (want l) c l ls rest e in
      let r = refuses l c h.0 in
      record {
        front = [];
        whole = h.1;
        value = r.0.value;
        is_ok = r.0.is_ok;
        before = [];
        after = spell r.0.value;
        parts = refl;
        spelled = tt;
        more = r.0.tokens;
        completes = r.0.matches;
        here = subst (λ (z : List Lex). Here c (spell r.0.value) z) h.1 (r.1 ls);
      }

  one_local_ok : (front rest : List Lex) (a : A) → one want (front ++ rest) ≡ Ok (a, rest) → (other : List Lex) → SameHead rest other → one want (front ++ other) ≡ Ok (a, other)
  one_local_ok [] [] a e other same = absurd cc
  one_local_ok [] (l ∷ ls) a e other same = absurd (cons_not_self l ls (sym (at_ok (want l) a l ls (l ∷ ls) e).1))
  one_local_ok (l ∷ front) rest a e other same =
      let h = at_ok (want l) a l (front ++ rest) rest e in
      let n : front ≡ [] = append_cancel_right front [] rest h.1 in
      rw (n, h.0) refl

  one_local_stop : (front : List Lex) (t : Lex) (rest : List Lex) (c : Cause) → one want (front ++ t ∷ rest) ≡ Err (c, t ∷ rest) → (other : List Lex) → one want (front ++ t ∷ other) ≡ Err (c, t ∷ other)
  one_local_stop [] t rest c e other = rw (at_err (want t) c t rest (t ∷ rest) e).0 refl
  one_local_stop (l ∷ front) t rest c e other =
      let h = at_err (want l) c l (front ++ t ∷ rest) (t ∷ rest) e in
      absurd (omega (arith, ap length h.1, length-append front (t ∷ rest)))

  pub one_phrase : Phrase ok spell ends (one want)
  one_phrase = record { sample = sample; sound = one_sound; complete = one_complete; stops = one_stops; local_ok = one_local_ok; local_stop = one_local_stop }
