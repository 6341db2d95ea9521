-- What is read as something else, what may be left out, and what comes any number of times.
use Rattle.std.proofs.Common.{◌≡◌, Bool, true, false, List, [], ◌∷◌, ◌++◌, length, length-append, Option, Some, None, Ok, Err, refl, sym, ap, subst, ◌∙◌, arith, inl, inr}
use Rattle.ir_ast.specs.Tokens.{Lex, Asked, Fits, Matches, Spelled}
use Rattle.phrase.specs.Reading.{Reader, mapped, maybe, maybe_if}
use Rattle.phrase.specs.declared.Cause.{Cause}
use Rattle.phrase.proofs.Phrase.{bind_ok, bind_err, pair_is, ok_not_err, SameHead, Spelled-matches, Took, Stopped, Phrase, judged, judged-map}

-- ---- as something else

module _ {A B : Type 0} (okA : A → Type 0) (spellA : A → List Asked) (ends : List Lex → Type 0) (read : Reader A) (pa : Phrase okA spellA ends read)
    (f : A → B) (okB : B → Type 0) (spellB : B → List Asked)
    (there : (a : A) → okA a → okB (f a) × (spellB (f a) ≡ spellA a))
    (back : (b : B) → okB b → (a : A) × okA a × (f a ≡ b)) where
  mapped_sound : (ts : List Lex) (b : B) (rest : List Lex) → mapped f read ts ≡ Ok (b, rest) → Took okB spellB b ts rest
  mapped_sound ts b rest e =
      let x = bind_ok (read ts) (λ x. Ok (f x.0, x.1)) (b, rest) e in
      let ends = pair_is b (f x.0.0) rest x.0.1 x.2 in
      let one = pa.sound ts x.0.0 x.0.1 x.1 in
      let t = there x.0.0 one.is_ok in
      subst (λ (d : B). Took okB spellB d ts rest) ends.0 (record {
        front = one.front;
        whole = one.whole ∙ ap (λ (z : List Lex). one.front ++ z) ends.1;
        is_ok = t.0;
        spelled = subst (λ (z : List Asked). Spelled z one.front) (sym t.1) one.spelled;
      })

  mapped_complete : (b : B) (front rest : List Lex) → okB b → Matches (spellB b) front → ends rest → mapped f read (front ++ rest) ≡ judged (spellB b) front b rest
  mapped_complete b front rest ok h e =
      let a = back b ok in
      let same : spellB b ≡ spellA a.0 = ap spellB (sym a.2) ∙ (there a.0 a.1).1 in
      rw (pa.complete a.0 front rest a.1 (subst (λ (z : List Asked). Matches z front) same h) e)
      (judged-map f (spellA a.0) front a.0 rest ∙ ap (λ (z : B). judged (spellA a.0) front z rest) a.2 ∙ ap (λ (z : List Asked). judged z front b rest) (sym same))

  mapped_stops : (ts : List Lex) (c : Cause) (rest : List Lex) → mapped f read ts ≡ Err (c, rest) → Stopped okB spellB c ts rest
  mapped_stops ts c rest e = elim (bind_err (read ts) (λ x. Ok (f x.0, x.1)) (c, rest) e) [
    | inl h ↦
        let one = pa.stops ts c rest h in
        let t = there one.value one.is_ok in
        record {
          front = one.front;
          whole = one.whole;
          value = f one.value;
          is_ok = t.0;
          before = one.before;
          after = one.after;
          parts = t.1 ∙ one.parts;
          spelled = one.spelled;
          more = one.more;
          completes = one.completes;
          here = one.here;
        }
    | inr x ↦ absurd (ok_not_err (f x.0.0, x.0.1) (c, rest) x.2)
  ]

  mapped_local_ok : (front rest : List Lex) (b : B) → mapped f read (front ++ rest) ≡ Ok (b, rest) → (other : List Lex) → SameHead rest other → mapped f read (front ++ other) ≡ Ok (b, other)
  mapped_local_ok front rest b e other same =
      let x = bind_ok (read (front ++ rest)) (λ x. Ok (f x.0, x.1)) (b, rest) e in
      let ends = pair_is b (f x.0.0) rest x.0.1 x.2 in
      rw (pa.local_ok front rest x.0.0 (x.1 ∙ ap (λ (z : List Lex). Ok (x.0.0, z)) ends.1) other same) (ap (λ (z : B). Ok (z, other)) ends.0)

  mapped_local_stop : (front : List Lex) (t : Lex) (rest : List Lex) (c : Cause) → mapped f read (front ++ t ∷ rest) ≡ Err (c, t ∷ rest) → (other : List Lex) → mapped f read (front ++ t ∷ other) ≡ Err (c, t ∷ other)
  mapped_local_stop front t rest c e other = elim (bind_err (read (front ++ t ∷ rest)) (λ x. Ok (f x.0, x.1)) (c, t ∷ rest) e) [
    | inl h ↦ rw (pa.local_stop front t rest c h other) refl
    | inr x ↦ absurd (ok_not_err (f x.0.0, x.0.1) (c, t ∷ rest) x.2)
  ]

  pub mapped_phrase : Phrase okB spellB ends (mapped f read)
  mapped_phrase = record {
    sample =
        let a = pa.sample in
        let t = there a.value a.is_ok in
        record { value = f a.value; is_ok = t.0; tokens = a.tokens; matches = subst (λ (z : List Asked). Matches z a.tokens) (sym t.1) a.matches };
    sound = mapped_sound;
    complete = mapped_complete;
    stops = mapped_stops;
    local_ok = mapped_local_ok;
    local_stop = mapped_local_stop;
  }

-- ---- what may be left out

abbrev pub Ends : (Lex → Bool) → List Lex → Type 0
Ends begins [] = Unit {0}
Ends begins (l ∷ ls) = begins l ≡ false

abbrev pub ok_maybe : {A : Type 0} → (A → Type 0) → Option A → Type 0
ok_maybe ok None = Unit {0}
ok_maybe ok (Some a) = ok a

abbrev pub spell_maybe : {A : Type 0} → (A → List Asked) → Option A → List Asked
spell_maybe spell None = []
spell_maybe spell (Some a) = spell a

-- the first piece of each spelling passes the test
pub record Begins {A : Type 0} (ok : A → Type 0) (spell : A → List Asked) (begins : Lex → Bool) (a : A) : Type 0 where
  pub first : Asked
  pub others : List Asked
  pub parts : spell a ≡ first ∷ others
  pub passes : (l : Lex) → Fits first l → begins l ≡ true

module _ {A : Type 0} (ok : A → Type 0) (spell : A → List Asked) (ends : List Lex → Type 0) (read : Reader A) (pa : Phrase ok spell ends read)
    (begins : Lex → Bool) (starts : (a : A) → ok a → Begins ok spell begins a) where
  -- a spelled value is at least a token, which passes the test
  pub started : (a : A) (front : List Lex) → ok a → Matches (spell a) front → (l : Lex) × (ls : List Lex) × (front ≡ l ∷ ls) × (begins l ≡ true)
  started a front k h =
      let b = starts a k in
      started_by b.first b.others front (subst (λ (z : List Asked). Matches z front) b.parts h) b.passes
    where
      started_by : (p : Asked) (ps : List Asked) (ls : List Lex) → Matches (p ∷ ps) ls → ((l : Lex) → Fits p l → begins l ≡ true) → (l : Lex) × (rest : List Lex) × (ls ≡ l ∷ rest) × (begins l ≡ true)
      started_by p ps [] h q = absurd h
      started_by p ps (l ∷ ls) h q = (l, ls, refl, q l h.0)

  maybe_sound_if : (b : Bool) (l : Lex) (ls : List Lex) (a : Option A) (rest : List Lex) → maybe_if b read l ls ≡ Ok (a, rest) → Took (ok_maybe ok) (spell_maybe spell) a (l ∷ ls) rest
  maybe_sound_if true l ls a rest e =
      let x = bind_ok (read (l ∷ ls)) (λ x. Ok (Some x.0, x.1)) (a, rest) e in
      let h = pair_is a (Some x.0.0) rest x.0.1 x.2 in
      let one = pa.sound (l ∷ ls) x.0.0 x.0.1 x.1 in
      subst (λ (d : Option A). Took (ok_maybe ok) (spell_maybe spell) d (l ∷ ls) rest) h.0 (record {
        front = one.front;
        whole = one.whole ∙ ap (λ (z : List Lex). one.front ++ z) h.1;
        is_ok = one.is_ok;
        spelled = one.spelled;
      })
  maybe_sound_if false l ls a rest e =
      let h = pair_is a None rest (l ∷ ls) e in
      subst (λ (d : Option A). Took (ok_maybe ok) (spell_maybe spell) d (l ∷ ls) rest) h.0 (record { front = []; whole = h.1; is_ok = tt; spelled = tt })

  maybe_sound : (ts : List Lex) (a : Option A) (rest : List Lex) → maybe begins read ts ≡ Ok (a, rest) → Took (ok_maybe ok) (spell_maybe spell) a ts rest
  maybe_sound [] a rest e =
      let h = pair_is a None rest [] e in
      subst (λ (d : Option A). Took (ok_maybe ok) (spell_maybe spell) d [] rest) h.0 (record { front = []; whole = h.1; is_ok = tt; spelled = tt })
  maybe_sound (l ∷ ls) a rest e = maybe_sound_if (begins l) l ls a rest e

  maybe_complete : (a : Option A) (front rest : List Lex) → ok_maybe ok a → Matches (spell_maybe spell a) front → ends rest × Ends begins rest → maybe begins read (front ++ rest) ≡ judged (spell_maybe spell a) front a rest
  maybe_complete None [] [] k h e = refl
  maybe_complete None [] (l ∷ ls) k h e = rw e.1 refl
  maybe_complete None (l ∷ front) rest k h e = absurd h
  maybe_complete (Some a) front rest k h e =
      let s = started a front k h in
      let r : read (s.0 ∷ (s.1 ++ rest)) ≡ judged (spell a) front a rest = ap (λ (z : List Lex). read (z ++ rest)) (sym s.2) ∙ pa.complete a front rest k h e.0 in
      ap (λ (z : List Lex). maybe begins read (z ++ rest)) s.2 ∙ rw (s.3, r) (judged-map (λ (x : A). Some x) (spell a) front a rest)

  maybe_stops_if : (b : Bool) (l : Lex) (ls : List Lex) (c : Cause) (rest : List Lex) → maybe_if b read l ls ≡ Err (c, rest) → Stopped (ok_maybe ok) (spell_maybe spell) c (l ∷ ls) rest
  maybe_stops_if true l ls c rest e = elim (bind_err (read (l ∷ ls)) (λ x. Ok (Some x.0, x.1)) (c, rest) e) [
    | inl h ↦
        let one = pa.stops (l ∷ ls) c rest h in
        record { front = one.front; whole = one.whole; value = Some one.value; is_ok = one.is_ok; before = one.before; after = one.after; parts = one.parts; spelled = one.spelled; more = one.more; completes = one.completes; here = one.here }
    | inr x ↦ absurd (ok_not_err (Some x.0.0, x.0.1) (c, rest) x.2)
  ]
  maybe_stops_if false l ls c rest e = absurd (ok_not_err (None, l ∷ ls) (c, rest) e)

  maybe_stops : (ts : List Lex) (c : Cause) (rest : List Lex) → maybe begins read ts ≡ Err (c, rest) → Stopped (ok_maybe ok) (spell_maybe spell) c ts rest
  maybe_stops [] c rest e = absurd (ok_not_err (None, []) (c, rest) e)
  maybe_stops (l ∷ ls) c rest e = maybe_stops_if (begins l) l ls c rest e

  maybe_local_ok_if : (b : Bool) (l : Lex) (front rest : List Lex) (a : Option A) → maybe_if b read l (front ++ rest) ≡ Ok (a, rest) → (other : List Lex) → SameHead rest other → maybe_if b read l (front ++ other) ≡ Ok (a, other)
  maybe_local_ok_if true l front rest a e other same =
      let x = bind_ok (read (l ∷ front ++ rest)) (λ x. Ok (Some x.0, x.1)) (a, rest) e in
      let h = pair_is a (Some x.0.0) rest x.0.1 x.2 in
      let first : read ((l ∷ front) ++ rest) ≡ Ok (x.0.0, rest) = x.1 ∙ ap (λ (z : List Lex). Ok (x.0.0, z)) h.1 in
      rw (pa.local_ok (l ∷ front) rest x.0.0 first other same) (ap (λ (z : Option A). Ok (z, other)) h.0)
  maybe_local_ok_if false l front rest a e other same =
      let h = pair_is a None rest (l ∷ front ++ rest) e in
      absurd (omega (arith, ap length h.1, length-append front rest))

  maybe_local_ok : (front rest : List Lex) (a : Option A) → maybe begins read (front ++ rest) ≡ Ok (a, rest) → (other : List Lex) → SameHead rest other → maybe begins read (front ++ other) ≡ Ok (a, other)
  maybe_local_ok [] [] a e [] same = e
  maybe_local_ok [] [] a e (k ∷ other) same = absurd same
  maybe_local_ok [] (l ∷ ls) a e [] same = absurd same
  maybe_local_ok [] (l ∷ ls) a e (k ∷ other) same = subst (λ (z : Lex). maybe begins read (z ∷ other) ≡ Ok (a, z ∷ other)) same (unread (begins l) l ls a other e)
    where
      unread : (b : Bool) (l : Lex) (ls : List Lex) (a : Option A) (other : List Lex) → maybe_if b read l ls ≡ Ok (a, l ∷ ls) → maybe_if b read l other ≡ Ok (a, l ∷ other)
      unread true l ls a other e =
          let x = bind_ok (read (l ∷ ls)) (λ x. Ok (Some x.0, x.1)) (a, l ∷ ls) e in
          let h = pair_is a (Some x.0.0) (l ∷ ls) x.0.1 x.2 in
          let one = pa.sound (l ∷ ls) x.0.0 x.0.1 x.1 in
          let s = started x.0.0 one.front one.is_ok (Spelled-matches (spell x.0.0) one.front one.spelled) in
          absurd (omega (arith, ap length one.whole, ap length s.2, ap length h.1, length-append one.front x.0.1))
      unread false l ls a other e = ap (λ (z : Option A). Ok (z, l ∷ other)) (pair_is a None (l ∷ ls) (l ∷ ls) e).0
  maybe_local_ok (l ∷ front) rest a e other same = maybe_local_ok_if (begins l) l front rest a e other same

  maybe_local_stop_if : (b : Bool) (l : Lex) (front : List Lex) (t : Lex) (rest : List Lex) (c : Cause) → maybe_if b read l (front ++ t ∷ rest) ≡ Err (c, t ∷ rest) → (other : List Lex) → maybe_if b read l (front ++ t ∷ other) ≡ Err (c, t ∷ other)
  maybe_local_stop_if true l front t rest c e other = elim (bind_err (read (l ∷ front ++ t ∷ rest)) (λ x. Ok (Some x.0, x.1)) (c, t ∷ rest) e) [
    | inl h ↦ rw (pa.local_stop (l ∷ front) t rest c h other) refl
    | inr x ↦ absurd (ok_not_err (Some x.0.0, x.0.1) (c, t ∷ rest) x.2)
  ]
  maybe_local_stop_if false l front t rest c e other = absurd (ok_not_err (None, l ∷ front ++ t ∷ rest) (c, t ∷ rest) e)

  maybe_local_stop : (front : List Lex) (t : Lex) (rest : List Lex) (c : Cause) → maybe begins read (front ++ t ∷ rest) ≡ Err (c, t ∷ rest) → (other : List Lex) → maybe begins read (front ++ t ∷ other) ≡ Err (c, t ∷ other)
  maybe_local_stop [] t rest c e other = first (begins t) e
    where
      first : (b : Bool) → maybe_if b read t rest ≡ Err (c, t ∷ rest) → maybe_if b read t other ≡ Err (c, t ∷ other)
      first true e = elim (bind_err (read (t ∷ rest)) (λ x. Ok (Some x.0, x.1)) (c, t ∷ rest) e) [
        | inl h ↦ rw (pa.local_stop [] t rest c h other) refl
        | inr x ↦ absurd (ok_not_err (Some x.0.0, x.0.1) (c, t ∷ rest) x.2)
      ]
      first false e = absurd (ok_not_err (None, t ∷ rest) (c, t ∷ rest) e)
  maybe_local_stop (l ∷ front) t rest c e other = maybe_local_stop_if (begins l) l front t rest c e other

  pub maybe_phrase : Phrase (ok_maybe ok) (spell_maybe spell) (λ rest. ends rest × Ends begins rest) (maybe begins read)
  maybe_phrase = record {
    sample = record { value = None; is_ok = tt; tokens = []; matches = tt };
    sound = maybe_sound;
    complete = maybe_complete;
    stops = maybe_stops;
    local_ok = maybe_local_ok;
    local_stop = maybe_local_stop;
  }
