-- What comes any number of times, each in a state that the ones before it leave.
use Rattle.std.proofs.Common.{◌≡◌, ℕ, zero, suc, ◌+◌, ◌<◌, ◌≤◌, Bool, true, false, List, [], ◌∷◌, ◌++◌, length, length-append, Option, Some, None, Result, Ok, Err, refl, sym, ap, subst, ◌∙◌, arith, ◌⊎◌, inl, inr}
use Rattle.std.proofs.lemmas.List.{append_cancel_right}
use Rattle.ir_ast.specs.Tokens.{Lex, Asked, Matches}
use Rattle.phrase.specs.Reading.{Got, Reader, ◌>>=◌, both, maybe, maybe_if, list_of, many_from_up_to, many_from}
use Rattle.phrase.specs.declared.Cause.{Cause}
use Rattle.phrase.proofs.Phrase.{pair_is, ok_not_err, Spelled-matches, Took, Phrase, ok_both, spell_both, both_phrase, judged}
use Rattle.phrase.proofs.Repeat.{Ends, ok_maybe, spell_maybe, Begins, mapped_phrase, maybe_phrase, started}

abbrev pub ok_from_up_to : {S A : Type 0} → (S → A → Type 0) → (S → A → S) → ℕ → S → List A → Type 0
ok_from_up_to ok after n s [] = Unit {0}
ok_from_up_to ok after zero s (a ∷ xs) = ⊥
ok_from_up_to ok after (suc n) s (a ∷ xs) = ok s a × ok_from_up_to ok after n (after s a) xs

abbrev pub ok_from : {S A : Type 0} → (S → A → Type 0) → (S → A → S) → S → List A → Type 0
ok_from ok after s [] = Unit {0}
ok_from ok after s (a ∷ xs) = ok s a × ok_from ok after (after s a) xs

abbrev pub spell_from : {S A : Type 0} → (S → A → List Asked) → (S → A → S) → S → List A → List Asked
spell_from spell after s [] = []
spell_from spell after s (a ∷ xs) = spell s a ++ spell_from spell after (after s a) xs

up_to-from : {S A : Type 0} (ok : S → A → Type 0) (after : S → A → S) (n : ℕ) (s : S) (xs : List A) → ok_from_up_to ok after n s xs → ok_from ok after s xs
up_to-from ok after n s [] h = tt
up_to-from ok after zero s (a ∷ xs) h = absurd h
up_to-from ok after (suc n) s (a ∷ xs) h = (h.0, up_to-from ok after n (after s a) xs h.1)

from-up_to : {S A : Type 0} (ok : S → A → Type 0) (after : S → A → S) (n : ℕ) (s : S) (xs : List A) → length xs ≤ n → ok_from ok after s xs → ok_from_up_to ok after n s xs
from-up_to ok after n s [] le h = tt
from-up_to ok after zero s (a ∷ xs) le h = absurd (omega arith)
from-up_to ok after (suc n) s (a ∷ xs) le h = (h.0, from-up_to ok after n (after s a) xs (omega arith) h.1)

split : {A B : Type 0} (r : Result A B) → ((x : A) × (r ≡ Ok x)) ⊎ ((d : B) × (r ≡ Err d))
split (Ok x) = inl (x, refl)
split (Err d) = inr (d, refl)

-- a value, and then those of the list
abbrev pub joined : {A : Type 0} → A → Got (List A) → Got (List A)
joined a r = r >>= λ y. Ok (a ∷ y.0, y.1)

abbrev paired : {A : Type 0} → A → Got (List A) → Got (A × List A)
paired a r = r >>= λ y. Ok ((a, y.0), y.1)

abbrev listed : {A : Type 0} → Got (Option (A × List A)) → Got (List A)
listed r = r >>= λ x. Ok (list_of x.0, x.1)

module _ {S A : Type 0} (ok : S → A → Type 0) (spell : S → A → List Asked) (ends : List Lex → Type 0) (read : S → Reader A) (pa : (s : S) → Phrase (ok s) (spell s) ends (read s)) (after : S → A → S)
    (begins : Lex → Bool) (starts : (s : S) (a : A) → ok s a → Begins (ok s) (spell s) begins a)
    (last : List Lex → Type 0) (closing : (rest : List Lex) → last rest → Ends begins rest)
    (follows : (s : S) (xs : List A) (back rest : List Lex) → ok_from ok after s xs → Matches (spell_from spell after s xs) back → last rest → ends (back ++ rest)) where
  none_phrase : (s : S) → Phrase (ok_from_up_to ok after zero s) (spell_from spell after s) last (many_from_up_to begins read after zero s)
  none_phrase s = record {
    sample = record { value = []; is_ok = tt; tokens = []; matches = tt };
    sound = λ ts xs rest e. let h = pair_is xs [] rest ts e in subst (λ (d : List A). Took (ok_from_up_to ok after zero s) (spell_from spell after s) d ts rest) h.0 (record { front = []; whole = h.1; is_ok = tt; spelled = tt });
    complete = none_complete;
    stops = λ ts c rest e. absurd (ok_not_err ([], ts) (c, rest) e);
    local_ok = λ front rest xs e other same. let h = pair_is xs [] rest (front ++ rest) e in rw (append_cancel_right front [] rest h.1) (ap (λ (z : List A). Ok (z, other)) h.0);
    local_stop = λ front t rest c e other. absurd (ok_not_err ([], front ++ t ∷ rest) (c, t ∷ rest) e);
  }
    where
      none_complete : (xs : List A) (front rest : List Lex) → ok_from_up_to ok after zero s xs → Matches (spell_from spell after s xs) front → last rest → many_from_up_to begins read after zero s (front ++ rest) ≡ judged (spell_from spell after s xs) front xs rest
      none_complete [] [] rest k h e = refl
      none_complete [] (l ∷ front) rest k h e = absurd h
      none_complete (a ∷ xs) front rest k h e = absurd k

  up_to_phrase : (n : ℕ) (s : S) → Phrase (ok_from_up_to ok after n s) (spell_from spell after s) last (many_from_up_to begins read after n s)
  up_to_phrase zero s = none_phrase s
  up_to_phrase (suc n) s =
      let tail = λ (a : A). up_to_phrase n (after s a) in
      let pair = both_phrase (ok s) (λ a. ok_from_up_to ok after n (after s a)) (spell s) (λ a. spell_from spell after (after s a)) ends last (read s) (λ a. many_from_up_to begins read after n (after s a)) (pa s) tail
      (λ a xs back rest k h e. follows (after s a) xs back rest (up_to-from ok after n (after s a) xs k) h e) in
      let opt = maybe_phrase (ok_both (ok s) (λ a. ok_from_up_to ok after n (after s a))) (spell_both (spell s) (λ a. spell_from spell after (after s a))) last (both (read s) (λ a. many_from_up_to begins read after n (after s a))) pair begins
      (λ x k. let b = starts s x.0 k.0 in record { first = b.first; others = b.others ++ spell_from spell after (after s x.0) x.1; parts = ap (λ (z : List Asked). z ++ spell_from spell after (after s x.0) x.1) b.parts; passes = b.passes }) in
      let m = mapped_phrase (ok_maybe (ok_both (ok s) (λ a. ok_from_up_to ok after n (after s a)))) (spell_maybe (spell_both (spell s) (λ a. spell_from spell after (after s a)))) (λ rest. last rest × Ends begins rest)
      (maybe begins (both (read s) (λ a. many_from_up_to begins read after n (after s a)))) opt list_of (ok_from_up_to ok after (suc n) s) (spell_from spell after s) there back in
      record {
        sample = m.sample;
        sound = m.sound;
        complete = λ xs front rest k h e. m.complete xs front rest k h (e, closing rest e);
        stops = m.stops;
        local_ok = m.local_ok;
        local_stop = m.local_stop;
      }
    where
      there : (x : Option (A × List A)) → ok_maybe (ok_both (ok s) (λ a. ok_from_up_to ok after n (after s a))) x → ok_from_up_to ok after (suc n) s (list_of x) × (spell_from spell after s (list_of x) ≡ spell_maybe (spell_both (spell s) (λ a. spell_from spell after (after s a))) x)
      there None k = (tt, refl)
      there (Some x) k = (k, refl)

      back : (xs : List A) → ok_from_up_to ok after (suc n) s xs → (x : Option (A × List A)) × ok_maybe (ok_both (ok s) (λ a. ok_from_up_to ok after n (after s a))) x × (list_of x ≡ xs)
      back [] k = (None, tt, refl)
      back (a ∷ xs) k = (Some (a, xs), k, refl)

  pub shorter_from : (s : S) (ts : List Lex) (a : A) (rest : List Lex) → read s ts ≡ Ok (a, rest) → length rest < length ts
  shorter_from s ts a rest e =
      let one = (pa s).sound ts a rest e in
      let b = started (ok s) (spell s) ends (read s) (pa s) begins (starts s) a one.front one.is_ok (Spelled-matches (spell s a) one.front one.spelled) in
      omega (arith, ap length one.whole, ap length b.2, length-append one.front rest)

  steady : (n m : ℕ) (s : S) (ts : List Lex) → length ts ≤ n → length ts ≤ m → many_from_up_to begins read after n s ts ≡ many_from_up_to begins read after m s ts
  steady zero zero s ts p q = refl
  steady zero (suc m) s [] p q = refl
  steady zero (suc m) s (l ∷ ls) p q = absurd (omega arith)
  steady (suc n) zero s [] p q = refl
  steady (suc n) zero s (l ∷ ls) p q = absurd (omega arith)
  steady (suc n) (suc m) s [] p q = refl
  steady (suc n) (suc m) s (l ∷ ls) p q = one_more (λ t rest le. steady n m t rest (omega arith) (omega arith)) (begins l)
    where
      one_more : ((t : S) (rest : List Lex) → length rest < suc (length ls) → many_from_up_to begins read after n t rest ≡ many_from_up_to begins read after m t rest) → (b : Bool)
          → listed (maybe_if b (both (read s) (λ a. many_from_up_to begins read after n (after s a))) l ls) ≡ listed (maybe_if b (both (read s) (λ a. many_from_up_to begins read after m (after s a))) l ls)
      one_more again false = refl
      one_more again true = elim (split (read s (l ∷ ls))) [
        | inl x ↦ rw (x.1, again (after s x.0.0) x.0.1 (shorter_from s (l ∷ ls) x.0.0 x.0.1 x.1)) refl
        | inr d ↦ rw d.1 refl
      ]

  as_many : (n : ℕ) (s : S) (ts : List Lex) → length ts ≤ n → many_from begins read after s ts ≡ many_from_up_to begins read after n s ts
  as_many n s ts p = steady (length ts) n s ts (omega arith) p

  pub many_from_phrase : (s : S) → Phrase (ok_from ok after s) (spell_from spell after s) last (many_from begins read after s)
  many_from_phrase s = record {
    sample = record { value = []; is_ok = tt; tokens = []; matches = tt };
    sound = λ ts xs rest e. let one = (up_to_phrase (length ts) s).sound ts xs rest e in record { front = one.front; whole = one.whole; is_ok = up_to-from ok after (length ts) s xs one.is_ok; spelled = one.spelled };
    complete = λ xs front rest k h e.
        let n = length xs + length (front ++ rest) in
        as_many n s (front ++ rest) (omega arith) ∙ (up_to_phrase n s).complete xs front rest (from-up_to ok after n s xs (omega arith) k) h e;
    stops = λ ts c rest e.
        let one = (up_to_phrase (length ts) s).stops ts c rest e in
        record { front = one.front; whole = one.whole; value = one.value; is_ok = up_to-from ok after (length ts) s one.value one.is_ok; before = one.before; after = one.after; parts = one.parts; spelled = one.spelled; more = one.more; completes = one.completes; here = one.here };
    local_ok = λ front rest xs e other same.
        let n = length (front ++ rest) + length (front ++ other) in
        as_many n s (front ++ other) (omega arith) ∙ (up_to_phrase n s).local_ok front rest xs (sym (as_many n s (front ++ rest) (omega arith)) ∙ e) other same;
    local_stop = λ front t rest c e other.
        let n = length (front ++ t ∷ rest) + length (front ++ t ∷ other) in
        as_many n s (front ++ t ∷ other) (omega arith) ∙ (up_to_phrase n s).local_stop front t rest c (sym (as_many n s (front ++ t ∷ rest) (omega arith)) ∙ e) other;
  }

  -- none begins here
  pub many_none : (s : S) (ts : List Lex) → Ends begins ts → many_from begins read after s ts ≡ Ok ([], ts)
  many_none s [] e = refl
  many_none s (l ∷ ls) e = rw e refl

  -- one is read, and then those that follow it
  pub many_step : (s : S) (l : Lex) (ls : List Lex) (a : A) (rest : List Lex) → begins l ≡ true → read s (l ∷ ls) ≡ Ok (a, rest) → many_from begins read after s (l ∷ ls) ≡ joined a (many_from begins read after (after s a) rest)
  many_step s l ls a rest b e =
      let le : length rest ≤ length ls = omega (arith, shorter_from s (l ∷ ls) a rest e) in
      rw (b, e) (again (many_from_up_to begins read after (length ls) (after s a) rest) ∙ ap (joined a) (sym (as_many (length ls) (after s a) rest le)))
    where
      again : (r : Got (List A)) → listed (paired a r >>= λ x. let y : Option (A × List A) × List Lex = (Some x.0, x.1) in Ok y) ≡ joined a r
      again (Ok x) = refl
      again (Err d) = refl

  pub many_err : (s : S) (l : Lex) (ls : List Lex) (d : Cause × List Lex) → begins l ≡ true → read s (l ∷ ls) ≡ Err d → many_from begins read after s (l ∷ ls) ≡ Err d
  many_err s l ls d b e = rw (b, e) refl
