-- Readers that don't look at places: without the places they read the same value without its places.
use Rattle.std.proofs.Common.{◌≡◌, ℕ, zero, suc, Bool, true, false, List, [], ◌∷◌, length, map, Option, Some, None, Result, Ok, Err, refl, ap, ◌∙◌}
use Rattle.std.specs.Option.{option_map}
use Rattle.ir_ast.specs.Tokens.{Lex}
use Rattle.phrase.specs.Reading.{Got, Reader, ◌>>=◌, both, at_head, one, mapped, maybe_if, maybe, list_of, many_from_up_to, many_from}
use Rattle.phrase.specs.Whole.{ended, all_of}
use Rattle.phrase.specs.declared.Cause.{Cause}

-- a token at the place 0
abbrev pub unplaced : Lex → Lex
unplaced l = record { form = l.form; at = 0 }

abbrev pub unplaced_all : List Lex → List Lex
unplaced_all = map unplaced

abbrev pub got_without : {A : Type 0} → (A → A) → Got A → Got A
got_without f (Ok x) = Ok (f x.0, unplaced_all x.1)
got_without f (Err d) = Err (d.0, unplaced_all d.1)

abbrev pub Blind : {A : Type 0} → (A → A) → Reader A → Type 0
Blind f r = (ts : List Lex) → r (unplaced_all ts) ≡ got_without f (r ts)

abbrev pub result_without : {A : Type 0} → (A → A) → Result A Cause → Result A Cause
result_without f (Ok a) = Ok (f a)
result_without f (Err c) = Err c

abbrev pub BlindWant : {A : Type 0} → (A → A) → (Lex → Result A Cause) → Type 0
BlindWant f want = (l : Lex) → want (unplaced l) ≡ result_without f (want l)

pub blind_one : {A : Type 0} (f : A → A) (want : Lex → Result A Cause) → BlindWant f want → Blind f (one want)
blind_one f want h [] = refl
blind_one {A = A} f want h (l ∷ ls) = ap (λ (r : Result A Cause). at_head r (unplaced l) (unplaced_all ls)) (h l) ∙ by_want (want l)
  where
    by_want : (r : Result A Cause) → at_head (result_without f r) (unplaced l) (unplaced_all ls) ≡ got_without f (at_head r l ls)
    by_want (Ok a) = refl
    by_want (Err c) = refl

-- two values, each without its places
abbrev pub each_of : {A B : Type 0} → (A → A) → (B → B) → A × B → A × B
each_of f g x = (f x.0, g x.1)

abbrev after_first : {A B : Type 0} → A → Got B → Got (A × B)
after_first a r = r >>= λ y. Ok ((a, y.0), y.1)

abbrev then_second : {A B : Type 0} → (A → Reader B) → Got A → Got (A × B)
then_second s r = r >>= λ x. s x.0 x.1 >>= λ y. Ok ((x.0, y.0), y.1)

pub blind_both_by : {A B : Type 0} (f : A → A) (g : B → B) (r : Reader A) (s : A → Reader B) → Blind f r → ((a : A) (ts : List Lex) → s (f a) (unplaced_all ts) ≡ got_without g (s a ts)) → Blind (each_of f g) (both r s)
blind_both_by {A = A} {B = B} f g r s hr hs ts = ap (λ (x : Got A). then_second s x) (hr ts) ∙ by_first (r ts)
  where
    by_second : (a : A) (y : Got B) → after_first (f a) (got_without g y) ≡ got_without (each_of f g) (after_first a y)
    by_second a (Ok y) = refl
    by_second a (Err d) = refl

    by_first : (x : Got A) → then_second s (got_without f x) ≡ got_without (each_of f g) (then_second s x)
    by_first (Ok x) = ap (λ (y : Got B). after_first (f x.0) y) (hs x.0 x.1) ∙ by_second x.0 (s x.0 x.1)
    by_first (Err d) = refl

pub blind_both : {A B : Type 0} (f : A → A) (g : B → B) (r : Reader A) (s : A → Reader B) → Blind f r → ((a : A) → Blind g (s a)) → ((a : A) (ts : List Lex) → s (f a) ts ≡ s a ts) → Blind (each_of f g) (both r s)
blind_both f g r s hr hs same = blind_both_by f g r s hr (λ a ts. same a (unplaced_all ts) ∙ hs a ts)

abbrev as_other : {A B : Type 0} → (A → B) → Got A → Got B
as_other h r = r >>= λ x. Ok (h x.0, x.1)

pub blind_mapped : {A B : Type 0} (f : A → A) (g : B → B) (h : A → B) (r : Reader A) → Blind f r → ((a : A) → h (f a) ≡ g (h a)) → Blind g (mapped h r)
blind_mapped {A = A} {B = B} f g h r hr same ts = ap (λ (x : Got A). as_other h x) (hr ts) ∙ by_got (r ts)
  where
    by_got : (x : Got A) → as_other h (got_without f x) ≡ got_without g (as_other h x)
    by_got (Ok x) = ap (λ (b : B). Ok (b, unplaced_all x.1)) (same x.0)
    by_got (Err d) = refl

abbrev as_some : {A : Type 0} → Got A → Got (Option A)
as_some r = r >>= λ x. Ok (Some x.0, x.1)

pub blind_maybe : {A : Type 0} (f : A → A) (begins : Lex → Bool) (r : Reader A) → ((l : Lex) → begins (unplaced l) ≡ begins l) → Blind f r → Blind (option_map f) (maybe begins r)
blind_maybe f begins r h hr [] = refl
blind_maybe {A = A} f begins r h hr (l ∷ ls) = ap (λ (b : Bool). maybe_if b r (unplaced l) (unplaced_all ls)) (h l) ∙ by_test (begins l)
  where
    by_got : (x : Got A) → as_some (got_without f x) ≡ got_without (option_map f) (as_some x)
    by_got (Ok x) = refl
    by_got (Err d) = refl

    by_test : (b : Bool) → maybe_if b r (unplaced l) (unplaced_all ls) ≡ got_without (option_map f) (maybe_if b r l ls)
    by_test true = ap (λ (x : Got A). as_some x) (hr (l ∷ ls)) ∙ by_got (r (l ∷ ls))
    by_test false = refl

list_without : {A : Type 0} (f : A → A) (o : Option (A × List A)) → list_of (option_map (each_of f (map f)) o) ≡ map f (list_of o)
list_without f None = refl
list_without f (Some x) = refl

length-unplaced : (ts : List Lex) → length (unplaced_all ts) ≡ length ts
length-unplaced [] = refl
length-unplaced (l ∷ ls) = ap suc (length-unplaced ls)

module _ {S A : Type 0} (f : A → A) (begins : Lex → Bool) (r : S → Reader A) (after : S → A → S) (h : (l : Lex) → begins (unplaced l) ≡ begins l) (hr : (s : S) → Blind f (r s)) (same : (s : S) (a : A) → after s (f a) ≡ after s a) where
  up_to : (n : ℕ) (s : S) → Blind (map f) (many_from_up_to begins r after n s)
  up_to zero s ts = refl
  up_to (suc n) s ts = blind_mapped (option_map (each_of f (map f))) (map f) list_of (maybe begins (both (r s) (λ a. many_from_up_to begins r after n (after s a))))
      (blind_maybe (each_of f (map f)) begins (both (r s) (λ a. many_from_up_to begins r after n (after s a))) h
      (blind_both f (map f) (r s) (λ a. many_from_up_to begins r after n (after s a)) (hr s) (λ a. up_to n (after s a)) (λ a us. ap (λ (z : S). many_from_up_to begins r after n z us) (same s a))))
      (list_without f) ts

  pub blind_many : (s : S) → Blind (map f) (many_from begins r after s)
  blind_many s ts = ap (λ (n : ℕ). many_from_up_to begins r after n s (unplaced_all ts)) (length-unplaced ts) ∙ up_to (length ts) s ts

-- all of the tokens
abbrev pub whole_without : {A : Type 0} → (A → A) → Result A (Cause × List Lex) → Result A (Cause × List Lex)
whole_without f (Ok a) = Ok (f a)
whole_without f (Err d) = Err (d.0, unplaced_all d.1)

abbrev to_end : {A : Type 0} → Got A → Result A (Cause × List Lex)
to_end r = r >>= λ x. ended x.0 x.1

pub blind_all : {A : Type 0} (f : A → A) (r : Reader A) → Blind f r → (ts : List Lex) → all_of r (unplaced_all ts) ≡ whole_without f (all_of r ts)
blind_all {A = A} f r hr ts = ap (λ (x : Got A). to_end x) (hr ts) ∙ by_got (r ts)
  where
    by_rest : (a : A) (rest : List Lex) → ended (f a) (unplaced_all rest) ≡ whole_without f (ended a rest)
    by_rest a [] = refl
    by_rest a (l ∷ ls) = refl

    by_got : (x : Got A) → to_end (got_without f x) ≡ whole_without f (to_end x)
    by_got (Ok x) = by_rest x.0 x.1
    by_got (Err d) = refl
