-- Reading from left to right: a value and the tokens after it, or a cause and the tokens from the refused one on.
use Rattle.std.specs.Prelude.{ℕ, zero, suc, Bool, true, false, List, [], ◌∷◌, length, Option, Some, None, Result, Ok, Err}
use Rattle.ir_ast.specs.Tokens.{Lex}
use Rattle.phrase.specs.declared.Cause.{Cause}
use Rattle.phrase.specs.declared.Cause.TheVariants.{Unexpected}

abbrev pub Got : Type 0 → Type 0
Got A = Result (A × List Lex) (Cause × List Lex)

abbrev pub Reader : Type 0 → Type 0
Reader A = List Lex → Got A

infixl 10 ◌>>=◌
abbrev pub ◌>>=◌ : {A B : Type 0} → Result A (Cause × List Lex) → (A → Result B (Cause × List Lex)) → Result B (Cause × List Lex)
(Ok x) >>= f = f x
(Err e) >>= f = Err e

-- one after the other, the second by what the first gave
abbrev pub both : {A B : Type 0} → Reader A → (A → Reader B) → Reader (A × B)
both r s ts = r ts >>= λ x. s x.0 x.1 >>= λ y. Ok ((x.0, y.0), y.1)

-- one token
abbrev pub at_head : {A : Type 0} → Result A Cause → Lex → List Lex → Got A
at_head (Ok a) l ls = Ok (a, ls)
at_head (Err c) l ls = Err (c, l ∷ ls)

abbrev pub one : {A : Type 0} → (Lex → Result A Cause) → Reader A
one want [] = Err (Unexpected, [])
one want (l ∷ ls) = at_head (want l) l ls

-- what was read, as something else
abbrev pub mapped : {A B : Type 0} → (A → B) → Reader A → Reader B
mapped f r ts = r ts >>= λ x. Ok (f x.0, x.1)

-- nothing, unless the next token passes the test
abbrev pub maybe_if : {A : Type 0} → Bool → Reader A → Lex → List Lex → Got (Option A)
maybe_if true r l ls = r (l ∷ ls) >>= λ x. Ok (Some x.0, x.1)
maybe_if false r l ls = Ok (None, l ∷ ls)

abbrev pub maybe : {A : Type 0} → (Lex → Bool) → Reader A → Reader (Option A)
maybe begins r [] = Ok (None, [])
maybe begins r (l ∷ ls) = maybe_if (begins l) r l ls

abbrev pub list_of : {A : Type 0} → Option (A × List A) → List A
list_of None = []
list_of (Some x) = x.0 ∷ x.1

-- as many as begin so, each read in a state that the ones before it leave, as a count of definitions; at most n
abbrev pub many_from_up_to : {S A : Type 0} → (Lex → Bool) → (S → Reader A) → (S → A → S) → ℕ → S → Reader (List A)
many_from_up_to begins r after zero s ts = Ok ([], ts)
many_from_up_to begins r after (suc n) s ts = mapped list_of (maybe begins (both (r s) (λ a. many_from_up_to begins r after n (after s a)))) ts

abbrev pub many_from : {S A : Type 0} → (Lex → Bool) → (S → Reader A) → (S → A → S) → S → Reader (List A)
many_from begins r after s ts = many_from_up_to begins r after (length ts) s ts
