-- A list of tokens as a whole: what it is read as, and which refusal it meets.
use Rattle.std.specs.Prelude.{◌≡◌, List, [], ◌∷◌, ◌++◌, Some, Result, Ok, Err}
use Rattle.ir_ast.specs.Tokens.{Lex, Asked, Fits, Matches, Spelled, Limit}
use Rattle.ir_ast.specs.Tokens.Limit.{of_number, of_count}
use Rattle.phrase.specs.declared.Cause.{Cause}
use Rattle.phrase.specs.declared.Cause.TheVariants.{Unexpected, NumberTooLarge, TooLarge}
use Rattle.phrase.specs.Reading.{Reader, ◌>>=◌}

-- the tokens are those of this value
abbrev pub Reads : {A : Type 0} → (A → Type 0) → (A → List Asked) → List Lex → A → Type 0
Reads ok spell ts a = ok a × Spelled (spell a) ts

-- the tokens go on to those of some value, limits aside
abbrev pub IsStart : {A : Type 0} → (A → Type 0) → (A → List Asked) → List Lex → Type 0
IsStart {A = A} ok spell ts = (a : A) × (more : List Lex) × ok a × Matches (spell a) (ts ++ more)

abbrev pub cause_of : Limit → Cause
cause_of of_number = NumberTooLarge
cause_of of_count = TooLarge

-- the cause holds at the first of these tokens, where this is asked for: it is the token that is asked for, and past its limit
abbrev pub Here : Cause → List Asked → List Lex → Type 0
Here Unexpected after rest = Unit {0}
Here NumberTooLarge [] rest = ⊥
Here NumberTooLarge (p ∷ after) [] = ⊥
Here NumberTooLarge (p ∷ after) (l ∷ rest) = Fits p l × (p.fault ≡ Some of_number)
Here TooLarge [] rest = ⊥
Here TooLarge (p ∷ after) [] = ⊥
Here TooLarge (p ∷ after) (l ∷ rest) = Fits p l × (p.fault ≡ Some of_count)

-- The tokens before the refused one are a front of some value's, within the limits: with `more` in place of the rest
-- they are all of them, limits aside. And the cause holds at the refused one: with an unexpected token they go on to
-- no value's, or the end comes too early.
pub record Refused {A : Type 0} (ok : A → Type 0) (spell : A → List Asked) (c : Cause) (ts rest : List Lex) : Type 0 where
  pub front : List Lex
  pub whole : ts ≡ front ++ rest
  pub value : A
  pub is_ok : ok value
  pub before : List Asked
  pub after : List Asked
  pub parts : spell value ≡ before ++ after
  pub spelled : Spelled before front
  pub more : List Lex
  pub completes : Matches after more
  pub here : Here c after rest
  pub dead : c ≡ Unexpected → (t : Lex) (later : List Lex) → rest ≡ t ∷ later → IsStart ok spell (front ++ t ∷ []) → ⊥
  pub short : c ≡ Unexpected → rest ≡ [] → (a : A) → ok a → Matches (spell a) ts → ⊥

-- all of the tokens
abbrev pub ended : {A : Type 0} → A → List Lex → Result A (Cause × List Lex)
ended a [] = Ok a
ended a (l ∷ ls) = Err (Unexpected, l ∷ ls)

abbrev pub all_of : {A : Type 0} → Reader A → List Lex → Result A (Cause × List Lex)
all_of r ts = r ts >>= λ x. ended x.0 x.1
