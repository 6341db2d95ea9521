-- The code's tokens and refusals, as the grammar sees them.
use Rattle.std.specs.Prelude.{◌≡◌, ℕ, ◌++◌, Bool, false, List, [], ◌∷◌, map, Result, Ok, Err}
use Rattle.std.specs.Borrow.{Bor}
use Rattle.ir_text.specs.declared.token.Token.{Token}
use Rattle.ir_ast.specs.Tokens.{Lex}
use Rattle.phrase.specs.Lexes.{lex}
use Rattle.phrase.specs.Reading.{Got, Reader, ◌>>=◌}
use Rattle.ir_reader.specs.declared.stop.Stop.{Stop}
use Rattle.ir_reader.specs.declared.stop.Stop.TheVariants.{Memory, At}

abbrev pub lexes : List ℕ → List Token → List Lex
lexes text = map (lex text)

-- What a function returned is what reading gives, unless memory ran out.
abbrev pub Fails : {Y : Type 0} → List ℕ → Stop → Got Y → Type 0
Fails text Memory read = Unit {0}
Fails text (At c rest) read = read ≡ Err (c, lexes text rest.now)

abbrev pub Gives : {X Y : Type 0} → List ℕ → (X → Y × List Lex) → Result X Stop → Got Y → Type 0
Gives text view (Ok x) read = read ≡ Ok (view x)
Gives text view (Err e) read = Fails text e read

-- the same of a value and the tokens after it: they are what the reader gives of these tokens
abbrev pub IsRead : {Y : Type 0} → Reader Y → List ℕ → List Token → Result (Y × Bor (List Token)) Stop → Type 0
IsRead reader text tokens result = Gives text (λ x. (x.0, lexes text x.1.now)) result (reader (lexes text tokens))

-- the same of a value with a count beside it, of which nothing is said
abbrev pub IsReadCounted : {Y C : Type 0} → Reader Y → List ℕ → List Token → Result ((Y × C) × Bor (List Token)) Stop → Type 0
IsReadCounted reader text tokens result = Gives text (λ x. (x.0.0, lexes text x.1.now)) result (reader (lexes text tokens))

-- the same of the tokens after it alone
abbrev pub IsTaken : Reader (Unit {0}) → List ℕ → List Token → Result (Bor (List Token)) Stop → Type 0
IsTaken reader text tokens result = Gives text (λ rest. (tt, lexes text rest.now)) result (reader (lexes text tokens))

-- whether the next token passes the test
abbrev pub begins : (Lex → Bool) → List Lex → Bool
begins test [] = false
begins test (l ∷ ls) = test l

-- what was read before, and what is still read
abbrev pub with_front : {A : Type 0} → List A → Got (List A) → Got (List A)
with_front front read = read >>= λ x. Ok (front ++ x.0, x.1)

-- what was read before, and then what the reader gives
abbrev pub onto : {A : Type 0} → List A → Reader (List A) → Reader (List A)
onto front reader ts = with_front front (reader ts)
