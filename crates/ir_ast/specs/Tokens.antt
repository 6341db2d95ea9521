-- Tokens as the grammar sees them, and what a program asks of each of the tokens that it is written with.
use Rattle.std.specs.Prelude.{◌≡◌, ℕ, Bool, false, nat_lt, List, [], ◌∷◌, map, Option, Some, None, if◌then◌else◌}

-- P holds of each element
abbrev pub Each : {A : Type 0} → (A → Type 0) → List A → Type 0
Each P [] = Unit {0}
Each P (x ∷ xs) = P x × Each P xs

-- a token without its place: names without the `%` or `@` before them, numbers by their value
pub data Form : Type 0 where
  word : List ℕ → Form
  local : List ℕ → Form
  global : List ℕ → Form
  number : ℕ → Form
  open_round : Form
  close_round : Form
  open_brace : Form
  close_brace : Form
  comma : Form
  colon : Form
  equals : Form
  arrow : Form

-- a token: its form, and the place of its first byte
pub record Lex : Type 0 where
  pub form : Form
  pub at : ℕ

-- what can be past its limit: a number, or how many functions, instructions or registers there are
pub data Limit : Type 0 where
  of_number : Limit
  of_count : Limit

-- What a program asks of one token: its form; its place, as often as the program keeps it; whether an operation
-- is there, after a register and `=`; and which limit it is past, if it is.
pub record Asked : Type 0 where
  pub form : Form
  pub at : List ℕ
  pub is_operation : Bool
  pub fault : Option Limit

abbrev pub forms : List Asked → List Form
forms = map (λ a. a.form)

-- the token is the one that is asked for, limits aside
abbrev pub Fits : Asked → Lex → Type 0
Fits a l = (l.form ≡ a.form) × Each (λ at. l.at ≡ at) a.at

-- the tokens are the ones that are asked for, limits aside
abbrev pub Matches : List Asked → List Lex → Type 0
Matches [] [] = Unit {0}
Matches [] (l ∷ ls) = ⊥
Matches (a ∷ more) [] = ⊥
Matches (a ∷ more) (l ∷ ls) = Fits a l × Matches more ls

-- the tokens are the ones that are asked for, and nothing is past its limit
abbrev pub Spelled : List Asked → List Lex → Type 0
Spelled [] [] = Unit {0}
Spelled [] (l ∷ ls) = ⊥
Spelled (a ∷ more) [] = ⊥
Spelled (a ∷ more) (l ∷ ls) = Fits a l × (a.fault ≡ None) × Spelled more ls

-- ---- tokens that are asked for

abbrev pub plain : Form → Asked
plain form = record { form = form; at = []; is_operation = false; fault = None }

abbrev pub placed : Form → ℕ → Asked
placed form at = record { form = form; at = at ∷ []; is_operation = false; fault = None }

abbrev pub keyword : List ℕ → Asked
keyword text = plain (word text)

abbrev pub below : ℕ → ℕ → Limit → Option Limit
below n most limit = if nat_lt n most then None else Some limit

-- a number below the bound
abbrev pub amount : ℕ → ℕ → Asked
amount n bound = record { form = number n; at = []; is_operation = false; fault = below n bound of_number }

-- one more after `before` of them, where `most` are allowed
abbrev pub counted : ℕ → ℕ → Option Limit
counted before most = below before most of_count
