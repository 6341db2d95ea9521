-- Reading from left to right, word by word: a value and the words after it, or nothing.
use Rattle.std.specs.Prelude.{◌≡◌, ℕ, ◌^◌, ◌==◌, Bool, not, nat_lt, Option, Some, None, Result, Ok, Err, List, [], ◌∷◌, map, if◌then◌else◌}
use Rattle.std.specs.Borrow.{Bor}
use Rattle.std.specs.Str.{bytes_eq}
use Rattle.std.specs.Str.Parse.{digits_value}
use Rattle.std.specs.Fmt.{decimal}
use Rattle.std.specs.List.{slice_split}
use Rattle.record_text.specs.declared.stop.Stop.{Stop}
use Rattle.record_text.specs.declared.stop.Stop.TheVariants.{Memory, Bad}

abbrev pub Words : Type 0
Words = List (List ℕ)

abbrev pub Reader : Type 0 → Type 0
Reader A = Words → Option (A × Words)

infixl 10 ◌>>=◌
abbrev pub ◌>>=◌ : {A B : Type 0} → Option A → (A → Option B) → Option B
None >>= f = None
(Some x) >>= f = f x

-- one word
abbrev pub one : {A : Type 0} → (List ℕ → Option A) → Reader A
one read [] = None
one read (w ∷ ws) = read w >>= λ a. Some (a, ws)

abbrev pub both : {A B : Type 0} → Reader A → Reader B → Reader (A × B)
both r s ws = r ws >>= λ x. s x.1 >>= λ y. Some ((x.0, y.0), y.1)

-- what was read, as something else
abbrev pub mapped : {A B : Type 0} → (A → B) → Reader A → Reader B
mapped f r ws = r ws >>= λ x. Some (f x.0, x.1)

-- nothing is read
abbrev pub given : {A : Type 0} → A → Reader A
given a ws = Some (a, ws)

-- the words behind this word
abbrev pub passed : List ℕ → Words → Option Words
passed text [] = None
passed text (w ∷ ws) = if bytes_eq w text then Some ws else None

-- this word, and then what is read
abbrev pub behind : {A : Type 0} → List ℕ → Reader A → Reader A
behind text r ws = passed text ws >>= r

-- all of the words
abbrev pub nothing_left : {A : Type 0} → A × Words → Option A
nothing_left (a, []) = Some a
nothing_left (a, w ∷ ws) = None

abbrev pub all_of : {A : Type 0} → Reader A → Words → Option A
all_of r ws = r ws >>= nothing_left

-- ---- parts of a text

-- another byte than this one
abbrev pub other_than : ℕ → ℕ → Bool
other_than c b = not (b == c)

-- the parts of a text between bytes of this value; none, where it is at its end
abbrev pub left : ℕ → Option (Bor (List ℕ)) → Words
left at None = []
left at (Some text) = slice_split (λ b. b == at) text.now

abbrev pub two_of : Words → Option (List ℕ × List ℕ)
two_of (a ∷ b ∷ []) = Some (a, b)
two_of _ = None

abbrev pub three_of : Words → Option (List ℕ × (List ℕ × List ℕ))
three_of (a ∷ b ∷ c ∷ []) = Some (a, (b, c))
three_of _ = None

-- ---- words that stand for a value each

-- the first value whose word it is
abbrev pub lookup : {A : Type 0} → List (List ℕ × A) → List ℕ → Option A
lookup [] w = None
lookup (row ∷ rows) w = if bytes_eq w row.0 then Some row.1 else lookup rows w

-- these values, each with its word
abbrev pub worded : {A : Type 0} → (A → List ℕ) → List A → List (List ℕ × A)
worded word values = map (λ a. (word a, a)) values

-- ---- numbers

-- the number, if it is below the bound
abbrev pub under : ℕ → ℕ → Option ℕ
under n bound = if nat_lt n bound then Some n else None

-- the number, if the word is its shortest decimal
abbrev pub if_decimal : List ℕ → ℕ → Option ℕ
if_decimal w n = if bytes_eq (decimal n) w then Some n else None

unfoldable pub number64 : List ℕ → Option ℕ
number64 w = under (digits_value 10 w) (2 ^ 64) >>= if_decimal w

unfoldable pub number32 : List ℕ → Option ℕ
number32 w = number64 w >>= λ n. under n (2 ^ 32)

unfoldable pub number8 : List ℕ → Option ℕ
number8 w = number64 w >>= λ n. under n 256

-- ---- what the code answers

-- What a function returned, seen by view, is what reading gives, unless memory ran out.
abbrev pub Fails : {Y : Type 0} → Stop → Option Y → Type 0
Fails Memory read = Unit {0}
Fails Bad read = read ≡ None

abbrev pub Gives : {X Y : Type 0} → (X → Y) → Result X Stop → Option Y → Type 0
Gives view (Ok x) read = read ≡ Some (view x)
Gives view (Err e) read = Fails e read

-- the same of a value and the words after it
abbrev pub IsRead : {A : Type 0} → Reader A → Option (Bor (List ℕ)) → Result (A × Option (Bor (List ℕ))) Stop → Type 0
IsRead reader words result = Gives (λ x. (x.0, left 32 x.1)) result (reader (left 32 words))

-- the same of the words after it alone
abbrev pub IsPassed : List ℕ → Option (Bor (List ℕ)) → Result (Option (Bor (List ℕ))) Stop → Type 0
IsPassed text words result = Gives (left 32) result (passed text (left 32 words))

-- the next word and those after it
abbrev pub IsWord : Option (Bor (List ℕ)) → Result (Bor (List ℕ) × Option (Bor (List ℕ))) Stop → Type 0
IsWord words result = Gives (λ x. (x.0.now, left 32 x.1)) result (one Some (left 32 words))
