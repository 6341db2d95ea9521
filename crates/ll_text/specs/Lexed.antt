-- The tokens of a text.
use Rattle.std.specs.Prelude.{◌≡◌, ℕ, ◌+◌, ◌==◌, ◌<◌, ◌≤◌, Bool, true, false, if◌then◌else◌, List, [], ◌∷◌, ◌++◌, length, take}
use Rattle.std.specs.List.{list_all}
use Rattle.ll_text.specs.Bytes.{is_blank, in_line, is_part, is_figure, begins_word, begins_number, is_mark}
use Rattle.ll_text.specs.declared.token.TokenKind.{TokenKind}
use Rattle.ll_text.specs.declared.token.TokenKind.TheVariants.{Word, Number, Quoted, Local, Global, Comdat, Attribute, Meta, Mark}
use Rattle.ll_text.specs.declared.token.Token.{Token}
use Rattle.ll_text.specs.declared.token.TextFault.{TextFault}
use Rattle.ll_text.specs.declared.token.TextFault.TheVariants.{BadByte, NoMemory}

abbrev pub is_end : List ℕ → Bool
is_end [] = true
is_end (b ∷ bs) = false

-- the rest of a string: its first double quote is its last byte
abbrev pub is_closed : List ℕ → Bool
is_closed [] = false
is_closed (b ∷ bs) = if b == 34 then is_end bs else is_closed bs

-- a name: a string, or at least one name byte
abbrev pub is_named : List ℕ → Bool
is_named [] = false
is_named (b ∷ bs) = if b == 34 then is_closed bs else list_all is_part (b ∷ bs)

-- the bytes are a token of this kind
abbrev pub IsForm : TokenKind → List ℕ → Type 0
IsForm k [] = ⊥
IsForm Word (b ∷ bs) = (begins_word b ≡ true) × (list_all is_part bs ≡ true)
IsForm Number (b ∷ bs) = (begins_number b ≡ true) × (list_all is_figure bs ≡ true)
IsForm Quoted (b ∷ bs) = (b ≡ 34) × (is_closed bs ≡ true)
IsForm Local (b ∷ bs) = (b ≡ 37) × (is_named bs ≡ true)
IsForm Global (b ∷ bs) = (b ≡ 64) × (is_named bs ≡ true)
IsForm Comdat (b ∷ bs) = (b ≡ 36) × (is_named bs ≡ true)
IsForm Attribute (b ∷ bs) = (b ≡ 35) × (0 < length bs) × (list_all is_part bs ≡ true)
IsForm Meta (b ∷ bs) = (b ≡ 33) × (list_all is_part bs ≡ true)
IsForm (Mark c) (b ∷ bs) = (b ≡ c) × (is_mark b ≡ true) × (bs ≡ [])

-- no token at the front of the text has more than `n` bytes
abbrev pub IsLongest : List ℕ → ℕ → Type 0
IsLongest text n = (m : ℕ) (k : TokenKind) → n < m → m ≤ length text → IsForm k (take m text) → ⊥

-- the first bytes are a comment, and the rest is what follows it: from `;` on, up to the next newline or the end
abbrev pub IsComment : List ℕ → List ℕ → Type 0
IsComment [] rest = ⊥
IsComment (b ∷ bs) [] = (b ≡ 59) × (list_all in_line bs ≡ true)
IsComment (b ∷ bs) (c ∷ rest) = (b ≡ 59) × (list_all in_line bs ≡ true) × (c ≡ 10)

-- neither a blank nor a comment nor a token is in front
pub record IsBad (b : ℕ) (rest : List ℕ) : Type 0 where
  pub no_blank : is_blank b ≡ true → ⊥
  pub no_comment : b ≡ 59 → ⊥
  pub no_token : (n : ℕ) (k : TokenKind) → n ≤ length (b ∷ rest) → IsForm k (take n (b ∷ rest)) → ⊥

-- a text is cut into tokens, or has a first bad byte at a place
pub data Outcome : Type 0 where
  good : List Token → Outcome
  bad : ℕ → Outcome

-- a token in front of what the rest is cut into
abbrev pub after_token : Token → Outcome → Outcome
after_token t (good ts) = good (t ∷ ts)
after_token t (bad at) = bad at

-- the token of this kind whose bytes begin at this place, and how many they are
abbrev pub cut_at : TokenKind → ℕ → ℕ → Token
cut_at k at n = record { kind = k; span = record { start = at; len = n } }

-- what the text is cut into, from this place on
pub data Lexed : List ℕ → ℕ → Outcome → Type 0 where
  ended : (at : ℕ) → Lexed [] at (good [])
  blank : (b : ℕ) (rest : List ℕ) (at : ℕ) (r : Outcome) → is_blank b ≡ true → Lexed rest (at + 1) r → Lexed (b ∷ rest) at r
  comment : (text bs rest : List ℕ) (at : ℕ) (r : Outcome) → text ≡ bs ++ rest → IsComment bs rest → Lexed rest (at + length bs) r → Lexed text at r
  token : (text bs rest : List ℕ) (at : ℕ) (k : TokenKind) (r : Outcome) → text ≡ bs ++ rest → IsForm k bs → IsLongest text (length bs) → Lexed rest (at + length bs) r
      → Lexed text at (after_token (cut_at k at (length bs)) r)
  refused : (b : ℕ) (rest : List ℕ) (at : ℕ) → IsBad b rest → Lexed (b ∷ rest) at (bad at)

-- why there are no tokens: the first bad byte, or out of memory, of which nothing is known
abbrev pub IsTextFault : List ℕ → TextFault → Type 0
IsTextFault text (BadByte at) = Lexed text 0 (bad at)
IsTextFault text NoMemory = Unit {0}
