-- The tokens of a text.
use Rattle.std.specs.Prelude.{◌≡◌, ℕ, ◌+◌, ◌<◌, ◌≤◌, true, List, [], ◌∷◌, ◌++◌, length, take}
use Rattle.std.specs.List.{list_all}
use Rattle.bsan_ids.specs.Names.{is_digit, is_start, is_name}
use Rattle.ir_text.specs.Bytes.{is_blank, in_line}
use Rattle.ir_text.specs.declared.token.TokenKind.{TokenKind}
use Rattle.ir_text.specs.declared.token.TokenKind.TheVariants.{Word, Local, Global, Number, OpenRound, CloseRound, OpenBrace, CloseBrace, Comma, Colon, Equals, Arrow}
use Rattle.ir_text.specs.declared.token.Token.{Token}
use Rattle.ir_text.specs.declared.token.LexFault.{LexFault}
use Rattle.ir_text.specs.declared.token.LexFault.TheVariants.{BadByte, NoMemory}

-- the bytes are a token of this kind
abbrev pub IsForm : TokenKind → List ℕ → Type 0
IsForm k [] = ⊥
IsForm Word (b ∷ bs) = (is_start b ≡ true) × (list_all is_name bs ≡ true)
IsForm Local (b ∷ bs) = (b ≡ 37) × (0 < length bs) × (list_all is_name bs ≡ true)
IsForm Global (b ∷ bs) = (b ≡ 64) × (0 < length bs) × (list_all is_name bs ≡ true)
IsForm Number (b ∷ bs) = (is_digit b ≡ true) × (list_all is_digit bs ≡ true)
IsForm OpenRound (b ∷ bs) = (b ≡ 40) × (bs ≡ [])
IsForm CloseRound (b ∷ bs) = (b ≡ 41) × (bs ≡ [])
IsForm OpenBrace (b ∷ bs) = (b ≡ 123) × (bs ≡ [])
IsForm CloseBrace (b ∷ bs) = (b ≡ 125) × (bs ≡ [])
IsForm Comma (b ∷ bs) = (b ≡ 44) × (bs ≡ [])
IsForm Colon (b ∷ bs) = (b ≡ 58) × (bs ≡ [])
IsForm Equals (b ∷ bs) = (b ≡ 61) × (bs ≡ [])
IsForm Arrow (b ∷ bs) = (b ≡ 45) × (bs ≡ 62 ∷ [])

-- no token at the front of the text has more than `n` bytes
abbrev pub IsLongest : List ℕ → ℕ → Type 0
IsLongest text n = (m : ℕ) (k : TokenKind) → n < m → m ≤ length text → IsForm k (take m text) → ⊥

-- the first bytes are a comment, and the rest is what follows it: from `;` on, up to the next newline or the end
abbrev pub IsComment : List ℕ → List ℕ → Type 0
IsComment [] rest = ⊥
IsComment (b ∷ bs) [] = (b ≡ 59) × (list_all in_line bs ≡ true)
IsComment (b ∷ bs) (c ∷ rest) = (b ≡ 59) × (list_all in_line bs ≡ true) × (c ≡ 10)

-- neither a blank nor a comment nor a token is in front
pub record IsBad (b : ℕ) (rest : List ℕ) : Type 0 where
  pub no_blank : is_blank b ≡ true → ⊥
  pub no_comment : b ≡ 59 → ⊥
  pub no_token : (n : ℕ) (k : TokenKind) → n ≤ length (b ∷ rest) → IsForm k (take n (b ∷ rest)) → ⊥

-- a text is cut into tokens, or has a first bad byte at a place
pub data Outcome : Type 0 where
  good : List Token → Outcome
  bad : ℕ → Outcome

-- a token in front of what the rest is cut into
abbrev pub after_token : Token → Outcome → Outcome
after_token t (good ts) = good (t ∷ ts)
after_token t (bad at) = bad at

-- the token of this kind whose bytes begin at this place, and how many they are
abbrev pub cut_at : TokenKind → ℕ → ℕ → Token
cut_at k at n = record { kind = k; span = record { start = at; len = n } }

-- what the text is cut into, from this place on
pub data Lexed : List ℕ → ℕ → Outcome → Type 0 where
  ended : (at : ℕ) → Lexed [] at (good [])
  blank : (b : ℕ) (rest : List ℕ) (at : ℕ) (r : Outcome) → is_blank b ≡ true → Lexed rest (at + 1) r → Lexed (b ∷ rest) at r
  comment : (text bs rest : List ℕ) (at : ℕ) (r : Outcome) → text ≡ bs ++ rest → IsComment bs rest → Lexed rest (at + length bs) r → Lexed text at r
  token : (text bs rest : List ℕ) (at : ℕ) (k : TokenKind) (r : Outcome) → text ≡ bs ++ rest → IsForm k bs → IsLongest text (length bs) → Lexed rest (at + length bs) r
      → Lexed text at (after_token (cut_at k at (length bs)) r)
  refused : (b : ℕ) (rest : List ℕ) (at : ℕ) → IsBad b rest → Lexed (b ∷ rest) at (bad at)

-- why there are no tokens: the first bad byte, or out of memory, of which nothing is known
abbrev pub IsLexFault : List ℕ → LexFault → Type 0
IsLexFault text (BadByte at) = Lexed text 0 (bad at)
IsLexFault text NoMemory = Unit {0}
