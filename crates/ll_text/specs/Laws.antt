-- Laws of the tokens of a text.
use Rattle.std.specs.Prelude.{◌≡◌, ℕ, ◌+◌, ◌<◌, ◌≤◌, Bool, false, List, [], ◌∷◌, ◌++◌, length}
use Rattle.ll_text.specs.Bytes.{is_part, is_figure}
use Rattle.ll_text.specs.declared.token.TokenKind.{TokenKind}
use Rattle.ll_text.specs.declared.token.TokenKind.TheVariants.{Word, Number, Quoted, Local, Global, Comdat, Attribute, Meta, Mark}
use Rattle.ll_text.specs.Lexed.{IsForm, Outcome, after_token, cut_at, Lexed}
use Rattle.ll_text.specs.Lexed.Outcome.{good}
use Rattle.ll_text.specs.declared.token.Token.{Token}

-- a text has an outcome from each place on
abbrev pub SomeOutcome : Type 0
SomeOutcome = (text : List ℕ) (at : ℕ) → (r : Outcome) × Lexed text at r

-- and only one
abbrev pub OneOutcome : Type 0
OneOutcome = (text : List ℕ) (at : ℕ) (r s : Outcome) → Lexed text at r → Lexed text at s → r ≡ s

-- the tokens are between two places, one after the other, and none is empty
abbrev pub AreBetween : ℕ → ℕ → List Token → Type 0
AreBetween start end [] = start ≤ end
AreBetween start end (t ∷ ts) = (start ≤ t.span.start) × (0 < t.span.len) × AreBetween (t.span.start + t.span.len) end ts

-- a text's tokens are in order and in the text
abbrev pub SpansInOrder : Type 0
SpansInOrder = (text : List ℕ) (at : ℕ) (ts : List Token) → Lexed text at (good ts) → AreBetween at (at + length text) ts

-- the next byte, if there is one, fails the test
abbrev pub StopsAt : (ℕ → Bool) → List ℕ → Type 0
StopsAt p [] = Unit {0}
StopsAt p (x ∷ xs) = p x ≡ false

-- no token of this kind goes on into these bytes
abbrev pub EndsBefore : TokenKind → List ℕ → Type 0
EndsBefore Word rest = StopsAt is_part rest
EndsBefore Number rest = StopsAt is_figure rest
EndsBefore Quoted rest = Unit {0}
EndsBefore Local rest = StopsAt is_part rest
EndsBefore Global rest = StopsAt is_part rest
EndsBefore Comdat rest = StopsAt is_part rest
EndsBefore Attribute rest = StopsAt is_part rest
EndsBefore Meta rest = StopsAt is_part rest
EndsBefore (Mark c) rest = Unit {0}

-- a token written before bytes that can't continue it is cut there, and what follows is cut as it was
abbrev pub WrittenToken : Type 0
WrittenToken = (k : TokenKind) (bs rest : List ℕ) (at : ℕ) (r : Outcome) → IsForm k bs → EndsBefore k rest → Lexed rest (at + length bs) r → Lexed (bs ++ rest) at (after_token (cut_at k at (length bs)) r)
