-- What is at the front of a text, by its first byte.
use Rattle.std.specs.Prelude.{ℕ, ◌+◌, ◌==◌, List, [], ◌∷◌, length, take_while, nat_lt, if◌then◌else◌}
use Rattle.ll_text.specs.Bytes.{is_blank, in_line, in_quote, is_part, is_figure, begins_word, begins_number, is_mark}
use Rattle.ll_text.specs.declared.token.TokenKind.{TokenKind}
use Rattle.ll_text.specs.declared.token.TokenKind.TheVariants.{Word, Number, Quoted, Local, Global, Comdat, Attribute, Meta, Mark}
use Rattle.ll_text.specs.declared.step.Step.{Step}
use Rattle.ll_text.specs.declared.step.Step.TheVariants.{Skip, Token, Bad}

-- how many bytes the rest of a string has, 0 if nothing closes it
abbrev pub closed_len : List ℕ → ℕ
closed_len text = if nat_lt (length (take_while in_quote text)) (length text) then 1 + length (take_while in_quote text) else 0

-- how many bytes the name in front has, 0 if there is none
abbrev pub name_len : List ℕ → ℕ
name_len [] = 0
name_len (b ∷ rest) = if b == 34 then (if closed_len rest == 0 then 0 else 1 + closed_len rest) else length (take_while is_part (b ∷ rest))

abbrev pub sized : TokenKind → ℕ → Step
sized kind len = if len == 0 then Bad else Token kind (1 + len)

abbrev pub step_of : ℕ → List ℕ → Step
step_of first rest =
    if is_blank first then Skip 1
    else (if first == 59 then Skip (1 + length (take_while in_line rest))
    else (if begins_word first then Token Word (1 + length (take_while is_part rest))
    else (if begins_number first then Token Number (1 + length (take_while is_figure rest))
    else (if first == 34 then sized Quoted (closed_len rest)
    else (if first == 37 then sized Local (name_len rest)
    else (if first == 64 then sized Global (name_len rest)
    else (if first == 36 then sized Comdat (name_len rest)
    else (if first == 35 then sized Attribute (length (take_while is_part rest))
    else (if first == 33 then Token Meta (1 + length (take_while is_part rest))
    else (if is_mark first then Token (Mark first) 1
    else Bad))))))))))
