-- What is at the front of a text, by its first byte.
use Rattle.std.specs.Prelude.{ℕ, ◌+◌, ◌==◌, List, [], ◌∷◌, length, take_while, Option, Some, None, if◌then◌else◌}
use Rattle.bsan_ids.specs.Names.{is_digit, is_start, is_name}
use Rattle.ir_text.specs.Bytes.{is_blank, in_line, mark_of}
use Rattle.ir_text.specs.declared.token.TokenKind.{TokenKind}
use Rattle.ir_text.specs.declared.token.TokenKind.TheVariants.{Word, Local, Global, Number, Arrow}
use Rattle.ir_text.specs.declared.step.Step.{Step}
use Rattle.ir_text.specs.declared.step.Step.TheVariants.{Skip, Token, Bad}

abbrev pub named : TokenKind → List ℕ → Step
named kind rest = if length (take_while is_name rest) == 0 then Bad else Token kind (1 + length (take_while is_name rest))

abbrev pub arrow_of : List ℕ → Step
arrow_of [] = Bad
arrow_of (b ∷ rest) = if b == 62 then Token Arrow 2 else Bad

abbrev pub marked : Option TokenKind → Step
marked None = Bad
marked (Some kind) = Token kind 1

abbrev pub step_of : ℕ → List ℕ → Step
step_of first rest =
    if is_blank first then Skip 1
    else (if first == 59 then Skip (1 + length (take_while in_line rest))
    else (if is_start first then Token Word (1 + length (take_while is_name rest))
    else (if is_digit first then Token Number (1 + length (take_while is_digit rest))
    else (if first == 37 then named Local rest
    else (if first == 64 then named Global rest
    else (if first == 45 then arrow_of rest
    else marked (mark_of first)))))))
