-- What `read` answers, from what a text is.
use Rattle.std.proofs.Common.{◌≡◌, ℕ, ◌≤◌, ◌-◌, List, length, length-append, take, Result, Ok, Err, sym, ap, subst, ◌∙◌, arith}
use Rattle.std.specs.Prelude.{IfOk, IfErr}
use Rattle.std.proofs.lemmas.List.{take-map}
use Rattle.ir_text.specs.declared.token.Token.{Token}
use Rattle.ir_text.specs.Lexed.{Lexed}
use Rattle.ir_text.specs.Lexed.Outcome.{good}
use Rattle.phrase.specs.Whole.{all_of}
use Rattle.phrase.specs.declared.Cause.{Cause}
use Rattle.ir_ast.specs.Tokens.{Lex}
use Rattle.phrase.specs.Lexes.{lex}
use Rattle.ir_ast.specs.Programs.{IsProgram, KeepsLimits}
use Rattle.ir_ast.specs.declared.program.Program.{Program}
use Rattle.ir_ast.proofs.Limits.{keeps_limits}
use Rattle.ir_reader.specs.View.{lexes}
use Rattle.ir_reader.specs.Blocks.{program_at}
use Rattle.ir_text.specs.Bytes.{most_bytes}
use Rattle.ir_reader.specs.Readings.{IsProgramOf, Refuses, AnswersUnlessMemory, IsRefusal}
use Rattle.ir_reader.specs.Told.{front_of, fault_at}
use Rattle.ir_reader.specs.declared.fault.ReadFault.{ReadFault}
use Rattle.ir_reader.specs.declared.fault.ReadFault.TheVariants.{TooLarge, BadByte, IntToPtr, Unexpected, NumberTooLarge, NoMemory}
use Rattle.ir_reader.proofs.Loop.{length-lexes}
use Rattle.ir_reader.proofs.WholeParts.{refuses}
use Rattle.ir_reader.proofs.Possible.{is_program}
use Rattle.ir_reader.proofs.Verdicts.{refuses_stop, one_program, not_both}

abbrev Answer : Type 0
Answer = Result Program ReadFault

refusal : (text : List ℕ) (f : ReadFault) → Refuses text f → IsRefusal text f
refusal text (TooLarge at) h = h
refusal text (BadByte at) h = h
refusal text (IntToPtr at) h = h
refusal text (Unexpected at) h = h
refusal text (NumberTooLarge at) h = h
refusal text NoMemory h = tt

-- ---- the tokens from the refused one on

pub rest_shorter : (text : List ℕ) (ts rest : List Token) (c : Cause) → all_of program_at (lexes text ts) ≡ Err (c, lexes text rest) → length rest ≤ length ts
rest_shorter text ts rest c e =
    let r = refuses (lexes text ts) c (lexes text rest) e in
    omega (arith, length-lexes text ts, length-lexes text rest, ap length r.whole, length-append r.front (lexes text rest))

pub refused_as : (text : List ℕ) (ts front rest : List Token) (c : Cause) (f : ReadFault) (end : ℕ) → length text ≤ most_bytes → Lexed text 0 (good ts) → all_of program_at (lexes text ts) ≡ Err (c, lexes text rest)
    → front ≡ take (length ts - length rest) ts → end ≡ length text → f ≡ fault_at end (lexes text front) c (lexes text rest) → IsRefusal text f
refused_as text ts front rest c f end le l e is_front is_end told =
    let here : lexes text front ≡ front_of (lexes text ts) (lexes text rest) =
    ap (lexes text) is_front ∙ sym (take-map (lex text) (length ts - length rest) ts) ∙ ap (λ (n : ℕ). take n (lexes text ts)) (sizes (length ts) (length rest) (length (lexes text ts)) (length (lexes text rest)) (length-lexes text ts) (length-lexes text rest)) in
    let same : f ≡ fault_at (length text) (front_of (lexes text ts) (lexes text rest)) c (lexes text rest) = told ∙ ap (λ (n : ℕ). fault_at n (lexes text front) c (lexes text rest)) is_end ∙ ap (λ (z : List Lex). fault_at (length text) z c (lexes text rest)) here in
    refusal text f (subst (Refuses text) (sym same) (refuses_stop text ts c (lexes text rest) le l e))
  where
    sizes : (a b a' b' : ℕ) → a' ≡ a → b' ≡ b → a - b ≡ a' - b'
    sizes a b a' b' x y = omega (arith, x, y)

-- ---- what follows from the answer

pub gives_program : (text : List ℕ) (r : Answer) → IfOk r (λ p. IsProgramOf text p) → IfOk r (λ p. IsProgram p)
gives_program text (Ok p) h = is_program text p h
gives_program text (Err f) h = tt

pub gives_limits : (text : List ℕ) (r : Answer) → IfOk r (λ p. IsProgramOf text p) → IfOk r (λ p. KeepsLimits p)
gives_limits text (Ok p) h = keeps_limits p (is_program text p h)
gives_limits text (Err f) h = tt

pub gives_only : (text : List ℕ) (r : Answer) → IfOk r (λ p. IsProgramOf text p) → IfErr r (λ f. IsRefusal text f) → (p : Program) → IsProgramOf text p → AnswersUnlessMemory r (Ok p)
gives_only text (Ok q) h k p is = ap Ok (one_program text q p h is)
gives_only text (Err (TooLarge at)) h k p is = absurd (not_both text p (TooLarge at) is k)
gives_only text (Err (BadByte at)) h k p is = absurd (not_both text p (BadByte at) is k)
gives_only text (Err (IntToPtr at)) h k p is = absurd (not_both text p (IntToPtr at) is k)
gives_only text (Err (Unexpected at)) h k p is = absurd (not_both text p (Unexpected at) is k)
gives_only text (Err (NumberTooLarge at)) h k p is = absurd (not_both text p (NumberTooLarge at) is k)
gives_only text (Err NoMemory) h k p is = tt
