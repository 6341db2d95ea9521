-- The canonical text of a program that was read is read as that program, up to places.
use Rattle.std.proofs.Common.{◌≡◌, ℕ, ◌≤◌, List, [], ◌∷◌, length, map, Result, Ok, Err, refl, sym, ap, ◌∙◌}
use Rattle.ir_text.specs.declared.token.Token.{Token}
use Rattle.phrase.specs.Whole.{all_of}
use Rattle.phrase.specs.declared.Cause.{Cause}
use Rattle.ir_ast.specs.Tokens.{Form, Lex, Asked, Spelled, forms}
use Rattle.phrase.specs.Lexes.{lex, IsCut}
use Rattle.ir_ast.specs.Lines.{spell}
use Rattle.ir_ast.specs.Texts.{canonical}
use Rattle.ir_ast.specs.Places.{function_without, SameUpToPlaces}
use Rattle.ir_ast.specs.declared.program.Function.{Function}
use Rattle.ir_ast.specs.declared.program.Program.{Program}
use Rattle.phrase.proofs.Cut.{canonical_is_cut}
use Rattle.ir_reader.specs.View.{lexes}
use Rattle.ir_reader.specs.Blocks.{program_at}
use Rattle.ir_reader.specs.Laws.{with_end}
use Rattle.ir_text.specs.Bytes.{most_bytes}
use Rattle.ir_reader.specs.Readings.{IsProgramOf}
use Rattle.ir_reader.proofs.Blind.{unplaced_all, whole_without, blind_all}
use Rattle.ir_reader.proofs.BlindParts.{versioned_without, blind_program}
use Rattle.ir_reader.proofs.BlockParts.{Versioned}
use Rattle.ir_reader.proofs.Possible.{is_program}
use Rattle.ir_reader.proofs.Verdicts.{read_as, read_is}

abbrev forms_in : List Lex → List Form
forms_in = map (λ (l : Lex). l.form)

abbrev at_start : List Form → List Lex
at_start = map (λ (f : Form). record { form = f; at = 0 })

unplaced_forms : (ls : List Lex) → unplaced_all ls ≡ at_start (forms_in ls)
unplaced_forms [] = refl
unplaced_forms (l ∷ ls) = ap (λ (z : List Lex). record { form = l.form; at = 0 } ∷ z) (unplaced_forms ls)

lexes_forms : (text : List ℕ) (ts : List Token) → forms_in (lexes text ts) ≡ map (λ t. (lex text t).form) ts
lexes_forms text [] = refl
lexes_forms text (t ∷ ts) = ap (λ (z : List Form). (lex text t).form ∷ z) (lexes_forms text ts)

spelled_forms : (asked : List Asked) (ls : List Lex) → Spelled asked ls → forms_in ls ≡ forms asked
spelled_forms [] [] h = refl
spelled_forms [] (l ∷ ls) h = absurd h
spelled_forms (a ∷ asked) [] h = absurd h
spelled_forms (a ∷ asked) (l ∷ ls) h = ap (λ (f : Form). f ∷ forms_in ls) h.0.0 ∙ ap (λ (z : List Form). a.form ∷ z) (spelled_forms asked ls h.2)

abbrev Whole : Type 0
Whole = Result Versioned (Cause × List Lex)

same_ok : (x y : Versioned) → (let k : Whole = Ok x in k) ≡ Ok y → x ≡ y
same_ok x y e = cc

apart : (d : Cause × List Lex) (y : Versioned) → (let k : Whole = Err d in k) ≡ Ok y → ⊥
apart d y e = cc

pub reads_canonical : (text : List ℕ) (p : Program) → IsProgramOf text p → length (canonical p) ≤ most_bytes → (q : Program) × IsProgramOf (canonical p) q × SameUpToPlaces q p
reads_canonical text p h le = by_answer (all_of program_at again) refl
  where
    cut : IsCut (canonical p) (forms (spell p))
    cut = canonical_is_cut p (is_program text p h)

    again : List Lex
    again = lexes (canonical p) cut.tokens

    first : List Lex
    first = lexes text h.tokens

    alike : unplaced_all again ≡ unplaced_all first
    alike = unplaced_forms again ∙ ap at_start (lexes_forms (canonical p) cut.tokens ∙ cut.are ∙ sym (spelled_forms (spell p) first h.reads.1)) ∙ sym (unplaced_forms first)

    answers : whole_without versioned_without (all_of program_at again) ≡ Ok (versioned_without (p.version, p.functions))
    answers = sym (blind_all versioned_without program_at blind_program again) ∙ ap (all_of program_at) alike ∙ blind_all versioned_without program_at blind_program first ∙ ap (whole_without versioned_without) (read_as text p h)

    by_answer : (x : Whole) → all_of program_at again ≡ x → (q : Program) × IsProgramOf (canonical p) q × SameUpToPlaces q p
    by_answer (Ok fs) e =
        let fits : versioned_without fs ≡ versioned_without (p.version, p.functions) = same_ok (versioned_without fs) (versioned_without (p.version, p.functions)) (sym (ap (whole_without versioned_without) e) ∙ answers) in
        (with_end (length (canonical p)) fs, read_is (canonical p) cut.tokens fs le cut.lexed e, ap (λ (z : Versioned). with_end 0 z) fits)
    by_answer (Err d) e = absurd (apart (d.0, unplaced_all d.1) (versioned_without (p.version, p.functions)) (sym (ap (whole_without versioned_without) e) ∙ answers))
