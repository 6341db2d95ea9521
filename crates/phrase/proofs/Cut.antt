-- The canonical text is cut into the tokens that the program is written with.
use Rattle.std.proofs.Common.{◌≡◌, ℕ, zero, suc, ◌+◌, ◌%◌, ◌^◌, ◌<◌, Bool, true, false, ◌||◌, List, [], ◌∷◌, ◌++◌, length, take, drop, map, refl, sym, ap, subst, ◌∙◌, append_assoc, length-append, arith}
use Rattle.std.specs.Prelude.{replicate}
use Rattle.std.specs.Fmt.{decimal}
use Rattle.std.specs.List.{flat_map}
use Rattle.std.proofs.lemmas.Bool.{le-leb}
use Rattle.std.proofs.lemmas.List.{drop-drop}
use Rattle.std.proofs.Math.ListN.{length-replicate}
use Rattle.std.proofs.lemmas.List.Folds.{list_all-append}
use Rattle.std.proofs.lemmas.Fmt.{decimal_by_steps, decimal_is_IsNumeral}
use Rattle.bsan_ids.specs.Names.{is_digit}
use Rattle.ir_text.specs.Bytes.{is_blank}
use Rattle.ir_text.specs.Lexed.{IsForm, Outcome, after_token, Lexed}
use Rattle.ir_text.specs.Lexed.Outcome.{good}
use Rattle.ir_text.specs.Lexed.Lexed.{ended, blank}
use Rattle.ir_text.specs.declared.token.Token.{Token}
use Rattle.ir_text.specs.declared.token.TokenKind.{TokenKind}
use Rattle.ir_text.specs.declared.token.TokenKind.TheVariants.{Word, Local, Global, Number, OpenRound, CloseRound, OpenBrace, CloseBrace, Comma, Colon, Equals, Arrow}
use Rattle.ir_text.proofs.Steps.{cut_at, lexed_token}
use Rattle.ir_text.proofs.Written.{Separates, written, drop_front}
use Rattle.ir_ast.specs.Tokens.{Form, Asked, Each, forms}
use Rattle.ir_ast.specs.Tokens.Form.{word, local, global, number, open_round, close_round, open_brace, close_brace, comma, colon, equals, arrow}
use Rattle.ir_ast.specs.Lines.{Line, program_lines, spell}
use Rattle.ir_ast.specs.Texts.{form_text, no_space_before, no_space_after, space, spaced, line_text, canonical}
use Rattle.ir_ast.specs.Programs.{IsPossible, CanStand, IsProgram}
use Rattle.ir_ast.specs.Writable.{IsWord}
use Rattle.phrase.specs.Lexes.{form_of, lex, IsCut}
use Rattle.ir_ast.proofs.Adds.{forms-join}
use Rattle.ir_ast.proofs.Small.{IsSmall, Fair, FairLine, each_parts, program_fair}
use Rattle.ir_ast.specs.declared.program.Program.{Program}

abbrev pub kind_of : Form → TokenKind
kind_of (word text) = Word
kind_of (local name) = Local
kind_of (global name) = Global
kind_of (number n) = Number
kind_of open_round = OpenRound
kind_of close_round = CloseRound
kind_of open_brace = OpenBrace
kind_of close_brace = CloseBrace
kind_of comma = Comma
kind_of colon = Colon
kind_of equals = Equals
kind_of arrow = Arrow

abbrev pub Fine : Form → Type 0
Fine f = IsPossible f × IsSmall f

-- ---- decimal numbers

digit : (n : ℕ) → n < 10 → is_digit (48 + n) ≡ true
digit n lt = rw (le-leb 48 (48 + n) (omega arith), le-leb (48 + n) 57 (omega arith)) refl

one_more : (ds : List ℕ) (d : ℕ) → is_digit d ≡ true → IsForm Number ds → IsForm Number (ds ++ d ∷ [])
one_more [] d h f = absurd f
one_more (b ∷ bs) d h f = (f.0, rw (list_all-append is_digit bs (d ∷ []), f.1, h) refl)

decimal_form : (n : ℕ) → n < 2 ^ 64 → IsForm Number (decimal n)
decimal_form n lt =
    decimal_by_steps (λ m ds. IsForm Number ds) (λ m small. (digit m small, refl)) (λ m ds large f. one_more ds (48 + m % 10) (digit (m % 10) (omega arith)) f) n lt

-- ---- one token

word_form : (text : List ℕ) → IsWord text → IsForm Word text
word_form [] h = absurd h
word_form (b ∷ bs) h = h

form_cut : (f : Form) (tail : List ℕ) (at : ℕ) (r : Outcome) → Fine f → (no_space_after f ≡ false → Separates tail) → Lexed tail (at + length (form_text f)) r
    → Lexed (form_text f ++ tail) at (after_token (cut_at (kind_of f) at (length (form_text f))) r)
form_cut (word text) tail at r h sep l = written Word text tail at r (word_form text h.0) (sep refl) l
form_cut (local name) tail at r h sep l = written Local (37 ∷ name) tail at r (refl, h.0.0, h.0.1) (sep refl) l
form_cut (global name) tail at r h sep l = written Global (64 ∷ name) tail at r (refl, h.0.0, h.0.1) (sep refl) l
form_cut (number n) tail at r h sep l = written Number (decimal n) tail at r (decimal_form n h.1) (sep refl) l
form_cut open_round tail at r h sep l = lexed_token 40 tail OpenRound 1 at r refl l
form_cut close_round tail at r h sep l = written CloseRound (41 ∷ []) tail at r (refl, refl) (sep refl) l
form_cut open_brace tail at r h sep l = written OpenBrace (123 ∷ []) tail at r (refl, refl) (sep refl) l
form_cut close_brace tail at r h sep l = written CloseBrace (125 ∷ []) tail at r (refl, refl) (sep refl) l
form_cut comma tail at r h sep l = written Comma (44 ∷ []) tail at r (refl, refl) (sep refl) l
form_cut colon tail at r h sep l = written Colon (58 ∷ []) tail at r (refl, refl) (sep refl) l
form_cut equals tail at r h sep l = written Equals (61 ∷ []) tail at r (refl, refl) (sep refl) l
form_cut arrow tail at r h sep l = written Arrow (45 ∷ 62 ∷ []) tail at r (refl, refl) (sep refl) l

form_back : (f : Form) → IsSmall f → form_of (kind_of f) (form_text f) ≡ f
form_back (word text) h = refl
form_back (local name) h = refl
form_back (global name) h = refl
form_back (number n) h = ap number (decimal_is_IsNumeral n h).1
form_back open_round h = refl
form_back close_round h = refl
form_back open_brace h = refl
form_back close_brace h = refl
form_back comma h = refl
form_back colon h = refl
form_back equals h = refl
form_back arrow h = refl

-- ---- the rest of the text, from a place on

pub record Rest (full text : List ℕ) (at : ℕ) (fs : List Form) : Type 0 where
  pub tokens : List Token
  pub lexed : Lexed text at (good tokens)
  pub are : map (λ t. (lex full t).form) tokens ≡ fs

blank_cut : (full : List ℕ) (b : ℕ) (text : List ℕ) (at : ℕ) (fs : List Form) → is_blank b ≡ true → Rest full text (at + 1) fs → Rest full (b ∷ text) at fs
blank_cut full b text at fs h c = record { tokens = c.tokens; lexed = blank b text at (good c.tokens) h c.lexed; are = c.are }

blanks_cut : (full text : List ℕ) (k at end : ℕ) (fs : List Form) → end ≡ at + k → Rest full text end fs → Rest full (replicate k 32 ++ text) at fs
blanks_cut full text zero at end fs e c = let same : end ≡ at = omega arith in subst (λ (z : ℕ). Rest full text z fs) same c
blanks_cut full text (suc k) at end fs e c = blank_cut full 32 (replicate k 32 ++ text) at fs refl (blanks_cut full text k (at + 1) end fs (omega arith) c)

space_cut : (full text : List ℕ) (b : Bool) (at end : ℕ) (fs : List Form) → end ≡ at + length (space b) → Rest full text end fs → Rest full (space b ++ text) at fs
space_cut full text true at end fs e c = let same : end ≡ at = omega arith in subst (λ (z : ℕ). Rest full text z fs) same c
space_cut full text false at end fs e c = blank_cut full 32 text at fs refl (subst (λ (z : ℕ). Rest full text z fs) e c)

take_front : (xs ys : List ℕ) → take (length xs) (xs ++ ys) ≡ xs
take_front [] ys = refl
take_front (x ∷ xs) ys = ap (λ (z : List ℕ). x ∷ z) (take_front xs ys)

token_cut : (full tail : List ℕ) (f : Form) (at end : ℕ) (fs : List Form) → drop at full ≡ form_text f ++ tail → Fine f → (no_space_after f ≡ false → Separates tail) → end ≡ at + length (form_text f) → Rest full tail end fs
    → Rest full (form_text f ++ tail) at (f ∷ fs)
token_cut full tail f at end fs here h sep e c =
    let head : form_of (kind_of f) (take (length (form_text f)) (drop at full)) ≡ f =
    ap (λ (z : List ℕ). form_of (kind_of f) (take (length (form_text f)) z)) here
    ∙ ap (λ (z : List ℕ). form_of (kind_of f) z) (take_front (form_text f) tail)
    ∙ form_back f h.1 in
    record {
      tokens = cut_at (kind_of f) at (length (form_text f)) ∷ c.tokens;
      lexed = form_cut f tail at (good c.tokens) h sep (subst (λ (z : ℕ). Lexed tail z (good c.tokens)) e c.lexed);
      are = ap (λ (z : Form). z ∷ map (λ t. (lex full t).form) c.tokens) head ∙ ap (λ (z : List Form). f ∷ z) c.are;
    }

advance : (full xs ys : List ℕ) (at end : ℕ) → drop at full ≡ xs ++ ys → end ≡ at + length xs → drop end full ≡ ys
advance full xs ys at end here e =
    ap (λ (z : ℕ). drop z full) e ∙ sym (drop-drop (length xs) at full) ∙ ap (λ (z : List ℕ). drop (length xs) z) here ∙ drop_front xs ys

separated : (fs : List Form) (rest : List ℕ) → Separates rest → Separates (spaced false fs ++ rest)
separated [] rest h = h
separated (word text ∷ fs) rest h = (refl, refl)
separated (local name ∷ fs) rest h = (refl, refl)
separated (global name ∷ fs) rest h = (refl, refl)
separated (number n ∷ fs) rest h = (refl, refl)
separated (open_round ∷ fs) rest h = (refl, refl)
separated (close_round ∷ fs) rest h = (refl, refl)
separated (open_brace ∷ fs) rest h = (refl, refl)
separated (close_brace ∷ fs) rest h = (refl, refl)
separated (comma ∷ fs) rest h = (refl, refl)
separated (colon ∷ fs) rest h = (refl, refl)
separated (equals ∷ fs) rest h = (refl, refl)
separated (arrow ∷ fs) rest h = (refl, refl)

shift : (a x y z : ℕ) → a + ((x + y) + z) ≡ a + x + y + z
shift a x y z = omega arith

spaced_cut : (full rest : List ℕ) (tight : Bool) (fs : List Form) (at end : ℕ) (gs : List Form) → drop at full ≡ spaced tight fs ++ rest → Each Fine fs → Separates rest → end ≡ at + length (spaced tight fs) → Rest full rest end gs
    → Rest full (spaced tight fs ++ rest) at (fs ++ gs)
spaced_cut full rest tight [] at end gs here h sep e c = let same : end ≡ at = omega arith in subst (λ (z : ℕ). Rest full rest z gs) same c
spaced_cut full rest tight (f ∷ fs) at end gs here h sep e c =
    let front : List ℕ = space (tight || no_space_before f) in
    let later : List ℕ = spaced (no_space_after f) fs in
    let split : ((front ++ form_text f) ++ later) ++ rest ≡ front ++ (form_text f ++ (later ++ rest)) = simp append_assoc in
    let first : drop at full ≡ front ++ (form_text f ++ (later ++ rest)) = here ∙ split in
    let second : drop (at + length front) full ≡ form_text f ++ (later ++ rest) = advance full front (form_text f ++ (later ++ rest)) at (at + length front) first refl in
    let third : drop (at + length front + length (form_text f)) full ≡ later ++ rest = advance full (form_text f) (later ++ rest) (at + length front) (at + length front + length (form_text f)) second refl in
    let whole : end ≡ at + length ((front ++ form_text f) ++ later) = e in
    let sizes : length ((front ++ form_text f) ++ later) ≡ (length front + length (form_text f)) + length later =
    length-append (front ++ form_text f) later ∙ ap (λ (z : ℕ). z + length later) (length-append front (form_text f)) in
    let last : end ≡ at + length front + length (form_text f) + length later =
    whole ∙ ap (λ (z : ℕ). at + z) sizes ∙ shift at (length front) (length (form_text f)) (length later) in
    subst (λ (z : List ℕ). Rest full z at (f ∷ (fs ++ gs))) (sym split)
    (space_cut full (form_text f ++ (later ++ rest)) (tight || no_space_before f) at (at + length front) (f ∷ (fs ++ gs)) refl
    (token_cut full (later ++ rest) f (at + length front) (at + length front + length (form_text f)) (fs ++ gs) second h.0
    (λ closed. subst (λ (z : Bool). Separates (spaced z fs ++ rest)) (sym closed) (separated fs rest sep)) refl
    (spaced_cut full rest (no_space_after f) fs (at + length front + length (form_text f)) end gs third h.1 sep last c)))

line_cut : (full rest : List ℕ) (line : Line) (at end : ℕ) (gs : List Form) → drop at full ≡ line_text line ++ rest → Each Fine (forms line.tokens) → end ≡ at + length (line_text line) → Rest full rest end gs
    → Rest full (line_text line ++ rest) at (forms line.tokens ++ gs)
line_cut full rest line at end gs here h e c =
    let front : List ℕ = replicate line.indent 32 in
    let text : List ℕ = spaced true (forms line.tokens) in
    let split : ((front ++ text) ++ 10 ∷ []) ++ rest ≡ front ++ (text ++ 10 ∷ rest) = simp append_assoc in
    let second : drop (at + length front) full ≡ text ++ 10 ∷ rest = advance full front (text ++ 10 ∷ rest) at (at + length front) (here ∙ split) refl in
    let whole : end ≡ at + length ((front ++ text) ++ 10 ∷ []) = e in
    let sizes : length ((front ++ text) ++ 10 ∷ []) ≡ (length front + length text) + 1 =
    length-append (front ++ text) (10 ∷ []) ∙ ap (λ (z : ℕ). z + 1) (length-append front text) in
    let last : end ≡ at + length front + length text + 1 =
    whole ∙ ap (λ (z : ℕ). at + z) sizes ∙ shift at (length front) (length text) 1 in
    let size : at + length front ≡ at + line.indent = ap (λ (z : ℕ). at + z) (length-replicate line.indent 32) in
    subst (λ (z : List ℕ). Rest full z at (forms line.tokens ++ gs)) (sym split)
    (blanks_cut full (text ++ 10 ∷ rest) line.indent at (at + length front) (forms line.tokens ++ gs) size
    (spaced_cut full (10 ∷ rest) true (forms line.tokens) (at + length front) (at + length front + length text) gs second h (refl, refl) refl
    (blank_cut full 10 rest (at + length front + length text) gs refl (subst (λ (z : ℕ). Rest full rest z gs) last c))))

fine : (tokens : List Asked) → Each Fair tokens → Each CanStand tokens → Each Fine (forms tokens)
fine [] h k = tt
fine (a ∷ tokens) h k = ((k.0.0, h.0 k.0.1), fine tokens h.1 k.1)

lines_cut : (full : List ℕ) (lines : List Line) (at : ℕ) → drop at full ≡ flat_map line_text lines → Each FairLine lines → Each CanStand (flat_map (λ line. line.tokens) lines)
    → Rest full (flat_map line_text lines) at (forms (flat_map (λ line. line.tokens) lines))
lines_cut full [] at here h k = record { tokens = []; lexed = ended at; are = refl }
lines_cut full (line ∷ lines) at here h k =
    let parts = each_parts CanStand line.tokens (flat_map (λ l. l.tokens) lines) k in
    let next : drop (at + length (line_text line)) full ≡ flat_map line_text lines = advance full (line_text line) (flat_map line_text lines) at (at + length (line_text line)) here refl in
    subst (λ (z : List Form). Rest full (line_text line ++ flat_map line_text lines) at z) (sym (forms-join line.tokens (flat_map (λ l. l.tokens) lines)))
    (line_cut full (flat_map line_text lines) line at (at + length (line_text line)) (forms (flat_map (λ l. l.tokens) lines)) here (fine line.tokens h.0 parts.0) refl
    (lines_cut full lines (at + length (line_text line)) next h.1 parts.1))

pub canonical_is_cut : (p : Program) → IsProgram p → IsCut (canonical p) (forms (spell p))
canonical_is_cut p h =
    let c = lines_cut (canonical p) (program_lines p) 0 refl (program_fair p h.shaped) h.spelled in
    record { tokens = c.tokens; lexed = c.lexed; are = c.are }
