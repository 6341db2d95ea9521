-- What a text is: one program, or one refusal.
use Rattle.std.proofs.Common.{◌≡◌, ℕ, ◌-◌, ◌≤◌, ◌⊎◌, inl, inr, Bool, true, false, ◌&&◌, cond, List, [], ◌∷◌, ◌++◌, length, length-append, take, Result, Ok, Err, refl, sym, ap, subst, ◌∙◌, arith}
use Rattle.std.specs.Prelude.{nat_lt, codes}
use Rattle.std.proofs.lemmas.Bool.{ltb-true, ltb-false, lt-ltb, le-ltb}
use Rattle.ir_text.specs.declared.token.Token.{Token}
use Rattle.ir_text.specs.Lexed.{Outcome, Lexed}
use Rattle.ir_text.specs.Lexed.Outcome.{good, bad}
use Rattle.ir_text.proofs.Unique.{one_outcome, some_outcome}
use Rattle.phrase.specs.Whole.{Refused, all_of}
use Rattle.phrase.specs.declared.Cause.{Cause}
use Rattle.phrase.specs.declared.Cause.TheVariants as cause
use Rattle.ir_ast.specs.Tokens.{Lex, Asked}
use Rattle.ir_ast.specs.Lines.{spell}
use Rattle.ir_ast.specs.Shapes.{IsShaped}
use Rattle.ir_ast.specs.declared.program.Function.{Function}
use Rattle.ir_ast.specs.declared.program.Program.{Program}
use Rattle.ir_reader.specs.View.{lexes}
use Rattle.ir_reader.specs.Wants.{is_word}
use Rattle.ir_reader.specs.Blocks.{program_at}
use Rattle.ir_reader.specs.Laws.{with_end}
use Rattle.ir_text.specs.Bytes.{most_bytes}
use Rattle.ir_reader.specs.Readings.{IsProgramOf, place_of, StopsAt, IsIntToPtr, Refuses}
use Rattle.ir_reader.specs.Told.{ends_equal, next_int_to_ptr, front_of, fault_at}
use Rattle.ir_reader.specs.declared.fault.ReadFault.{ReadFault}
use Rattle.ir_reader.specs.declared.fault.ReadFault.TheVariants.{TooLarge, BadByte, IntToPtr, Unexpected, NumberTooLarge, NoMemory}
use Rattle.ir_reader.proofs.Singles.{word_is}
use Rattle.ir_reader.proofs.AfterEquals.{operation_behind, operation_next}
use Rattle.ir_reader.proofs.BlockParts.{Versioned}
use Rattle.ir_reader.proofs.WholeParts.{all_read, only_read, refuses, is_told}

-- ---- the tokens of a text

same_tokens : (text : List ℕ) (ts us : List Token) → Lexed text 0 (good ts) → Lexed text 0 (good us) → ts ≡ us
same_tokens text ts us a b = let e = one_outcome text 0 (good ts) (good us) a b in cc

-- ---- the word `inttoptr` in an operation's place

take_front : (xs ys : List Lex) → take (length xs) (xs ++ ys) ≡ xs
take_front [] ys = refl
take_front (x ∷ xs) ys = ap (λ (z : List Lex). x ∷ z) (take_front xs ys)

front_is : (ts front rest : List Lex) → ts ≡ front ++ rest → front_of ts rest ≡ front
front_is ts front rest e =
    let n : length ts - length rest ≡ length front = omega (arith, ap length e, length-append front rest) in
    ap (λ (z : ℕ). take z ts) n ∙ ap (λ (z : List Lex). take (length front) z) e ∙ take_front front rest

abbrev wants_op : List Lex → List Lex → Bool
wants_op front rest = ends_equal false front && next_int_to_ptr rest

both_true : (a b : Bool) → (a && b) ≡ true → (a ≡ true) × (b ≡ true)
both_true true b e = (refl, e)
both_true false b e = absurd cc

int_to_ptr_told : (ts rest : List Lex) → IsIntToPtr ts rest → wants_op (front_of ts rest) rest ≡ true
int_to_ptr_told ts rest i =
    let front : front_of ts rest ≡ i.front = front_is ts i.front rest i.whole in
    let first : ends_equal false (front_of ts rest) ≡ true = ap (ends_equal false) front ∙ operation_behind i.program i.before i.here i.after i.front i.parts i.spelled i.is_operation in
    let second : next_int_to_ptr rest ≡ true = ap next_int_to_ptr i.next ∙ ap (is_word (codes "inttoptr")) i.form in
    rw (first, second) refl

is_int_to_ptr : (ts rest : List Lex) → Refused IsShaped spell cause.Unexpected ts rest → wants_op (front_of ts rest) rest ≡ true → IsIntToPtr ts rest
is_int_to_ptr ts rest r e = by_rest rest r (both_true (ends_equal false (front_of ts rest)) (next_int_to_ptr rest) e)
  where
    by_rest : (z : List Lex) → Refused IsShaped spell cause.Unexpected ts z → (ends_equal false (front_of ts z) ≡ true) × (next_int_to_ptr z ≡ true) → IsIntToPtr ts z
    by_rest [] r h = absurd (let k : false ≡ true = h.1 in cc)
    by_rest (l ∷ ls) r h =
        let behind : ends_equal false r.front ≡ true = ap (ends_equal false) (sym (front_is ts r.front (l ∷ ls) r.whole)) ∙ h.0 in
        let o = operation_next r.value r.before r.after r.front r.parts r.spelled behind in
        record {
          front = r.front;
          whole = r.whole;
          program = r.value;
          is_ok = r.is_ok;
          before = r.before;
          here = o.0;
          after = o.1;
          parts = r.parts ∙ ap (λ (z : List Asked). r.before ++ z) o.2;
          spelled = r.spelled;
          is_operation = o.3;
          found = l;
          later = ls;
          next = refl;
          form = word_is (codes "inttoptr") l.form h.1;
        }

-- ---- what is told of a text

abbrev told : ℕ → List Lex → Result Versioned (Cause × List Lex) → ReadFault
told end ts (Ok fs) = NoMemory
told end ts (Err d) = fault_at end (front_of ts d.1) d.0 d.1

abbrev told_of : List ℕ → Outcome → ReadFault
told_of text (good ts) = told (length text) (lexes text ts) (all_of program_at (lexes text ts))
told_of text (bad at) = BadByte at

abbrev told_within : List ℕ → Bool → ReadFault
told_within text true = TooLarge most_bytes
told_within text false = told_of text (some_outcome text 0).0

abbrev fault_of : List ℕ → ReadFault
fault_of text = told_within text (nat_lt most_bytes (length text))

-- a stop, as what is told
stop_told : (text : List ℕ) (ts : List Token) (c : Cause) (rest : List Lex) → length text ≤ most_bytes → Lexed text 0 (good ts) → Refused IsShaped spell c (lexes text ts) rest
    → Refuses text (fault_at (length text) (front_of (lexes text ts) rest) c rest)
stop_told text ts cause.Unexpected rest le l r = by_test (wants_op (front_of (lexes text ts) rest) rest) refl
  where
    stop : StopsAt text cause.Unexpected (place_of (length text) rest)
    stop = record { small = le; tokens = ts; lexed = l; rest = rest; refused = r; place = refl }

    by_test : (b : Bool) → wants_op (front_of (lexes text ts) rest) rest ≡ b → Refuses text (cond b (IntToPtr (place_of (length text) rest)) (Unexpected (place_of (length text) rest)))
    by_test true e = (stop, is_int_to_ptr (lexes text ts) rest r e)
    by_test false e = (stop, λ i. absurd (let k : false ≡ true = sym e ∙ int_to_ptr_told (lexes text ts) rest i in cc))
stop_told text ts cause.NumberTooLarge rest le l r = record { small = le; tokens = ts; lexed = l; rest = rest; refused = r; place = refl }
stop_told text ts cause.TooLarge rest le l r = inr (record { small = le; tokens = ts; lexed = l; rest = rest; refused = r; place = refl })

pub refuses_stop : (text : List ℕ) (ts : List Token) (c : Cause) (rest : List Lex) → length text ≤ most_bytes → Lexed text 0 (good ts) → all_of program_at (lexes text ts) ≡ Err (c, rest)
    → Refuses text (fault_at (length text) (front_of (lexes text ts) rest) c rest)
refuses_stop text ts c rest le l e = stop_told text ts c rest le l (refuses (lexes text ts) c rest e)

-- ---- and nothing else

within : (text : List ℕ) → length text ≤ most_bytes → nat_lt most_bytes (length text) ≡ false
within text le = le-ltb most_bytes (length text) le

fault_small : (text : List ℕ) (r : Outcome) → length text ≤ most_bytes → Lexed text 0 r → fault_of text ≡ told_of text r
fault_small text r le l = ap (told_within text) (within text le) ∙ ap (told_of text) (one_outcome text 0 (some_outcome text 0).0 r (some_outcome text 0).1 l)

fault_stop : (text : List ℕ) (c : Cause) (at : ℕ) (s : StopsAt text c at) → fault_of text ≡ fault_at (length text) (front_of (lexes text s.tokens) s.rest) c s.rest
fault_stop text c at s =
    fault_small text (good s.tokens) s.small s.lexed ∙ ap (told (length text) (lexes text s.tokens)) (is_told c (lexes text s.tokens) s.rest s.refused)

told_is : (text : List ℕ) (f : ReadFault) → Refuses text f → f ≡ fault_of text
told_is text (TooLarge at) (inl h) = ap TooLarge h.1 ∙ ap (told_within text) (sym (lt-ltb most_bytes (length text) h.0))
told_is text (TooLarge at) (inr s) = ap TooLarge s.place ∙ sym (fault_stop text cause.TooLarge at s)
told_is text (BadByte at) h = sym (fault_small text (bad at) h.0 h.1)
told_is text (IntToPtr at) h =
    let s = h.0 in
    let test = int_to_ptr_told (lexes text s.tokens) s.rest h.1 in
    ap IntToPtr s.place ∙ sym (fault_stop text cause.Unexpected at s ∙ ap (λ (b : Bool). cond b (IntToPtr (place_of (length text) s.rest)) (Unexpected (place_of (length text) s.rest))) test)
told_is text (Unexpected at) h =
    let s = h.0 in
    by_test s h.1 (wants_op (front_of (lexes text s.tokens) s.rest) s.rest) refl
  where
    by_test : (s : StopsAt text cause.Unexpected at) → (IsIntToPtr (lexes text s.tokens) s.rest → ⊥) → (b : Bool) → wants_op (front_of (lexes text s.tokens) s.rest) s.rest ≡ b → Unexpected at ≡ fault_of text
    by_test s other true e = absurd (other (is_int_to_ptr (lexes text s.tokens) s.rest s.refused e))
    by_test s other false e = ap Unexpected s.place ∙ sym (fault_stop text cause.Unexpected at s ∙ ap (λ (b : Bool). cond b (IntToPtr (place_of (length text) s.rest)) (Unexpected (place_of (length text) s.rest))) e)
told_is text (NumberTooLarge at) h = ap NumberTooLarge h.place ∙ sym (fault_stop text cause.NumberTooLarge at h)
told_is text NoMemory h = absurd h

pub one_refusal : (text : List ℕ) (e f : ReadFault) → Refuses text e → Refuses text f → e ≡ f
one_refusal text e f h k = told_is text e h ∙ sym (told_is text f k)

pub read_as : (text : List ℕ) (p : Program) (h : IsProgramOf text p) → all_of program_at (lexes text h.tokens) ≡ Ok (p.version, p.functions)
read_as text p h = only_read (lexes text h.tokens) p h.reads

nothing_told : (text : List ℕ) (p : Program) → IsProgramOf text p → fault_of text ≡ NoMemory
nothing_told text p h = fault_small text (good h.tokens) h.small h.lexed ∙ ap (told (length text) (lexes text h.tokens)) (read_as text p h)

pub not_both : (text : List ℕ) (p : Program) (f : ReadFault) → IsProgramOf text p → Refuses text f → ⊥
not_both text p f h k = subst (Refuses text) (told_is text f k ∙ nothing_told text p h) k

same_versioned : (x y : Versioned) → (let k : Result Versioned (Cause × List Lex) = Ok x in k) ≡ Ok y → x ≡ y
same_versioned x y e = cc

abbrev versioned : Program → Versioned
versioned p = (p.version, p.functions)

same_program : (p q : Program) → versioned p ≡ versioned q → p.«end» ≡ q.«end» → p ≡ q
same_program p q f e = ap (λ (z : Versioned). with_end p.«end» z) f ∙ ap (λ (z : ℕ). with_end z (versioned q)) e

pub one_program : (text : List ℕ) (p q : Program) → IsProgramOf text p → IsProgramOf text q → p ≡ q
one_program text p q a b =
    let tokens = same_tokens text a.tokens b.tokens a.lexed b.lexed in
    let same = sym (read_as text p a) ∙ ap (λ (z : List Token). all_of program_at (lexes text z)) tokens ∙ read_as text q b in
    same_program p q (same_versioned (versioned p) (versioned q) same) (a.ends ∙ sym b.ends)

-- ---- and always something

pub read_is : (text : List ℕ) (ts : List Token) (x : Versioned) → length text ≤ most_bytes → Lexed text 0 (good ts) → all_of program_at (lexes text ts) ≡ Ok x → IsProgramOf text (with_end (length text) x)
read_is text ts x le l e = record { small = le; tokens = ts; lexed = l; reads = all_read (lexes text ts) x (length text) e; ends = refl }

abbrev Answered : List ℕ → Type 0
Answered text = ((p : Program) × IsProgramOf text p) ⊎ ((f : ReadFault) × Refuses text f)

answer_of : (text : List ℕ) (r : Outcome) → length text ≤ most_bytes → Lexed text 0 r → Answered text
answer_of text (bad at) le l = inr (BadByte at, (le, l))
answer_of text (good ts) le l = by_answer (all_of program_at (lexes text ts)) refl
  where
    by_answer : (x : Result Versioned (Cause × List Lex)) → all_of program_at (lexes text ts) ≡ x → Answered text
    by_answer (Ok fs) e = inl (with_end (length text) fs, read_is text ts fs le l e)
    by_answer (Err (c, rest)) e = inr (fault_at (length text) (front_of (lexes text ts) rest) c rest, refuses_stop text ts c rest le l e)

pub some_answer : (text : List ℕ) → Answered text
some_answer text = by_size (nat_lt most_bytes (length text)) refl
  where
    by_size : (b : Bool) → nat_lt most_bytes (length text) ≡ b → Answered text
    by_size true e = inr (TooLarge most_bytes, inl (ltb-true most_bytes (length text) e, refl))
    by_size false e = answer_of text (some_outcome text 0).0 (ltb-false most_bytes (length text) e) (some_outcome text 0).1
