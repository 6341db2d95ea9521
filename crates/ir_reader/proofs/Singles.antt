-- What is read from one token.
use Rattle.std.proofs.Common.{◌≡◌, ℕ, Bool, true, false, cond, List, [], ◌∷◌, Option, Some, None, Result, Ok, Err, refl, sym, ap, subst, ◌∙◌}
use Rattle.std.specs.Prelude.{nat_lt, nat_le}
use Rattle.std.proofs.lemmas.Bool.{le-leb, leb-true}
use Rattle.std.specs.Str.{bytes_eq}
use Rattle.std.specs.List.{AllByRecursion}
use Rattle.std.proofs.lemmas.Slice.Eq.{bytes_eq-Decides}
use Rattle.perm_table.specs.declared.RetagKind.{RetagKind}
use Rattle.perm_table.specs.declared.RetagKind.TheVariants.{Mut, Cell, Shr, Boxed, ShrCell}
use Rattle.ir_ast.specs.Words.{modulus}
use Rattle.ir_ast.specs.Tokens.{Form, Lex, Asked, Fits, Spelled, plain, placed, amount}
use Rattle.ir_ast.specs.Tokens.Form.{word, local, global, number, open_round, close_round, open_brace, close_brace, comma, colon, equals, arrow}
use Rattle.ir_ast.specs.Tokens.Limit.{of_number}
use Rattle.ir_ast.specs.Keywords.{width_word, type_word, result_word, kind_word, cond_word, modify_word}
use Rattle.ir_ast.specs.Grammar.{width_token, type_token, kind_token, result_token, register, function_name, label, val_token}
use Rattle.ir_ast.specs.Shapes.{HasKind, IsVal}
use Rattle.ir_ast.specs.declared.types.Width.{Width}
use Rattle.ir_ast.specs.declared.types.Width.TheVariants.{W8, W16, W32, W64}
use Rattle.ir_ast.specs.declared.types.Ty.{Ty}
use Rattle.ir_ast.specs.declared.types.Ty.TheVariants.{Int, Ptr}
use Rattle.ir_ast.specs.declared.operators.Cond.{Cond}
use Rattle.ir_ast.specs.declared.operators.Cond.TheVariants.{Eq, Ne, Ult, Ule, Ugt, Uge, Slt, Sle, Sgt, Sge}
use Rattle.ir_ast.specs.declared.operators.ModifyOp.{ModifyOp}
use Rattle.ir_ast.specs.declared.operators.ModifyOp.TheVariants.{Add, Sub, And, Or, Xor, Xchg, Umin, Umax}
use Rattle.ir_ast.specs.declared.program.Named.{Named}
use Rattle.ir_ast.specs.declared.program.Val.{Val}
use Rattle.ir_ast.specs.declared.program.Val.TheVariants.{Reg, Num}
use Rattle.phrase.specs.Whole.{Here}
use Rattle.phrase.specs.Reading.{one}
use Rattle.phrase.specs.declared.Cause.{Cause}
use Rattle.phrase.specs.declared.Cause.TheVariants.{Unexpected, NumberTooLarge}
use Rattle.phrase.proofs.Phrase.{Sample, Phrase, one_phrase, verdict}
use Rattle.ir_ast.specs.declared.mark.Mark.{Mark}
use Rattle.ir_ast.specs.declared.mark.Mark.TheVariants.{OpenRound, CloseRound, OpenBrace, CloseBrace, Comma, Colon, Equals, Arrow}
use Rattle.ir_reader.specs.Tables.{lookup, worded, widths, types, results, newer_kinds, kinds, conds, modifiers}
use Rattle.ir_ast.specs.Marks.{mark_form}
use Rattle.ir_reader.specs.Wants.{want_if, is_mark, is_word, local_at, want_local, global_at, want_global, label_at, want_label, or_unexpected, word_among, want_among, with_place, want_placed, amount_at, want_amount, val_at, want_val}
use Rattle.ir_reader.specs.Parts.{mark_at}

abbrev pub Any : {A : Type 0} → A → Type 0
Any a = Unit {0}

-- a token without faults is a sample of what is written with it
abbrev pub token_of : Form → ℕ → Lex
token_of f at = record { form = f; at = at }

-- ---- a mark or a fixed word

pub chosen_ok : {A : Type 0} (b : Bool) (x y : A) (c : Cause) → cond b (Ok x) (Err c) ≡ Ok y → b ≡ true
chosen_ok true x y c e = refl
chosen_ok false x y c e = absurd cc

pub chosen_err : {A : Type 0} (b : Bool) (x : A) (c d : Cause) → cond b (Ok x) (Err c) ≡ Err d → c ≡ d
chosen_err true x c d e = absurd cc
chosen_err false x c d e = cc

abbrev fixed : (f : Form) → Sample {A = Unit {0}} Any (λ _. plain f ∷ [])
fixed f = record { value = tt; is_ok = tt; tokens = token_of f 0 ∷ []; matches = ((refl, tt), tt) }

pub if_phrase : (test : Form → Bool) (f : Form) → ((g : Form) → test g ≡ true → g ≡ f) → test f ≡ true → Phrase {A = Unit {0}} Any (λ _. plain f ∷ []) Any (one (want_if test))
if_phrase test f is passes = one_phrase Any (λ _. plain f ∷ []) Any (want_if test) (fixed f)
    (λ l a e. (tt, ((is l.form (chosen_ok (test l.form) tt a Unexpected e), tt), refl, tt)))
    (λ a. (plain f, refl))
    (λ a l k fits. rw (fits.0, passes) refl)
    (λ l c e. (fixed f, λ rest. subst (λ (z : Cause). Here z (plain f ∷ []) (l ∷ rest)) (chosen_err (test l.form) tt Unexpected c e) tt))

mark_is : (m : Mark) (g : Form) → is_mark m g ≡ true → g ≡ mark_form m
mark_is OpenRound open_round e = refl
mark_is OpenRound _ e = absurd cc
mark_is CloseRound close_round e = refl
mark_is CloseRound _ e = absurd cc
mark_is OpenBrace open_brace e = refl
mark_is OpenBrace _ e = absurd cc
mark_is CloseBrace close_brace e = refl
mark_is CloseBrace _ e = absurd cc
mark_is Comma comma e = refl
mark_is Comma _ e = absurd cc
mark_is Colon colon e = refl
mark_is Colon _ e = absurd cc
mark_is Equals equals e = refl
mark_is Equals _ e = absurd cc
mark_is Arrow arrow e = refl
mark_is Arrow _ e = absurd cc

mark_passes : (m : Mark) → is_mark m (mark_form m) ≡ true
mark_passes OpenRound = refl
mark_passes CloseRound = refl
mark_passes OpenBrace = refl
mark_passes CloseBrace = refl
mark_passes Comma = refl
mark_passes Colon = refl
mark_passes Equals = refl
mark_passes Arrow = refl

pub mark_phrase : (m : Mark) → Phrase {A = Unit {0}} Any (λ _. plain (mark_form m) ∷ []) Any (mark_at m)
mark_phrase m = if_phrase (is_mark m) (mark_form m) (mark_is m) (mark_passes m)

pub word_is : (w : List ℕ) (g : Form) → is_word w g ≡ true → g ≡ word w
word_is w (word text) e = ap word ((bytes_eq-Decides text w).0 e)
word_is w _ e = absurd cc

pub word_phrase : (w : List ℕ) → bytes_eq w w ≡ true → Phrase {A = Unit {0}} Any (λ _. plain (word w) ∷ []) Any (one (want_if (is_word w)))
word_phrase w same = if_phrase (is_word w) (word w) (word_is w) same

-- ---- a word that stands for a value

-- each row has the word of its value, and a value that can stand there
abbrev pub AreRows : {A : Type 0} → (A → List ℕ) → (A → Type 0) → List (List ℕ × A) → Type 0
AreRows word_of ok = AllByRecursion (λ row. (word_of row.1 ≡ row.0) × ok row.1)

lookup-word : {A : Type 0} (word_of : A → List ℕ) (ok : A → Type 0) (table : List (List ℕ × A)) (w : List ℕ) (a : A) → AreRows word_of ok table → lookup table w ≡ Some a → (w ≡ word_of a) × ok a
lookup-word word_of ok [] w a rows e = absurd cc
lookup-word {A = A} word_of ok (row ∷ table) w a rows e = by_test (λ h. lookup-word word_of ok table w a rows.1 h) (bytes_eq w row.0) refl e
  where
    by_test : (lookup table w ≡ Some a → (w ≡ word_of a) × ok a) → (b : Bool) → bytes_eq w row.0 ≡ b → cond b (Some row.1) (lookup table w) ≡ Some a → (w ≡ word_of a) × ok a
    by_test later true t h = let same : row.1 ≡ a = cc in ((bytes_eq-Decides w row.0).0 t ∙ sym rows.0.0 ∙ ap word_of same, subst ok same rows.0.1)
    by_test later false t h = later h

pub among_ok : {A : Type 0} (word_of : A → List ℕ) (ok : A → Type 0) (table : List (List ℕ × A)) (f : Form) (a : A) → AreRows word_of ok table → word_among table f ≡ Ok a → (f ≡ word (word_of a)) × ok a
among_ok word_of ok table (word w) a rows e = by_option (lookup table w) refl e
  where
    by_option : (o : Option _) → lookup table w ≡ o → or_unexpected o ≡ Ok a → (word w ≡ word (word_of a)) × ok a
    by_option None t h = absurd cc
    by_option (Some b) t h = let same : b ≡ a = cc in let k = lookup-word word_of ok table w a rows (t ∙ ap Some same) in (ap word k.0, k.1)
among_ok word_of ok table _ a rows e = absurd cc

or_err : {A : Type 0} (o : Option A) (c : Cause) → or_unexpected o ≡ Err c → Unexpected ≡ c
or_err None c e = cc
or_err (Some a) c e = absurd cc

pub among_err : {A : Type 0} (table : List (List ℕ × A)) (f : Form) (c : Cause) → word_among table f ≡ Err c → Unexpected ≡ c
among_err table (word w) c e = or_err (lookup table w) c e
among_err table _ c e = cc

-- the token of a value's word, where an operation stands or not
abbrev pub word_token : Bool → List ℕ → Asked
word_token flag w = record { form = word w; at = []; is_operation = flag; fault = None }

pub among_phrase : {A : Type 0} (flag : Bool) (word_of : A → List ℕ) (ok : A → Type 0) (table : List (List ℕ × A)) (some : A) → ok some → AreRows word_of ok table → ((a : A) → ok a → lookup table (word_of a) ≡ Some a)
    → Phrase {A = A} ok (λ a. word_token flag (word_of a) ∷ []) Any (one (want_among table))
among_phrase flag word_of ok table some fine rows found = one_phrase ok (λ a. word_token flag (word_of a) ∷ []) Any (want_among table) sample
    (λ l a e. let h = among_ok word_of ok table l.form a rows e in (h.1, ((h.0, tt), refl, tt)))
    (λ a. (word_token flag (word_of a), refl))
    (λ a l k fits. rw (fits.0, found a k) refl)
    (λ l c e. (sample, λ rest. subst (λ (z : Cause). Here z (word_token flag (word_of some) ∷ []) (l ∷ rest)) (among_err table l.form c e) tt))
  where
    sample : Sample ok (λ a. word_token flag (word_of a) ∷ [])
    sample = record { value = some; is_ok = fine; tokens = token_of (word (word_of some)) 0 ∷ []; matches = ((refl, tt), tt) }

pub place_ok : {A : Type 0} (at : ℕ) (r : Result A Cause) (x : A × ℕ) → with_place at r ≡ Ok x → (r ≡ Ok x.0) × (at ≡ x.1)
place_ok {A = A} at (Ok a) x e = let same : (let k : A × ℕ = (a, at) in k) ≡ x = cc in (ap (λ (z : A × ℕ). Ok z.0) same, ap (λ (z : A × ℕ). z.1) same)
place_ok at (Err c) x e = absurd cc

pub place_err : {A : Type 0} (at : ℕ) (r : Result A Cause) (c : Cause) → with_place at r ≡ Err c → r ≡ Err c
place_err at (Ok a) c e = absurd cc
place_err {A = A} at (Err d) c e = let same : d ≡ c = cc in ap (λ (z : Cause). Err z) same

pub placed_phrase : {A : Type 0} (word_of : A → List ℕ) (table : List (List ℕ × A)) → A → AreRows word_of Any table → ((a : A) → lookup table (word_of a) ≡ Some a)
    → Phrase {A = A × ℕ} Any (λ x. placed (word (word_of x.0)) x.1 ∷ []) Any (one (want_placed table))
placed_phrase {A = A} word_of table some rows found = one_phrase Any (λ x. placed (word (word_of x.0)) x.1 ∷ []) Any (want_placed table) sample
    (λ l x e. let p = place_ok l.at (word_among table l.form) x e in let h = among_ok word_of Any table l.form x.0 rows p.0 in (tt, ((h.0, (p.1, tt)), refl, tt)))
    (λ x. (placed (word (word_of x.0)) x.1, refl))
    (λ x l k fits. rw (fits.0, fits.1.0, found x.0) refl)
    (λ l c e. (sample, λ rest. subst (λ (z : Cause). Here z (placed (word (word_of some)) 0 ∷ []) (l ∷ rest)) (among_err table l.form c (place_err l.at (word_among table l.form) c e)) tt))
  where
    sample : Sample {A = A × ℕ} Any (λ x. placed (word (word_of x.0)) x.1 ∷ [])
    sample = record { value = (some, 0); is_ok = tt; tokens = token_of (word (word_of some)) 0 ∷ []; matches = ((refl, (refl, tt)), tt) }

width_rows : AreRows width_word Any widths
width_rows = ((refl, tt), ((refl, tt), ((refl, tt), ((refl, tt), tt))))

width_found : (w : Width) → lookup widths (width_word w) ≡ Some w
width_found W8 = refl
width_found W16 = refl
width_found W32 = refl
width_found W64 = refl

pub width_phrase : Phrase {A = Width} Any (λ w. width_token w ∷ []) Any (one (want_among widths))
width_phrase = among_phrase false width_word Any widths W8 tt width_rows (λ w _. width_found w)

pub placed_width_phrase : Phrase {A = Width × ℕ} Any (λ x. placed (word (width_word x.0)) x.1 ∷ []) Any (one (want_placed widths))
placed_width_phrase = placed_phrase width_word widths W8 width_rows width_found

type_rows : AreRows type_word Any types
type_rows = ((refl, tt), ((refl, tt), ((refl, tt), ((refl, tt), ((refl, tt), tt)))))

type_found : (t : Ty) → lookup types (type_word t) ≡ Some t
type_found (Int W8) = refl
type_found (Int W16) = refl
type_found (Int W32) = refl
type_found (Int W64) = refl
type_found Ptr = refl

pub type_phrase : Phrase {A = Ty} Any (λ ty. type_token ty ∷ []) Any (one (want_among types))
type_phrase = among_phrase false type_word Any types Ptr tt type_rows (λ t _. type_found t)

pub placed_type_phrase : Phrase {A = Ty × ℕ} Any (λ x. placed (word (type_word x.0)) x.1 ∷ []) Any (one (want_placed types))
placed_type_phrase = placed_phrase type_word types Ptr type_rows type_found

result_rows : AreRows result_word Any results
result_rows = ((refl, tt), ((refl, tt), ((refl, tt), ((refl, tt), ((refl, tt), ((refl, tt), tt))))))

result_found : (t : Option Ty) → lookup results (result_word t) ≡ Some t
result_found None = refl
result_found (Some (Int W8)) = refl
result_found (Some (Int W16)) = refl
result_found (Some (Int W32)) = refl
result_found (Some (Int W64)) = refl
result_found (Some Ptr) = refl

pub result_phrase : Phrase {A = Option Ty} Any (λ t. word_token false (result_word t) ∷ []) Any (one (want_among results))
result_phrase = among_phrase false result_word Any results None tt result_rows (λ t _. result_found t)

pub placed_result_phrase : Phrase {A = Option Ty × ℕ} Any (λ x. result_token x.0 x.1 ∷ []) Any (one (want_placed results))
placed_result_phrase = placed_phrase result_word results None result_rows result_found

kind_rows : (version : ℕ) → AreRows kind_word (HasKind version) (kinds version)
kind_rows version = ((refl, tt), ((refl, tt), ((refl, tt), ((refl, tt), newer (nat_le 2 version) refl))))
  where
    newer : (b : Bool) → nat_le 2 version ≡ b → AreRows kind_word (HasKind version) (worded kind_word (newer_kinds b))
    newer true e = ((refl, leb-true 2 version e), tt)
    newer false e = tt

kind_found : (version : ℕ) (k : RetagKind) → HasKind version k → lookup (kinds version) (kind_word k) ≡ Some k
kind_found version Mut h = refl
kind_found version Cell h = refl
kind_found version Shr h = refl
kind_found version Boxed h = refl
kind_found version ShrCell h = rw (le-leb 2 version h) refl

pub kind_phrase : (version : ℕ) → Phrase (HasKind version) (λ k. kind_token k ∷ []) Any (one (want_among (kinds version)))
kind_phrase version = among_phrase false kind_word (HasKind version) (kinds version) Mut tt (kind_rows version) (kind_found version)

cond_found : (c : Cond) → lookup conds (cond_word c) ≡ Some c
cond_found Eq = refl
cond_found Ne = refl
cond_found Ult = refl
cond_found Ule = refl
cond_found Ugt = refl
cond_found Uge = refl
cond_found Slt = refl
cond_found Sle = refl
cond_found Sgt = refl
cond_found Sge = refl

pub cond_phrase : Phrase {A = Cond} Any (λ c. word_token false (cond_word c) ∷ []) Any (one (want_among conds))
cond_phrase = among_phrase false cond_word Any conds Eq tt
    ((refl, tt), ((refl, tt), ((refl, tt), ((refl, tt), ((refl, tt), ((refl, tt), ((refl, tt), ((refl, tt), ((refl, tt), ((refl, tt), tt)))))))))) (λ c _. cond_found c)

modifier_found : (o : ModifyOp) → lookup modifiers (modify_word o) ≡ Some o
modifier_found Add = refl
modifier_found Sub = refl
modifier_found And = refl
modifier_found Or = refl
modifier_found Xor = refl
modifier_found Xchg = refl
modifier_found Umin = refl
modifier_found Umax = refl

pub modifier_phrase : Phrase {A = ModifyOp} Any (λ o. word_token false (modify_word o) ∷ []) Any (one (want_among modifiers))
modifier_phrase = among_phrase false modify_word Any modifiers Add tt
    ((refl, tt), ((refl, tt), ((refl, tt), ((refl, tt), ((refl, tt), ((refl, tt), ((refl, tt), ((refl, tt), tt)))))))) (λ o _. modifier_found o)

-- ---- names

abbrev pub no_name : Named
no_name = record { name = []; at = 0 }

label_ok : (f : Form) (at : ℕ) (n : Named) → label_at f at ≡ Ok n → (f ≡ word n.name) × (at ≡ n.at)
label_ok (word w) at n e = let same : (let k : Named = record { name = w; at = at } in k) ≡ n = cc in (ap (λ (k : Named). word k.name) same, ap (λ (k : Named). k.at) same)
label_ok _ at n e = absurd cc

label_err : (f : Form) (at : ℕ) (c : Cause) → label_at f at ≡ Err c → Unexpected ≡ c
label_err (word w) at c e = absurd cc
label_err _ at c e = cc

abbrev some_label : Sample Any (λ n. label n ∷ [])
some_label = record { value = no_name; is_ok = tt; tokens = token_of (word []) 0 ∷ []; matches = ((refl, (refl, tt)), tt) }

pub label_phrase : Phrase {A = Named} Any (λ n. label n ∷ []) Any (one want_label)
label_phrase = one_phrase Any (λ n. label n ∷ []) Any want_label some_label
    (λ l a e. let h = label_ok l.form l.at a e in (tt, ((h.0, (h.1, tt)), refl, tt)))
    (λ a. (label a, refl))
    (λ a l k fits. rw (fits.0, fits.1.0) refl)
    (λ l c e. (some_label, λ rest. subst (λ (z : Cause). Here z (label no_name ∷ []) (l ∷ rest)) (label_err l.form l.at c e) tt))

pub local_ok : (f : Form) (at : ℕ) (n : Named) → local_at f at ≡ Ok n → (f ≡ local n.name) × (at ≡ n.at)
local_ok (local w) at n e = let same : (let k : Named = record { name = w; at = at } in k) ≡ n = cc in (ap (λ (k : Named). local k.name) same, ap (λ (k : Named). k.at) same)
local_ok _ at n e = absurd cc

pub local_err : (f : Form) (at : ℕ) (c : Cause) → local_at f at ≡ Err c → Unexpected ≡ c
local_err (local w) at c e = absurd cc
local_err _ at c e = cc

abbrev some_register : Sample Any (λ n. register n ∷ [])
some_register = record { value = no_name; is_ok = tt; tokens = token_of (local []) 0 ∷ []; matches = ((refl, (refl, tt)), tt) }

pub local_phrase : Phrase {A = Named} Any (λ n. register n ∷ []) Any (one want_local)
local_phrase = one_phrase Any (λ n. register n ∷ []) Any want_local some_register
    (λ l a e. let h = local_ok l.form l.at a e in (tt, ((h.0, (h.1, tt)), refl, tt)))
    (λ a. (register a, refl))
    (λ a l k fits. rw (fits.0, fits.1.0) refl)
    (λ l c e. (some_register, λ rest. subst (λ (z : Cause). Here z (register no_name ∷ []) (l ∷ rest)) (local_err l.form l.at c e) tt))

global_ok : (f : Form) (at : ℕ) (n : Named) → global_at f at ≡ Ok n → (f ≡ global n.name) × (at ≡ n.at)
global_ok (global w) at n e = let same : (let k : Named = record { name = w; at = at } in k) ≡ n = cc in (ap (λ (k : Named). global k.name) same, ap (λ (k : Named). k.at) same)
global_ok _ at n e = absurd cc

global_err : (f : Form) (at : ℕ) (c : Cause) → global_at f at ≡ Err c → Unexpected ≡ c
global_err (global w) at c e = absurd cc
global_err _ at c e = cc

abbrev some_function : Sample Any (λ n. function_name n ∷ [])
some_function = record { value = no_name; is_ok = tt; tokens = token_of (global []) 0 ∷ []; matches = ((refl, (refl, tt)), tt) }

pub global_phrase : Phrase {A = Named} Any (λ n. function_name n ∷ []) Any (one want_global)
global_phrase = one_phrase Any (λ n. function_name n ∷ []) Any want_global some_function
    (λ l a e. let h = global_ok l.form l.at a e in (tt, ((h.0, (h.1, tt)), refl, tt)))
    (λ a. (function_name a, refl))
    (λ a l k fits. rw (fits.0, fits.1.0) refl)
    (λ l c e. (some_function, λ rest. subst (λ (z : Cause). Here z (function_name no_name ∷ []) (l ∷ rest)) (global_err l.form l.at c e) tt))

-- ---- numbers

amount_takes : (bound : ℕ) (f : Form) (at n : ℕ) → amount_at bound f ≡ Ok n → Spelled (amount n bound ∷ []) (token_of f at ∷ [])
amount_takes bound (number m) at n e = by_test (nat_lt m bound) refl e
  where
    by_test : (b : Bool) → nat_lt m bound ≡ b → cond b (Ok m) (Err NumberTooLarge) ≡ Ok n → Spelled (amount n bound ∷ []) (token_of (number m) at ∷ [])
    by_test true t h = let same : m ≡ n = cc in subst (λ (z : ℕ). Spelled (amount z bound ∷ []) (token_of (number m) at ∷ [])) same ((refl, tt), rw t refl, tt)
    by_test false t h = absurd cc
amount_takes bound _ at n e = absurd cc

amount_gives : (bound n : ℕ) (l : Lex) → Fits (amount n bound) l → want_amount bound l ≡ verdict (amount n bound).fault n
amount_gives bound n l fits = rw fits.0 (by_test (nat_lt n bound))
  where
    by_test : (b : Bool) → cond b (Ok n) (Err NumberTooLarge) ≡ verdict (cond b None (Some of_number)) n
    by_test true = refl
    by_test false = refl

abbrev amount_sample : (bound n : ℕ) → Sample Any (λ m. amount m bound ∷ [])
amount_sample bound n = record { value = n; is_ok = tt; tokens = token_of (number n) 0 ∷ []; matches = ((refl, tt), tt) }

amount_refuses : (bound : ℕ) (f : Form) (at : ℕ) (c : Cause) → amount_at bound f ≡ Err c → (s : Sample Any (λ m. amount m bound ∷ [])) × ((rest : List Lex) → Here c (amount s.value bound ∷ []) (token_of f at ∷ rest))
amount_refuses bound (number m) at c e = by_test (nat_lt m bound) refl e
  where
    by_test : (b : Bool) → nat_lt m bound ≡ b → cond b (Ok m) (Err NumberTooLarge) ≡ Err c → (s : Sample Any (λ m. amount m bound ∷ [])) × ((rest : List Lex) → Here c (amount s.value bound ∷ []) (token_of (number m) at ∷ rest))
    by_test true t h = absurd cc
    by_test false t h = let same : NumberTooLarge ≡ c = cc in (amount_sample bound m, λ rest. subst (λ (z : Cause). Here z (amount m bound ∷ []) (token_of (number m) at ∷ rest)) same ((refl, tt), rw t refl))
amount_refuses bound f at c e = let same : Unexpected ≡ c = cc in (amount_sample bound 0, λ rest. subst (λ (z : Cause). Here z (amount 0 bound ∷ []) (token_of f at ∷ rest)) same tt)

pub amount_phrase : (bound : ℕ) → Phrase {A = ℕ} Any (λ n. amount n bound ∷ []) Any (one (want_amount bound))
amount_phrase bound = one_phrase Any (λ n. amount n bound ∷ []) Any (want_amount bound) (amount_sample bound 0)
    (λ l n e. (tt, amount_takes bound l.form l.at n e))
    (λ n. (amount n bound, refl))
    (λ n l k fits. amount_gives bound n l fits)
    (λ l c e. amount_refuses bound l.form l.at c e)

-- ---- values

abbrev pub spell_val : Ty → Val → List Asked
spell_val ty v = val_token ty v ∷ []

-- a register may stand at each type
abbrev some_val : (ty : Ty) → Sample (IsVal ty) (spell_val ty)
some_val (Int w) = record { value = Reg no_name; is_ok = tt; tokens = token_of (local []) 0 ∷ []; matches = ((refl, (refl, tt)), tt) }
some_val Ptr = record { value = Reg no_name; is_ok = tt; tokens = token_of (local []) 0 ∷ []; matches = ((refl, (refl, tt)), tt) }

val_takes : (ty : Ty) (f : Form) (at : ℕ) (v : Val) → val_at ty f at ≡ Ok v → IsVal ty v × Spelled (spell_val ty v) (token_of f at ∷ [])
val_takes ty (local text) at v e = let same : Reg (record { name = text; at = at }) ≡ v = cc in subst (λ (z : Val). IsVal ty z × Spelled (spell_val ty z) (token_of (local text) at ∷ [])) same (tt, ((refl, (refl, tt)), refl, tt))
val_takes (Int w) (number n) at v e = by_test (nat_lt n (modulus w)) refl e
  where
    by_test : (b : Bool) → nat_lt n (modulus w) ≡ b → cond b (Ok (Num n)) (Err NumberTooLarge) ≡ Ok v → IsVal (Int w) v × Spelled (spell_val (Int w) v) (token_of (number n) at ∷ [])
    by_test true t h = let same : Num n ≡ v = cc in subst (λ (z : Val). IsVal (Int w) z × Spelled (spell_val (Int w) z) (token_of (number n) at ∷ [])) same (tt, ((refl, tt), rw t refl, tt))
    by_test false t h = absurd cc
val_takes Ptr (number n) at v e = absurd cc
val_takes ty _ at v e = absurd cc

val_gives : (ty : Ty) (v : Val) (l : Lex) → IsVal ty v → Fits (val_token ty v) l → want_val ty l ≡ verdict (val_token ty v).fault v
val_gives (Int w) (Reg r) l k fits = rw (fits.0, fits.1.0) refl
val_gives Ptr (Reg r) l k fits = rw (fits.0, fits.1.0) refl
val_gives (Int w) (Num n) l k fits = rw fits.0 (by_test (nat_lt n (modulus w)))
  where
    by_test : (b : Bool) → cond b (Ok (Num n)) (Err NumberTooLarge) ≡ verdict (cond b None (Some of_number)) (Num n)
    by_test true = refl
    by_test false = refl
val_gives Ptr (Num n) l k fits = absurd k

val_refuses : (ty : Ty) (f : Form) (at : ℕ) (c : Cause) → val_at ty f at ≡ Err c → (s : Sample (IsVal ty) (spell_val ty)) × ((rest : List Lex) → Here c (spell_val ty s.value) (token_of f at ∷ rest))
val_refuses ty (local text) at c e = absurd cc
val_refuses (Int w) (number n) at c e = by_test (nat_lt n (modulus w)) refl e
  where
    too_large : Sample (IsVal (Int w)) (spell_val (Int w))
    too_large = record { value = Num n; is_ok = tt; tokens = token_of (number n) 0 ∷ []; matches = ((refl, tt), tt) }

    by_test : (b : Bool) → nat_lt n (modulus w) ≡ b → cond b (Ok (Num n)) (Err NumberTooLarge) ≡ Err c → (s : Sample (IsVal (Int w)) (spell_val (Int w))) × ((rest : List Lex) → Here c (spell_val (Int w) s.value) (token_of (number n) at ∷ rest))
    by_test true t h = absurd cc
    by_test false t h = let same : NumberTooLarge ≡ c = cc in (too_large, λ rest. subst (λ (z : Cause). Here z (spell_val (Int w) (Num n)) (token_of (number n) at ∷ rest)) same ((refl, tt), rw t refl))
val_refuses ty f at c e = let same : Unexpected ≡ c = cc in (some_val ty, λ rest. subst (λ (z : Cause). Here z (spell_val ty (some_val ty).value) (token_of f at ∷ rest)) same tt)

pub val_phrase : (ty : Ty) → Phrase (IsVal ty) (spell_val ty) Any (one (want_val ty))
val_phrase ty = one_phrase (IsVal ty) (spell_val ty) Any (want_val ty) (some_val ty)
    (λ l v e. val_takes ty l.form l.at v e)
    (λ v. (val_token ty v, refl))
    (val_gives ty)
    (λ l c e. val_refuses ty l.form l.at c e)
