-- What is read as an instruction or a terminator.
use Rattle.std.proofs.Common.{◌≡◌, ℕ, true, false, List, [], ◌∷◌, ◌++◌, Option, Some, None, Result, Ok, Err, refl, sym, ap, subst, ◌∙◌}
use Rattle.phrase.specs.Reading.{Got, Reader, ◌>>=◌, one, both, maybe}
use Rattle.phrase.specs.Whole.{Here, cause_of}
use Rattle.phrase.specs.declared.Cause.{Cause}
use Rattle.phrase.specs.declared.Cause.TheVariants.{Unexpected}
use Rattle.phrase.proofs.Phrase.{Sample, Phrase, ok_both, spell_both, both_phrase, one_phrase, verdict}
use Rattle.phrase.proofs.Repeat.{Ends, ok_maybe, spell_maybe, Begins, mapped_phrase, maybe_phrase}
use Rattle.ir_ast.specs.Tokens.{Form, Lex, Asked, Fits, Matches, Each, Limit, plain, counted}
use Rattle.ir_ast.specs.Tokens.Form.{word, local, equals, comma}
use Rattle.ir_ast.specs.Tokens.Limit.{of_number, of_count}
use Rattle.ir_ast.specs.Keywords.{op_word}
use Rattle.ir_ast.specs.Grammar.{result_token, val_token, goal_tokens, op_tokens, jump_word, jump_tokens}
use Rattle.ir_ast.specs.Shapes.{IsVal, IsGoal, IsOp, StandsAlone, IsInst, IsJump}
use Rattle.ir_ast.specs.Lines.{most_instructions, most_registers, either, inst_tokens}
use Rattle.ir_ast.specs.declared.types.Width.TheVariants.{W8}
use Rattle.ir_ast.specs.declared.types.Ty.{Ty}
use Rattle.ir_ast.specs.declared.types.Ty.TheVariants.{Int}
use Rattle.ir_ast.specs.declared.program.Named.{Named}
use Rattle.ir_ast.specs.declared.program.Val.{Val}
use Rattle.ir_ast.specs.declared.program.TypedVal.{TypedVal}
use Rattle.ir_ast.specs.declared.program.Goal.{Goal}
use Rattle.ir_ast.specs.declared.program.Op.{Op}
use Rattle.ir_ast.specs.declared.program.Op.TheVariants as op
use Rattle.ir_ast.specs.declared.program.Inst.{Inst}
use Rattle.ir_ast.specs.declared.program.Jump.{Jump}
use Rattle.ir_ast.specs.declared.program.Jump.TheVariants.{Br, CondBr, Ret, Unreachable}
use Rattle.ir_ast.specs.declared.program.Term.{Term}
use Rattle.ir_ast.specs.declared.mark.Mark.TheVariants.{Equals}
use Rattle.ir_reader.specs.declared.keywords.Keyword.{Keyword}
use Rattle.ir_reader.specs.declared.keywords.Keyword.TheVariants as key
use Rattle.ir_reader.specs.declared.keywords.JumpWord.{JumpWord}
use Rattle.ir_reader.specs.declared.keywords.JumpWord.TheVariants as jump
use Rattle.ir_reader.specs.View.{begins}
use Rattle.ir_reader.specs.Tables.{lookup, results}
use Rattle.ir_reader.specs.Keys.{plains, jumps, key_word, jump_key_word}
use Rattle.ir_reader.proofs.KeysOf.{key_of, jump_key_of}
use Rattle.ir_reader.specs.Wants.{begins_if, local_at, word_among, with_place, want_placed}
use Rattle.ir_reader.specs.Parts.{goal_at}
use Rattle.ir_reader.specs.Ops.{value_at, tail_at, defined_at}
use Rattle.ir_reader.specs.Insts.{limited, is_local, want_defined, want_plain, dest_at, op_placed, plain_at, placed_at, op_for, inst_of, inst_at, defining_of, defining_at, alone_of, alone_at, want_jump, br_at, next_goal_at, cond_br_of, cond_br_at, typed_some, returned_at, ret_of, ret_at, jump_tail_at, term_of, term_at}
use Rattle.ir_reader.proofs.Singles.{Any, token_of, no_name, AreRows, among_ok, among_err, place_ok, place_err, local_ok, local_err, spell_val, val_phrase, placed_result_phrase}
use Rattle.ir_reader.proofs.Pieces.{pair_phrase, first_phrase, comma_phrase, before_mark}
use Rattle.ir_reader.proofs.ValueParts.{AfterGoal, goal_phrase}
use Rattle.ir_reader.proofs.OpParts.{given_phrase, IsTail, OpTypedIf, tail_phrase, op_word_is, IsDefined, defined_tokens, defined_phrase, spell_placed_result}

-- ---- a token that may be past a limit

-- what is wanted of one token is a value that asks for it
pub record Single {A : Type 0} (ok : A → Type 0) (form : A → Form) (at : A → List ℕ) (want : Lex → Result A Cause) : Type 0 where
  pub some : A
  pub is_ok : ok some
  pub token : Lex
  pub fits : (token.form ≡ form some) × Each (λ place. token.at ≡ place) (at some)
  pub takes : (l : Lex) (a : A) → want l ≡ Ok a → ok a × (l.form ≡ form a) × Each (λ place. l.at ≡ place) (at a)
  pub gives : (a : A) (l : Lex) → ok a → l.form ≡ form a → Each (λ place. l.at ≡ place) (at a) → want l ≡ Ok a
  pub refuses : (l : Lex) (c : Cause) → want l ≡ Err c → Unexpected ≡ c

abbrev pub asked_with : Form → List ℕ → Option Limit → Asked
asked_with form at fault = record { form = form; at = at; is_operation = false; fault = fault }

limited_ok : {A : Type 0} (f : Option Limit) (r : Result A Cause) (a : A) → limited f r ≡ Ok a → (r ≡ Ok a) × (f ≡ None)
limited_ok None r a e = (e, refl)
limited_ok (Some c) (Ok x) a e = absurd cc
limited_ok (Some c) (Err d) a e = absurd cc

limited_gives : {A : Type 0} (f : Option Limit) (a : A) → limited f (Ok a) ≡ verdict f a
limited_gives None a = refl
limited_gives (Some c) a = refl

limit_here : (c : Limit) (p : Asked) (l : Lex) (rest : List Lex) → Fits p l → p.fault ≡ Some c → Here (cause_of c) (p ∷ []) (l ∷ rest)
limit_here of_number p l rest fits e = (fits, e)
limit_here of_count p l rest fits e = (fits, e)

ok_apart : {A : Type 0} (a : A) (c : Cause) → (let k : Result A Cause = Ok a in k) ≡ Err c → ⊥
ok_apart a c e = cc

err_same : {A : Type 0} (d c : Cause) → (let k : Result A Cause = Err d in k) ≡ Err c → d ≡ c
err_same d c e = cc

pub limited_phrase : {A : Type 0} (ok : A → Type 0) (form : A → Form) (at : A → List ℕ) (want : Lex → Result A Cause) → Single ok form at want → (f : Option Limit)
    → Phrase ok (λ a. asked_with (form a) (at a) f ∷ []) Any (one (λ l. limited f (want l)))
limited_phrase {A = A} ok form at want s f = one_phrase ok (λ a. asked_with (form a) (at a) f ∷ []) Any (λ l. limited f (want l)) sample
    (λ l a e. let h = limited_ok f (want l) a e in let t = s.takes l a h.0 in (t.0, ((t.1, t.2), h.1, tt)))
    (λ a. (asked_with (form a) (at a) f, refl))
    (λ a l k fits. ap (limited f) (s.gives a l k fits.0 fits.1) ∙ limited_gives f a)
    (λ l c e. by_answer l c (want l) refl f refl e)
  where
    sample : Sample ok (λ a. asked_with (form a) (at a) f ∷ [])
    sample = record { value = s.some; is_ok = s.is_ok; tokens = s.token ∷ []; matches = (s.fits, tt) }

    unexpected : (l : Lex) (c : Cause) → Unexpected ≡ c → (x : Sample ok (λ a. asked_with (form a) (at a) f ∷ [])) × ((rest : List Lex) → Here c (asked_with (form x.value) (at x.value) f ∷ []) (l ∷ rest))
    unexpected l c e = (sample, λ rest. subst (λ (z : Cause). Here z (asked_with (form s.some) (at s.some) f ∷ []) (l ∷ rest)) e tt)

    by_answer : (l : Lex) (c : Cause) (r : Result A Cause) → want l ≡ r → (g : Option Limit) → f ≡ g → limited g r ≡ Err c
        → (x : Sample ok (λ a. asked_with (form a) (at a) f ∷ [])) × ((rest : List Lex) → Here c (asked_with (form x.value) (at x.value) f ∷ []) (l ∷ rest))
    by_answer l c (Err d) w None h e = unexpected l c (s.refuses l d w ∙ err_same {A = A} d c e)
    by_answer l c (Err d) w (Some limit) h e = unexpected l c (s.refuses l d w ∙ err_same {A = A} d c e)
    by_answer l c (Ok a) w None h e = absurd (ok_apart a c e)
    by_answer l c (Ok a) w (Some limit) h e =
        let t = s.takes l a w in
        (record { value = a; is_ok = t.0; tokens = l ∷ []; matches = ((t.1, t.2), tt) }, λ rest. subst (λ (z : Cause). Here z (asked_with (form a) (at a) f ∷ []) (l ∷ rest)) (err_same {A = A} (cause_of limit) c e) (limit_here limit (asked_with (form a) (at a) f) l rest (t.1, t.2) h))

pub word_single : {A : Type 0} (word_of : A → List ℕ) (ok : A → Type 0) (table : List (List ℕ × A)) (some : A) → ok some → AreRows word_of ok table → ((a : A) → ok a → lookup table (word_of a) ≡ Some a)
    → Single {A = A × ℕ} (λ x. ok x.0) (λ x. word (word_of x.0)) (λ x. x.1 ∷ []) (λ l. with_place l.at (word_among table l.form))
word_single word_of ok table some fine rows found = record {
  some = (some, 0);
  is_ok = fine;
  token = token_of (word (word_of some)) 0;
  fits = (refl, (refl, tt));
  takes = λ l x e. let p = place_ok l.at (word_among table l.form) x e in let h = among_ok word_of ok table l.form x.0 rows p.0 in (h.1, h.0, (p.1, tt));
  gives = λ x l k form at. rw (form, at.0, found x.0 k) refl;
  refuses = λ l c e. among_err table l.form c (place_err l.at (word_among table l.form) c e);
}

defined_single : Single {A = Named × ℕ} Any (λ x. local x.0.name) (λ x. x.0.at ∷ x.1 ∷ []) (λ l. with_place l.at (local_at l.form l.at))
defined_single = record {
  some = (no_name, 0);
  is_ok = tt;
  token = token_of (local []) 0;
  fits = (refl, (refl, (refl, tt)));
  takes = λ l x e. let p = place_ok l.at (local_at l.form l.at) x e in let h = local_ok l.form l.at x.0 p.0 in (tt, h.0, (h.1, (p.1, tt)));
  gives = λ x l k form at. by_places x l form at.0 at.1.0;
  refuses = λ l c e. local_err l.form l.at c (place_err l.at (local_at l.form l.at) c e);
}
  where
    by_places : (x : Named × ℕ) (l : Lex) → l.form ≡ local x.0.name → l.at ≡ x.0.at → l.at ≡ x.1 → with_place l.at (local_at l.form l.at) ≡ Ok x
    by_places x l form first second =
        ap (λ (z : Form). with_place l.at (local_at z l.at)) form ∙ ap (λ (z : ℕ). with_place l.at (local_at (local x.0.name) z)) first ∙ ap (λ (z : ℕ). with_place z (local_at (local x.0.name) x.0.at)) second

-- ---- instructions

abbrev pub dest_tokens : ℕ → ℕ → Named × ℕ → List Asked
dest_tokens instructions registers x = asked_with (local x.0.name) (x.0.at ∷ x.1 ∷ []) (either (counted instructions most_instructions) (counted registers most_registers)) ∷ plain equals ∷ []

pub dest_phrase : (instructions registers : ℕ) → Phrase {A = Named × ℕ} Any (dest_tokens instructions registers) Any (dest_at instructions registers)
unfolding dest_at
dest_phrase instructions registers = before_mark Equals Any (λ x. asked_with (local x.0.name) (x.0.at ∷ x.1 ∷ []) (either (counted instructions most_instructions) (counted registers most_registers)) ∷ []) Any (one (want_defined instructions registers))
    (limited_phrase Any (λ x. local x.0.name) (λ x. x.0.at ∷ x.1 ∷ []) (λ l. with_place l.at (local_at l.form l.at)) defined_single (either (counted instructions most_instructions) (counted registers most_registers)))
    (λ _ _ _. tt)

-- the operation may stand alone
abbrev pub IsPlain : Keyword → Type 0
IsPlain key.Store = Unit {0}
IsPlain key.Copy = Unit {0}
IsPlain key.Free = Unit {0}
IsPlain key.Print = Unit {0}
IsPlain key.Call = Unit {0}
IsPlain key.Join = Unit {0}
IsPlain _ = ⊥

plain_rows : AreRows key_word IsPlain plains
plain_rows = ((refl, tt), ((refl, tt), ((refl, tt), ((refl, tt), ((refl, tt), ((refl, tt), tt))))))

plain_found : (k : Keyword) → IsPlain k → lookup plains (key_word k) ≡ Some k
plain_found key.Store h = refl
plain_found key.Copy h = refl
plain_found key.Free h = refl
plain_found key.Print h = refl
plain_found key.Call h = refl
plain_found key.Join h = refl
plain_found _ h = absurd h

stands : (o : Op) → IsPlain (key_of o) → StandsAlone o
stands (op.Store ty val ptr) h = tt
stands (op.Copy to from len) h = tt
stands (op.Free ptr) h = tt
stands (op.Print width val) h = tt
stands (op.Call result function args) h = tt
stands (op.Join result ty_at handle) h = tt
stands _ h = absurd h

standing : (o : Op) → StandsAlone o → IsPlain (key_of o) × OpTypedIf false o
standing (op.Store ty val ptr) h = (tt, tt)
standing (op.Copy to from len) h = (tt, tt)
standing (op.Free ptr) h = (tt, tt)
standing (op.Print width val) h = (tt, tt)
standing (op.Call result function args) h = (tt, tt)
standing (op.Join result ty_at handle) h = (tt, tt)
standing _ h = absurd h

abbrev pub IsAlone : (version : ℕ) → Op × ℕ → Type 0
IsAlone version x = StandsAlone x.0 × IsOp version x.0

abbrev pub alone_tokens : ℕ → Op × ℕ → List Asked
alone_tokens instructions x = asked_with (word (op_word x.0)) (x.1 ∷ []) (counted instructions most_instructions) ∷ op_tokens x.0

abbrev ok_plain_word : Keyword × ℕ → Type 0
ok_plain_word x = IsPlain x.0

abbrev plain_word_tokens : ℕ → Keyword × ℕ → List Asked
plain_word_tokens instructions x = asked_with (word (key_word x.0)) (x.1 ∷ []) (counted instructions most_instructions) ∷ []

alone_there : (version : ℕ) (instructions : ℕ) (x : (Keyword × ℕ) × Op) → ok_both ok_plain_word (λ k. IsTail version false k.0) x
    → IsAlone version (op_placed x) × (alone_tokens instructions (op_placed x) ≡ spell_both (plain_word_tokens instructions) (λ _. op_tokens) x)
alone_there version instructions x k =
    let same = k.1.0 in
    ((stands x.1 (subst IsPlain (sym same) k.0), k.1.2), ap (λ (z : List ℕ). asked_with (word z) (x.0.1 ∷ []) (counted instructions most_instructions) ∷ op_tokens x.1) (op_word_is x.1 ∙ ap key_word same))

alone_back : (version : ℕ) (y : Op × ℕ) → IsAlone version y → (x : (Keyword × ℕ) × Op) × ok_both ok_plain_word (λ k. IsTail version false k.0) x × (op_placed x ≡ y)
alone_back version y k = let h = standing y.0 k.0 in (((key_of y.0, y.1), y.0), (h.0, (refl, h.1, k.1)), refl)

pub plain_phrase : (version : ℕ) (instructions : ℕ) → Phrase (IsAlone version) (alone_tokens instructions) Any (plain_at version instructions)
unfolding plain_at
plain_phrase version instructions = mapped_phrase (ok_both ok_plain_word (λ k. IsTail version false k.0)) (spell_both (plain_word_tokens instructions) (λ _. op_tokens)) Any _
    (pair_phrase ok_plain_word (λ k. IsTail version false k.0) (plain_word_tokens instructions) (λ _. op_tokens) (one (want_plain instructions)) (λ k. tail_at version false k.0)
    (limited_phrase ok_plain_word (λ x. word (key_word x.0)) (λ x. x.1 ∷ []) (λ l. with_place l.at (word_among plains l.form)) (word_single key_word IsPlain plains key.Free tt plain_rows plain_found) (counted instructions most_instructions))
    (λ k. tail_phrase version false k.0))
    op_placed (IsAlone version) (alone_tokens instructions) (alone_there version instructions) (alone_back version)

abbrev ok_for : (version : ℕ) → Option (Named × ℕ) → Op × ℕ → Type 0
ok_for version None x = IsAlone version x
ok_for version (Some y) x = IsDefined version x.0 × (x.1 ≡ y.1)

abbrev tokens_for : ℕ → Option (Named × ℕ) → Op × ℕ → List Asked
tokens_for instructions None x = alone_tokens instructions x
tokens_for instructions (Some y) x = defined_tokens x.0

for_back : (version : ℕ) (y : Named × ℕ) (x : Op × ℕ) → ok_for version (Some y) x → (o : Op) × IsDefined version o × (placed_at y.1 o ≡ x)
for_back version y x k = (x.0, k.0, ap (λ (z : ℕ). placed_at z x.0) (sym k.1))

for_phrase : (version : ℕ) (instructions : ℕ) (d : Option (Named × ℕ)) → Phrase (ok_for version d) (tokens_for instructions d) Any (op_for version instructions d)
for_phrase version instructions None = plain_phrase version instructions
for_phrase version instructions (Some y) = mapped_phrase (IsDefined version) defined_tokens Any (defined_at version) (defined_phrase version) (placed_at y.1) (ok_for version (Some y)) (tokens_for instructions (Some y)) (λ o k. ((k, refl), refl)) (for_back version y)

abbrev ok_dest : Option (Named × ℕ) → Type 0
ok_dest = ok_maybe Any

abbrev NoLocal : List Lex → Type 0
NoLocal rest = Any rest × Ends (begins_if is_local) rest

no_local : (instructions : ℕ) (d : Option (Named × ℕ)) (x : Op × ℕ) (back rest : List Lex) → Matches (tokens_for instructions d x) back → NoLocal (back ++ rest)
no_local instructions None x [] rest h = absurd h
no_local instructions None x (l ∷ back) rest h = (tt, rw h.0.0 refl)
no_local instructions (Some y) x [] rest h = absurd h
no_local instructions (Some y) x (l ∷ back) rest h = (tt, rw h.0.0 refl)

inst_there : (version : ℕ) (instructions registers : ℕ) (x : Option (Named × ℕ) × (Op × ℕ)) → ok_both ok_dest (ok_for version) x
    → IsInst version (inst_of x) × (inst_tokens instructions registers (inst_of x).dest (inst_of x).at (inst_of x).op ≡ spell_both (spell_maybe (dest_tokens instructions registers)) (tokens_for instructions) x)
inst_there version instructions registers (None, y) k = (k.1, refl)
inst_there version instructions registers (Some d, y) k =
    (k.1.0, ap (λ (z : ℕ). inst_tokens instructions registers (Some d.0) z y.0) k.1.1)

inst_back : (version : ℕ) (i : Inst) → IsInst version i → (x : Option (Named × ℕ) × (Op × ℕ)) × ok_both ok_dest (ok_for version) x × (inst_of x ≡ i)
inst_back version i k = by_dest i.dest i.at i.op k
  where
    by_dest : (d : Option Named) (at : ℕ) (o : Op) → IsInst version (record { dest = d; at = at; op = o }) → (x : Option (Named × ℕ) × (Op × ℕ)) × ok_both ok_dest (ok_for version) x × (inst_of x ≡ record { dest = d; at = at; op = o })
    by_dest None at o k = ((None, (o, at)), (tt, k), refl)
    by_dest (Some r) at o k = ((Some (r, at), (o, at)), (tt, (k, refl)), refl)

abbrev pub spell_inst : ℕ → ℕ → Inst → List Asked
spell_inst instructions registers i = inst_tokens instructions registers i.dest i.at i.op

local_begins : (instructions registers : ℕ) (x : Named × ℕ) → Any x → Begins Any (dest_tokens instructions registers) (begins_if is_local) x
local_begins instructions registers x k = record {
  first = asked_with (local x.0.name) (x.0.at ∷ x.1 ∷ []) (either (counted instructions most_instructions) (counted registers most_registers));
  others = plain equals ∷ [];
  parts = refl;
  passes = λ l fits. rw fits.0 refl;
}

pub inst_phrase : (version : ℕ) (instructions registers : ℕ) → Phrase (IsInst version) (spell_inst instructions registers) Any (inst_at version instructions registers)
unfolding inst_at
inst_phrase version instructions registers = mapped_phrase (ok_both ok_dest (ok_for version)) (spell_both (spell_maybe (dest_tokens instructions registers)) (tokens_for instructions)) Any _
    (both_phrase ok_dest (ok_for version) (spell_maybe (dest_tokens instructions registers)) (tokens_for instructions) NoLocal Any (maybe (begins_if is_local) (dest_at instructions registers)) (op_for version instructions)
    (maybe_phrase Any (dest_tokens instructions registers) Any (dest_at instructions registers) (dest_phrase instructions registers) (begins_if is_local) (local_begins instructions registers))
    (for_phrase version instructions) (λ d x back rest _ h _. no_local instructions d x back rest h))
    inst_of (IsInst version) (spell_inst instructions registers) (inst_there version instructions registers) (inst_back version)

-- the two forms of an instruction, as the code reads them
by_op : (d : Named × ℕ) (r : Got Op)
    → ((r >>= λ (o : Op × List Lex). let y : (Op × ℕ) × List Lex = (placed_at d.1 o.0, o.1) in Ok y) >>= λ y. let z : (Option (Named × ℕ) × (Op × ℕ)) × List Lex = ((Some d, y.0), y.1) in Ok z) >>= (λ z. let w : Inst × List Lex = (inst_of z.0, z.1) in Ok w)
    ≡ (r >>= λ (o : Op × List Lex). let y : ((Named × ℕ) × Op) × List Lex = ((d, o.0), o.1) in Ok y) >>= (λ y. let w : Inst × List Lex = (defining_of y.0, y.1) in Ok w)
by_op d (Ok o) = refl
by_op d (Err e) = refl

pub inst_defining : (version : ℕ) (instructions registers : ℕ) (ts : List Lex) → begins (begins_if is_local) ts ≡ true → inst_at version instructions registers ts ≡ (defining_at version) instructions registers ts
unfolding inst_at defining_at
inst_defining version instructions registers [] e = absurd cc
inst_defining version instructions registers (l ∷ ls) e = rw e (by_dest (dest_at instructions registers (l ∷ ls)))
  where
    by_dest : (r : Got (Named × ℕ))
        → ((r >>= λ x. let y : Option (Named × ℕ) × List Lex = (Some x.0, x.1) in Ok y) >>= λ y. op_for version instructions y.0 y.1 >>= λ z. let w : (Option (Named × ℕ) × (Op × ℕ)) × List Lex = ((y.0, z.0), z.1) in Ok w) >>= (λ w. let v : Inst × List Lex = (inst_of w.0, w.1) in Ok v)
        ≡ (r >>= λ x. defined_at version x.1 >>= λ o. let w : ((Named × ℕ) × Op) × List Lex = ((x.0, o.0), o.1) in Ok w) >>= (λ w. let v : Inst × List Lex = (defining_of w.0, w.1) in Ok v)
    by_dest (Ok x) = by_op x.0 (defined_at version x.1)
    by_dest (Err d) = refl

pub inst_alone : (version : ℕ) (instructions registers : ℕ) (ts : List Lex) → begins (begins_if is_local) ts ≡ false → inst_at version instructions registers ts ≡ (alone_at version) instructions ts
unfolding inst_at alone_at
inst_alone version instructions registers [] e = by_plain (plain_at version instructions [])
  where
    by_plain : (r : Got (Op × ℕ)) → (r >>= λ z. let w : (Option (Named × ℕ) × (Op × ℕ)) × List Lex = ((None, z.0), z.1) in Ok w) >>= (λ w. let v : Inst × List Lex = (inst_of w.0, w.1) in Ok v) ≡ r >>= (λ w. let v : Inst × List Lex = (alone_of w.0, w.1) in Ok v)
    by_plain (Ok x) = refl
    by_plain (Err d) = refl
inst_alone version instructions registers (l ∷ ls) e = rw e (by_plain (plain_at version instructions (l ∷ ls)))
  where
    by_plain : (r : Got (Op × ℕ)) → (r >>= λ z. let w : (Option (Named × ℕ) × (Op × ℕ)) × List Lex = ((None, z.0), z.1) in Ok w) >>= (λ w. let v : Inst × List Lex = (inst_of w.0, w.1) in Ok v) ≡ r >>= (λ w. let v : Inst × List Lex = (alone_of w.0, w.1) in Ok v)
    by_plain (Ok x) = refl
    by_plain (Err d) = refl

-- ---- terminators

abbrev pub IsJumpOf : JumpWord → Jump → Type 0
IsJumpOf k j = (jump_key_of j ≡ k) × IsJump j

br_back : (j : Jump) → IsJumpOf jump.Br j → (g : Goal) × IsGoal g × (Br g ≡ j)
br_back (Br g) k = (g, k.1, refl)
br_back _ k = let e = k.0 in absurd cc

br_phrase : Phrase (IsJumpOf jump.Br) jump_tokens AfterGoal br_at
unfolding br_at
br_phrase = mapped_phrase IsGoal goal_tokens AfterGoal goal_at goal_phrase Br (IsJumpOf jump.Br) jump_tokens (λ g k. ((refl, k), refl)) br_back

abbrev next_goal_tokens : Goal → List Asked
next_goal_tokens g = plain comma ∷ goal_tokens g

next_goal_phrase : Phrase IsGoal next_goal_tokens AfterGoal next_goal_at
unfolding next_goal_at
next_goal_phrase = comma_phrase IsGoal goal_tokens AfterGoal goal_at goal_phrase

comma_after_goal : (g : Goal) (back rest : List Lex) → Matches (next_goal_tokens g) back → AfterGoal (back ++ rest)
comma_after_goal g [] rest h = absurd h
comma_after_goal g (l ∷ back) rest h = (tt, rw h.0.0 refl)

cond_br_back : (j : Jump) → IsJumpOf jump.CondBr j → (x : Val × (Goal × Goal)) × ok_both (IsVal (Int W8)) (λ _. ok_both IsGoal (λ _. IsGoal)) x × (cond_br_of x ≡ j)
cond_br_back (CondBr cond first second) k = ((cond, (first, second)), (k.1.0, (k.1.1, k.1.2)), refl)
cond_br_back _ k = let e = k.0 in absurd cc

cond_br_phrase : Phrase (IsJumpOf jump.CondBr) jump_tokens AfterGoal cond_br_at
unfolding cond_br_at
cond_br_phrase = mapped_phrase (ok_both (IsVal (Int W8)) (λ _. ok_both IsGoal (λ _. IsGoal))) (spell_both (spell_val (Int W8)) (λ _. spell_both next_goal_tokens (λ _. next_goal_tokens))) AfterGoal _
    (first_phrase (IsVal (Int W8)) (λ _. ok_both IsGoal (λ _. IsGoal)) (spell_val (Int W8)) (λ _. spell_both next_goal_tokens (λ _. next_goal_tokens)) AfterGoal (value_at (Int W8)) (λ _. both next_goal_at (λ _. next_goal_at)) (val_phrase (Int W8))
    (λ _. both_phrase IsGoal (λ _. IsGoal) next_goal_tokens (λ _. next_goal_tokens) AfterGoal AfterGoal next_goal_at (λ _. next_goal_at) next_goal_phrase (λ _. next_goal_phrase) (λ _ g back rest _ h _. comma_after_goal g back rest h)))
    cond_br_of (IsJumpOf jump.CondBr) jump_tokens (λ x k. ((refl, (k.0, k.1.0, k.1.1)), refl)) cond_br_back

-- the value that is returned at a type
abbrev ReturnsAt : Option Ty → Option TypedVal → Type 0
ReturnsAt None v = None ≡ v
ReturnsAt (Some ty) None = ⊥
ReturnsAt (Some ty) (Some v) = (v.ty ≡ ty) × IsVal ty v.val

abbrev returned_tokens : Option TypedVal → List Asked
returned_tokens None = []
returned_tokens (Some v) = val_token v.ty v.val ∷ []

returned_back : (ty : Ty) (o : Option TypedVal) → ReturnsAt (Some ty) o → (v : Val) × IsVal ty v × (typed_some ty v ≡ o)
returned_back ty None k = absurd k
returned_back ty (Some v) k = (v.val, k.1, ap (λ (z : Ty). typed_some z v.val) (sym k.0))

returned_phrase : (ty : Option Ty) → Phrase (ReturnsAt ty) returned_tokens Any (returned_at ty)
unfolding returned_at
returned_phrase None = given_phrase (ReturnsAt None) returned_tokens Any None refl refl (λ v k. k)
returned_phrase (Some ty) = mapped_phrase (IsVal ty) (spell_val ty) Any (value_at ty) (val_phrase ty) (typed_some ty) (ReturnsAt (Some ty)) returned_tokens (λ v k. ((refl, k), refl)) (returned_back ty)

ret_there : (x : (Option Ty × ℕ) × Option TypedVal) → ok_both Any (λ (r : Option Ty × ℕ). ReturnsAt r.0) x → IsJumpOf jump.Ret (ret_of x) × (jump_tokens (ret_of x) ≡ spell_both spell_placed_result (λ _. returned_tokens) x)
ret_there ((None, at), None) k = ((refl, tt), refl)
ret_there ((None, at), Some v) k = let e = k.1 in absurd cc
ret_there ((Some ty, at), None) k = absurd k.1
ret_there ((Some ty, at), Some v) k = ((refl, subst (λ (z : Ty). IsVal z v.val) (sym k.1.0) k.1.1), ap (λ (z : Ty). result_token (Some z) at ∷ val_token v.ty v.val ∷ []) k.1.0)

ret_back : (j : Jump) → IsJumpOf jump.Ret j → (x : (Option Ty × ℕ) × Option TypedVal) × ok_both Any (λ (r : Option Ty × ℕ). ReturnsAt r.0) x × (ret_of x ≡ j)
ret_back (Ret None at) k = (((None, at), None), (tt, refl), refl)
ret_back (Ret (Some v) at) k = (((Some v.ty, at), Some v), (tt, (refl, k.1)), refl)
ret_back (Br g) k = let e = k.0 in absurd cc
ret_back (CondBr cond first second) k = let e = k.0 in absurd cc
ret_back Unreachable k = let e = k.0 in absurd cc

ret_phrase : Phrase (IsJumpOf jump.Ret) jump_tokens Any ret_at
unfolding ret_at
ret_phrase = mapped_phrase (ok_both Any (λ (r : Option Ty × ℕ). ReturnsAt r.0)) (spell_both spell_placed_result (λ _. returned_tokens)) Any _
    (pair_phrase Any (λ (r : Option Ty × ℕ). ReturnsAt r.0) spell_placed_result (λ _. returned_tokens) (one (want_placed results)) (λ r. returned_at r.0) placed_result_phrase (λ r. returned_phrase r.0))
    ret_of (IsJumpOf jump.Ret) jump_tokens ret_there ret_back

unreachable_only : (j : Jump) → IsJumpOf jump.Unreachable j → Unreachable ≡ j
unreachable_only Unreachable k = refl
unreachable_only _ k = let e = k.0 in absurd cc

-- what follows a part that anything may follow may be less
pub narrowed : {A : Type 0} (ok : A → Type 0) (spell : A → List Asked) (ends less : List Lex → Type 0) (read : Reader A) → ((rest : List Lex) → less rest → ends rest) → Phrase ok spell ends read → Phrase ok spell less read
narrowed ok spell ends less read fewer p = record {
  sample = p.sample;
  sound = p.sound;
  complete = λ a front rest k h e. p.complete a front rest k h (fewer rest e);
  stops = p.stops;
  local_ok = p.local_ok;
  local_stop = p.local_stop;
}

jump_tail_phrase : (k : JumpWord) → Phrase (IsJumpOf k) jump_tokens AfterGoal (jump_tail_at k)
jump_tail_phrase jump.Br = br_phrase
jump_tail_phrase jump.CondBr = cond_br_phrase
jump_tail_phrase jump.Ret = narrowed (IsJumpOf jump.Ret) jump_tokens Any AfterGoal ret_at (λ _ _. tt) ret_phrase
jump_tail_phrase jump.Unreachable = given_phrase (IsJumpOf jump.Unreachable) jump_tokens AfterGoal Unreachable (refl, tt) refl unreachable_only

jump_rows : AreRows jump_key_word Any jumps
jump_rows = ((refl, tt), ((refl, tt), ((refl, tt), ((refl, tt), tt))))

jump_found : (k : JumpWord) → lookup jumps (jump_key_word k) ≡ Some k
jump_found jump.Br = refl
jump_found jump.CondBr = refl
jump_found jump.Ret = refl
jump_found jump.Unreachable = refl

jump_word_is : (j : Jump) → jump_word j ≡ jump_key_word (jump_key_of j)
jump_word_is (Br g) = refl
jump_word_is (CondBr cond first second) = refl
jump_word_is (Ret val at) = refl
jump_word_is Unreachable = refl

abbrev pub IsTerm : Term → Type 0
IsTerm t = IsJump t.jump

abbrev pub term_tokens : ℕ → Term → List Asked
term_tokens instructions t = asked_with (word (jump_word t.jump)) (t.at ∷ []) (counted instructions most_instructions) ∷ jump_tokens t.jump

abbrev jump_word_tokens : ℕ → JumpWord × ℕ → List Asked
jump_word_tokens instructions x = asked_with (word (jump_key_word x.0)) (x.1 ∷ []) (counted instructions most_instructions) ∷ []

abbrev ok_jump_word : JumpWord × ℕ → Type 0
ok_jump_word x = Unit {0}

term_there : (instructions : ℕ) (x : (JumpWord × ℕ) × Jump) → ok_both ok_jump_word (λ k. IsJumpOf k.0) x → IsTerm (term_of x) × (term_tokens instructions (term_of x) ≡ spell_both (jump_word_tokens instructions) (λ _. jump_tokens) x)
term_there instructions x k =
    (k.1.1, ap (λ (z : List ℕ). asked_with (word z) (x.0.1 ∷ []) (counted instructions most_instructions) ∷ jump_tokens x.1) (jump_word_is x.1 ∙ ap jump_key_word k.1.0))

pub term_phrase : (instructions : ℕ) → Phrase IsTerm (term_tokens instructions) AfterGoal (term_at instructions)
unfolding term_at
term_phrase instructions = mapped_phrase (ok_both ok_jump_word (λ k. IsJumpOf k.0)) (spell_both (jump_word_tokens instructions) (λ _. jump_tokens)) AfterGoal _
    (first_phrase ok_jump_word (λ k. IsJumpOf k.0) (jump_word_tokens instructions) (λ _. jump_tokens) AfterGoal (one (want_jump instructions)) (λ k. jump_tail_at k.0)
    (limited_phrase ok_jump_word (λ x. word (jump_key_word x.0)) (λ x. x.1 ∷ []) (λ l. with_place l.at (word_among jumps l.form)) (word_single jump_key_word Any jumps jump.Br tt jump_rows (λ k _. jump_found k)) (counted instructions most_instructions))
    (λ k. jump_tail_phrase k.0))
    term_of IsTerm (term_tokens instructions) (term_there instructions) (λ t k. (((jump_key_of t.jump, t.at), t.jump), (tt, (refl, k)), refl))
