-- What is read as parameters, blocks, functions and programs.
use Rattle.std.proofs.Common.{◌≡◌, ℕ, suc, ◌+◌, ◌<◌, Bool, true, false, cond, List, [], ◌∷◌, ◌++◌, length, Option, Some, None, Ok, Err, refl, sym, ap, subst, ◌∙◌, append_assoc, arith}
use Rattle.std.specs.Prelude.{◌^◌, ◌&&◌, nat_le, codes}
use Rattle.std.specs.List.{flat_map, sum_by}
use Rattle.std.proofs.lemmas.List.{append-nil}
use Rattle.std.proofs.lemmas.Grind.{flat_map-append}
use Rattle.std.proofs.lemmas.Bool.{le-leb, leb-true}
use Rattle.phrase.specs.Reading.{Reader, one, both, mapped, maybe, many_from}
use Rattle.phrase.specs.declared.Cause.{Cause}
use Rattle.phrase.specs.declared.Cause.TheVariants.{Unexpected}
use Rattle.phrase.specs.Whole.{Here}
use Rattle.phrase.proofs.Phrase.{Sample, one_phrase, Phrase, judged, ok_both, spell_both, both_phrase}
use Rattle.phrase.proofs.Repeat.{Ends, ok_maybe, spell_maybe, Begins, mapped_phrase, maybe_phrase}
use Rattle.phrase.proofs.ManyFrom.{ok_from, spell_from, many_from_phrase}
use Rattle.ir_ast.specs.Tokens.{Form, Lex, Asked, Matches, Spelled, Each, plain, keyword, counted}
use Rattle.ir_ast.specs.Tokens.Form.{word, local, number, open_round, close_round, open_brace, close_brace, comma, colon, equals, arrow}
use Rattle.ir_ast.specs.Keywords.{result_word, op_word}
use Rattle.ir_ast.specs.Grammar.{type_token, kind_token, size_token, label, function_name, op_tokens, jump_word}
use Rattle.ir_ast.specs.Shapes.{HasKind, IsVersion, StandsAlone, IsInst, FitsAttr, IsParam, IsBlockParam, IsResult, IsBlock, IsFunction, IsShaped}
use Rattle.ir_ast.specs.Lines.{Line, most_functions, most_instructions, most_registers, either, attr_tokens, param_register, param_tokens, next_params, params_tokens, round_params, block_params, result_tokens, outer, inst_lines, term_line, block_lines, block_instructions, block_registers, blocks_lines, function_lines, functions_lines, spell}
use Rattle.ir_ast.specs.declared.types.Ty.{Ty}
use Rattle.ir_ast.specs.declared.types.Ty.TheVariants.{Int, Ptr}
use Rattle.ir_ast.specs.declared.types.Attr.{Attr}
use Rattle.ir_ast.specs.declared.types.ResultTy.{ResultTy}
use Rattle.ir_ast.specs.declared.program.Named.{Named}
use Rattle.ir_ast.specs.declared.program.Param.{Param}
use Rattle.ir_ast.specs.declared.program.Inst.{Inst}
use Rattle.ir_ast.specs.declared.program.Op.{Op}
use Rattle.ir_ast.specs.declared.program.Op.TheVariants as op
use Rattle.ir_ast.specs.declared.program.Jump.{Jump}
use Rattle.ir_ast.specs.declared.program.Jump.TheVariants.{Br, CondBr, Ret, Unreachable}
use Rattle.ir_ast.specs.declared.program.Term.{Term}
use Rattle.ir_ast.specs.declared.program.Block.{Block}
use Rattle.ir_ast.specs.declared.program.Function.{Function}
use Rattle.ir_ast.specs.declared.program.Program.{Program}
use Rattle.ir_ast.specs.declared.mark.Mark.TheVariants.{OpenRound, OpenBrace, CloseBrace, Comma, Colon, Arrow}
use Rattle.ir_reader.specs.Tables.{results, kinds}
use Rattle.ir_reader.specs.Wants.{want_if, begins_if, is_mark, is_any_word, is_word, want_local, want_global, want_label, want_among, want_amount}
use Rattle.ir_reader.specs.Parts.{second, first_of, cons_of, listed, mark_at, in_round}
use Rattle.ir_reader.specs.Ops.{type_at}
use Rattle.ir_reader.specs.Insts.{inst_at, term_at}
use Rattle.ir_reader.specs.Blocks.{attr_of, attr_at, optional_attr_at, attr_for, param_register_at, param_of, param_at, next_param_at, one_more, more_params_at, params_at, some_params_at, function_params_at, round_params_at, block_params_at, is_inst, after_inst, insts_at, block_of, head_at, block_at, after_block, more_blocks_at, blocks_at, result_of, result_ty_at, func_at, arrow_result_at, closed_blocks_at, function_of, function_at, after_function, more_functions_at, functions_at, version_in, want_version, program_at}
use Rattle.ir_reader.proofs.Singles.{Any, token_of, local_ok, local_err, chosen_ok, chosen_err, word_is, kind_phrase, amount_phrase, type_phrase, result_phrase, label_phrase, global_phrase, if_phrase, word_phrase}
use Rattle.ir_reader.proofs.Pieces.{pair_phrase, first_phrase, comma_phrase, round_phrase, before_mark, after_mark}
use Rattle.ir_reader.proofs.ValueParts.{AfterGoal}
use Rattle.ir_reader.proofs.OpParts.{given_phrase, defined_tokens}
use Rattle.ir_reader.proofs.InstParts.{Single, asked_with, limited_phrase, spell_inst, inst_phrase, IsTerm, term_tokens, term_phrase}

-- ---- attributes and parameters

abbrev pub an_attr_tokens : Attr → List Asked
an_attr_tokens a = kind_token a.kind ∷ plain open_round ∷ size_token a.size ∷ plain close_round ∷ []

-- its kind is one of the version
abbrev pub IsAttr : ℕ → Attr → Type 0
IsAttr version a = HasKind version a.kind

pub attr_phrase : (version : ℕ) → Phrase (IsAttr version) an_attr_tokens Any (attr_at version)
unfolding attr_at
attr_phrase version = mapped_phrase (ok_both (HasKind version) (λ _. Any)) (spell_both (λ k. kind_token k ∷ []) (λ _ n. plain open_round ∷ size_token n ∷ plain close_round ∷ [])) Any _
    (pair_phrase (HasKind version) (λ _. Any) (λ k. kind_token k ∷ []) (λ _ n. plain open_round ∷ size_token n ∷ plain close_round ∷ []) (one (want_among (kinds version))) (λ _. in_round (one (want_amount (2 ^ 32)))) (kind_phrase version)
    (λ _. round_phrase Any (λ n. size_token n ∷ []) Any (one (want_amount (2 ^ 32))) (amount_phrase (2 ^ 32)) (λ _ _ _. tt)))
    attr_of (IsAttr version) an_attr_tokens (λ x k. (k.0, refl)) (λ a k. ((a.kind, a.size), (k, tt), refl))

-- which attribute may stand there
abbrev pub AttrFor : Option ℕ → Option Ty → Option Attr → Type 0
AttrFor (Some version) (Some Ptr) a = ok_maybe (IsAttr version) a
AttrFor (Some version) (Some (Int width)) a = None ≡ a
AttrFor (Some version) None a = None ≡ a
AttrFor None ty a = None ≡ a

-- no word follows
abbrev pub NoWordNext : List Lex → Type 0
NoWordNext rest = Any rest × Ends (begins_if is_any_word) rest

attr_begins : (version : ℕ) (a : Attr) → IsAttr version a → Begins (IsAttr version) an_attr_tokens (begins_if is_any_word) a
attr_begins version a k = record { first = kind_token a.kind; others = plain open_round ∷ size_token a.size ∷ plain close_round ∷ []; parts = refl; passes = λ l fits. rw fits.0 refl }

attr_same : (o : Option Attr) → attr_tokens o ≡ spell_maybe an_attr_tokens o
attr_same None = refl
attr_same (Some a) = refl

-- written alike, and so read alike
pub rewritten : {A : Type 0} (ok : A → Type 0) (spell : A → List Asked) (ends : List Lex → Type 0) (read : Reader A) (ok' : A → Type 0) (spell' : A → List Asked)
    → ((a : A) → ok a → ok' a × (spell' a ≡ spell a)) → ((a : A) → ok' a → ok a) → Phrase ok spell ends read → Phrase ok' spell' ends read
rewritten ok spell ends read ok' spell' there back p = record {
  sample = let s = p.sample in let t = there s.value s.is_ok in record { value = s.value; is_ok = t.0; tokens = s.tokens; matches = subst (λ (z : List Asked). Matches z s.tokens) (sym t.1) s.matches };
  sound = λ ts a rest e.
      let s = p.sound ts a rest e in
      let t = there a s.is_ok in
      record { front = s.front; whole = s.whole; is_ok = t.0; spelled = subst (λ (z : List Asked). Spelled z s.front) (sym t.1) s.spelled };
  complete = λ a front rest k h e.
      let ok_a = back a k in
      let same = (there a ok_a).1 in
      p.complete a front rest ok_a (subst (λ (z : List Asked). Matches z front) same h) e ∙ ap (λ (z : List Asked). judged z front a rest) (sym same);
  stops = λ ts c rest e.
      let s = p.stops ts c rest e in
      let t = there s.value s.is_ok in
      record { front = s.front; whole = s.whole; value = s.value; is_ok = t.0; before = s.before; after = s.after; parts = t.1 ∙ s.parts; spelled = s.spelled; more = s.more; completes = s.completes; here = s.here };
  local_ok = p.local_ok;
  local_stop = p.local_stop;
}

optional_attr_phrase : (version : ℕ) → Phrase (AttrFor (Some version) (Some Ptr)) attr_tokens NoWordNext (optional_attr_at version)
unfolding optional_attr_at
optional_attr_phrase version = rewritten (ok_maybe (IsAttr version)) (spell_maybe an_attr_tokens) NoWordNext (maybe (begins_if is_any_word) (attr_at version)) (AttrFor (Some version) (Some Ptr)) attr_tokens (λ o k. (k, attr_same o)) (λ o k. k)
    (maybe_phrase (IsAttr version) an_attr_tokens Any (attr_at version) (attr_phrase version) (begins_if is_any_word) (attr_begins version))

attr_for_phrase : (attrs : Option ℕ) (ty : Option Ty) → Phrase (AttrFor attrs ty) attr_tokens NoWordNext (attr_for attrs ty)
attr_for_phrase (Some version) (Some Ptr) = optional_attr_phrase version
attr_for_phrase (Some version) (Some (Int width)) = given_phrase (AttrFor (Some version) (Some (Int width))) attr_tokens NoWordNext None refl refl (λ a k. k)
attr_for_phrase (Some version) None = given_phrase (AttrFor (Some version) None) attr_tokens NoWordNext None refl refl (λ a k. k)
attr_for_phrase None ty = given_phrase (AttrFor None ty) attr_tokens NoWordNext None refl refl (λ a k. k)

register_single : Single {A = Named} Any (λ n. local n.name) (λ n. n.at ∷ []) want_local
register_single = record {
  some = record { name = []; at = 0 };
  is_ok = tt;
  token = token_of (local []) 0;
  fits = (refl, (refl, tt));
  takes = λ l n e. let h = local_ok l.form l.at n e in (tt, h.0, (h.1, tt));
  gives = λ n l k form at. rw (form, at.0) refl;
  refuses = λ l c e. local_err l.form l.at c e;
}

abbrev register_tokens : ℕ → Named → List Asked
register_tokens registers n = asked_with (local n.name) (n.at ∷ []) (counted registers most_registers) ∷ []

param_register_phrase : (registers : ℕ) → Phrase {A = Named} Any (register_tokens registers) Any (param_register_at registers)
unfolding param_register_at
param_register_phrase registers = limited_phrase Any (λ n. local n.name) (λ n. n.at ∷ []) want_local register_single (counted registers most_registers)

abbrev pub ok_param : Option ℕ → Param → Type 0
ok_param (Some version) p = IsParam version p
ok_param None p = IsBlockParam p

fits_attr : (version : ℕ) (ty : Option Ty) (a : Option Attr) → AttrFor (Some version) ty a → FitsAttr version ty a
fits_attr version (Some Ptr) None k = tt
fits_attr version (Some Ptr) (Some a) k = (refl, k)
fits_attr version (Some (Int width)) None k = tt
fits_attr version (Some (Int width)) (Some a) k = absurd cc
fits_attr version None None k = tt
fits_attr version None (Some a) k = absurd cc

attr_fits : (version : ℕ) (ty : Option Ty) (a : Option Attr) → FitsAttr version ty a → AttrFor (Some version) ty a
attr_fits version (Some Ptr) None k = tt
attr_fits version (Some Ptr) (Some a) k = k.1
attr_fits version (Some (Int width)) None k = refl
attr_fits version (Some (Int width)) (Some a) k = let e = k.0 in absurd cc
attr_fits version None None k = refl
attr_fits version None (Some a) k = let e = k.0 in absurd cc

abbrev ok_rest : Option ℕ → Ty → Option Attr × Named → Type 0
ok_rest attrs ty = ok_both (AttrFor attrs (Some ty)) (λ _. Any)

abbrev rest_tokens : ℕ → Option Attr × Named → List Asked
rest_tokens registers = spell_both attr_tokens (λ _. register_tokens registers)

param_there : (attrs : Option ℕ) (registers : ℕ) (x : Ty × (Option Attr × Named)) → ok_both Any (ok_rest attrs) x → ok_param attrs (param_of x) × (param_tokens registers (param_of x) ≡ spell_both (λ ty. type_token ty ∷ []) (λ _. rest_tokens registers) x)
param_there (Some version) registers x k = (fits_attr version (Some x.0) x.1.0 k.1.0, refl)
param_there None registers x k = (sym k.1.0, refl)

param_back : (attrs : Option ℕ) (p : Param) → ok_param attrs p → (x : Ty × (Option Attr × Named)) × ok_both Any (ok_rest attrs) x × (param_of x ≡ p)
param_back (Some version) p k = ((p.ty, (p.attr, p.reg)), (tt, (attr_fits version (Some p.ty) p.attr k, tt)), refl)
param_back None p k = ((p.ty, (p.attr, p.reg)), (tt, (sym k, tt)), refl)

no_word : (registers : ℕ) (n : Named) (back rest : List Lex) → Matches (register_tokens registers n) back → NoWordNext (back ++ rest)
no_word registers n [] rest h = absurd h
no_word registers n (l ∷ back) rest h = (tt, rw h.0.0 refl)

pub param_phrase : (attrs : Option ℕ) (registers : ℕ) → Phrase (ok_param attrs) (param_tokens registers) Any (param_at attrs registers)
unfolding param_at
param_phrase attrs registers = mapped_phrase (ok_both Any (ok_rest attrs)) (spell_both (λ ty. type_token ty ∷ []) (λ _. rest_tokens registers)) Any _
    (pair_phrase Any (ok_rest attrs) (λ ty. type_token ty ∷ []) (λ _. rest_tokens registers) type_at (λ ty. both (attr_for attrs (Some ty)) (λ _. param_register_at registers)) type_phrase
    (λ ty. both_phrase (AttrFor attrs (Some ty)) (λ _. Any) attr_tokens (λ _. register_tokens registers) NoWordNext Any (attr_for attrs (Some ty)) (λ _. param_register_at registers) (attr_for_phrase attrs (Some ty)) (λ _. param_register_phrase registers)
    (λ _ n back rest _ h _. no_word registers n back rest h)))
    param_of (ok_param attrs) (param_tokens registers) (param_there attrs registers) (param_back attrs)

abbrev pub next_param_tokens : ℕ → Param → List Asked
next_param_tokens registers p = plain comma ∷ param_tokens registers p

pub next_param_phrase : (attrs : Option ℕ) (registers : ℕ) → Phrase (ok_param attrs) (next_param_tokens registers) Any (next_param_at attrs registers)
unfolding next_param_at
next_param_phrase attrs registers = comma_phrase (ok_param attrs) (param_tokens registers) Any (param_at attrs registers) (param_phrase attrs registers)

abbrev pub NoComma : List Lex → Type 0
NoComma = Ends (begins_if (is_mark Comma))

pub param_begins : (attrs : Option ℕ) (registers : ℕ) (p : Param) → ok_param attrs p → Begins (ok_param attrs) (next_param_tokens registers) (begins_if (is_mark Comma)) p
param_begins attrs registers p k = record { first = plain comma; others = param_tokens registers p; parts = refl; passes = λ l fits. rw fits.0 refl }

each_param : (attrs : Option ℕ) (n : ℕ) (ps : List Param) → ok_from (λ _. ok_param attrs) one_more n ps → Each (ok_param attrs) ps
each_param attrs n [] k = tt
each_param attrs n (p ∷ ps) k = (k.0, each_param attrs (suc n) ps k.1)

params_each : (attrs : Option ℕ) (n : ℕ) (ps : List Param) → Each (ok_param attrs) ps → ok_from (λ _. ok_param attrs) one_more n ps
params_each attrs n [] k = tt
params_each attrs n (p ∷ ps) k = (k.0, params_each attrs (suc n) ps k.1)

next_same : (n : ℕ) (ps : List Param) → next_params n ps ≡ spell_from next_param_tokens one_more n ps
next_same n [] = refl
next_same n (p ∷ ps) = ap (λ (z : List Asked). next_param_tokens n p ++ z) (next_same (suc n) ps)

pub more_params_phrase : (attrs : Option ℕ) (n : ℕ) → Phrase (Each (ok_param attrs)) (next_params n) NoComma (more_params_at attrs n)
unfolding more_params_at
more_params_phrase attrs n = rewritten (ok_from (λ _. ok_param attrs) one_more n) (spell_from next_param_tokens one_more n) NoComma (many_from (begins_if (is_mark Comma)) (next_param_at attrs) one_more n) (Each (ok_param attrs)) (next_params n)
    (λ ps k. (each_param attrs n ps k, next_same n ps)) (params_each attrs n)
    (many_from_phrase (λ _. ok_param attrs) next_param_tokens Any (next_param_at attrs) (next_param_phrase attrs) one_more (begins_if (is_mark Comma)) (param_begins attrs) NoComma (λ rest e. e) (λ _ _ _ _ _ _ _. tt) n)

abbrev pub SomeParams : Option ℕ → List Param → Type 0
SomeParams attrs [] = ⊥
SomeParams attrs (p ∷ ps) = ok_param attrs p × Each (ok_param attrs) ps

params_back : (attrs : Option ℕ) (ps : List Param) → SomeParams attrs ps → (x : Param × List Param) × ok_both (ok_param attrs) (λ _. Each (ok_param attrs)) x × (cons_of x ≡ ps)
params_back attrs [] k = absurd k
params_back attrs (p ∷ ps) k = ((p, ps), (k.0, k.1), refl)

pub params_phrase : (attrs : Option ℕ) (n : ℕ) → Phrase (SomeParams attrs) (params_tokens n) NoComma (params_at attrs n)
unfolding params_at
params_phrase attrs n = mapped_phrase (ok_both (ok_param attrs) (λ _. Each (ok_param attrs))) (spell_both (param_tokens n) (λ _. next_params (suc n))) NoComma _
    (first_phrase (ok_param attrs) (λ _. Each (ok_param attrs)) (param_tokens n) (λ _. next_params (suc n)) NoComma (param_at attrs n) (λ _. more_params_at attrs (suc n)) (param_phrase attrs n) (λ _. more_params_phrase attrs (suc n)))
    cons_of (SomeParams attrs) (params_tokens n) (λ x k. (k, refl)) (params_back attrs)

params_begin : (version : ℕ) (n : ℕ) (ps : List Param) → SomeParams (Some version) ps → Begins (SomeParams (Some version)) (params_tokens n) (begins_if is_any_word) ps
params_begin version n [] k = absurd k
params_begin version n (p ∷ ps) k = record { first = type_token p.ty; others = (attr_tokens p.attr ++ param_register n p ∷ []) ++ next_params (suc n) ps; parts = refl; passes = λ l fits. rw fits.0 refl }

some_there : (attrs : Option ℕ) (o : Option (List Param)) → ok_maybe (SomeParams attrs) o → Each (ok_param attrs) (listed o)
some_there attrs None k = tt
some_there attrs (Some []) k = absurd k
some_there attrs (Some (p ∷ ps)) k = k

some_back : (attrs : Option ℕ) (ps : List Param) → Each (ok_param attrs) ps → (o : Option (List Param)) × ok_maybe (SomeParams attrs) o × (listed o ≡ ps)
some_back attrs [] k = (None, tt, refl)
some_back attrs (p ∷ ps) k = (Some (p ∷ ps), k, refl)

params_spell : (n : ℕ) (o : Option (List Param)) → params_tokens n (listed o) ≡ spell_maybe (params_tokens n) o
params_spell n None = refl
params_spell n (Some ps) = refl

abbrev pub AfterParams : List Lex → Type 0
AfterParams rest = NoComma rest × Ends (begins_if is_any_word) rest

pub some_params_phrase : (version : ℕ) → Phrase (Each (IsParam version)) (params_tokens 0) AfterParams (some_params_at version)
unfolding some_params_at
some_params_phrase version = mapped_phrase (ok_maybe (SomeParams (Some version))) (spell_maybe (params_tokens 0)) AfterParams _
    (maybe_phrase (SomeParams (Some version)) (params_tokens 0) NoComma (params_at (Some version) 0) (params_phrase (Some version) 0) (begins_if is_any_word) (params_begin version 0))
    listed (Each (IsParam version)) (params_tokens 0) (λ o k. (some_there (Some version) o k, params_spell 0 o)) (some_back (Some version))

pub function_params_phrase : (version : ℕ) → Phrase (Each (IsParam version)) (round_params 0) Any (function_params_at version)
unfolding function_params_at
function_params_phrase version = round_phrase (Each (IsParam version)) (params_tokens 0) AfterParams (some_params_at version) (some_params_phrase version) (λ l rest e. (rw e refl, rw e refl))

pub round_params_phrase : (n : ℕ) → Phrase (SomeParams None) (round_params n) Any (round_params_at n)
unfolding round_params_at
round_params_phrase n = round_phrase (SomeParams None) (params_tokens n) NoComma (params_at None n) (params_phrase None n) (λ l rest e. rw e refl)

abbrev pub NoOpenNext : List Lex → Type 0
NoOpenNext rest = Any rest × Ends (begins_if (is_mark OpenRound)) rest

round_begins : (n : ℕ) (ps : List Param) → SomeParams None ps → Begins (SomeParams None) (round_params n) (begins_if (is_mark OpenRound)) ps
round_begins n ps k = record { first = plain open_round; others = params_tokens n ps ++ plain close_round ∷ []; parts = refl; passes = λ l fits. rw fits.0 refl }

block_params_spell : (n : ℕ) (o : Option (List Param)) → ok_maybe (SomeParams None) o → block_params n (listed o) ≡ spell_maybe (round_params n) o
block_params_spell n None k = refl
block_params_spell n (Some []) k = absurd k
block_params_spell n (Some (p ∷ ps)) k = refl

pub block_params_phrase : (n : ℕ) → Phrase (Each IsBlockParam) (block_params n) NoOpenNext (block_params_at n)
unfolding block_params_at
block_params_phrase n = mapped_phrase (ok_maybe (SomeParams None)) (spell_maybe (round_params n)) NoOpenNext _
    (maybe_phrase (SomeParams None) (round_params n) Any (round_params_at n) (round_params_phrase n) (begins_if (is_mark OpenRound)) (round_begins n))
    listed (Each IsBlockParam) (block_params n) (λ o k. (some_there None o k, block_params_spell n o k)) (some_back None)

-- ---- blocks

abbrev pub line_tokens : List Line → List Asked
line_tokens = flat_map (λ line. line.tokens)

abbrev pub spell_inst_at : ℕ × ℕ → Inst → List Asked
spell_inst_at n = spell_inst n.0 n.1

stands_word : (o : Op) → StandsAlone o → is_inst (word (op_word o)) ≡ true
stands_word (op.Store ty val ptr) h = refl
stands_word (op.Copy to from len) h = refl
stands_word (op.Free ptr) h = refl
stands_word (op.Print width val) h = refl
stands_word (op.Call result function args) h = refl
stands_word (op.Join result ty_at handle) h = refl
stands_word _ h = absurd h

pub inst_begins : (version : ℕ) (n : ℕ × ℕ) (i : Inst) → IsInst version i → Begins (IsInst version) (spell_inst_at n) (begins_if is_inst) i
inst_begins version n i k = by_dest i.dest i.at i.op k
  where
    by_dest : (d : Option Named) (at : ℕ) (o : Op) → IsInst version (record { dest = d; at = at; op = o }) → Begins (IsInst version) (spell_inst_at n) (begins_if is_inst) (record { dest = d; at = at; op = o })
    by_dest None at o k = record { first = asked_with (word (op_word o)) (at ∷ []) (counted n.0 most_instructions); others = op_tokens o; parts = refl; passes = λ l fits. ap is_inst fits.0 ∙ stands_word o k.0 }
    by_dest (Some r) at o k = record { first = asked_with (local r.name) (r.at ∷ at ∷ []) (either (counted n.0 most_instructions) (counted n.1 most_registers)); others = plain equals ∷ defined_tokens o; parts = refl; passes = λ l fits. ap is_inst fits.0 }

each_inst : (version : ℕ) (n : ℕ × ℕ) (is : List Inst) → ok_from (λ _. IsInst version) after_inst n is → Each (IsInst version) is
each_inst version n [] k = tt
each_inst version n (i ∷ is) k = (k.0, each_inst version (after_inst n i) is k.1)

insts_each : (version : ℕ) (n : ℕ × ℕ) (is : List Inst) → Each (IsInst version) is → ok_from (λ _. IsInst version) after_inst n is
insts_each version n [] k = tt
insts_each version n (i ∷ is) k = (k.0, insts_each version (after_inst n i) is k.1)

insts_same : (n : ℕ × ℕ) (is : List Inst) → line_tokens (inst_lines n.0 n.1 is) ≡ spell_from spell_inst_at after_inst n is
insts_same n [] = refl
insts_same n (i ∷ is) = ap (λ (z : List Asked). spell_inst_at n i ++ z) (insts_same (after_inst n i) is)

abbrev pub NoInst : List Lex → Type 0
NoInst = Ends (begins_if is_inst)

pub insts_phrase : (version : ℕ) (n : ℕ × ℕ) → Phrase (Each (IsInst version)) (λ is. line_tokens (inst_lines n.0 n.1 is)) NoInst (insts_at version n)
unfolding insts_at
insts_phrase version n = rewritten (ok_from (λ _. IsInst version) after_inst n) (spell_from spell_inst_at after_inst n) NoInst (many_from (begins_if is_inst) (λ (m : ℕ × ℕ). inst_at version m.0 m.1) after_inst n) (Each (IsInst version)) (λ is. line_tokens (inst_lines n.0 n.1 is))
    (λ is k. (each_inst version n is k, insts_same n is)) (insts_each version n)
    (many_from_phrase (λ _. IsInst version) spell_inst_at Any (λ (m : ℕ × ℕ). inst_at version m.0 m.1) (λ m. inst_phrase version m.0 m.1) after_inst (begins_if is_inst) (inst_begins version) NoInst (λ rest e. e) (λ _ _ _ _ _ _ _. tt) n)

abbrev pub head_tokens : ℕ → List Param → List Asked
head_tokens registers ps = block_params registers ps ++ plain colon ∷ []

pub head_phrase : (registers : ℕ) → Phrase (Each IsBlockParam) (head_tokens registers) Any (head_at registers)
unfolding head_at
head_phrase registers = before_mark Colon (Each IsBlockParam) (block_params registers) NoOpenNext (block_params_at registers) (block_params_phrase registers) (λ l rest e. (tt, rw e refl))

term_no_inst : (n : ℕ) (t : Term) (back rest : List Lex) → Matches (term_tokens n t) back → NoInst (back ++ rest)
term_no_inst n t [] rest h = absurd h
term_no_inst n t (l ∷ back) rest h = ap is_inst h.0.0 ∙ by_jump t.jump
  where
    by_jump : (j : Jump) → is_inst (word (jump_word j)) ≡ false
    by_jump (Br g) = refl
    by_jump (CondBr cond first second) = refl
    by_jump (Ret val at) = refl
    by_jump Unreachable = refl

abbrev pub spell_block : ℕ × ℕ → Block → List Asked
spell_block n b = line_tokens (block_lines n.0 n.1 b)

abbrev body_ok : (version : ℕ) → ℕ × ℕ → List Param → List Inst × Term → Type 0
body_ok version n ps = ok_both (Each (IsInst version)) (λ _. IsTerm)

abbrev body_tokens : ℕ × ℕ → List Param → List Inst × Term → List Asked
body_tokens n ps = spell_both (λ is. line_tokens (inst_lines n.0 (n.1 + length ps) is)) (λ is. term_tokens (n.0 + length is))

body_same : (n : ℕ × ℕ) (b : Block) → line_tokens (inst_lines n.0 (n.1 + length b.params) b.insts ++ term_line (n.0 + length b.insts) b.term ∷ []) ≡ body_tokens n b.params (b.insts, b.term)
body_same n b = flat_map-append (λ (line : Line). line.tokens) (inst_lines n.0 (n.1 + length b.params) b.insts) (term_line (n.0 + length b.insts) b.term ∷ [])
    ∙ ap (λ (z : List Asked). line_tokens (inst_lines n.0 (n.1 + length b.params) b.insts) ++ z) (append-nil (term_tokens (n.0 + length b.insts) b.term))

block_ok : (version : ℕ) → (x : Named × (List Param × (List Inst × Term))) → ok_both Any (λ _. ok_both (Each IsBlockParam) (body_ok version (0, 0))) x → IsBlock version (block_of x)
block_ok version x k = record { params = k.1.0; insts = k.1.1.0; term = k.1.1.1 }

block_there : (version : ℕ) (n : ℕ × ℕ) (x : Named × (List Param × (List Inst × Term))) → ok_both Any (λ _. ok_both (Each IsBlockParam) (body_ok version n)) x
    → IsBlock version (block_of x) × (spell_block n (block_of x) ≡ spell_both (λ l. label l ∷ []) (λ _. spell_both (head_tokens n.1) (body_tokens n)) x)
block_there version n x k = (block_ok version x k, ap (λ (z : List Asked). label x.0 ∷ (head_tokens n.1 x.1.0 ++ z)) (body_same n (block_of x)))

block_back : (version : ℕ) (n : ℕ × ℕ) (b : Block) → IsBlock version b → (x : Named × (List Param × (List Inst × Term))) × ok_both Any (λ _. ok_both (Each IsBlockParam) (body_ok version n)) x × (block_of x ≡ b)
block_back version n b k = ((b.label, (b.params, (b.insts, b.term))), (tt, (k.params, (k.insts, k.term))), refl)

pub block_phrase : (version : ℕ) (n : ℕ × ℕ) → Phrase (IsBlock version) (spell_block n) AfterGoal (block_at version n)
unfolding block_at
block_phrase version n = mapped_phrase (ok_both Any (λ _. ok_both (Each IsBlockParam) (body_ok version n))) (spell_both (λ l. label l ∷ []) (λ _. spell_both (head_tokens n.1) (body_tokens n))) AfterGoal _
    (first_phrase Any (λ _. ok_both (Each IsBlockParam) (body_ok version n)) (λ l. label l ∷ []) (λ _. spell_both (head_tokens n.1) (body_tokens n)) AfterGoal (one want_label)
    (λ _. both (head_at n.1) (λ params. both (insts_at version (n.0, n.1 + length params)) (λ insts. term_at (n.0 + length insts)))) label_phrase
    (λ _. first_phrase (Each IsBlockParam) (body_ok version n) (head_tokens n.1) (body_tokens n) AfterGoal (head_at n.1) (λ params. both (insts_at version (n.0, n.1 + length params)) (λ insts. term_at (n.0 + length insts))) (head_phrase n.1)
    (λ params. both_phrase (Each (IsInst version)) (λ _. IsTerm) (λ is. line_tokens (inst_lines n.0 (n.1 + length params) is)) (λ is. term_tokens (n.0 + length is)) NoInst AfterGoal (insts_at version (n.0, n.1 + length params)) (λ insts. term_at (n.0 + length insts))
    (insts_phrase version (n.0, n.1 + length params)) (λ insts. term_phrase (n.0 + length insts)) (λ insts t back rest _ h _. term_no_inst (n.0 + length insts) t back rest h))))
    block_of (IsBlock version) (spell_block n) (block_there version n) (block_back version n)

-- neither a block nor the arguments of a goal follow
abbrev pub AfterBlocks : List Lex → Type 0
AfterBlocks rest = Ends (begins_if is_any_word) rest × AfterGoal rest

pub block_begins : (version : ℕ) (n : ℕ × ℕ) (b : Block) → IsBlock version b → Begins (IsBlock version) (spell_block n) (begins_if is_any_word) b
block_begins version n b k = record { first = label b.label; others = head_tokens n.1 b.params ++ line_tokens (inst_lines n.0 (n.1 + length b.params) b.insts ++ term_line (n.0 + length b.insts) b.term ∷ []); parts = refl; passes = λ l fits. ap is_any_word fits.0 }

pub blocks_follow : (version : ℕ) (n : ℕ × ℕ) (bs : List Block) (back rest : List Lex) → ok_from (λ _. IsBlock version) after_block n bs → Matches (spell_from spell_block after_block n bs) back → AfterBlocks rest → AfterGoal (back ++ rest)
blocks_follow version n [] [] rest k h e = e.1
blocks_follow version n [] (l ∷ back) rest k h e = absurd h
blocks_follow version n (b ∷ bs) [] rest k h e = absurd h
blocks_follow version n (b ∷ bs) (l ∷ back) rest k h e = (tt, ap (is_mark OpenRound) h.0.0)

each_block : (version : ℕ) (n : ℕ × ℕ) (bs : List Block) → ok_from (λ _. IsBlock version) after_block n bs → Each (IsBlock version) bs
each_block version n [] k = tt
each_block version n (b ∷ bs) k = (k.0, each_block version (after_block n b) bs k.1)

blocks_each : (version : ℕ) (n : ℕ × ℕ) (bs : List Block) → Each (IsBlock version) bs → ok_from (λ _. IsBlock version) after_block n bs
blocks_each version n [] k = tt
blocks_each version n (b ∷ bs) k = (k.0, blocks_each version (after_block n b) bs k.1)

abbrev pub spell_blocks : ℕ × ℕ → List Block → List Asked
spell_blocks n bs = line_tokens (blocks_lines n.0 n.1 bs)

blocks_same : (n : ℕ × ℕ) (bs : List Block) → spell_blocks n bs ≡ spell_from spell_block after_block n bs
blocks_same n [] = refl
blocks_same n (b ∷ bs) = flat_map-append (λ (line : Line). line.tokens) (block_lines n.0 n.1 b) (blocks_lines (n.0 + block_instructions b) (n.1 + block_registers b) bs)
    ∙ ap (λ (z : List Asked). spell_block n b ++ z) (blocks_same (after_block n b) bs)

pub more_blocks_phrase : (version : ℕ) (n : ℕ × ℕ) → Phrase (Each (IsBlock version)) (spell_blocks n) AfterBlocks (more_blocks_at version n)
unfolding more_blocks_at
more_blocks_phrase version n = rewritten (ok_from (λ _. IsBlock version) after_block n) (spell_from spell_block after_block n) AfterBlocks (many_from (begins_if is_any_word) (block_at version) after_block n) (Each (IsBlock version)) (spell_blocks n)
    (λ bs k. (each_block version n bs k, blocks_same n bs)) (blocks_each version n)
    (many_from_phrase (λ _. IsBlock version) spell_block AfterGoal (block_at version) (block_phrase version) after_block (begins_if is_any_word) (block_begins version) AfterBlocks (λ rest e. e.0) (blocks_follow version) n)

abbrev pub SomeBlocks : (version : ℕ) → List Block → Type 0
SomeBlocks version bs = (0 < length bs) × Each (IsBlock version) bs

some_blocks_back : (version : ℕ) (bs : List Block) → SomeBlocks version bs → (x : Block × List Block) × ok_both (IsBlock version) (λ _. Each (IsBlock version)) x × (cons_of x ≡ bs)
some_blocks_back version [] k = absurd (omega (arith, k.0))
some_blocks_back version (b ∷ bs) k = ((b, bs), k.1, refl)

some_blocks_there : (version : ℕ) (n : ℕ × ℕ) (x : Block × List Block) → ok_both (IsBlock version) (λ _. Each (IsBlock version)) x → SomeBlocks version (cons_of x) × (spell_blocks n (cons_of x) ≡ spell_both (spell_block n) (λ b. spell_blocks (after_block n b)) x)
some_blocks_there version n x k = ((omega arith, k), flat_map-append (λ (line : Line). line.tokens) (block_lines n.0 n.1 x.0) (blocks_lines (n.0 + block_instructions x.0) (n.1 + block_registers x.0) x.1))

more_blocks_follow : (n : ℕ × ℕ) (bs : List Block) (back rest : List Lex) → Matches (spell_blocks n bs) back → AfterBlocks rest → AfterGoal (back ++ rest)
more_blocks_follow n [] [] rest h e = e.1
more_blocks_follow n [] (l ∷ back) rest h e = absurd h
more_blocks_follow n (b ∷ bs) [] rest h e = absurd h
more_blocks_follow n (b ∷ bs) (l ∷ back) rest h e = (tt, ap (is_mark OpenRound) h.0.0)

pub blocks_phrase : (version : ℕ) (n : ℕ × ℕ) → Phrase (SomeBlocks version) (spell_blocks n) AfterBlocks (blocks_at version n)
unfolding blocks_at
blocks_phrase version n = mapped_phrase (ok_both (IsBlock version) (λ _. Each (IsBlock version))) (spell_both (spell_block n) (λ b. spell_blocks (after_block n b))) AfterBlocks _
    (both_phrase (IsBlock version) (λ _. Each (IsBlock version)) (spell_block n) (λ b. spell_blocks (after_block n b)) AfterGoal AfterBlocks (block_at version n) (λ b. more_blocks_at version (after_block n b)) (block_phrase version n) (λ b. more_blocks_phrase version (after_block n b))
    (λ b bs back rest _ h e. more_blocks_follow (after_block n b) bs back rest h e))
    cons_of (SomeBlocks version) (spell_blocks n) (some_blocks_there version n) (some_blocks_back version)

-- ---- functions

abbrev ok_result : (version : ℕ) → Option Ty × Option Attr → Type 0
ok_result version = ok_both Any (AttrFor (Some version))

pub result_ty_phrase : (version : ℕ) → Phrase (IsResult version) result_tokens NoWordNext (result_ty_at version)
unfolding result_ty_at
result_ty_phrase version = mapped_phrase (ok_result version) (spell_both (λ ty. keyword (result_word ty) ∷ []) (λ _. attr_tokens)) NoWordNext _
    (first_phrase Any (AttrFor (Some version)) (λ ty. keyword (result_word ty) ∷ []) (λ _. attr_tokens) NoWordNext (one (want_among results)) (attr_for (Some version)) result_phrase (attr_for_phrase (Some version)))
    result_of (IsResult version) result_tokens (λ x k. (fits_attr version x.0 x.1 k.1, refl)) (λ r k. ((r.ty, r.attr), (tt, attr_fits version r.ty r.attr k), refl))

func_single : Single {A = Unit {0}} Any (λ _. word (codes "func")) (λ _. []) (want_if (is_word (codes "func")))
func_single = record {
  some = tt;
  is_ok = tt;
  token = token_of (word (codes "func")) 0;
  fits = (refl, tt);
  takes = λ l a e. (tt, word_is (codes "func") l.form (chosen_ok (is_word (codes "func") l.form) tt a Unexpected e), tt);
  gives = λ a l k form at. rw form refl;
  refuses = λ l c e. chosen_err (is_word (codes "func") l.form) tt Unexpected c e;
}

abbrev pub func_tokens : ℕ → Unit {0} → List Asked
func_tokens functions _ = asked_with (word (codes "func")) [] (counted functions most_functions) ∷ []

pub func_phrase : (functions : ℕ) → Phrase {A = Unit {0}} Any (func_tokens functions) Any (func_at functions)
unfolding func_at
func_phrase functions = limited_phrase Any (λ _. word (codes "func")) (λ _. []) (want_if (is_word (codes "func"))) func_single (counted functions most_functions)

abbrev pub arrow_tokens : ResultTy → List Asked
arrow_tokens r = plain arrow ∷ result_tokens r ++ plain open_brace ∷ []

pub arrow_result_phrase : (version : ℕ) → Phrase (IsResult version) arrow_tokens Any (arrow_result_at version)
unfolding arrow_result_at
arrow_result_phrase version = after_mark Arrow (IsResult version) (λ r. result_tokens r ++ plain open_brace ∷ []) Any (mapped first_of (both (result_ty_at version) (λ _. mark_at OpenBrace)))
    (before_mark OpenBrace (IsResult version) result_tokens NoWordNext (result_ty_at version) (result_ty_phrase version) (λ l rest e. (tt, ap is_any_word e)))

abbrev pub closed_tokens : ℕ × ℕ → List Block → List Asked
closed_tokens n bs = spell_blocks n bs ++ plain close_brace ∷ []

pub closed_blocks_phrase : (version : ℕ) (n : ℕ × ℕ) → Phrase (SomeBlocks version) (closed_tokens n) Any (closed_blocks_at version n)
unfolding closed_blocks_at
closed_blocks_phrase version n = before_mark CloseBrace (SomeBlocks version) (spell_blocks n) AfterBlocks (blocks_at version n) (blocks_phrase version n) (λ l rest e. (ap is_any_word e, (tt, ap (is_mark OpenRound) e)))

abbrev pub spell_function : ℕ × ℕ → Function → List Asked
spell_function n f = line_tokens (function_lines n.0 n.1 f)

abbrev Parts : Type 0
Parts = Unit {0} × (Named × (List Param × (ResultTy × List Block)))

abbrev parts_ok : (version : ℕ) → Parts → Type 0
parts_ok version = ok_both Any (λ _. ok_both Any (λ _. ok_both (Each (IsParam version)) (λ _. ok_both (IsResult version) (λ _. SomeBlocks version))))

abbrev parts_tokens : ℕ × ℕ → Parts → List Asked
parts_tokens n = spell_both (func_tokens n.0) (λ _. spell_both (λ f. function_name f ∷ []) (λ _. spell_both (round_params 0) (λ ps. spell_both arrow_tokens (λ _. closed_tokens (n.1, length ps)))))

function_same : (n : ℕ × ℕ) (x : Parts) → spell_function n (function_of x) ≡ parts_tokens n x
function_same n x =
    let f = function_of x in
    let params = params_tokens 0 f.params in
    let middle = arrow_tokens f.result in
    let lines = blocks_lines n.1 (length f.params) f.blocks in
    let last : line_tokens (lines ++ outer (plain close_brace ∷ []) ∷ []) ≡ closed_tokens (n.1, length f.params) f.blocks = flat_map-append (λ (line : Line). line.tokens) lines (outer (plain close_brace ∷ []) ∷ []) in
    let inside : (params ++ plain close_round ∷ middle) ++ line_tokens (lines ++ outer (plain close_brace ∷ []) ∷ []) ≡ (params ++ plain close_round ∷ []) ++ (middle ++ closed_tokens (n.1, length f.params) f.blocks) =
    ap (λ (z : List Asked). (params ++ plain close_round ∷ middle) ++ z) last ∙ append_assoc params (plain close_round ∷ middle) (closed_tokens (n.1, length f.params) f.blocks)
    ∙ sym (append_assoc params (plain close_round ∷ []) (middle ++ closed_tokens (n.1, length f.params) f.blocks)) in
    ap (λ (z : List Asked). asked_with (word (codes "func")) [] (counted n.0 most_functions) ∷ function_name f.name ∷ plain open_round ∷ z) inside

function_there : (version : ℕ) (n : ℕ × ℕ) (x : Parts) → parts_ok version x → IsFunction version (function_of x) × (spell_function n (function_of x) ≡ parts_tokens n x)
function_there version n x k = (record { params = k.1.1.0; result = k.1.1.1.0; some_block = k.1.1.1.1.0; blocks = k.1.1.1.1.1 }, function_same n x)

function_back : (version : ℕ) (f : Function) → IsFunction version f → (x : Parts) × parts_ok version x × (function_of x ≡ f)
function_back version f k = ((tt, (f.name, (f.params, (f.result, f.blocks)))), (tt, (tt, (k.params, (k.result, (k.some_block, k.blocks))))), refl)

pub function_phrase : (version : ℕ) (n : ℕ × ℕ) → Phrase (IsFunction version) (spell_function n) Any (function_at version n)
unfolding function_at
function_phrase version n = mapped_phrase (parts_ok version) (parts_tokens n) Any _
    (pair_phrase Any (λ _. ok_both Any (λ _. ok_both (Each (IsParam version)) (λ _. ok_both (IsResult version) (λ _. SomeBlocks version)))) (func_tokens n.0) (λ _. spell_both (λ f. function_name f ∷ []) (λ _. spell_both (round_params 0) (λ ps. spell_both arrow_tokens (λ _. closed_tokens (n.1, length ps)))))
    (func_at n.0) (λ _. both (one want_global) (λ _. both (function_params_at version) (λ params. both (arrow_result_at version) (λ _. closed_blocks_at version (n.1, length params))))) (func_phrase n.0)
    (λ _. pair_phrase Any (λ _. ok_both (Each (IsParam version)) (λ _. ok_both (IsResult version) (λ _. SomeBlocks version))) (λ f. function_name f ∷ []) (λ _. spell_both (round_params 0) (λ ps. spell_both arrow_tokens (λ _. closed_tokens (n.1, length ps))))
    (one want_global) (λ _. both (function_params_at version) (λ params. both (arrow_result_at version) (λ _. closed_blocks_at version (n.1, length params)))) global_phrase
    (λ _. pair_phrase (Each (IsParam version)) (λ _. ok_both (IsResult version) (λ _. SomeBlocks version)) (round_params 0) (λ ps. spell_both arrow_tokens (λ _. closed_tokens (n.1, length ps)))
    (function_params_at version) (λ params. both (arrow_result_at version) (λ _. closed_blocks_at version (n.1, length params))) (function_params_phrase version)
    (λ ps. pair_phrase (IsResult version) (λ _. SomeBlocks version) arrow_tokens (λ _. closed_tokens (n.1, length ps)) (arrow_result_at version) (λ _. closed_blocks_at version (n.1, length ps)) (arrow_result_phrase version) (λ _. closed_blocks_phrase version (n.1, length ps))))))
    function_of (IsFunction version) (spell_function n) (function_there version n) (function_back version)

-- ---- programs

abbrev pub NoFunc : List Lex → Type 0
NoFunc = Ends (begins_if (is_word (codes "func")))

pub function_begins : (version : ℕ) (n : ℕ × ℕ) (f : Function) → IsFunction version f → Begins (IsFunction version) (spell_function n) (begins_if (is_word (codes "func"))) f
function_begins version n f k = record { first = asked_with (word (codes "func")) [] (counted n.0 most_functions); others = _; parts = refl; passes = λ l fits. ap (is_word (codes "func")) fits.0 }

each_function : (version : ℕ) (n : ℕ × ℕ) (fs : List Function) → ok_from (λ _. IsFunction version) after_function n fs → Each (IsFunction version) fs
each_function version n [] k = tt
each_function version n (f ∷ fs) k = (k.0, each_function version (after_function n f) fs k.1)

functions_each : (version : ℕ) (n : ℕ × ℕ) (fs : List Function) → Each (IsFunction version) fs → ok_from (λ _. IsFunction version) after_function n fs
functions_each version n [] k = tt
functions_each version n (f ∷ fs) k = (k.0, functions_each version (after_function n f) fs k.1)

abbrev pub spell_functions : ℕ × ℕ → List Function → List Asked
spell_functions n fs = line_tokens (functions_lines n.0 n.1 fs)

functions_same : (n : ℕ × ℕ) (fs : List Function) → spell_functions n fs ≡ spell_from spell_function after_function n fs
functions_same n [] = refl
functions_same n (f ∷ fs) = flat_map-append (λ (line : Line). line.tokens) (function_lines n.0 n.1 f) (functions_lines (suc n.0) (n.1 + sum_by block_instructions f.blocks) fs)
    ∙ ap (λ (z : List Asked). spell_function n f ++ z) (functions_same (after_function n f) fs)

pub more_functions_phrase : (version : ℕ) (n : ℕ × ℕ) → Phrase (Each (IsFunction version)) (spell_functions n) NoFunc (more_functions_at version n)
unfolding more_functions_at
more_functions_phrase version n = rewritten (ok_from (λ _. IsFunction version) after_function n) (spell_from spell_function after_function n) NoFunc (many_from (begins_if (is_word (codes "func"))) (function_at version) after_function n) (Each (IsFunction version)) (spell_functions n)
    (λ fs k. (each_function version n fs k, functions_same n fs)) (functions_each version n)
    (many_from_phrase (λ _. IsFunction version) spell_function Any (function_at version) (function_phrase version) after_function (begins_if (is_word (codes "func"))) (function_begins version) NoFunc (λ rest e. e) (λ _ _ _ _ _ _ _. tt) n)

abbrev pub SomeFunctions : (version : ℕ) → List Function → Type 0
SomeFunctions version fs = (0 < length fs) × Each (IsFunction version) fs

some_functions_back : (version : ℕ) (fs : List Function) → SomeFunctions version fs → (x : Function × List Function) × ok_both (IsFunction version) (λ _. Each (IsFunction version)) x × (cons_of x ≡ fs)
some_functions_back version [] k = absurd (omega (arith, k.0))
some_functions_back version (f ∷ fs) k = ((f, fs), k.1, refl)

some_functions_there : (version : ℕ) (x : Function × List Function) → ok_both (IsFunction version) (λ _. Each (IsFunction version)) x → SomeFunctions version (cons_of x) × (spell_functions (0, 0) (cons_of x) ≡ spell_both (spell_function (0, 0)) (λ f. spell_functions (after_function (0, 0) f)) x)
some_functions_there version x k = ((omega arith, k), flat_map-append (λ (line : Line). line.tokens) (function_lines 0 0 x.0) (functions_lines 1 (0 + sum_by block_instructions x.0.blocks) x.1))

pub functions_phrase : (version : ℕ) → Phrase (SomeFunctions version) (spell_functions (0, 0)) NoFunc (functions_at version)
unfolding functions_at
functions_phrase version = mapped_phrase (ok_both (IsFunction version) (λ _. Each (IsFunction version))) (spell_both (spell_function (0, 0)) (λ f. spell_functions (after_function (0, 0) f))) NoFunc _
    (first_phrase (IsFunction version) (λ _. Each (IsFunction version)) (spell_function (0, 0)) (λ f. spell_functions (after_function (0, 0) f)) NoFunc (function_at version (0, 0)) (λ f. more_functions_at version (after_function (0, 0) f)) (function_phrase version (0, 0)) (λ f. more_functions_phrase version (after_function (0, 0) f)))
    cons_of (SomeFunctions version) (spell_functions (0, 0)) (some_functions_there version) (some_functions_back version)

and_true : (a b : Bool) → (a && b) ≡ true → (a ≡ true) × (b ≡ true)
and_true true true e = (refl, refl)
and_true true false e = absurd cc
and_true false b e = absurd cc

version_ok : (f : Form) (version : ℕ) → version_in f ≡ Ok version → (f ≡ number version) × IsVersion version
version_ok (number n) version e = by_test (nat_le 1 n && nat_le n 2) refl e
  where
    by_test : (b : Bool) → (nat_le 1 n && nat_le n 2) ≡ b → cond b (Ok n) (Err Unexpected) ≡ Ok version → (number n ≡ number version) × IsVersion version
    by_test true t h =
        let same : n ≡ version = cc in
        let parts = and_true (nat_le 1 n) (nat_le n 2) t in
        (ap number same, subst IsVersion same (leb-true 1 n parts.0, leb-true n 2 parts.1))
    by_test false t h = absurd cc
version_ok _ version e = absurd cc

version_read : (version : ℕ) → IsVersion version → version_in (number version) ≡ Ok version
version_read version h = rw (le-leb 1 version h.0, le-leb version 2 h.1) refl

version_err : (f : Form) (c : Cause) → version_in f ≡ Err c → Unexpected ≡ c
version_err (number n) c e = by_test (nat_le 1 n && nat_le n 2) e
  where
    by_test : (b : Bool) → cond b (Ok n) (Err Unexpected) ≡ Err c → Unexpected ≡ c
    by_test true h = absurd cc
    by_test false h = cc
version_err _ c e = cc

abbrev version_tokens : ℕ → List Asked
version_tokens version = plain (number version) ∷ []

abbrev some_version : Sample IsVersion version_tokens
some_version = record { value = 1; is_ok = (omega arith, omega arith); tokens = token_of (number 1) 0 ∷ []; matches = ((refl, tt), tt) }

version_phrase : Phrase IsVersion version_tokens Any (one want_version)
version_phrase = one_phrase IsVersion version_tokens Any want_version some_version
    (λ l version e. let h = version_ok l.form version e in (h.1, ((h.0, tt), refl, tt)))
    (λ version. (plain (number version), refl))
    (λ version l k fits. ap version_in fits.0 ∙ version_read version k)
    (λ l c e. (some_version, λ rest. subst (λ (z : Cause). Here z (version_tokens 1) (l ∷ rest)) (version_err l.form c e) tt))

-- the version of a program, and its functions
abbrev pub Versioned : Type 0
Versioned = ℕ × List Function

abbrev pub IsVersioned : Versioned → Type 0
IsVersioned = ok_both IsVersion SomeFunctions

abbrev pub spell_versioned : Versioned → List Asked
spell_versioned x = plain (number x.0) ∷ spell_functions (0, 0) x.1

abbrev pub spell_program : Versioned → List Asked
spell_program x = keyword (codes "bir") ∷ spell_versioned x

versioned_phrase : Phrase IsVersioned spell_versioned NoFunc (both (one want_version) functions_at)
versioned_phrase = first_phrase IsVersion SomeFunctions version_tokens (λ _. spell_functions (0, 0)) NoFunc (one want_version) functions_at version_phrase functions_phrase

after_first : {A B : Type 0} (ok : B → Type 0) (first : Asked) (spell : B → List Asked) (ends : List Lex → Type 0) (readA : Reader A) (readB : Reader B) (some : A) → ((a : A) → some ≡ a) → Phrase {A = A} Any (λ _. first ∷ []) Any readA → Phrase ok spell ends readB
    → Phrase ok (λ b. first ∷ spell b) ends (mapped second (both readA (λ _. readB)))
after_first ok first spell ends readA readB some only pa pb = mapped_phrase (ok_both Any (λ _. ok)) (spell_both (λ _. first ∷ []) (λ _. spell)) ends _
    (first_phrase Any (λ _. ok) (λ _. first ∷ []) (λ _. spell) ends readA (λ _. readB) pa (λ _. pb))
    second ok (λ b. first ∷ spell b) (λ x k. (k.1, refl)) (λ b k. ((some, b), (tt, k), refl))

pub program_phrase : Phrase IsVersioned spell_program NoFunc program_at
unfolding program_at
program_phrase = after_first IsVersioned (keyword (codes "bir")) spell_versioned NoFunc (one (want_if (is_word (codes "bir")))) (both (one want_version) functions_at) tt (λ _. refl) (word_phrase (codes "bir") refl) versioned_phrase

pub shaped_is : (p : Program) → IsShaped p → IsVersioned (p.version, p.functions)
shaped_is p k = (k.version, (k.some_function, k.functions))
