-- What is read as an operation.
use Rattle.std.proofs.Common.{◌≡◌, ℕ, Bool, true, false, List, [], ◌∷◌, ◌++◌, Option, Some, None, Ok, refl, sym, ap, subst, ◌∙◌}
use Rattle.std.specs.Prelude.{◌^◌, codes}
use Rattle.std.proofs.lemmas.List.{append_cancel_right}
use Rattle.perm_table.specs.declared.RetagKind.{RetagKind}
use Rattle.phrase.specs.Reading.{one, both}
use Rattle.phrase.proofs.Phrase.{pair_is, ok_not_err, Took, Phrase, ok_both, spell_both, judged}
use Rattle.phrase.proofs.Repeat.{mapped_phrase}
use Rattle.ir_ast.specs.Words.{modulus}
use Rattle.ir_ast.specs.Tokens.{Lex, Asked, Matches, Spelled, Each, plain, placed, amount}
use Rattle.ir_ast.specs.Tokens.Form.{word, comma}
use Rattle.ir_ast.specs.Keywords.{width_word, type_word, result_word, cond_word, modify_word, op_word}
use Rattle.ir_ast.specs.Grammar.{width_token, type_token, kind_token, result_token, register, function_name, val_token, size_token, args_tokens, op_tokens}
use Rattle.ir_ast.specs.Shapes.{HasKind, IsVal, IsTyped, IsOp, HasType, Defines}
use Rattle.ir_ast.specs.declared.types.Width.{Width}
use Rattle.ir_ast.specs.declared.types.Width.TheVariants.{W8, W64}
use Rattle.ir_ast.specs.declared.types.Ty.{Ty}
use Rattle.ir_ast.specs.declared.types.Ty.TheVariants.{Int}
use Rattle.ir_ast.specs.declared.types.Place.{Place}
use Rattle.ir_ast.specs.declared.types.Place.TheVariants.{Stack, Heap}
use Rattle.ir_ast.specs.declared.operators.BinaryOp.{BinaryOp}
use Rattle.ir_ast.specs.declared.operators.BinaryOp.TheVariants as binary
use Rattle.ir_ast.specs.declared.operators.Cond.{Cond}
use Rattle.ir_ast.specs.declared.operators.CastOp.{CastOp}
use Rattle.ir_ast.specs.declared.operators.CastOp.TheVariants.{Zext, Sext, Trunc}
use Rattle.ir_ast.specs.declared.operators.ModifyOp.{ModifyOp}
use Rattle.ir_ast.specs.declared.program.Named.{Named}
use Rattle.ir_ast.specs.declared.program.Val.{Val}
use Rattle.ir_ast.specs.declared.program.TypedVal.{TypedVal}
use Rattle.ir_ast.specs.declared.program.Op.{Op}
use Rattle.ir_ast.specs.declared.program.Op.TheVariants as op
use Rattle.ir_reader.specs.declared.keywords.Keyword.{Keyword}
use Rattle.ir_reader.specs.declared.keywords.Keyword.TheVariants as key
use Rattle.ir_reader.specs.Tables.{lookup, widths, types, kinds, conds, modifiers}
use Rattle.ir_reader.specs.Keys.{definers, key_word}
use Rattle.ir_reader.proofs.KeysOf.{key_of}
use Rattle.ir_reader.specs.Wants.{want_if, is_word, want_global, want_among, want_placed, want_amount}
use Rattle.ir_reader.specs.Parts.{second, args_at}
use Rattle.ir_reader.specs.Ops.{given, register_at, word_at, type_at, value_at, next_register_at, next_value_at, two_at, next_two_at, callee_at, some_type, some_placed, result_at, placed_result_at, const_of, const_at, make_at, gep_of, gep_at, load_of, load_at, store_of, store_at, retag_of, next_size_at, retag_at, binary_of, binary_at, compare_of, compare_at, select_of, select_at, cast_of, to_at, cast_at, ptr_to_int_at, input_at, modify_of, modify_at, cmp_xchg_of, cmp_xchg_at, copy_of, copy_at, free_at, print_of, print_at, call_of, call_at, host_of, host_at, spawn_of, spawn_at, join_of, join_at, tail_at, defined_at}
use Rattle.ir_reader.proofs.Singles.{Any, word_phrase, word_token, AreRows, among_phrase, width_phrase, placed_width_phrase, type_phrase, placed_type_phrase, result_phrase, placed_result_phrase, kind_phrase, cond_phrase, modifier_phrase, local_phrase, global_phrase, amount_phrase, spell_val, val_phrase}
use Rattle.ir_reader.proofs.Pieces.{pair_phrase, comma_phrase}
use Rattle.ir_reader.proofs.ValueParts.{args_phrase}

-- ---- nothing is taken

none_left : (ps : List Asked) (front : List Lex) → ps ≡ [] → Matches ps front → front ≡ []
none_left ps [] e h = refl
none_left ps (l ∷ front) e h = absurd (subst (λ (z : List Asked). Matches z (l ∷ front)) e h)

pub given_phrase : {A : Type 0} (ok : A → Type 0) (spell : A → List Asked) (ends : List Lex → Type 0) (a : A) → ok a → spell a ≡ [] → ((x : A) → ok x → a ≡ x) → Phrase ok spell ends (given a)
given_phrase {A = A} ok spell ends a fine none only = record {
  sample = record { value = a; is_ok = fine; tokens = []; matches = subst (λ (z : List Asked). Matches z []) (sym none) tt };
  sound = λ ts x rest e. let h = pair_is x a rest ts e in subst (λ (d : A). Took ok spell d ts rest) h.0 (record { front = []; whole = h.1; is_ok = fine; spelled = subst (λ (z : List Asked). Spelled z []) (sym none) tt });
  complete = complete;
  stops = λ ts c rest e. absurd (ok_not_err (a, ts) (c, rest) e);
  local_ok = λ front rest x e other same. let h = pair_is x a rest (front ++ rest) e in rw (append_cancel_right front [] rest h.1) (ap (λ (z : A). Ok (z, other)) h.0);
  local_stop = λ front t rest c e other. absurd (ok_not_err (a, front ++ t ∷ rest) (c, t ∷ rest) e);
}
  where
    complete : (x : A) (front rest : List Lex) → ok x → Matches (spell x) front → ends rest → given a (front ++ rest) ≡ judged (spell x) front x rest
    complete x front rest k h e =
        let same = only x k in
        let empty : spell x ≡ [] = ap spell (sym same) ∙ none in
        rw (empty, none_left (spell x) front empty h) (ap (λ (z : A). Ok (z, rest)) same)

-- ---- parts of operations

abbrev pub spell_register : Named → List Asked
spell_register r = register r ∷ []

pub next_register_phrase : Phrase {A = Named} Any (λ r. plain comma ∷ register r ∷ []) Any next_register_at
unfolding next_register_at
next_register_phrase = comma_phrase Any spell_register Any register_at local_phrase

pub next_value_phrase : (ty : Ty) → Phrase (IsVal ty) (λ v. plain comma ∷ val_token ty v ∷ []) Any (next_value_at ty)
unfolding next_value_at
next_value_phrase ty = comma_phrase (IsVal ty) (spell_val ty) Any (value_at ty) (val_phrase ty)

abbrev pub ok_two : Ty → Val × Val → Type 0
ok_two ty x = IsVal ty x.0 × IsVal ty x.1

abbrev pub spell_two : Ty → Val × Val → List Asked
spell_two ty x = val_token ty x.0 ∷ plain comma ∷ val_token ty x.1 ∷ []

pub two_phrase : (ty : Ty) → Phrase (ok_two ty) (spell_two ty) Any (two_at ty)
unfolding two_at
two_phrase ty = pair_phrase (IsVal ty) (λ _. IsVal ty) (spell_val ty) (λ _ v. plain comma ∷ val_token ty v ∷ []) (value_at ty) (λ _. next_value_at ty) (val_phrase ty) (λ _. next_value_phrase ty)

pub next_two_phrase : (ty : Ty) → Phrase (ok_two ty) (λ x. plain comma ∷ spell_two ty x) Any (next_two_at ty)
unfolding next_two_at
next_two_phrase ty = comma_phrase (ok_two ty) (spell_two ty) Any (two_at ty) (two_phrase ty)

abbrev pub ok_callee : Named × List TypedVal → Type 0
ok_callee x = Any x.0 × Each IsTyped x.1

abbrev pub spell_callee : Named × List TypedVal → List Asked
spell_callee x = function_name x.0 ∷ args_tokens x.1

pub callee_phrase : Phrase ok_callee spell_callee Any callee_at
unfolding callee_at
callee_phrase = pair_phrase Any (λ _. Each IsTyped) (λ n. function_name n ∷ []) (λ _. args_tokens) (one want_global) (λ _. args_at) global_phrase (λ _. args_phrase)

pub next_size_phrase : Phrase {A = ℕ} Any (λ n. plain comma ∷ size_token n ∷ []) Any next_size_at
unfolding next_size_at
next_size_phrase = comma_phrase Any (λ n. size_token n ∷ []) Any (one (want_amount (2 ^ 32))) (amount_phrase (2 ^ 32))

pub to_phrase : Phrase {A = Width × ℕ} Any (λ x. plain (word (codes "to")) ∷ placed (word (width_word x.0)) x.1 ∷ []) Any to_at
unfolding to_at
to_phrase = mapped_phrase (ok_both Any (λ _. Any)) (spell_both (λ _. plain (word (codes "to")) ∷ []) (λ _ x. placed (word (width_word x.0)) x.1 ∷ [])) Any _
    (pair_phrase Any (λ _. Any) (λ _. plain (word (codes "to")) ∷ []) (λ _ x. placed (word (width_word x.0)) x.1 ∷ []) (one (want_if (is_word (codes "to")))) (λ _. one (want_placed widths)) (word_phrase (codes "to") refl) (λ _. placed_width_phrase))
    second Any (λ x. plain (word (codes "to")) ∷ placed (word (width_word x.0)) x.1 ∷ []) (λ x k. (tt, refl)) (λ x k. ((tt, x), (tt, tt), refl))

-- the result has a type where it is to be typed
abbrev pub TypedIf : Bool → Option Ty → Type 0
TypedIf true result = HasType result
TypedIf false result = Unit {0}

abbrev pub spell_result : Option Ty → List Asked
spell_result result = word_token false (result_word result) ∷ []

abbrev pub spell_placed_result : Option Ty × ℕ → List Asked
spell_placed_result x = result_token x.0 x.1 ∷ []

result_back : (r : Option Ty) → HasType r → (ty : Ty) × Unit {0} × (some_type ty ≡ r)
result_back None k = absurd k
result_back (Some ty) k = (ty, tt, refl)

placed_back : (x : Option Ty × ℕ) → HasType x.0 → (y : Ty × ℕ) × Unit {0} × (some_placed y ≡ x)
placed_back (None, at) k = absurd k
placed_back (Some ty, at) k = ((ty, at), tt, refl)

pub result_type_phrase : (typed : Bool) → Phrase (TypedIf typed) spell_result Any (result_at typed)
unfolding result_at
result_type_phrase true = mapped_phrase Any (λ ty. type_token ty ∷ []) Any type_at type_phrase some_type (TypedIf true) spell_result (λ ty k. (tt, refl)) result_back
result_type_phrase false = result_phrase

pub placed_result_type_phrase : (typed : Bool) → Phrase (λ x. TypedIf typed x.0) spell_placed_result Any (placed_result_at typed)
unfolding placed_result_at
placed_result_type_phrase true = mapped_phrase Any (λ x. placed (word (type_word x.0)) x.1 ∷ []) Any (one (want_placed types)) placed_type_phrase some_placed (λ x. TypedIf true x.0) spell_placed_result (λ x k. (tt, refl)) placed_back
placed_result_type_phrase false = placed_result_phrase

-- ---- the rest of each operation

abbrev pub OpTypedIf : Bool → Op → Type 0
OpTypedIf typed (op.Call result function args) = TypedIf typed result
OpTypedIf typed (op.Join result ty_at handle) = TypedIf typed result
OpTypedIf typed _ = Unit {0}

abbrev pub IsTail : (version : ℕ) → Bool → Keyword → Op → Type 0
IsTail version typed k o = (key_of o ≡ k) × OpTypedIf typed o × IsOp version o

const_back : (version : ℕ) (typed : Bool) (o : Op) → IsTail version typed key.Const o → (x : Width × ℕ) × (ok_both Any (λ _. Any)) x × (const_of x ≡ o)
const_back version typed (op.Const width value) k = ((width, value), (tt, tt), refl)
const_back version typed _ k = let e = k.0 in absurd cc

const_tail : (version : ℕ) (typed : Bool) → Phrase (IsTail version typed key.Const) op_tokens Any const_at
unfolding const_at
const_tail version typed = mapped_phrase (ok_both Any (λ _. Any)) (spell_both (λ width. width_token width ∷ []) (λ width n. amount n (modulus width) ∷ [])) Any _
    (pair_phrase Any (λ _. Any) (λ width. width_token width ∷ []) (λ width n. amount n (modulus width) ∷ []) word_at (λ width. one (want_amount (modulus width))) width_phrase (λ width. amount_phrase (modulus width)))
    const_of (IsTail version typed key.Const) op_tokens (λ x k. ((refl, tt, tt), refl)) (const_back version typed)

null_only : (version : ℕ) (typed : Bool) (o : Op) → IsTail version typed key.Null o → op.Null ≡ o
null_only version typed op.Null k = refl
null_only version typed _ k = let e = k.0 in absurd cc

null_tail : (version : ℕ) (typed : Bool) → Phrase (IsTail version typed key.Null) op_tokens Any (given op.Null)
null_tail version typed = given_phrase (IsTail version typed key.Null) op_tokens Any op.Null (refl, tt, tt) refl (null_only version typed)

make_back : (version : ℕ) (typed : Bool) (place : Place) (o : Op) → IsTail version typed (key.Make place) o → (x : Val) × IsVal (Int W64) x × (op.Make place x ≡ o)
make_back version typed place (op.Make q size) k = let e : q ≡ place = (let f = k.0 in cc) in (size, k.2, ap (λ (z : Place). op.Make z size) (sym e))
make_back version typed place _ k = let e = k.0 in absurd cc

make_tail : (version : ℕ) (typed : Bool) (place : Place) → Phrase (IsTail version typed (key.Make place)) op_tokens Any (make_at place)
unfolding make_at
make_tail version typed place = mapped_phrase (IsVal (Int W64)) (spell_val (Int W64)) Any _ (val_phrase (Int W64)) (op.Make place) (IsTail version typed (key.Make place)) op_tokens (λ x k. ((refl, tt, k), refl)) (make_back version typed place)

gep_back : (version : ℕ) (typed : Bool) (o : Op) → IsTail version typed key.Gep o → (x : Named × Val) × (ok_both Any (λ _. IsVal (Int W64))) x × (gep_of x ≡ o)
gep_back version typed (op.Gep ptr add) k = ((ptr, add), (tt, k.2), refl)
gep_back version typed _ k = let e = k.0 in absurd cc

gep_tail : (version : ℕ) (typed : Bool) → Phrase (IsTail version typed key.Gep) op_tokens Any gep_at
unfolding gep_at
gep_tail version typed = mapped_phrase (ok_both Any (λ _. IsVal (Int W64))) (spell_both spell_register (λ _ v. plain comma ∷ val_token (Int W64) v ∷ [])) Any _
    (pair_phrase Any (λ _. IsVal (Int W64)) spell_register (λ _ v. plain comma ∷ val_token (Int W64) v ∷ []) register_at (λ _. next_value_at (Int W64)) local_phrase (λ _. next_value_phrase (Int W64)))
    gep_of (IsTail version typed key.Gep) op_tokens (λ x k. ((refl, tt, k.1), refl)) (gep_back version typed)

load_back : (version : ℕ) (typed : Bool) (o : Op) → IsTail version typed key.Load o → (x : Ty × Named) × (ok_both Any (λ _. Any)) x × (load_of x ≡ o)
load_back version typed (op.Load ty ptr) k = ((ty, ptr), (tt, tt), refl)
load_back version typed _ k = let e = k.0 in absurd cc

load_tail : (version : ℕ) (typed : Bool) → Phrase (IsTail version typed key.Load) op_tokens Any load_at
unfolding load_at
load_tail version typed = mapped_phrase (ok_both Any (λ _. Any)) (spell_both (λ ty. type_token ty ∷ []) (λ _ r. plain comma ∷ register r ∷ [])) Any _
    (pair_phrase Any (λ _. Any) (λ ty. type_token ty ∷ []) (λ _ r. plain comma ∷ register r ∷ []) type_at (λ _. next_register_at) type_phrase (λ _. next_register_phrase))
    load_of (IsTail version typed key.Load) op_tokens (λ x k. ((refl, tt, tt), refl)) (load_back version typed)

store_back : (version : ℕ) (typed : Bool) (o : Op) → IsTail version typed key.Store o → (x : Ty × (Val × Named)) × (ok_both Any (λ ty. ok_both (IsVal ty) (λ _. Any))) x × (store_of x ≡ o)
store_back version typed (op.Store ty val ptr) k = ((ty, (val, ptr)), (tt, (k.2, tt)), refl)
store_back version typed _ k = let e = k.0 in absurd cc

store_tail : (version : ℕ) (typed : Bool) → Phrase (IsTail version typed key.Store) op_tokens Any store_at
unfolding store_at
store_tail version typed = mapped_phrase (ok_both Any (λ ty. ok_both (IsVal ty) (λ _. Any))) (spell_both (λ ty. type_token ty ∷ []) (λ ty. spell_both (spell_val ty) (λ _ r. plain comma ∷ register r ∷ []))) Any _
    (pair_phrase Any (λ ty. ok_both (IsVal ty) (λ _. Any)) (λ ty. type_token ty ∷ []) (λ ty. spell_both (spell_val ty) (λ _ r. plain comma ∷ register r ∷ [])) type_at (λ ty. both (value_at ty) (λ _. next_register_at)) type_phrase
    (λ ty. pair_phrase (IsVal ty) (λ _. Any) (spell_val ty) (λ _ r. plain comma ∷ register r ∷ []) (value_at ty) (λ _. next_register_at) (val_phrase ty) (λ _. next_register_phrase)))
    store_of (IsTail version typed key.Store) op_tokens (λ x k. ((refl, tt, k.1.0), refl)) (store_back version typed)

retag_back : (version : ℕ) (typed : Bool) (o : Op) → IsTail version typed key.Retag o → (x : RetagKind × (Named × ℕ)) × (ok_both (HasKind version) (λ _. ok_both Any (λ _. Any))) x × (retag_of x ≡ o)
retag_back version typed (op.Retag kind ptr size) k = ((kind, (ptr, size)), (k.2, (tt, tt)), refl)
retag_back version typed _ k = let e = k.0 in absurd cc

retag_tail : (version : ℕ) (typed : Bool) → Phrase (IsTail version typed key.Retag) op_tokens Any (retag_at version)
unfolding retag_at
retag_tail version typed = mapped_phrase (ok_both (HasKind version) (λ _. ok_both Any (λ _. Any))) (spell_both (λ kind. kind_token kind ∷ []) (λ _. spell_both spell_register (λ _ n. plain comma ∷ size_token n ∷ []))) Any _
    (pair_phrase (HasKind version) (λ _. ok_both Any (λ _. Any)) (λ kind. kind_token kind ∷ []) (λ _. spell_both spell_register (λ _ n. plain comma ∷ size_token n ∷ [])) (one (want_among (kinds version))) (λ _. both register_at (λ _. next_size_at)) (kind_phrase version)
    (λ _. pair_phrase Any (λ _. Any) spell_register (λ _ n. plain comma ∷ size_token n ∷ []) register_at (λ _. next_size_at) local_phrase (λ _. next_size_phrase)))
    retag_of (IsTail version typed key.Retag) op_tokens (λ x k. ((refl, tt, k.0), refl)) (retag_back version typed)

binary_back : (version : ℕ) (typed : Bool) (b : BinaryOp) (o : Op) → IsTail version typed (key.Binary b) o → (x : Width × (Val × Val)) × (ok_both Any (λ width. ok_two (Int width))) x × ((binary_of b) x ≡ o)
binary_back version typed b (op.Binary o width x y) k = let e : o ≡ b = (let f = k.0 in cc) in ((width, (x, y)), (tt, k.2), ap (λ (z : BinaryOp). op.Binary z width x y) (sym e))
binary_back version typed b _ k = let e = k.0 in absurd cc

binary_tail : (version : ℕ) (typed : Bool) (b : BinaryOp) → Phrase (IsTail version typed (key.Binary b)) op_tokens Any (binary_at b)
unfolding binary_at
binary_tail version typed b = mapped_phrase (ok_both Any (λ width. ok_two (Int width))) (spell_both (λ width. width_token width ∷ []) (λ width. spell_two (Int width))) Any _
    (pair_phrase Any (λ width. ok_two (Int width)) (λ width. width_token width ∷ []) (λ width. spell_two (Int width)) word_at (λ width. two_at (Int width)) width_phrase (λ width. two_phrase (Int width)))
    (binary_of b) (IsTail version typed (key.Binary b)) op_tokens (λ x k. ((refl, tt, k.1), refl)) (binary_back version typed b)

compare_back : (version : ℕ) (typed : Bool) (o : Op) → IsTail version typed key.Compare o → (x : Cond × (Ty × (Val × Val))) × (ok_both Any (λ _. ok_both Any ok_two)) x × (compare_of x ≡ o)
compare_back version typed (op.Compare cond ty a b) k = ((cond, (ty, (a, b))), (tt, (tt, k.2)), refl)
compare_back version typed _ k = let e = k.0 in absurd cc

compare_tail : (version : ℕ) (typed : Bool) → Phrase (IsTail version typed key.Compare) op_tokens Any compare_at
unfolding compare_at
compare_tail version typed = mapped_phrase (ok_both Any (λ _. ok_both Any ok_two)) (spell_both (λ cond. word_token false (cond_word cond) ∷ []) (λ _. spell_both (λ ty. type_token ty ∷ []) spell_two)) Any _
    (pair_phrase Any (λ _. ok_both Any ok_two) (λ cond. word_token false (cond_word cond) ∷ []) (λ _. spell_both (λ ty. type_token ty ∷ []) spell_two) (one (want_among conds)) (λ _. both type_at (λ ty. two_at ty)) cond_phrase
    (λ _. pair_phrase Any ok_two (λ ty. type_token ty ∷ []) spell_two type_at (λ ty. two_at ty) type_phrase two_phrase))
    compare_of (IsTail version typed key.Compare) op_tokens (λ x k. ((refl, tt, k.1.1), refl)) (compare_back version typed)

select_back : (version : ℕ) (typed : Bool) (o : Op) → IsTail version typed key.Select o → (x : Ty × (Val × (Val × Val))) × (ok_both Any (λ ty. ok_both (IsVal (Int W8)) (λ _. ok_two ty))) x × (select_of x ≡ o)
select_back version typed (op.Select ty cond a b) k = ((ty, (cond, (a, b))), (tt, (k.2.0, (k.2.1, k.2.2))), refl)
select_back version typed _ k = let e = k.0 in absurd cc

select_tail : (version : ℕ) (typed : Bool) → Phrase (IsTail version typed key.Select) op_tokens Any select_at
unfolding select_at
select_tail version typed = mapped_phrase (ok_both Any (λ ty. ok_both (IsVal (Int W8)) (λ _. ok_two ty))) (spell_both (λ ty. type_token ty ∷ []) (λ ty. spell_both (spell_val (Int W8)) (λ _. (λ x. plain comma ∷ spell_two ty x)))) Any _
    (pair_phrase Any (λ ty. ok_both (IsVal (Int W8)) (λ _. ok_two ty)) (λ ty. type_token ty ∷ []) (λ ty. spell_both (spell_val (Int W8)) (λ _. (λ x. plain comma ∷ spell_two ty x))) type_at (λ ty. both (value_at (Int W8)) (λ _. next_two_at ty)) type_phrase
    (λ ty. pair_phrase (IsVal (Int W8)) (λ _. ok_two ty) (spell_val (Int W8)) (λ _. (λ x. plain comma ∷ spell_two ty x)) (value_at (Int W8)) (λ _. next_two_at ty) (val_phrase (Int W8)) (λ _. next_two_phrase ty)))
    select_of (IsTail version typed key.Select) op_tokens (λ x k. ((refl, tt, (k.1.0, k.1.1.0, k.1.1.1)), refl)) (select_back version typed)

cast_back : (version : ℕ) (typed : Bool) (c : CastOp) (o : Op) → IsTail version typed (key.Cast c) o → (x : Width × (Val × (Width × ℕ))) × (ok_both Any (λ from. ok_both (IsVal (Int from)) (λ _. Any))) x × ((cast_of c) x ≡ o)
cast_back version typed c (op.Cast o from to val at) k = let e : o ≡ c = (let f = k.0 in cc) in ((from, (val, (to, at))), (tt, (k.2, tt)), ap (λ (z : CastOp). op.Cast z from to val at) (sym e))
cast_back version typed c _ k = let e = k.0 in absurd cc

cast_tail : (version : ℕ) (typed : Bool) (c : CastOp) → Phrase (IsTail version typed (key.Cast c)) op_tokens Any (cast_at c)
unfolding cast_at
cast_tail version typed c = mapped_phrase (ok_both Any (λ from. ok_both (IsVal (Int from)) (λ _. Any))) (spell_both (λ width. width_token width ∷ []) (λ from. spell_both (spell_val (Int from)) (λ _ x. plain (word (codes "to")) ∷ placed (word (width_word x.0)) x.1 ∷ []))) Any _
    (pair_phrase Any (λ from. ok_both (IsVal (Int from)) (λ _. Any)) (λ width. width_token width ∷ []) (λ from. spell_both (spell_val (Int from)) (λ _ x. plain (word (codes "to")) ∷ placed (word (width_word x.0)) x.1 ∷ [])) word_at (λ from. both (value_at (Int from)) (λ _. to_at)) width_phrase
    (λ from. pair_phrase (IsVal (Int from)) (λ _. Any) (spell_val (Int from)) (λ _ x. plain (word (codes "to")) ∷ placed (word (width_word x.0)) x.1 ∷ []) (value_at (Int from)) (λ _. to_at) (val_phrase (Int from)) (λ _. to_phrase)))
    (cast_of c) (IsTail version typed (key.Cast c)) op_tokens (λ x k. ((refl, tt, k.1.0), refl)) (cast_back version typed c)

ptr_to_int_back : (version : ℕ) (typed : Bool) (o : Op) → IsTail version typed key.PtrToInt o → (x : Named) × Any x × (op.PtrToInt x ≡ o)
ptr_to_int_back version typed (op.PtrToInt ptr) k = (ptr, tt, refl)
ptr_to_int_back version typed _ k = let e = k.0 in absurd cc

ptr_to_int_tail : (version : ℕ) (typed : Bool) → Phrase (IsTail version typed key.PtrToInt) op_tokens Any ptr_to_int_at
unfolding ptr_to_int_at
ptr_to_int_tail version typed = mapped_phrase Any spell_register Any _
    (local_phrase)
    op.PtrToInt (IsTail version typed key.PtrToInt) op_tokens (λ x k. ((refl, tt, tt), refl)) (ptr_to_int_back version typed)

input_back : (version : ℕ) (typed : Bool) (o : Op) → IsTail version typed key.Input o → (x : Val) × IsVal (Int W64) x × (op.Input x ≡ o)
input_back version typed (op.Input index) k = (index, k.2, refl)
input_back version typed _ k = let e = k.0 in absurd cc

input_tail : (version : ℕ) (typed : Bool) → Phrase (IsTail version typed key.Input) op_tokens Any input_at
unfolding input_at
input_tail version typed = mapped_phrase (IsVal (Int W64)) (spell_val (Int W64)) Any _
    (val_phrase (Int W64))
    op.Input (IsTail version typed key.Input) op_tokens (λ x k. ((refl, tt, k), refl)) (input_back version typed)

modify_back : (version : ℕ) (typed : Bool) (o : Op) → IsTail version typed key.Modify o → (x : ModifyOp × (Width × (Named × Val))) × (ok_both Any (λ _. ok_both Any (λ width. ok_both Any (λ _. IsVal (Int width))))) x × (modify_of x ≡ o)
modify_back version typed (op.Modify o width ptr val) k = ((o, (width, (ptr, val))), (tt, (tt, (tt, k.2))), refl)
modify_back version typed _ k = let e = k.0 in absurd cc

modify_tail : (version : ℕ) (typed : Bool) → Phrase (IsTail version typed key.Modify) op_tokens Any modify_at
unfolding modify_at
modify_tail version typed = mapped_phrase (ok_both Any (λ _. ok_both Any (λ width. ok_both Any (λ _. IsVal (Int width))))) (spell_both (λ o. word_token false (modify_word o) ∷ []) (λ _. spell_both (λ width. width_token width ∷ []) (λ width. spell_both spell_register (λ _ v. plain comma ∷ val_token (Int width) v ∷ [])))) Any _
    (pair_phrase Any (λ _. ok_both Any (λ width. ok_both Any (λ _. IsVal (Int width)))) (λ o. word_token false (modify_word o) ∷ []) (λ _. spell_both (λ width. width_token width ∷ []) (λ width. spell_both spell_register (λ _ v. plain comma ∷ val_token (Int width) v ∷ []))) (one (want_among modifiers)) (λ _. both word_at (λ width. both register_at (λ _. next_value_at (Int width)))) modifier_phrase
    (λ _. pair_phrase Any (λ width. ok_both Any (λ _. IsVal (Int width))) (λ width. width_token width ∷ []) (λ width. spell_both spell_register (λ _ v. plain comma ∷ val_token (Int width) v ∷ [])) word_at (λ width. both register_at (λ _. next_value_at (Int width))) width_phrase
    (λ width. pair_phrase Any (λ _. IsVal (Int width)) spell_register (λ _ v. plain comma ∷ val_token (Int width) v ∷ []) register_at (λ _. next_value_at (Int width)) local_phrase (λ _. next_value_phrase (Int width)))))
    modify_of (IsTail version typed key.Modify) op_tokens (λ x k. ((refl, tt, k.1.1.1), refl)) (modify_back version typed)

cmp_xchg_back : (version : ℕ) (typed : Bool) (o : Op) → IsTail version typed key.CmpXchg o → (x : Width × (Named × (Val × Val))) × (ok_both Any (λ width. ok_both Any (λ _. ok_two (Int width)))) x × (cmp_xchg_of x ≡ o)
cmp_xchg_back version typed (op.CmpXchg width ptr expected val) k = ((width, (ptr, (expected, val))), (tt, (tt, k.2)), refl)
cmp_xchg_back version typed _ k = let e = k.0 in absurd cc

cmp_xchg_tail : (version : ℕ) (typed : Bool) → Phrase (IsTail version typed key.CmpXchg) op_tokens Any cmp_xchg_at
unfolding cmp_xchg_at
cmp_xchg_tail version typed = mapped_phrase (ok_both Any (λ width. ok_both Any (λ _. ok_two (Int width)))) (spell_both (λ width. width_token width ∷ []) (λ width. spell_both spell_register (λ _. (λ x. plain comma ∷ spell_two (Int width) x)))) Any _
    (pair_phrase Any (λ width. ok_both Any (λ _. ok_two (Int width))) (λ width. width_token width ∷ []) (λ width. spell_both spell_register (λ _. (λ x. plain comma ∷ spell_two (Int width) x))) word_at (λ width. both register_at (λ _. next_two_at (Int width))) width_phrase
    (λ width. pair_phrase Any (λ _. ok_two (Int width)) spell_register (λ _. (λ x. plain comma ∷ spell_two (Int width) x)) register_at (λ _. next_two_at (Int width)) local_phrase (λ _. next_two_phrase (Int width))))
    cmp_xchg_of (IsTail version typed key.CmpXchg) op_tokens (λ x k. ((refl, tt, k.1.1), refl)) (cmp_xchg_back version typed)

copy_back : (version : ℕ) (typed : Bool) (o : Op) → IsTail version typed key.Copy o → (x : Named × (Named × Val)) × (ok_both Any (λ _. ok_both Any (λ _. IsVal (Int W64)))) x × (copy_of x ≡ o)
copy_back version typed (op.Copy to from len) k = ((to, (from, len)), (tt, (tt, k.2)), refl)
copy_back version typed _ k = let e = k.0 in absurd cc

copy_tail : (version : ℕ) (typed : Bool) → Phrase (IsTail version typed key.Copy) op_tokens Any copy_at
unfolding copy_at
copy_tail version typed = mapped_phrase (ok_both Any (λ _. ok_both Any (λ _. IsVal (Int W64)))) (spell_both spell_register (λ _. spell_both (λ r. plain comma ∷ register r ∷ []) (λ _ v. plain comma ∷ val_token (Int W64) v ∷ []))) Any _
    (pair_phrase Any (λ _. ok_both Any (λ _. IsVal (Int W64))) spell_register (λ _. spell_both (λ r. plain comma ∷ register r ∷ []) (λ _ v. plain comma ∷ val_token (Int W64) v ∷ [])) register_at (λ _. both next_register_at (λ _. next_value_at (Int W64))) local_phrase
    (λ _. pair_phrase Any (λ _. IsVal (Int W64)) (λ r. plain comma ∷ register r ∷ []) (λ _ v. plain comma ∷ val_token (Int W64) v ∷ []) next_register_at (λ _. next_value_at (Int W64)) next_register_phrase (λ _. next_value_phrase (Int W64))))
    copy_of (IsTail version typed key.Copy) op_tokens (λ x k. ((refl, tt, k.1.1), refl)) (copy_back version typed)

free_back : (version : ℕ) (typed : Bool) (o : Op) → IsTail version typed key.Free o → (x : Named) × Any x × (op.Free x ≡ o)
free_back version typed (op.Free ptr) k = (ptr, tt, refl)
free_back version typed _ k = let e = k.0 in absurd cc

free_tail : (version : ℕ) (typed : Bool) → Phrase (IsTail version typed key.Free) op_tokens Any free_at
unfolding free_at
free_tail version typed = mapped_phrase Any spell_register Any _
    (local_phrase)
    op.Free (IsTail version typed key.Free) op_tokens (λ x k. ((refl, tt, tt), refl)) (free_back version typed)

print_back : (version : ℕ) (typed : Bool) (o : Op) → IsTail version typed key.Print o → (x : Width × Val) × (ok_both Any (λ width. IsVal (Int width))) x × (print_of x ≡ o)
print_back version typed (op.Print width val) k = ((width, val), (tt, k.2), refl)
print_back version typed _ k = let e = k.0 in absurd cc

print_tail : (version : ℕ) (typed : Bool) → Phrase (IsTail version typed key.Print) op_tokens Any print_at
unfolding print_at
print_tail version typed = mapped_phrase (ok_both Any (λ width. IsVal (Int width))) (spell_both (λ width. width_token width ∷ []) (λ width. spell_val (Int width))) Any _
    (pair_phrase Any (λ width. IsVal (Int width)) (λ width. width_token width ∷ []) (λ width. spell_val (Int width)) word_at (λ width. value_at (Int width)) width_phrase (λ width. val_phrase (Int width)))
    print_of (IsTail version typed key.Print) op_tokens (λ x k. ((refl, tt, k.1), refl)) (print_back version typed)

call_back : (version : ℕ) (typed : Bool) (o : Op) → IsTail version typed key.Call o → (x : Option Ty × (Named × List TypedVal)) × (ok_both (TypedIf typed) (λ _. ok_callee)) x × (call_of x ≡ o)
call_back version typed (op.Call result function args) k = ((result, (function, args)), (k.1, (tt, k.2)), refl)
call_back version typed _ k = let e = k.0 in absurd cc

call_tail : (version : ℕ) (typed : Bool) → Phrase (IsTail version typed key.Call) op_tokens Any (call_at typed)
unfolding call_at
call_tail version typed = mapped_phrase (ok_both (TypedIf typed) (λ _. ok_callee)) (spell_both spell_result (λ _. spell_callee)) Any _
    (pair_phrase (TypedIf typed) (λ _. ok_callee) spell_result (λ _. spell_callee) (result_at typed) (λ _. callee_at) (result_type_phrase typed) (λ _. callee_phrase))
    call_of (IsTail version typed key.Call) op_tokens (λ x k. ((refl, k.0, k.1.1), refl)) (call_back version typed)

host_back : (version : ℕ) (typed : Bool) (o : Op) → IsTail version typed key.Host o → (x : Ty × (Named × List TypedVal)) × (ok_both Any (λ _. ok_callee)) x × (host_of x ≡ o)
host_back version typed (op.Host result host args) k = ((result, (host, args)), (tt, (tt, k.2)), refl)
host_back version typed _ k = let e = k.0 in absurd cc

host_tail : (version : ℕ) (typed : Bool) → Phrase (IsTail version typed key.Host) op_tokens Any host_at
unfolding host_at
host_tail version typed = mapped_phrase (ok_both Any (λ _. ok_callee)) (spell_both (λ ty. type_token ty ∷ []) (λ _. spell_callee)) Any _
    (pair_phrase Any (λ _. ok_callee) (λ ty. type_token ty ∷ []) (λ _. spell_callee) type_at (λ _. callee_at) type_phrase (λ _. callee_phrase))
    host_of (IsTail version typed key.Host) op_tokens (λ x k. ((refl, tt, k.1.1), refl)) (host_back version typed)

spawn_back : (version : ℕ) (typed : Bool) (o : Op) → IsTail version typed key.Spawn o → (x : Named × List TypedVal) × ok_callee x × (spawn_of x ≡ o)
spawn_back version typed (op.Spawn function args) k = ((function, args), (tt, k.2), refl)
spawn_back version typed _ k = let e = k.0 in absurd cc

spawn_tail : (version : ℕ) (typed : Bool) → Phrase (IsTail version typed key.Spawn) op_tokens Any spawn_at
unfolding spawn_at
spawn_tail version typed = mapped_phrase ok_callee spell_callee Any _
    (callee_phrase)
    spawn_of (IsTail version typed key.Spawn) op_tokens (λ x k. ((refl, tt, k.1), refl)) (spawn_back version typed)

join_back : (version : ℕ) (typed : Bool) (o : Op) → IsTail version typed key.Join o → (x : (Option Ty × ℕ) × Named) × (ok_both (λ (x : Option Ty × ℕ). TypedIf typed x.0) (λ _. Any)) x × (join_of x ≡ o)
join_back version typed (op.Join result ty_at handle) k = (((result, ty_at), handle), (k.1, tt), refl)
join_back version typed _ k = let e = k.0 in absurd cc

join_tail : (version : ℕ) (typed : Bool) → Phrase (IsTail version typed key.Join) op_tokens Any (join_at typed)
unfolding join_at
join_tail version typed = mapped_phrase (ok_both (λ (x : Option Ty × ℕ). TypedIf typed x.0) (λ _. Any)) (spell_both spell_placed_result (λ _. spell_register)) Any _
    (pair_phrase (λ (x : Option Ty × ℕ). TypedIf typed x.0) (λ _. Any) spell_placed_result (λ _. spell_register) (placed_result_at typed) (λ _. register_at) (placed_result_type_phrase typed) (λ _. local_phrase))
    join_of (IsTail version typed key.Join) op_tokens (λ x k. ((refl, k.0, tt), refl)) (join_back version typed)

pub tail_phrase : (version : ℕ) (typed : Bool) (k : Keyword) → Phrase (IsTail version typed k) op_tokens Any (tail_at version typed k)
tail_phrase version typed key.Const = const_tail version typed
tail_phrase version typed key.Null = null_tail version typed
tail_phrase version typed (key.Make place) = make_tail version typed place
tail_phrase version typed key.Gep = gep_tail version typed
tail_phrase version typed key.Load = load_tail version typed
tail_phrase version typed key.Store = store_tail version typed
tail_phrase version typed key.Retag = retag_tail version typed
tail_phrase version typed (key.Binary o) = binary_tail version typed o
tail_phrase version typed key.Compare = compare_tail version typed
tail_phrase version typed key.Select = select_tail version typed
tail_phrase version typed (key.Cast o) = cast_tail version typed o
tail_phrase version typed key.PtrToInt = ptr_to_int_tail version typed
tail_phrase version typed key.Input = input_tail version typed
tail_phrase version typed key.Modify = modify_tail version typed
tail_phrase version typed key.CmpXchg = cmp_xchg_tail version typed
tail_phrase version typed key.Copy = copy_tail version typed
tail_phrase version typed key.Free = free_tail version typed
tail_phrase version typed key.Print = print_tail version typed
tail_phrase version typed key.Call = call_tail version typed
tail_phrase version typed key.Host = host_tail version typed
tail_phrase version typed key.Spawn = spawn_tail version typed
tail_phrase version typed key.Join = join_tail version typed

-- ---- operations behind a register and `=`

-- the operation gives a value
abbrev pub IsDefiner : Keyword → Type 0
IsDefiner key.Store = ⊥
IsDefiner key.Copy = ⊥
IsDefiner key.Free = ⊥
IsDefiner key.Print = ⊥
IsDefiner _ = Unit {0}

definer_rows : AreRows key_word IsDefiner definers
definer_rows = ((refl, tt), ((refl, tt), ((refl, tt), ((refl, tt), ((refl, tt), ((refl, tt), ((refl, tt), ((refl, tt), ((refl, tt), ((refl, tt), ((refl, tt), ((refl, tt), ((refl, tt), ((refl, tt), ((refl, tt), ((refl, tt), ((refl, tt), ((refl, tt), ((refl, tt), ((refl, tt), ((refl, tt), ((refl, tt), ((refl, tt), ((refl, tt), ((refl, tt), ((refl, tt), ((refl, tt), ((refl, tt), ((refl, tt), ((refl, tt), ((refl, tt), ((refl, tt), ((refl, tt), tt)))))))))))))))))))))))))))))))))

definer_found : (k : Keyword) → IsDefiner k → lookup definers (key_word k) ≡ Some k
definer_found key.Const h = refl
definer_found key.Null h = refl
definer_found (key.Make Stack) h = refl
definer_found (key.Make Heap) h = refl
definer_found key.Gep h = refl
definer_found key.Load h = refl
definer_found key.Retag h = refl
definer_found (key.Binary binary.Add) h = refl
definer_found (key.Binary binary.Sub) h = refl
definer_found (key.Binary binary.Mul) h = refl
definer_found (key.Binary binary.Udiv) h = refl
definer_found (key.Binary binary.Sdiv) h = refl
definer_found (key.Binary binary.Urem) h = refl
definer_found (key.Binary binary.Srem) h = refl
definer_found (key.Binary binary.And) h = refl
definer_found (key.Binary binary.Or) h = refl
definer_found (key.Binary binary.Xor) h = refl
definer_found (key.Binary binary.Shl) h = refl
definer_found (key.Binary binary.Lshr) h = refl
definer_found (key.Binary binary.Ashr) h = refl
definer_found key.Compare h = refl
definer_found key.Select h = refl
definer_found (key.Cast Zext) h = refl
definer_found (key.Cast Sext) h = refl
definer_found (key.Cast Trunc) h = refl
definer_found key.PtrToInt h = refl
definer_found key.Input h = refl
definer_found key.Modify h = refl
definer_found key.CmpXchg h = refl
definer_found key.Call h = refl
definer_found key.Host h = refl
definer_found key.Spawn h = refl
definer_found key.Join h = refl
definer_found _ h = absurd h

-- the two ways to say that the operation may stand there
defines : (o : Op) → IsDefiner (key_of o) → OpTypedIf true o → Defines o
defines (op.Const width value) h t = tt
defines op.Null h t = tt
defines (op.Make place size) h t = tt
defines (op.Gep ptr add) h t = tt
defines (op.Load ty ptr) h t = tt
defines (op.Store ty val ptr) h t = absurd h
defines (op.Retag kind ptr size) h t = tt
defines (op.Binary o width a b) h t = tt
defines (op.Compare cond ty a b) h t = tt
defines (op.Select ty cond a b) h t = tt
defines (op.Cast o from to val to_at) h t = tt
defines (op.PtrToInt ptr) h t = tt
defines (op.Input index) h t = tt
defines (op.Modify o width ptr val) h t = tt
defines (op.CmpXchg width ptr expected val) h t = tt
defines (op.Copy to from len) h t = absurd h
defines (op.Free ptr) h t = absurd h
defines (op.Print width val) h t = absurd h
defines (op.Call result function args) h t = t
defines (op.Host result host args) h t = tt
defines (op.Spawn function args) h t = tt
defines (op.Join result ty_at handle) h t = t

defining : (o : Op) → Defines o → IsDefiner (key_of o) × OpTypedIf true o
defining (op.Const width value) d = (tt, tt)
defining op.Null d = (tt, tt)
defining (op.Make place size) d = (tt, tt)
defining (op.Gep ptr add) d = (tt, tt)
defining (op.Load ty ptr) d = (tt, tt)
defining (op.Store ty val ptr) d = absurd d
defining (op.Retag kind ptr size) d = (tt, tt)
defining (op.Binary o width a b) d = (tt, tt)
defining (op.Compare cond ty a b) d = (tt, tt)
defining (op.Select ty cond a b) d = (tt, tt)
defining (op.Cast o from to val to_at) d = (tt, tt)
defining (op.PtrToInt ptr) d = (tt, tt)
defining (op.Input index) d = (tt, tt)
defining (op.Modify o width ptr val) d = (tt, tt)
defining (op.CmpXchg width ptr expected val) d = (tt, tt)
defining (op.Copy to from len) d = absurd d
defining (op.Free ptr) d = absurd d
defining (op.Print width val) d = absurd d
defining (op.Call result function args) d = (tt, d)
defining (op.Host result host args) d = (tt, tt)
defining (op.Spawn function args) d = (tt, tt)
defining (op.Join result ty_at handle) d = (tt, d)

pub op_word_is : (o : Op) → op_word o ≡ key_word (key_of o)
op_word_is (op.Const width value) = refl
op_word_is op.Null = refl
op_word_is (op.Make Stack size) = refl
op_word_is (op.Make Heap size) = refl
op_word_is (op.Gep ptr add) = refl
op_word_is (op.Load ty ptr) = refl
op_word_is (op.Store ty val ptr) = refl
op_word_is (op.Retag kind ptr size) = refl
op_word_is (op.Binary o width a b) = refl
op_word_is (op.Compare cond ty a b) = refl
op_word_is (op.Select ty cond a b) = refl
op_word_is (op.Cast o from to val to_at) = refl
op_word_is (op.PtrToInt ptr) = refl
op_word_is (op.Input index) = refl
op_word_is (op.Modify o width ptr val) = refl
op_word_is (op.CmpXchg width ptr expected val) = refl
op_word_is (op.Copy to from len) = refl
op_word_is (op.Free ptr) = refl
op_word_is (op.Print width val) = refl
op_word_is (op.Call result function args) = refl
op_word_is (op.Host result host args) = refl
op_word_is (op.Spawn function args) = refl
op_word_is (op.Join result ty_at handle) = refl

abbrev pub IsDefined : (version : ℕ) → Op → Type 0
IsDefined version o = Defines o × IsOp version o

abbrev pub defined_tokens : Op → List Asked
defined_tokens o = word_token true (op_word o) ∷ op_tokens o

defined_there : (version : ℕ) (x : Keyword × Op) → ok_both IsDefiner (IsTail version true) x → IsDefined version x.1 × (defined_tokens x.1 ≡ spell_both (λ k. word_token true (key_word k) ∷ []) (λ _. op_tokens) x)
defined_there version x k =
    let same = k.1.0 in
    ((defines x.1 (subst IsDefiner (sym same) k.0) k.1.1, k.1.2), ap (λ (z : List ℕ). word_token true z ∷ op_tokens x.1) (op_word_is x.1 ∙ ap key_word same))

defined_back : (version : ℕ) (o : Op) → IsDefined version o → (x : Keyword × Op) × ok_both IsDefiner (IsTail version true) x × (second x ≡ o)
defined_back version o k = let d = defining o k.0 in ((key_of o, o), (d.0, (refl, d.1, k.1)), refl)

pub defined_phrase : (version : ℕ) → Phrase (IsDefined version) defined_tokens Any (defined_at version)
unfolding defined_at
defined_phrase version = mapped_phrase (ok_both IsDefiner (IsTail version true)) (spell_both (λ k. word_token true (key_word k) ∷ []) (λ _. op_tokens)) Any _
    (pair_phrase IsDefiner (IsTail version true) (λ k. word_token true (key_word k) ∷ []) (λ _. op_tokens) (one (want_among definers)) (λ k. tail_at version true k)
    (among_phrase true key_word IsDefiner definers key.Null tt definer_rows definer_found) (λ k. tail_phrase version true k))
    second (IsDefined version) defined_tokens (defined_there version) (defined_back version)
