-- No reader looks at places.
use Rattle.std.proofs.Common.{◌≡◌, ℕ, suc, ◌+◌, ◌^◌, Bool, true, false, cond, List, [], ◌∷◌, length, map, Option, Some, None, Result, Ok, Err, refl, sym, ap, ◌∙◌}
use Rattle.std.specs.Prelude.{nat_lt, codes}
use Rattle.std.specs.Option.{option_map}
use Rattle.std.specs.List.{sum_by}
use Rattle.std.proofs.lemmas.List.{length-map}
use Rattle.std.proofs.lemmas.List.Sums.{sum_by-cons}
use Rattle.phrase.specs.Reading.{Got, Reader, ◌>>=◌, both, one, mapped, maybe}
use Rattle.phrase.specs.declared.Cause.{Cause}
use Rattle.phrase.specs.declared.Cause.TheVariants.{NumberTooLarge}
use Rattle.ir_ast.specs.Words.{modulus}
use Rattle.ir_ast.specs.Tokens.{Form, Lex, Limit, counted}
use Rattle.ir_ast.specs.Tokens.Form.{word, local, global, number}
use Rattle.ir_ast.specs.Lines.{most_functions, most_instructions, most_registers, either, definitions, block_instructions, block_registers}
use Rattle.ir_ast.specs.Places.{named_without, val_without, typed_without, goal_without, param_without, op_without, inst_without, jump_without, term_without, block_without, function_without}
use Rattle.ir_ast.specs.declared.types.Width.TheVariants.{W8, W64}
use Rattle.ir_ast.specs.declared.types.Ty.{Ty}
use Rattle.ir_ast.specs.declared.types.Ty.TheVariants.{Int, Ptr}
use Rattle.ir_ast.specs.declared.types.Place.{Place}
use Rattle.ir_ast.specs.declared.types.Attr.{Attr}
use Rattle.ir_ast.specs.declared.types.ResultTy.{ResultTy}
use Rattle.ir_ast.specs.declared.operators.BinaryOp.{BinaryOp}
use Rattle.ir_ast.specs.declared.operators.CastOp.{CastOp}
use Rattle.ir_ast.specs.declared.program.Named.{Named}
use Rattle.ir_ast.specs.declared.program.Val.{Val}
use Rattle.ir_ast.specs.declared.program.Val.TheVariants.{Num}
use Rattle.ir_ast.specs.declared.program.TypedVal.{TypedVal}
use Rattle.ir_ast.specs.declared.program.Op.{Op}
use Rattle.ir_ast.specs.declared.program.Op.TheVariants as op
use Rattle.ir_ast.specs.declared.program.Inst.{Inst}
use Rattle.ir_ast.specs.declared.program.Jump.TheVariants.{Br, Unreachable}
use Rattle.ir_ast.specs.declared.program.Term.{Term}
use Rattle.ir_ast.specs.declared.program.Block.{Block}
use Rattle.ir_ast.specs.declared.program.Function.{Function}
use Rattle.ir_ast.specs.declared.mark.Mark.{Mark}
use Rattle.ir_ast.specs.declared.mark.Mark.TheVariants.{OpenRound, CloseRound, OpenBrace, CloseBrace, Comma, Colon, Equals, Arrow}
use Rattle.ir_reader.specs.declared.keywords.Keyword.{Keyword}
use Rattle.ir_reader.specs.declared.keywords.Keyword.TheVariants as key
use Rattle.ir_reader.specs.declared.keywords.JumpWord.{JumpWord}
use Rattle.ir_reader.specs.declared.keywords.JumpWord.TheVariants as jump
use Rattle.ir_reader.specs.Tables.{widths, types, results, kinds, conds, modifiers}
use Rattle.ir_reader.specs.Keys.{definers, plains, jumps}
use Rattle.ir_reader.specs.Wants.{want_if, begins_if, is_mark, is_any_word, is_word, local_at, want_local, global_at, want_global, label_at, want_label, word_among, want_among, with_place, want_placed, want_amount, val_at, want_val}
use Rattle.ir_reader.specs.Parts.{second, first_of, cons_of, listed, mark_at, after_comma, typed_of, typed_at, next_typed_at, same_state, more_at, values_at, in_round, some_values_at, round_at, args_at, goal_args_at, goal_of, goal_at}
use Rattle.ir_reader.specs.Ops.{given, register_at, word_at, type_at, value_at, next_register_at, next_value_at, two_at, next_two_at, callee_at, some_type, some_placed, result_at, placed_result_at, const_of, const_at, make_at, gep_of, gep_at, load_of, load_at, store_of, store_at, retag_of, next_size_at, retag_at, binary_of, binary_at, compare_of, compare_at, select_of, select_at, cast_of, to_at, cast_at, ptr_to_int_at, input_at, modify_of, modify_at, cmp_xchg_of, cmp_xchg_at, copy_of, copy_at, free_at, print_of, print_at, call_of, call_at, host_of, host_at, spawn_of, spawn_at, join_of, join_at, tail_at, defined_at}
use Rattle.ir_reader.specs.Insts.{limited, is_local, want_defined, want_plain, dest_at, op_placed, plain_at, op_for, inst_of, inst_at, want_jump, br_at, next_goal_at, cond_br_of, cond_br_at, typed_some, returned_at, ret_of, ret_at, jump_tail_at, term_of, term_at}
use Rattle.ir_reader.specs.Blocks.{attr_of, attr_at, optional_attr_at, attr_for, param_register_at, param_of, param_at, next_param_at, one_more, more_params_at, params_at, some_params_at, function_params_at, round_params_at, block_params_at, is_inst, after_inst, insts_at, block_of, head_at, block_at, after_block, more_blocks_at, blocks_at, result_of, result_ty_at, func_at, arrow_result_at, closed_blocks_at, function_of, function_at, after_function, more_functions_at, functions_at, version_in, want_version, program_at}
use Rattle.ir_reader.proofs.Blind.{unplaced_all, got_without, Blind, result_without, BlindWant, blind_one, each_of, blind_both_by, blind_both, blind_mapped, blind_maybe, blind_many}

abbrev same : {A : Type 0} → A → A
same a = a

abbrev no_place : ℕ → ℕ
no_place at = 0

-- ---- single tokens

result_same : {A : Type 0} (r : Result A Cause) → r ≡ result_without same r
result_same (Ok a) = refl
result_same (Err c) = refl

blind_if : (test : Form → Bool) → Blind same (one (want_if test))
blind_if test = blind_one same (want_if test) (λ l. result_same (want_if test l))

blind_among : {A : Type 0} (table : List (List ℕ × A)) → Blind same (one (want_among table))
blind_among table = blind_one same (want_among table) (λ l. result_same (want_among table l))

blind_amount : (bound : ℕ) → Blind same (one (want_amount bound))
blind_amount bound = blind_one same (want_amount bound) (λ l. result_same (want_amount bound l))

local_blind : (f : Form) (at : ℕ) → local_at f 0 ≡ result_without named_without (local_at f at)
local_blind (local name) at = refl
local_blind _ at = refl

global_blind : (f : Form) (at : ℕ) → global_at f 0 ≡ result_without named_without (global_at f at)
global_blind (global name) at = refl
global_blind _ at = refl

label_blind : (f : Form) (at : ℕ) → label_at f 0 ≡ result_without named_without (label_at f at)
label_blind (word name) at = refl
label_blind _ at = refl

blind_local : Blind named_without (one want_local)
blind_local = blind_one named_without want_local (λ l. local_blind l.form l.at)

blind_global : Blind named_without (one want_global)
blind_global = blind_one named_without want_global (λ l. global_blind l.form l.at)

blind_label : Blind named_without (one want_label)
blind_label = blind_one named_without want_label (λ l. label_blind l.form l.at)

val_blind : (ty : Ty) (f : Form) (at : ℕ) → val_at ty f 0 ≡ result_without val_without (val_at ty f at)
val_blind ty (local name) at = refl
val_blind (Int width) (number n) at = by_test (nat_lt n (modulus width))
  where
    by_test : (b : Bool) → cond b (Ok (Num n)) (Err NumberTooLarge) ≡ result_without val_without (cond b (Ok (Num n)) (Err NumberTooLarge))
    by_test true = refl
    by_test false = refl
val_blind (Int width) _ at = refl
val_blind Ptr _ at = refl

blind_value : (ty : Ty) → Blind val_without (one (want_val ty))
blind_value ty = blind_one val_without (want_val ty) (λ l. val_blind ty l.form l.at)

placed_blind : {A : Type 0} (f : A → A) (r : Result A Cause) (at : ℕ) → with_place 0 (result_without f r) ≡ result_without (each_of f no_place) (with_place at r)
placed_blind f (Ok a) at = refl
placed_blind f (Err c) at = refl

blind_placed : {A : Type 0} (table : List (List ℕ × A)) → Blind (each_of same no_place) (one (want_placed table))
blind_placed {A = A} table = blind_one (each_of same no_place) (want_placed table) (λ l. ap (λ (r : Result A Cause). with_place 0 r) (result_same (word_among table l.form)) ∙ placed_blind same (word_among table l.form) l.at)

limited_blind : {A : Type 0} (f : A → A) (limit : Option Limit) (r : Result A Cause) → limited limit (result_without f r) ≡ result_without f (limited limit r)
limited_blind f None r = refl
limited_blind f (Some limit) (Ok a) = refl
limited_blind f (Some limit) (Err c) = refl

blind_limited : {A : Type 0} (f : A → A) (limit : Option Limit) (want : Lex → Result A Cause) → BlindWant f want → Blind f (one (λ (l : Lex). limited limit (want l)))
blind_limited {A = A} f limit want h = blind_one f (λ (l : Lex). limited limit (want l)) (λ l. ap (λ (r : Result A Cause). limited limit r) (h l) ∙ limited_blind f limit (want l))

blind_given : {A : Type 0} (f : A → A) (a : A) → a ≡ f a → Blind f (given a)
blind_given {A = A} f a h ts = ap (λ (z : A). Ok (z, unplaced_all ts)) h

-- ---- commas and parentheses

blind_comma : {A : Type 0} (f : A → A) (r : Reader A) → Blind f r → Blind f (after_comma r)
blind_comma f r hr = blind_mapped (each_of same f) f second (both (mark_at Comma) (λ _. r)) (blind_both same f (mark_at Comma) (λ _. r) (blind_if (is_mark Comma)) (λ _. hr) (λ _ _. refl)) (λ _. refl)

blind_before : {A : Type 0} (f : A → A) (r : Reader A) (mark : Mark) → Blind f r → Blind f (mapped first_of (both r (λ _. mark_at mark)))
blind_before f r mark hr = blind_mapped (each_of f same) f first_of (both r (λ _. mark_at mark)) (blind_both f same r (λ _. mark_at mark) hr (λ _. blind_if (is_mark mark)) (λ _ _. refl)) (λ _. refl)

blind_behind : {A : Type 0} (f : A → A) (r : Reader A) (mark : Mark) → Blind f r → Blind f (mapped second (both (mark_at mark) (λ _. r)))
blind_behind f r mark hr = blind_mapped (each_of same f) f second (both (mark_at mark) (λ _. r)) (blind_both same f (mark_at mark) (λ _. r) (blind_if (is_mark mark)) (λ _. hr) (λ _ _. refl)) (λ _. refl)

blind_round : {A : Type 0} (f : A → A) (r : Reader A) → Blind f r → Blind f (in_round r)
blind_round f r hr = blind_behind f (mapped first_of (both r (λ _. mark_at CloseRound))) OpenRound (blind_before f r CloseRound hr)

listed_without : {A : Type 0} (f : A → A) (o : Option (List A)) → listed (option_map (map f) o) ≡ map f (listed o)
listed_without f None = refl
listed_without f (Some xs) = refl

blind_listed : {A : Type 0} (f : A → A) (test : Form → Bool) (r : Reader (List A)) → Blind (map f) r → Blind (map f) (mapped listed (maybe (begins_if test) r))
blind_listed f test r hr = blind_mapped (option_map (map f)) (map f) listed (maybe (begins_if test) r) (blind_maybe (map f) (begins_if test) r (λ _. refl) hr) (listed_without f)

-- ---- values and goals

blind_typed : Blind typed_without typed_at
unfolding typed_at
blind_typed = blind_mapped (each_of same val_without) typed_without typed_of (both (one (want_among types)) (λ ty. one (want_val ty))) (blind_both same val_without (one (want_among types)) (λ ty. one (want_val ty)) (blind_among types) blind_value (λ _ _. refl)) (λ _. refl)

blind_next_typed : Blind typed_without next_typed_at
unfolding next_typed_at
blind_next_typed = blind_comma typed_without typed_at blind_typed

blind_more : Blind (map typed_without) more_at
unfolding more_at
blind_more = blind_many typed_without (begins_if (is_mark Comma)) (λ (s : Unit {0}). next_typed_at) same_state (λ _. refl) (λ _. blind_next_typed) (λ _ _. refl) tt

blind_values : Blind (map typed_without) values_at
unfolding values_at
blind_values = blind_mapped (each_of typed_without (map typed_without)) (map typed_without) cons_of (both typed_at (λ _. more_at)) (blind_both typed_without (map typed_without) typed_at (λ _. more_at) blind_typed (λ _. blind_more) (λ _ _. refl)) (λ _. refl)

blind_some_values : Blind (map typed_without) some_values_at
unfolding some_values_at
blind_some_values = blind_listed typed_without is_any_word values_at blind_values

blind_round_values : Blind (map typed_without) round_at
unfolding round_at
blind_round_values = blind_round (map typed_without) values_at blind_values

blind_args : Blind (map typed_without) args_at
unfolding args_at
blind_args = blind_round (map typed_without) some_values_at blind_some_values

blind_goal_args : Blind (map typed_without) goal_args_at
unfolding goal_args_at
blind_goal_args = blind_listed typed_without (is_mark OpenRound) round_at blind_round_values

blind_goal : Blind goal_without goal_at
unfolding goal_at
blind_goal = blind_mapped (each_of named_without (map typed_without)) goal_without goal_of (both (one want_label) (λ _. goal_args_at)) (blind_both named_without (map typed_without) (one want_label) (λ _. goal_args_at) blind_label (λ _. blind_goal_args) (λ _ _. refl)) (λ _. refl)

-- ---- operations

blind_next_register : Blind named_without next_register_at
unfolding next_register_at
blind_next_register = blind_comma named_without register_at blind_local

blind_next_value : (ty : Ty) → Blind val_without (next_value_at ty)
unfolding next_value_at
blind_next_value ty = blind_comma val_without (value_at ty) (blind_value ty)

abbrev two_without : Val × Val → Val × Val
two_without = each_of val_without val_without

blind_two : (ty : Ty) → Blind two_without (two_at ty)
unfolding two_at
blind_two ty = blind_both val_without val_without (value_at ty) (λ _. next_value_at ty) (blind_value ty) (λ _. blind_next_value ty) (λ _ _. refl)

blind_next_two : (ty : Ty) → Blind two_without (next_two_at ty)
unfolding next_two_at
blind_next_two ty = blind_comma two_without (two_at ty) (blind_two ty)

abbrev callee_without : Named × List TypedVal → Named × List TypedVal
callee_without = each_of named_without (map typed_without)

blind_callee : Blind callee_without callee_at
unfolding callee_at
blind_callee = blind_both named_without (map typed_without) (one want_global) (λ _. args_at) blind_global (λ _. blind_args) (λ _ _. refl)

blind_result : (typed : Bool) → Blind same (result_at typed)
unfolding result_at
blind_result true = blind_mapped same same some_type type_at (blind_among types) (λ _. refl)
blind_result false = blind_among results

blind_placed_result : (typed : Bool) → Blind (each_of same no_place) (placed_result_at typed)
unfolding placed_result_at
blind_placed_result true = blind_mapped (each_of same no_place) (each_of same no_place) some_placed (one (want_placed types)) (blind_placed types) (λ _. refl)
blind_placed_result false = blind_placed results

blind_const : Blind op_without const_at
unfolding const_at
blind_const = blind_mapped (each_of same same) op_without const_of (both word_at (λ width. one (want_amount (modulus width)))) (blind_both same same word_at (λ width. one (want_amount (modulus width))) (blind_among widths) (λ width. blind_amount (modulus width)) (λ _ _. refl)) (λ _. refl)

blind_make : (place : Place) → Blind op_without (make_at place)
unfolding make_at
blind_make place = blind_mapped val_without op_without (op.Make place) (value_at (Int W64)) (blind_value (Int W64)) (λ _. refl)

blind_gep : Blind op_without gep_at
unfolding gep_at
blind_gep = blind_mapped (each_of named_without val_without) op_without gep_of (both register_at (λ _. next_value_at (Int W64))) (blind_both named_without val_without register_at (λ _. next_value_at (Int W64)) blind_local (λ _. blind_next_value (Int W64)) (λ _ _. refl)) (λ _. refl)

blind_load : Blind op_without load_at
unfolding load_at
blind_load = blind_mapped (each_of same named_without) op_without load_of (both type_at (λ _. next_register_at)) (blind_both same named_without type_at (λ _. next_register_at) (blind_among types) (λ _. blind_next_register) (λ _ _. refl)) (λ _. refl)

blind_store : Blind op_without store_at
unfolding store_at
blind_store = blind_mapped (each_of same (each_of val_without named_without)) op_without store_of (both type_at (λ ty. both (value_at ty) (λ _. next_register_at)))
    (blind_both same (each_of val_without named_without) type_at (λ ty. both (value_at ty) (λ _. next_register_at)) (blind_among types)
    (λ ty. blind_both val_without named_without (value_at ty) (λ _. next_register_at) (blind_value ty) (λ _. blind_next_register) (λ _ _. refl)) (λ _ _. refl)) (λ _. refl)

blind_next_size : Blind same next_size_at
unfolding next_size_at
blind_next_size = blind_comma same (one (want_amount (2 ^ 32))) (blind_amount (2 ^ 32))

blind_retag : (version : ℕ) → Blind op_without (retag_at version)
unfolding retag_at
blind_retag version = blind_mapped (each_of same (each_of named_without same)) op_without retag_of (both (one (want_among (kinds version))) (λ _. both register_at (λ _. next_size_at)))
    (blind_both same (each_of named_without same) (one (want_among (kinds version))) (λ _. both register_at (λ _. next_size_at)) (blind_among (kinds version))
    (λ _. blind_both named_without same register_at (λ _. next_size_at) blind_local (λ _. blind_next_size) (λ _ _. refl)) (λ _ _. refl)) (λ _. refl)

blind_binary : (o : BinaryOp) → Blind op_without (binary_at o)
unfolding binary_at
blind_binary o = blind_mapped (each_of same two_without) op_without (binary_of o) (both word_at (λ width. two_at (Int width))) (blind_both same two_without word_at (λ width. two_at (Int width)) (blind_among widths) (λ width. blind_two (Int width)) (λ _ _. refl)) (λ _. refl)

blind_compare : Blind op_without compare_at
unfolding compare_at
blind_compare = blind_mapped (each_of same (each_of same two_without)) op_without compare_of (both (one (want_among conds)) (λ _. both type_at (λ ty. two_at ty)))
    (blind_both same (each_of same two_without) (one (want_among conds)) (λ _. both type_at (λ ty. two_at ty)) (blind_among conds)
    (λ _. blind_both same two_without type_at (λ ty. two_at ty) (blind_among types) blind_two (λ _ _. refl)) (λ _ _. refl)) (λ _. refl)

blind_select : Blind op_without select_at
unfolding select_at
blind_select = blind_mapped (each_of same (each_of val_without two_without)) op_without select_of (both type_at (λ ty. both (value_at (Int W8)) (λ _. next_two_at ty)))
    (blind_both same (each_of val_without two_without) type_at (λ ty. both (value_at (Int W8)) (λ _. next_two_at ty)) (blind_among types)
    (λ ty. blind_both val_without two_without (value_at (Int W8)) (λ _. next_two_at ty) (blind_value (Int W8)) (λ _. blind_next_two ty) (λ _ _. refl)) (λ _ _. refl)) (λ _. refl)

blind_to : Blind (each_of same no_place) to_at
unfolding to_at
blind_to = blind_mapped (each_of same (each_of same no_place)) (each_of same no_place) second (both (one (want_if (is_word (codes "to")))) (λ _. one (want_placed widths)))
    (blind_both same (each_of same no_place) (one (want_if (is_word (codes "to")))) (λ _. one (want_placed widths)) (blind_if (is_word (codes "to"))) (λ _. blind_placed widths) (λ _ _. refl)) (λ _. refl)

blind_cast : (o : CastOp) → Blind op_without (cast_at o)
unfolding cast_at
blind_cast o = blind_mapped (each_of same (each_of val_without (each_of same no_place))) op_without (cast_of o) (both word_at (λ from. both (value_at (Int from)) (λ _. to_at)))
    (blind_both same (each_of val_without (each_of same no_place)) word_at (λ from. both (value_at (Int from)) (λ _. to_at)) (blind_among widths)
    (λ from. blind_both val_without (each_of same no_place) (value_at (Int from)) (λ _. to_at) (blind_value (Int from)) (λ _. blind_to) (λ _ _. refl)) (λ _ _. refl)) (λ _. refl)

blind_ptr_to_int : Blind op_without ptr_to_int_at
unfolding ptr_to_int_at
blind_ptr_to_int = blind_mapped named_without op_without op.PtrToInt register_at blind_local (λ _. refl)

blind_input : Blind op_without input_at
unfolding input_at
blind_input = blind_mapped val_without op_without op.Input (value_at (Int W64)) (blind_value (Int W64)) (λ _. refl)

blind_modify : Blind op_without modify_at
unfolding modify_at
blind_modify = blind_mapped (each_of same (each_of same (each_of named_without val_without))) op_without modify_of (both (one (want_among modifiers)) (λ _. both word_at (λ width. both register_at (λ _. next_value_at (Int width)))))
    (blind_both same (each_of same (each_of named_without val_without)) (one (want_among modifiers)) (λ _. both word_at (λ width. both register_at (λ _. next_value_at (Int width)))) (blind_among modifiers)
    (λ _. blind_both same (each_of named_without val_without) word_at (λ width. both register_at (λ _. next_value_at (Int width))) (blind_among widths)
    (λ width. blind_both named_without val_without register_at (λ _. next_value_at (Int width)) blind_local (λ _. blind_next_value (Int width)) (λ _ _. refl)) (λ _ _. refl)) (λ _ _. refl)) (λ _. refl)

blind_cmp_xchg : Blind op_without cmp_xchg_at
unfolding cmp_xchg_at
blind_cmp_xchg = blind_mapped (each_of same (each_of named_without two_without)) op_without cmp_xchg_of (both word_at (λ width. both register_at (λ _. next_two_at (Int width))))
    (blind_both same (each_of named_without two_without) word_at (λ width. both register_at (λ _. next_two_at (Int width))) (blind_among widths)
    (λ width. blind_both named_without two_without register_at (λ _. next_two_at (Int width)) blind_local (λ _. blind_next_two (Int width)) (λ _ _. refl)) (λ _ _. refl)) (λ _. refl)

blind_copy : Blind op_without copy_at
unfolding copy_at
blind_copy = blind_mapped (each_of named_without (each_of named_without val_without)) op_without copy_of (both register_at (λ _. both next_register_at (λ _. next_value_at (Int W64))))
    (blind_both named_without (each_of named_without val_without) register_at (λ _. both next_register_at (λ _. next_value_at (Int W64))) blind_local
    (λ _. blind_both named_without val_without next_register_at (λ _. next_value_at (Int W64)) blind_next_register (λ _. blind_next_value (Int W64)) (λ _ _. refl)) (λ _ _. refl)) (λ _. refl)

blind_free : Blind op_without free_at
unfolding free_at
blind_free = blind_mapped named_without op_without op.Free register_at blind_local (λ _. refl)

blind_print : Blind op_without print_at
unfolding print_at
blind_print = blind_mapped (each_of same val_without) op_without print_of (both word_at (λ width. value_at (Int width))) (blind_both same val_without word_at (λ width. value_at (Int width)) (blind_among widths) (λ width. blind_value (Int width)) (λ _ _. refl)) (λ _. refl)

blind_call : (typed : Bool) → Blind op_without (call_at typed)
unfolding call_at
blind_call typed = blind_mapped (each_of same callee_without) op_without call_of (both (result_at typed) (λ _. callee_at)) (blind_both same callee_without (result_at typed) (λ _. callee_at) (blind_result typed) (λ _. blind_callee) (λ _ _. refl)) (λ _. refl)

blind_host : Blind op_without host_at
unfolding host_at
blind_host = blind_mapped (each_of same callee_without) op_without host_of (both type_at (λ _. callee_at)) (blind_both same callee_without type_at (λ _. callee_at) (blind_among types) (λ _. blind_callee) (λ _ _. refl)) (λ _. refl)

blind_spawn : Blind op_without spawn_at
unfolding spawn_at
blind_spawn = blind_mapped callee_without op_without spawn_of callee_at blind_callee (λ _. refl)

blind_join : (typed : Bool) → Blind op_without (join_at typed)
unfolding join_at
blind_join typed = blind_mapped (each_of (each_of same no_place) named_without) op_without join_of (both (placed_result_at typed) (λ _. register_at)) (blind_both (each_of same no_place) named_without (placed_result_at typed) (λ _. register_at) (blind_placed_result typed) (λ _. blind_local) (λ _ _. refl)) (λ _. refl)

blind_tail : (version : ℕ) (typed : Bool) (k : Keyword) → Blind op_without (tail_at version typed k)
blind_tail version typed key.Const = blind_const
blind_tail version typed key.Null = blind_given op_without op.Null refl
blind_tail version typed (key.Make place) = blind_make place
blind_tail version typed key.Gep = blind_gep
blind_tail version typed key.Load = blind_load
blind_tail version typed key.Store = blind_store
blind_tail version typed key.Retag = blind_retag version
blind_tail version typed (key.Binary o) = blind_binary o
blind_tail version typed key.Compare = blind_compare
blind_tail version typed key.Select = blind_select
blind_tail version typed (key.Cast o) = blind_cast o
blind_tail version typed key.PtrToInt = blind_ptr_to_int
blind_tail version typed key.Input = blind_input
blind_tail version typed key.Modify = blind_modify
blind_tail version typed key.CmpXchg = blind_cmp_xchg
blind_tail version typed key.Copy = blind_copy
blind_tail version typed key.Free = blind_free
blind_tail version typed key.Print = blind_print
blind_tail version typed key.Call = blind_call typed
blind_tail version typed key.Host = blind_host
blind_tail version typed key.Spawn = blind_spawn
blind_tail version typed key.Join = blind_join typed

blind_defined : (version : ℕ) → Blind op_without (defined_at version)
unfolding defined_at
blind_defined version = blind_mapped (each_of same op_without) op_without second (both (one (want_among definers)) (λ k. tail_at version true k)) (blind_both same op_without (one (want_among definers)) (λ k. tail_at version true k) (blind_among definers) (blind_tail version true) (λ _ _. refl)) (λ _. refl)

-- ---- instructions and terminators

blind_dest : (n r : ℕ) → Blind (each_of named_without no_place) (dest_at n r)
unfolding dest_at
blind_dest n r = blind_before (each_of named_without no_place) (one (want_defined n r)) Equals
    (blind_limited (each_of named_without no_place) (either (counted n most_instructions) (counted r most_registers)) (λ (l : Lex). with_place l.at (local_at l.form l.at))
    (λ l. ap (λ (x : Result Named Cause). with_place 0 x) (local_blind l.form l.at) ∙ placed_blind named_without (local_at l.form l.at) l.at))

blind_plain : (version : ℕ) (n : ℕ) → Blind (each_of op_without no_place) (plain_at version n)
unfolding plain_at
blind_plain version n = blind_mapped (each_of (each_of same no_place) op_without) (each_of op_without no_place) op_placed (both (one (want_plain n)) (λ k. tail_at version false k.0))
    (blind_both (each_of same no_place) op_without (one (want_plain n)) (λ k. tail_at version false k.0)
    (blind_limited (each_of same no_place) (counted n most_instructions) (λ (l : Lex). with_place l.at (word_among plains l.form))
    (λ l. ap (λ (r : Result Keyword Cause). with_place 0 r) (result_same (word_among plains l.form)) ∙ placed_blind same (word_among plains l.form) l.at))
    (λ k. blind_tail version false k.0) (λ _ _. refl)) (λ _. refl)

abbrev at_place : ℕ → Got Op → Got (Op × ℕ)
at_place at r = r >>= λ x. Ok ((x.0, at), x.1)

blind_op_for : (version : ℕ) (n : ℕ) (d : Option (Named × ℕ)) (ts : List Lex) → op_for version n (option_map (each_of named_without no_place) d) (unplaced_all ts) ≡ got_without (each_of op_without no_place) (op_for version n d ts)
blind_op_for version n None ts = blind_plain version n ts
blind_op_for version n (Some x) ts = ap (λ (r : Got Op). at_place 0 r) (blind_defined version ts) ∙ by_got (defined_at version ts)
  where
    by_got : (r : Got Op) → at_place 0 (got_without op_without r) ≡ got_without (each_of op_without no_place) (at_place x.1 r)
    by_got (Ok y) = refl
    by_got (Err d) = refl

inst_blind : (x : Option (Named × ℕ) × (Op × ℕ)) → inst_of (each_of (option_map (each_of named_without no_place)) (each_of op_without no_place) x) ≡ inst_without (inst_of x)
inst_blind x = by_dest x.0 x.1
  where
    by_dest : (d : Option (Named × ℕ)) (o : Op × ℕ) → inst_of (option_map (each_of named_without no_place) d, (op_without o.0, 0)) ≡ inst_without (inst_of (d, o))
    by_dest None o = refl
    by_dest (Some y) o = refl

blind_inst : (version : ℕ) (n r : ℕ) → Blind inst_without (inst_at version n r)
unfolding inst_at
blind_inst version n r = blind_mapped (each_of (option_map (each_of named_without no_place)) (each_of op_without no_place)) inst_without inst_of (both (maybe (begins_if is_local) (dest_at n r)) (op_for version n))
    (blind_both_by (option_map (each_of named_without no_place)) (each_of op_without no_place) (maybe (begins_if is_local) (dest_at n r)) (op_for version n)
    (blind_maybe (each_of named_without no_place) (begins_if is_local) (dest_at n r) (λ _. refl) (blind_dest n r)) (blind_op_for version n)) inst_blind

blind_br : Blind jump_without br_at
unfolding br_at
blind_br = blind_mapped goal_without jump_without Br goal_at blind_goal (λ _. refl)

blind_next_goal : Blind goal_without next_goal_at
unfolding next_goal_at
blind_next_goal = blind_comma goal_without goal_at blind_goal

blind_cond_br : Blind jump_without cond_br_at
unfolding cond_br_at
blind_cond_br = blind_mapped (each_of val_without (each_of goal_without goal_without)) jump_without cond_br_of (both (value_at (Int W8)) (λ _. both next_goal_at (λ _. next_goal_at)))
    (blind_both val_without (each_of goal_without goal_without) (value_at (Int W8)) (λ _. both next_goal_at (λ _. next_goal_at)) (blind_value (Int W8))
    (λ _. blind_both goal_without goal_without next_goal_at (λ _. next_goal_at) blind_next_goal (λ _. blind_next_goal) (λ _ _. refl)) (λ _ _. refl)) (λ _. refl)

blind_returned : (ty : Option Ty) → Blind (option_map typed_without) (returned_at ty)
unfolding returned_at
blind_returned None = blind_given (option_map typed_without) None refl
blind_returned (Some ty) = blind_mapped val_without (option_map typed_without) (typed_some ty) (value_at ty) (blind_value ty) (λ _. refl)

blind_ret : Blind jump_without ret_at
unfolding ret_at
blind_ret = blind_mapped (each_of (each_of same no_place) (option_map typed_without)) jump_without ret_of (both (one (want_placed results)) (λ r. returned_at r.0))
    (blind_both (each_of same no_place) (option_map typed_without) (one (want_placed results)) (λ r. returned_at r.0) (blind_placed results) (λ r. blind_returned r.0) (λ _ _. refl)) (λ _. refl)

blind_jump_tail : (k : JumpWord) → Blind jump_without (jump_tail_at k)
blind_jump_tail jump.Br = blind_br
blind_jump_tail jump.CondBr = blind_cond_br
blind_jump_tail jump.Ret = blind_ret
blind_jump_tail jump.Unreachable = blind_given jump_without Unreachable refl

blind_term : (n : ℕ) → Blind term_without (term_at n)
unfolding term_at
blind_term n = blind_mapped (each_of (each_of same no_place) jump_without) term_without term_of (both (one (want_jump n)) (λ k. jump_tail_at k.0))
    (blind_both (each_of same no_place) jump_without (one (want_jump n)) (λ k. jump_tail_at k.0)
    (blind_limited (each_of same no_place) (counted n most_instructions) (λ (l : Lex). with_place l.at (word_among jumps l.form))
    (λ l. ap (λ (r : Result JumpWord Cause). with_place 0 r) (result_same (word_among jumps l.form)) ∙ placed_blind same (word_among jumps l.form) l.at))
    (λ k. blind_jump_tail k.0) (λ _ _. refl)) (λ _. refl)

-- ---- parameters

blind_attr : (version : ℕ) → Blind same (attr_at version)
unfolding attr_at
blind_attr version = blind_mapped (each_of same same) same attr_of (both (one (want_among (kinds version))) (λ _. in_round (one (want_amount (2 ^ 32)))))
    (blind_both same same (one (want_among (kinds version))) (λ _. in_round (one (want_amount (2 ^ 32)))) (blind_among (kinds version)) (λ _. blind_round same (one (want_amount (2 ^ 32))) (blind_amount (2 ^ 32))) (λ _ _. refl)) (λ _. refl)

option_same : {A : Type 0} (o : Option A) → option_map same o ≡ o
option_same None = refl
option_same (Some a) = refl

blind_optional_attr : (version : ℕ) → Blind same (optional_attr_at version)
unfolding optional_attr_at
blind_optional_attr version ts = blind_maybe same (begins_if is_any_word) (attr_at version) (λ _. refl) (blind_attr version) ts ∙ by_got (maybe (begins_if is_any_word) (attr_at version) ts)
  where
    by_got : (x : Got (Option Attr)) → got_without (option_map same) x ≡ got_without same x
    by_got (Ok x) = ap (λ (o : Option Attr). Ok (o, unplaced_all x.1)) (option_same x.0)
    by_got (Err d) = refl

blind_attr_for : (attrs : Option ℕ) (ty : Option Ty) → Blind same (attr_for attrs ty)
blind_attr_for (Some version) (Some Ptr) = blind_optional_attr version
blind_attr_for (Some version) (Some (Int width)) = blind_given same None refl
blind_attr_for (Some version) None = blind_given same None refl
blind_attr_for None ty = blind_given same None refl

blind_param_register : (r : ℕ) → Blind named_without (param_register_at r)
unfolding param_register_at
blind_param_register r = blind_limited named_without (counted r most_registers) want_local (λ l. local_blind l.form l.at)

blind_param : (attrs : Option ℕ) (r : ℕ) → Blind param_without (param_at attrs r)
unfolding param_at
blind_param attrs r = blind_mapped (each_of same (each_of same named_without)) param_without param_of (both type_at (λ ty. both (attr_for attrs (Some ty)) (λ _. param_register_at r)))
    (blind_both same (each_of same named_without) type_at (λ ty. both (attr_for attrs (Some ty)) (λ _. param_register_at r)) (blind_among types)
    (λ ty. blind_both same named_without (attr_for attrs (Some ty)) (λ _. param_register_at r) (blind_attr_for attrs (Some ty)) (λ _. blind_param_register r) (λ _ _. refl)) (λ _ _. refl)) (λ _. refl)

blind_next_param : (attrs : Option ℕ) (r : ℕ) → Blind param_without (next_param_at attrs r)
unfolding next_param_at
blind_next_param attrs r = blind_comma param_without (param_at attrs r) (blind_param attrs r)

blind_more_params : (attrs : Option ℕ) (r : ℕ) → Blind (map param_without) (more_params_at attrs r)
unfolding more_params_at
blind_more_params attrs r = blind_many param_without (begins_if (is_mark Comma)) (next_param_at attrs) one_more (λ _. refl) (blind_next_param attrs) (λ _ _. refl) r

blind_params : (attrs : Option ℕ) (r : ℕ) → Blind (map param_without) (params_at attrs r)
unfolding params_at
blind_params attrs r = blind_mapped (each_of param_without (map param_without)) (map param_without) cons_of (both (param_at attrs r) (λ _. more_params_at attrs (suc r)))
    (blind_both param_without (map param_without) (param_at attrs r) (λ _. more_params_at attrs (suc r)) (blind_param attrs r) (λ _. blind_more_params attrs (suc r)) (λ _ _. refl)) (λ _. refl)

blind_some_params : (version : ℕ) → Blind (map param_without) (some_params_at version)
unfolding some_params_at
blind_some_params version = blind_listed param_without is_any_word (params_at (Some version) 0) (blind_params (Some version) 0)

blind_function_params : (version : ℕ) → Blind (map param_without) (function_params_at version)
unfolding function_params_at
blind_function_params version = blind_round (map param_without) (some_params_at version) (blind_some_params version)

blind_round_params : (r : ℕ) → Blind (map param_without) (round_params_at r)
unfolding round_params_at
blind_round_params r = blind_round (map param_without) (params_at None r) (blind_params None r)

blind_block_params : (r : ℕ) → Blind (map param_without) (block_params_at r)
unfolding block_params_at
blind_block_params r = blind_listed param_without (is_mark OpenRound) (round_params_at r) (blind_round_params r)

-- ---- blocks

defines_same : (i : Inst) → definitions (inst_without i) ≡ definitions i
defines_same i = by_dest i.dest
  where
    by_dest : (d : Option Named) → definitions (inst_without (record { dest = d; at = i.at; op = i.op })) ≡ definitions (record { dest = d; at = i.at; op = i.op })
    by_dest None = refl
    by_dest (Some r) = refl

sum_same : {A : Type 0} (f : A → A) (n : A → ℕ) → ((a : A) → n (f a) ≡ n a) → (xs : List A) → sum_by n (map f xs) ≡ sum_by n xs
sum_same f n h [] = refl
sum_same f n h (x ∷ xs) = sum_by-cons n (f x) (map f xs) ∙ ap (λ (z : ℕ). z + sum_by n (map f xs)) (h x) ∙ ap (λ (z : ℕ). n x + z) (sum_same f n h xs) ∙ sym (sum_by-cons n x xs)

blind_insts : (version : ℕ) (n : ℕ × ℕ) → Blind (map inst_without) (insts_at version n)
unfolding insts_at
blind_insts version n = blind_many inst_without (begins_if is_inst) (λ (m : ℕ × ℕ). inst_at version m.0 m.1) after_inst (λ _. refl) (λ m. blind_inst version m.0 m.1) (λ m i. ap (λ (z : ℕ). (suc m.0, m.1 + z)) (defines_same i)) n

blind_head : (r : ℕ) → Blind (map param_without) (head_at r)
unfolding head_at
blind_head r = blind_before (map param_without) (block_params_at r) Colon (blind_block_params r)

abbrev body_at : (version : ℕ) → ℕ × ℕ → ℕ → Reader (List Inst × Term)
body_at version n count = both (insts_at version (n.0, n.1 + count)) (λ insts. term_at (n.0 + length insts))

blind_body : (version : ℕ) (n : ℕ × ℕ) (count : ℕ) → Blind (each_of (map inst_without) term_without) (body_at version n count)
blind_body version n count = blind_both (map inst_without) term_without (insts_at version (n.0, n.1 + count)) (λ insts. term_at (n.0 + length insts)) (blind_insts version (n.0, n.1 + count)) (λ insts. blind_term (n.0 + length insts))
    (λ insts ts. ap (λ (z : ℕ). term_at (n.0 + z) ts) (length-map insts inst_without))

blind_block : (version : ℕ) (n : ℕ × ℕ) → Blind block_without (block_at version n)
unfolding block_at
blind_block version n = blind_mapped (each_of named_without (each_of (map param_without) (each_of (map inst_without) term_without))) block_without block_of (both (one want_label) (λ _. both (head_at n.1) (λ params. body_at version n (length params))))
    (blind_both named_without (each_of (map param_without) (each_of (map inst_without) term_without)) (one want_label) (λ _. both (head_at n.1) (λ params. body_at version n (length params))) blind_label
    (λ _. blind_both (map param_without) (each_of (map inst_without) term_without) (head_at n.1) (λ params. body_at version n (length params)) (blind_head n.1) (λ params. blind_body version n (length params))
    (λ params ts. ap (λ (z : ℕ). body_at version n z ts) (length-map params param_without))) (λ _ _. refl)) (λ _. refl)

block_count : (b : Block) → block_instructions (block_without b) ≡ block_instructions b
block_count b = ap (λ (z : ℕ). z + 1) (length-map b.insts inst_without)

block_defines : (b : Block) → block_registers (block_without b) ≡ block_registers b
block_defines b = ap (λ (z : ℕ). z + sum_by definitions (map inst_without b.insts)) (length-map b.params param_without) ∙ ap (λ (z : ℕ). length b.params + z) (sum_same inst_without definitions defines_same b.insts)

after_block_same : (n : ℕ × ℕ) (b : Block) → after_block n (block_without b) ≡ after_block n b
after_block_same n b = ap (λ (z : ℕ). (n.0 + z, n.1 + block_registers (block_without b))) (block_count b) ∙ ap (λ (z : ℕ). (n.0 + block_instructions b, n.1 + z)) (block_defines b)

blind_more_blocks : (version : ℕ) (n : ℕ × ℕ) → Blind (map block_without) (more_blocks_at version n)
unfolding more_blocks_at
blind_more_blocks version n = blind_many block_without (begins_if is_any_word) (block_at version) after_block (λ _. refl) (blind_block version) after_block_same n

blind_blocks : (version : ℕ) (n : ℕ × ℕ) → Blind (map block_without) (blocks_at version n)
unfolding blocks_at
blind_blocks version n = blind_mapped (each_of block_without (map block_without)) (map block_without) cons_of (both (block_at version n) (λ b. more_blocks_at version (after_block n b)))
    (blind_both block_without (map block_without) (block_at version n) (λ b. more_blocks_at version (after_block n b)) (blind_block version n) (λ b. blind_more_blocks version (after_block n b)) (λ b ts. ap (λ (z : ℕ × ℕ). more_blocks_at version z ts) (after_block_same n b))) (λ _. refl)

-- ---- functions and programs

blind_result_ty : (version : ℕ) → Blind same (result_ty_at version)
unfolding result_ty_at
blind_result_ty version = blind_mapped (each_of same same) same result_of (both (one (want_among results)) (attr_for (Some version))) (blind_both same same (one (want_among results)) (attr_for (Some version)) (blind_among results) (blind_attr_for (Some version)) (λ _ _. refl)) (λ _. refl)

blind_func : (n : ℕ) → Blind same (func_at n)
unfolding func_at
blind_func n = blind_limited same (counted n most_functions) (want_if (is_word (codes "func"))) (λ l. result_same (want_if (is_word (codes "func")) l))

blind_arrow_result : (version : ℕ) → Blind same (arrow_result_at version)
unfolding arrow_result_at
blind_arrow_result version = blind_behind same (mapped first_of (both (result_ty_at version) (λ _. mark_at OpenBrace))) Arrow (blind_before same (result_ty_at version) OpenBrace (blind_result_ty version))

blind_closed_blocks : (version : ℕ) (n : ℕ × ℕ) → Blind (map block_without) (closed_blocks_at version n)
unfolding closed_blocks_at
blind_closed_blocks version n = blind_before (map block_without) (blocks_at version n) CloseBrace (blind_blocks version n)

abbrev rest_at : (version : ℕ) → ℕ × ℕ → ℕ → Reader (ResultTy × List Block)
rest_at version n count = both (arrow_result_at version) (λ _. closed_blocks_at version (n.1, count))

blind_rest : (version : ℕ) (n : ℕ × ℕ) (count : ℕ) → Blind (each_of same (map block_without)) (rest_at version n count)
blind_rest version n count = blind_both same (map block_without) (arrow_result_at version) (λ _. closed_blocks_at version (n.1, count)) (blind_arrow_result version) (λ _. blind_closed_blocks version (n.1, count)) (λ _ _. refl)

blind_function : (version : ℕ) (n : ℕ × ℕ) → Blind function_without (function_at version n)
unfolding function_at
blind_function version n = blind_mapped (each_of same (each_of named_without (each_of (map param_without) (each_of same (map block_without))))) function_without function_of
    (both (func_at n.0) (λ _. both (one want_global) (λ _. both (function_params_at version) (λ params. rest_at version n (length params)))))
    (blind_both same (each_of named_without (each_of (map param_without) (each_of same (map block_without)))) (func_at n.0) (λ _. both (one want_global) (λ _. both (function_params_at version) (λ params. rest_at version n (length params)))) (blind_func n.0)
    (λ _. blind_both named_without (each_of (map param_without) (each_of same (map block_without))) (one want_global) (λ _. both (function_params_at version) (λ params. rest_at version n (length params))) blind_global
    (λ _. blind_both (map param_without) (each_of same (map block_without)) (function_params_at version) (λ params. rest_at version n (length params)) (blind_function_params version) (λ params. blind_rest version n (length params))
    (λ params ts. ap (λ (z : ℕ). rest_at version n z ts) (length-map params param_without))) (λ _ _. refl)) (λ _ _. refl)) (λ _. refl)

after_function_same : (n : ℕ × ℕ) (f : Function) → after_function n (function_without f) ≡ after_function n f
after_function_same n f = ap (λ (z : ℕ). (suc n.0, n.1 + z)) (sum_same block_without block_instructions block_count f.blocks)

blind_more_functions : (version : ℕ) (n : ℕ × ℕ) → Blind (map function_without) (more_functions_at version n)
unfolding more_functions_at
blind_more_functions version n = blind_many function_without (begins_if (is_word (codes "func"))) (function_at version) after_function (λ _. refl) (blind_function version) after_function_same n

blind_functions : (version : ℕ) → Blind (map function_without) (functions_at version)
unfolding functions_at
blind_functions version = blind_mapped (each_of function_without (map function_without)) (map function_without) cons_of (both (function_at version (0, 0)) (λ f. more_functions_at version (after_function (0, 0) f)))
    (blind_both function_without (map function_without) (function_at version (0, 0)) (λ f. more_functions_at version (after_function (0, 0) f)) (blind_function version (0, 0)) (λ f. blind_more_functions version (after_function (0, 0) f))
    (λ f ts. ap (λ (z : ℕ × ℕ). more_functions_at version z ts) (after_function_same (0, 0) f))) (λ _. refl)

version_blind : (f : Form) → version_in f ≡ result_without same (version_in f)
version_blind f = result_same (version_in f)

blind_version : Blind same (one want_version)
blind_version = blind_one same want_version (λ l. version_blind l.form)

abbrev pub versioned_without : ℕ × List Function → ℕ × List Function
versioned_without = each_of same (map function_without)

abbrev versioned_at : Reader (ℕ × List Function)
versioned_at = both (one want_version) (λ version. functions_at version)

blind_versioned : Blind versioned_without versioned_at
blind_versioned = blind_both same (map function_without) (one want_version) (λ version. functions_at version) blind_version (λ version. blind_functions version) (λ _ _. refl)

pub blind_program : Blind versioned_without program_at
unfolding program_at
blind_program = blind_mapped (each_of same versioned_without) versioned_without second (both (one (want_if (is_word (codes "bir")))) (λ _. versioned_at))
    (blind_both same versioned_without (one (want_if (is_word (codes "bir")))) (λ _. versioned_at) (blind_if (is_word (codes "bir"))) (λ _. blind_versioned) (λ _ _. refl)) (λ _. refl)
