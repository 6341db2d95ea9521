-- How each operation is read behind its first word.
use Rattle.std.specs.Prelude.{ℕ, ◌^◌, Bool, true, false, List, Option, Some, Ok, codes}
use Rattle.perm_table.specs.declared.RetagKind.{RetagKind}
use Rattle.phrase.specs.Reading.{Reader, one, both, mapped}
use Rattle.ir_ast.specs.Words.{modulus}
use Rattle.ir_ast.specs.declared.types.Width.{Width}
use Rattle.ir_ast.specs.declared.types.Width.TheVariants.{W8, W64}
use Rattle.ir_ast.specs.declared.types.Ty.{Ty}
use Rattle.ir_ast.specs.declared.types.Ty.TheVariants.{Int}
use Rattle.ir_ast.specs.declared.types.Place.{Place}
use Rattle.ir_ast.specs.declared.operators.BinaryOp.{BinaryOp}
use Rattle.ir_ast.specs.declared.operators.Cond.{Cond}
use Rattle.ir_ast.specs.declared.operators.CastOp.{CastOp}
use Rattle.ir_ast.specs.declared.operators.ModifyOp.{ModifyOp}
use Rattle.ir_ast.specs.declared.program.Named.{Named}
use Rattle.ir_ast.specs.declared.program.Val.{Val}
use Rattle.ir_ast.specs.declared.program.TypedVal.{TypedVal}
use Rattle.ir_ast.specs.declared.program.Op.{Op}
use Rattle.ir_ast.specs.declared.program.Op.TheVariants as op
use Rattle.ir_reader.specs.declared.keywords.Keyword.{Keyword}
use Rattle.ir_reader.specs.declared.keywords.Keyword.TheVariants as key
use Rattle.ir_reader.specs.Tables.{widths, types, results, kinds, conds, modifiers}
use Rattle.ir_reader.specs.Keys.{definers}
use Rattle.ir_reader.specs.Wants.{want_if, is_word, want_local, want_global, want_among, want_placed, want_amount, want_val}
use Rattle.ir_reader.specs.Parts.{second, after_comma, args_at}

-- nothing is taken
abbrev pub given : {A : Type 0} → A → Reader A
given a ts = Ok (a, ts)

abbrev pub register_at : Reader Named
register_at = one want_local

abbrev pub word_at : Reader Width
word_at = one (want_among widths)

abbrev pub type_at : Reader Ty
type_at = one (want_among types)

abbrev pub value_at : Ty → Reader Val
value_at ty = one (want_val ty)

unfoldable pub next_register_at : Reader Named
next_register_at = after_comma register_at

unfoldable pub next_value_at : Ty → Reader Val
next_value_at ty = after_comma (value_at ty)

-- two values of a type
unfoldable pub two_at : Ty → Reader (Val × Val)
two_at ty = both (value_at ty) (λ _. next_value_at ty)

unfoldable pub next_two_at : Ty → Reader (Val × Val)
next_two_at ty = after_comma (two_at ty)

-- what is called, and its arguments
unfoldable pub callee_at : Reader (Named × List TypedVal)
callee_at = both (one want_global) (λ _. args_at)

abbrev pub some_type : Ty → Option Ty
some_type ty = Some ty

abbrev pub some_placed : Ty × ℕ → Option Ty × ℕ
some_placed x = (Some x.0, x.1)

-- the type of a result, which may be `void` where it isn't typed
unfoldable pub result_at : Bool → Reader (Option Ty)
result_at true = mapped some_type type_at
result_at false = one (want_among results)

unfoldable pub placed_result_at : Bool → Reader (Option Ty × ℕ)
placed_result_at true = mapped some_placed (one (want_placed types))
placed_result_at false = one (want_placed results)

abbrev pub const_of : Width × ℕ → Op
const_of x = op.Const x.0 x.1

unfoldable pub const_at : Reader Op
const_at = mapped const_of (both word_at (λ width. one (want_amount (modulus width))))

unfoldable pub make_at : Place → Reader Op
make_at place = mapped (op.Make place) (value_at (Int W64))

abbrev pub gep_of : Named × Val → Op
gep_of x = op.Gep x.0 x.1

unfoldable pub gep_at : Reader Op
gep_at = mapped gep_of (both register_at (λ _. next_value_at (Int W64)))

abbrev pub load_of : Ty × Named → Op
load_of x = op.Load x.0 x.1

unfoldable pub load_at : Reader Op
load_at = mapped load_of (both type_at (λ _. next_register_at))

abbrev pub store_of : Ty × (Val × Named) → Op
store_of x = op.Store x.0 x.1.0 x.1.1

unfoldable pub store_at : Reader Op
store_at = mapped store_of (both type_at (λ ty. both (value_at ty) (λ _. next_register_at)))

abbrev pub retag_of : RetagKind × (Named × ℕ) → Op
retag_of x = op.Retag x.0 x.1.0 x.1.1

unfoldable pub next_size_at : Reader ℕ
next_size_at = after_comma (one (want_amount (2 ^ 32)))

unfoldable pub retag_at : ℕ → Reader Op
retag_at version = mapped retag_of (both (one (want_among (kinds version))) (λ _. both register_at (λ _. next_size_at)))

abbrev pub binary_of : BinaryOp → Width × (Val × Val) → Op
binary_of o x = op.Binary o x.0 x.1.0 x.1.1

unfoldable pub binary_at : BinaryOp → Reader Op
binary_at o = mapped (binary_of o) (both word_at (λ width. two_at (Int width)))

abbrev pub compare_of : Cond × (Ty × (Val × Val)) → Op
compare_of x = op.Compare x.0 x.1.0 x.1.1.0 x.1.1.1

unfoldable pub compare_at : Reader Op
compare_at = mapped compare_of (both (one (want_among conds)) (λ _. both type_at (λ ty. two_at ty)))

abbrev pub select_of : Ty × (Val × (Val × Val)) → Op
select_of x = op.Select x.0 x.1.0 x.1.1.0 x.1.1.1

unfoldable pub select_at : Reader Op
select_at = mapped select_of (both type_at (λ ty. both (value_at (Int W8)) (λ _. next_two_at ty)))

abbrev pub cast_of : CastOp → Width × (Val × (Width × ℕ)) → Op
cast_of o x = op.Cast o x.0 x.1.1.0 x.1.0 x.1.1.1

-- `to` and a width
unfoldable pub to_at : Reader (Width × ℕ)
to_at = mapped second (both (one (want_if (is_word (codes "to")))) (λ _. one (want_placed widths)))

unfoldable pub cast_at : CastOp → Reader Op
cast_at o = mapped (cast_of o) (both word_at (λ from. both (value_at (Int from)) (λ _. to_at)))

unfoldable pub ptr_to_int_at : Reader Op
ptr_to_int_at = mapped op.PtrToInt register_at

unfoldable pub input_at : Reader Op
input_at = mapped op.Input (value_at (Int W64))

abbrev pub modify_of : ModifyOp × (Width × (Named × Val)) → Op
modify_of x = op.Modify x.0 x.1.0 x.1.1.0 x.1.1.1

unfoldable pub modify_at : Reader Op
modify_at = mapped modify_of (both (one (want_among modifiers)) (λ _. both word_at (λ width. both register_at (λ _. next_value_at (Int width)))))

abbrev pub cmp_xchg_of : Width × (Named × (Val × Val)) → Op
cmp_xchg_of x = op.CmpXchg x.0 x.1.0 x.1.1.0 x.1.1.1

unfoldable pub cmp_xchg_at : Reader Op
cmp_xchg_at = mapped cmp_xchg_of (both word_at (λ width. both register_at (λ _. next_two_at (Int width))))

abbrev pub copy_of : Named × (Named × Val) → Op
copy_of x = op.Copy x.0 x.1.0 x.1.1

unfoldable pub copy_at : Reader Op
copy_at = mapped copy_of (both register_at (λ _. both next_register_at (λ _. next_value_at (Int W64))))

unfoldable pub free_at : Reader Op
free_at = mapped op.Free register_at

abbrev pub print_of : Width × Val → Op
print_of x = op.Print x.0 x.1

unfoldable pub print_at : Reader Op
print_at = mapped print_of (both word_at (λ width. value_at (Int width)))

abbrev pub call_of : Option Ty × (Named × List TypedVal) → Op
call_of x = op.Call x.0 x.1.0 x.1.1

unfoldable pub call_at : Bool → Reader Op
call_at typed = mapped call_of (both (result_at typed) (λ _. callee_at))

abbrev pub host_of : Ty × (Named × List TypedVal) → Op
host_of x = op.Host x.0 x.1.0 x.1.1

unfoldable pub host_at : Reader Op
host_at = mapped host_of (both type_at (λ _. callee_at))

abbrev pub spawn_of : Named × List TypedVal → Op
spawn_of x = op.Spawn x.0 x.1

unfoldable pub spawn_at : Reader Op
spawn_at = mapped spawn_of callee_at

abbrev pub join_of : (Option Ty × ℕ) × Named → Op
join_of x = op.Join x.0.0 x.0.1 x.1

unfoldable pub join_at : Bool → Reader Op
join_at typed = mapped join_of (both (placed_result_at typed) (λ _. register_at))

-- the rest of an operation, behind its first word; the result of a call or a join has a type where it is to be typed
abbrev pub tail_at : ℕ → Bool → Keyword → Reader Op
tail_at version typed key.Const = const_at
tail_at version typed key.Null = given op.Null
tail_at version typed (key.Make place) = make_at place
tail_at version typed key.Gep = gep_at
tail_at version typed key.Load = load_at
tail_at version typed key.Store = store_at
tail_at version typed key.Retag = retag_at version
tail_at version typed (key.Binary o) = binary_at o
tail_at version typed key.Compare = compare_at
tail_at version typed key.Select = select_at
tail_at version typed (key.Cast o) = cast_at o
tail_at version typed key.PtrToInt = ptr_to_int_at
tail_at version typed key.Input = input_at
tail_at version typed key.Modify = modify_at
tail_at version typed key.CmpXchg = cmp_xchg_at
tail_at version typed key.Copy = copy_at
tail_at version typed key.Free = free_at
tail_at version typed key.Print = print_at
tail_at version typed key.Call = call_at typed
tail_at version typed key.Host = host_at
tail_at version typed key.Spawn = spawn_at
tail_at version typed key.Join = join_at typed

-- an operation behind a register and `=`
unfoldable pub defined_at : ℕ → Reader Op
defined_at version = mapped second (both (one (want_among definers)) (λ k. tail_at version true k))
