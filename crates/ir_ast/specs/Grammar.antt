-- The grammar, from the side of the program: the tokens that each part of it is written with.
use Rattle.std.specs.Prelude.{ℕ, ◌^◌, false, List, [], ◌∷◌, ◌++◌, codes, Option, Some, None}
use Rattle.std.specs.List.{flat_map}
use Rattle.ir_ast.specs.Words.{modulus}
use Rattle.ir_ast.specs.Tokens.{Form, Limit, Asked, plain, placed, keyword, amount, below}
use Rattle.ir_ast.specs.Tokens.Limit.{of_number}
use Rattle.ir_ast.specs.Tokens.Form.{word, local, global, number, open_round, close_round, comma}
use Rattle.ir_ast.specs.Keywords.{width_word, type_word, result_word, kind_word, cond_word, modify_word}
use Rattle.perm_table.specs.declared.RetagKind.{RetagKind}
use Rattle.ir_ast.specs.declared.types.Width.{Width}
use Rattle.ir_ast.specs.declared.types.Width.TheVariants.{W8, W64}
use Rattle.ir_ast.specs.declared.types.Ty.{Ty}
use Rattle.ir_ast.specs.declared.types.Ty.TheVariants.{Int, Ptr}
use Rattle.ir_ast.specs.declared.program.Named.{Named}
use Rattle.ir_ast.specs.declared.program.Val.{Val}
use Rattle.ir_ast.specs.declared.program.Val.TheVariants.{Reg, Num}
use Rattle.ir_ast.specs.declared.program.TypedVal.{TypedVal}
use Rattle.ir_ast.specs.declared.program.Goal.{Goal}
use Rattle.ir_ast.specs.declared.program.Op.{Op}
use Rattle.ir_ast.specs.declared.program.Op.TheVariants as op
use Rattle.ir_ast.specs.declared.program.Jump.{Jump}
use Rattle.ir_ast.specs.declared.program.Jump.TheVariants.{Br, CondBr, Ret, Unreachable}

-- ---- single tokens

abbrev pub width_token : Width → Asked
width_token width = keyword (width_word width)

abbrev pub type_token : Ty → Asked
type_token ty = keyword (type_word ty)

abbrev pub kind_token : RetagKind → Asked
kind_token kind = keyword (kind_word kind)

-- a type or `void`, at this place
abbrev pub result_token : Option Ty → ℕ → Asked
result_token ty at = placed (word (result_word ty)) at

abbrev pub register : Named → Asked
register r = placed (local r.name) r.at

abbrev pub function_name : Named → Asked
function_name f = placed (global f.name) f.at

abbrev pub label : Named → Asked
label l = placed (word l.name) l.at

-- how many numbers a value of this type can be
abbrev pub numbers_of : Ty → ℕ
numbers_of (Int width) = modulus width
numbers_of Ptr = 0

abbrev pub val_form : Val → Form
val_form (Reg r) = local r.name
val_form (Num n) = number n

abbrev pub val_places : Val → List ℕ
val_places (Reg r) = r.at ∷ []
val_places (Num n) = []

abbrev pub val_fault : Ty → Val → Option Limit
val_fault ty (Reg r) = None
val_fault ty (Num n) = below n (numbers_of ty) of_number

-- a register, or a number of the type
abbrev pub val_token : Ty → Val → Asked
val_token ty val = record { form = val_form val; at = val_places val; is_operation = false; fault = val_fault ty val }

-- how many bytes something has
abbrev pub size_token : ℕ → Asked
size_token size = amount size (2 ^ 32)

-- ---- values with types, and lists of them

abbrev pub typed_tokens : TypedVal → List Asked
typed_tokens v = type_token v.ty ∷ val_token v.ty v.val ∷ []

-- with a comma before it
abbrev pub next_tokens : TypedVal → List Asked
next_tokens v = plain comma ∷ typed_tokens v

abbrev pub values_tokens : List TypedVal → List Asked
values_tokens [] = []
values_tokens (v ∷ vs) = typed_tokens v ++ flat_map next_tokens vs

-- the arguments of a call, with their parentheses even where there are none
abbrev pub args_tokens : List TypedVal → List Asked
args_tokens args = plain open_round ∷ values_tokens args ++ plain close_round ∷ []

-- the arguments of a goal, without parentheses where there are none
abbrev pub goal_args_tokens : List TypedVal → List Asked
goal_args_tokens [] = []
goal_args_tokens (v ∷ vs) = args_tokens (v ∷ vs)

abbrev pub goal_tokens : Goal → List Asked
goal_tokens g = label g.label ∷ goal_args_tokens g.args

-- ---- instructions and terminators

-- the tokens after an operation's first word
abbrev pub op_tokens : Op → List Asked
op_tokens (op.Const width value) = width_token width ∷ amount value (modulus width) ∷ []
op_tokens op.Null = []
op_tokens (op.Make place size) = val_token (Int W64) size ∷ []
op_tokens (op.Gep ptr add) = register ptr ∷ plain comma ∷ val_token (Int W64) add ∷ []
op_tokens (op.Load ty ptr) = type_token ty ∷ plain comma ∷ register ptr ∷ []
op_tokens (op.Store ty val ptr) = type_token ty ∷ val_token ty val ∷ plain comma ∷ register ptr ∷ []
op_tokens (op.Retag kind ptr size) = kind_token kind ∷ register ptr ∷ plain comma ∷ size_token size ∷ []
op_tokens (op.Binary o width a b) = width_token width ∷ val_token (Int width) a ∷ plain comma ∷ val_token (Int width) b ∷ []
op_tokens (op.Compare cond ty a b) = keyword (cond_word cond) ∷ type_token ty ∷ val_token ty a ∷ plain comma ∷ val_token ty b ∷ []
op_tokens (op.Select ty cond a b) = type_token ty ∷ val_token (Int W8) cond ∷ plain comma ∷ val_token ty a ∷ plain comma ∷ val_token ty b ∷ []
op_tokens (op.Cast o from to val to_at) = width_token from ∷ val_token (Int from) val ∷ keyword (codes "to") ∷ placed (word (width_word to)) to_at ∷ []
op_tokens (op.PtrToInt ptr) = register ptr ∷ []
op_tokens (op.Input index) = val_token (Int W64) index ∷ []
op_tokens (op.Modify o width ptr val) = keyword (modify_word o) ∷ width_token width ∷ register ptr ∷ plain comma ∷ val_token (Int width) val ∷ []
op_tokens (op.CmpXchg width ptr expected val) = width_token width ∷ register ptr ∷ plain comma ∷ val_token (Int width) expected ∷ plain comma ∷ val_token (Int width) val ∷ []
op_tokens (op.Copy to from len) = register to ∷ plain comma ∷ register from ∷ plain comma ∷ val_token (Int W64) len ∷ []
op_tokens (op.Free ptr) = register ptr ∷ []
op_tokens (op.Print width val) = width_token width ∷ val_token (Int width) val ∷ []
op_tokens (op.Call result function args) = keyword (result_word result) ∷ function_name function ∷ args_tokens args
op_tokens (op.Host result host args) = type_token result ∷ function_name host ∷ args_tokens args
op_tokens (op.Spawn function args) = function_name function ∷ args_tokens args
op_tokens (op.Join result ty_at handle) = result_token result ty_at ∷ register handle ∷ []

abbrev pub ret_tokens : Option TypedVal → ℕ → List Asked
ret_tokens None at = result_token None at ∷ []
ret_tokens (Some v) at = result_token (Some v.ty) at ∷ val_token v.ty v.val ∷ []

abbrev pub jump_word : Jump → List ℕ
jump_word (Br goal) = codes "br"
jump_word (CondBr cond first second) = codes "condbr"
jump_word (Ret val ty_at) = codes "ret"
jump_word Unreachable = codes "unreachable"

-- the tokens after a terminator's first word
abbrev pub jump_tokens : Jump → List Asked
jump_tokens (Br goal) = goal_tokens goal
jump_tokens (CondBr cond first second) = val_token (Int W8) cond ∷ plain comma ∷ goal_tokens first ++ (plain comma ∷ goal_tokens second)
jump_tokens (Ret val ty_at) = ret_tokens val ty_at
jump_tokens Unreachable = []
