-- The numbers that a program is written with fit 64 bits, where none is past its limit.
use Rattle.std.proofs.Common.{◌≡◌, ℕ, suc, ◌+◌, ◌^◌, ◌<◌, ◌≤◌, Bool, true, false, List, [], ◌∷◌, ◌++◌, length, Option, Some, None, refl, arith, lit≤}
use Rattle.std.specs.Prelude.{nat_lt, if◌then◌else◌}
use Rattle.std.specs.List.{flat_map, sum_by}
use Rattle.std.proofs.lemmas.Bool.{ltb-true}
use Rattle.ir_ast.specs.Words.{modulus}
use Rattle.ir_ast.specs.Tokens.{Form, Asked, Each, Limit, plain, below, amount}
use Rattle.ir_ast.specs.Tokens.Limit.{of_number}
use Rattle.ir_ast.specs.Tokens.Form.{number, close_round, open_brace, close_brace, comma, colon, arrow}
use Rattle.ir_ast.specs.Grammar.{numbers_of, val_token, typed_tokens, next_tokens, values_tokens, args_tokens, goal_args_tokens, goal_tokens, op_tokens, ret_tokens, jump_tokens}
use Rattle.ir_ast.specs.Shapes.{IsVersion, IsShaped}
use Rattle.ir_ast.specs.Lines.{Line, attr_tokens, result_tokens, param_register, param_tokens, next_params, params_tokens, block_params, inst_tokens, definitions, inst_lines, term_line, label_line, block_lines, block_instructions, block_registers, blocks_lines, header_line, function_lines, functions_lines, outer, program_lines}
use Rattle.ir_ast.specs.declared.types.Width.{Width}
use Rattle.ir_ast.specs.declared.types.Width.TheVariants.{W8, W16, W32, W64}
use Rattle.ir_ast.specs.declared.types.Ty.{Ty}
use Rattle.ir_ast.specs.declared.types.Ty.TheVariants.{Int, Ptr}
use Rattle.ir_ast.specs.declared.types.Attr.{Attr}
use Rattle.ir_ast.specs.declared.program.Named.{Named}
use Rattle.ir_ast.specs.declared.program.Param.{Param}
use Rattle.ir_ast.specs.declared.program.Val.{Val}
use Rattle.ir_ast.specs.declared.program.Val.TheVariants.{Reg, Num}
use Rattle.ir_ast.specs.declared.program.TypedVal.{TypedVal}
use Rattle.ir_ast.specs.declared.program.Goal.{Goal}
use Rattle.ir_ast.specs.declared.program.Inst.{Inst}
use Rattle.ir_ast.specs.declared.program.Op.{Op}
use Rattle.ir_ast.specs.declared.program.Op.TheVariants as op
use Rattle.ir_ast.specs.declared.program.Jump.{Jump}
use Rattle.ir_ast.specs.declared.program.Jump.TheVariants.{Br, CondBr, Ret, Unreachable}
use Rattle.ir_ast.specs.declared.program.Block.{Block}
use Rattle.ir_ast.specs.declared.program.Function.{Function}
use Rattle.ir_ast.specs.declared.program.Program.{Program}

abbrev pub IsSmall : Form → Type 0
IsSmall (number n) = n < 2 ^ 64
IsSmall _ = Unit {0}

abbrev pub Fair : Asked → Type 0
Fair a = a.fault ≡ None → IsSmall a.form

abbrev pub FairLine : Line → Type 0
FairLine l = Each Fair l.tokens

pub each_join : {A : Type 0} (P : A → Type 0) (xs ys : List A) → Each P xs → Each P ys → Each P (xs ++ ys)
each_join P [] ys h k = k
each_join P (x ∷ xs) ys h k = (h.0, each_join P xs ys h.1 k)

pub each_parts : {A : Type 0} (P : A → Type 0) (xs ys : List A) → Each P (xs ++ ys) → Each P xs × Each P ys
each_parts P [] ys h = (tt, h)
each_parts P (x ∷ xs) ys h = let r = each_parts P xs ys h.1 in ((h.0, r.0), r.1)

free : {A : Type 0} → A → Unit {0}
free x = tt

pub below_none : (n most : ℕ) (limit : Limit) → below n most limit ≡ None → n < most
below_none n most limit e = by_test (nat_lt n most) (λ h. ltb-true n most h) e
  where
    by_test : (x : Bool) → (x ≡ true → n < most) → (if x then None else Some limit) ≡ None → n < most
    by_test true h e = h refl
    by_test false h e = absurd cc

amount_fair : (n bound : ℕ) → bound ≤ 2 ^ 64 → Fair (amount n bound)
amount_fair n bound le e = let lt : n < bound = below_none n bound of_number e in omega arith

modulus_le : (w : Width) → modulus w ≤ 2 ^ 64
modulus_le W8 = lit≤ tt
modulus_le W16 = lit≤ tt
modulus_le W32 = lit≤ tt
modulus_le W64 = lit≤ tt

numbers_le : (ty : Ty) → numbers_of ty ≤ 2 ^ 64
numbers_le (Int w) = modulus_le w
numbers_le Ptr = lit≤ tt

val_fair : (ty : Ty) (v : Val) → Fair (val_token ty v)
val_fair ty (Reg r) e = tt
val_fair ty (Num n) e = amount_fair n (numbers_of ty) (numbers_le ty) e

typed_fair : (v : TypedVal) → Each Fair (typed_tokens v)
typed_fair v = (free, (val_fair v.ty v.val, tt))

more_fair : (vs : List TypedVal) → Each Fair (flat_map next_tokens vs)
more_fair [] = tt
more_fair (v ∷ vs) = each_join Fair (next_tokens v) (flat_map next_tokens vs) (free, typed_fair v) (more_fair vs)

values_fair : (vs : List TypedVal) → Each Fair (values_tokens vs)
values_fair [] = tt
values_fair (v ∷ vs) = each_join Fair (typed_tokens v) (flat_map next_tokens vs) (typed_fair v) (more_fair vs)

args_fair : (vs : List TypedVal) → Each Fair (args_tokens vs)
args_fair vs = (free, each_join Fair (values_tokens vs) (plain close_round ∷ []) (values_fair vs) (free, tt))

goal_args_fair : (vs : List TypedVal) → Each Fair (goal_args_tokens vs)
goal_args_fair [] = tt
goal_args_fair (v ∷ vs) = args_fair (v ∷ vs)

goal_fair : (g : Goal) → Each Fair (goal_tokens g)
goal_fair g = (free, goal_args_fair g.args)

op_fair : (o : Op) → Each Fair (op_tokens o)
op_fair (op.Const width value) = (free, (amount_fair value (modulus width) (modulus_le width), tt))
op_fair op.Null = tt
op_fair (op.Make place size) = (val_fair (Int W64) size, tt)
op_fair (op.Gep ptr add) = (free, (free, (val_fair (Int W64) add, tt)))
op_fair (op.Load ty ptr) = (free, (free, (free, tt)))
op_fair (op.Store ty val ptr) = (free, (val_fair ty val, (free, (free, tt))))
op_fair (op.Retag kind ptr size) = (free, (free, (free, (amount_fair size (2 ^ 32) (lit≤ tt), tt))))
op_fair (op.Binary o width a b) = (free, (val_fair (Int width) a, (free, (val_fair (Int width) b, tt))))
op_fair (op.Compare cond ty a b) = (free, (free, (val_fair ty a, (free, (val_fair ty b, tt)))))
op_fair (op.Select ty cond a b) = (free, (val_fair (Int W8) cond, (free, (val_fair ty a, (free, (val_fair ty b, tt))))))
op_fair (op.Cast o from to val to_at) = (free, (val_fair (Int from) val, (free, (free, tt))))
op_fair (op.PtrToInt ptr) = (free, tt)
op_fair (op.Input index) = (val_fair (Int W64) index, tt)
op_fair (op.Modify o width ptr val) = (free, (free, (free, (free, (val_fair (Int width) val, tt)))))
op_fair (op.CmpXchg width ptr expected val) = (free, (free, (free, (val_fair (Int width) expected, (free, (val_fair (Int width) val, tt))))))
op_fair (op.Copy to from len) = (free, (free, (free, (free, (val_fair (Int W64) len, tt)))))
op_fair (op.Free ptr) = (free, tt)
op_fair (op.Print width val) = (free, (val_fair (Int width) val, tt))
op_fair (op.Call result function args) = (free, (free, args_fair args))
op_fair (op.Host result host args) = (free, (free, args_fair args))
op_fair (op.Spawn function args) = (free, args_fair args)
op_fair (op.Join result ty_at handle) = (free, (free, tt))

ret_fair : (v : Option TypedVal) (at : ℕ) → Each Fair (ret_tokens v at)
ret_fair None at = (free, tt)
ret_fair (Some v) at = (free, (val_fair v.ty v.val, tt))

jump_fair : (j : Jump) → Each Fair (jump_tokens j)
jump_fair (Br goal) = goal_fair goal
jump_fair (CondBr cond first second) =
    (val_fair (Int W8) cond, (free, each_join Fair (goal_tokens first) (plain comma ∷ goal_tokens second) (goal_fair first) (free, goal_fair second)))
jump_fair (Ret val ty_at) = ret_fair val ty_at
jump_fair Unreachable = tt

attr_fair : (attr : Option Attr) → Each Fair (attr_tokens attr)
attr_fair None = tt
attr_fair (Some a) = (free, (free, (amount_fair a.size (2 ^ 32) (lit≤ tt), (free, tt))))

param_fair : (r : ℕ) (p : Param) → Each Fair (param_tokens r p)
param_fair r p = (free, each_join Fair (attr_tokens p.attr) (param_register r p ∷ []) (attr_fair p.attr) (free, tt))

next_params_fair : (r : ℕ) (ps : List Param) → Each Fair (next_params r ps)
next_params_fair r [] = tt
next_params_fair r (p ∷ ps) = each_join Fair (plain comma ∷ param_tokens r p) (next_params (suc r) ps) (free, param_fair r p) (next_params_fair (suc r) ps)

params_fair : (r : ℕ) (ps : List Param) → Each Fair (params_tokens r ps)
params_fair r [] = tt
params_fair r (p ∷ ps) = each_join Fair (param_tokens r p) (next_params (suc r) ps) (param_fair r p) (next_params_fair (suc r) ps)

block_params_fair : (r : ℕ) (ps : List Param) → Each Fair (block_params r ps)
block_params_fair r [] = tt
block_params_fair r (p ∷ ps) = (free, each_join Fair (params_tokens r (p ∷ ps)) (plain close_round ∷ []) (params_fair r (p ∷ ps)) (free, tt))

inst_fair : (n r : ℕ) (d : Option Named) (at : ℕ) (o : Op) → Each Fair (inst_tokens n r d at o)
inst_fair n r None at o = (free, op_fair o)
inst_fair n r (Some x) at o = (free, (free, (free, op_fair o)))

insts_fair : (n r : ℕ) (is : List Inst) → Each FairLine (inst_lines n r is)
insts_fair n r [] = tt
insts_fair n r (i ∷ is) = (inst_fair n r i.dest i.at i.op, insts_fair (suc n) (r + definitions i) is)

block_fair : (n r : ℕ) (b : Block) → Each FairLine (block_lines n r b)
block_fair n r b =
    let last : Each FairLine (term_line (n + length b.insts) b.term ∷ []) = ((free, jump_fair b.term.jump), tt) in
    let label : FairLine (label_line r b) = (free, each_join Fair (block_params r b.params) (plain colon ∷ []) (block_params_fair r b.params) (free, tt)) in
    (label, each_join FairLine (inst_lines n (r + length b.params) b.insts) (term_line (n + length b.insts) b.term ∷ []) (insts_fair n (r + length b.params) b.insts) last)

blocks_fair : (n r : ℕ) (bs : List Block) → Each FairLine (blocks_lines n r bs)
blocks_fair n r [] = tt
blocks_fair n r (b ∷ bs) =
    each_join FairLine (block_lines n r b) (blocks_lines (n + block_instructions b) (r + block_registers b) bs)
    (block_fair n r b) (blocks_fair (n + block_instructions b) (r + block_registers b) bs)

header_fair : (k : ℕ) (f : Function) → FairLine (header_line k f)
header_fair k f =
    let result : Each Fair (plain close_round ∷ plain arrow ∷ result_tokens f.result ++ plain open_brace ∷ []) =
    (free, (free, (free, each_join Fair (attr_tokens f.result.attr) (plain open_brace ∷ []) (attr_fair f.result.attr) (free, tt)))) in
    (free, (free, (free, each_join Fair (params_tokens 0 f.params) (plain close_round ∷ plain arrow ∷ result_tokens f.result ++ plain open_brace ∷ []) (params_fair 0 f.params) result)))

function_fair : (k n : ℕ) (f : Function) → Each FairLine (function_lines k n f)
function_fair k n f =
    let last : Each FairLine (outer (plain close_brace ∷ []) ∷ []) = ((free, tt), tt) in
    (header_fair k f, each_join FairLine (blocks_lines n (length f.params) f.blocks) (outer (plain close_brace ∷ []) ∷ []) (blocks_fair n (length f.params) f.blocks) last)

functions_fair : (k n : ℕ) (fs : List Function) → Each FairLine (functions_lines k n fs)
functions_fair k n [] = tt
functions_fair k n (f ∷ fs) =
    each_join FairLine (function_lines k n f) (functions_lines (suc k) (n + sum_by block_instructions f.blocks) fs)
    (function_fair k n f) (functions_fair (suc k) (n + sum_by block_instructions f.blocks) fs)

small_version : (version : ℕ) → IsVersion version → {A : Type 0} → A → version < 2 ^ 64
small_version version h x = let le : version ≤ 2 = h.1 in omega arith

pub program_fair : (p : Program) → IsShaped p → Each FairLine (program_lines p)
program_fair p h = ((free, (small_version p.version h.version, tt)), functions_fair 0 0 p.functions)
