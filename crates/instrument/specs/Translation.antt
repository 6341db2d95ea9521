-- The translation of a program to target code.
--
-- A definition of lines takes the lines that follow them as its last argument, and builds its own in front: `op_lines x op to ls`
-- are the lines of the operation and then ls. So the first line of a block's rest computes from the instruction alone, with
-- nothing to append and no law of appending, wherever two neighbouring lines are compared (well-formed code) or the next line
-- is run (the threads over target code). To read a definition as a table of lines, leave out the last ls.
use Rattle.std.specs.Prelude.{ℕ, ◌+◌, List, [], ◌∷◌, Option, Some, None, map, length, slice_get}
use Rattle.std.specs.Option.{option_flatten}
use Rattle.perm_table.specs.declared.Guard.TheVariants.{Free}
use Rattle.ir_ast.specs.Words.{ty_bytes, width_bytes}
use Rattle.ir_ast.specs.Lines.{block_instructions}
use Rattle.ir_ast.specs.Numbers.{place, function_names, labels, host_names, function_place, block_place, blocks_end}
use Rattle.ir_ast.specs.Attributes.{guard_of, attr_of_call, definitions, registers, attrs}
use Rattle.ir_ast.specs.declared.types.Ty.{Ty}
use Rattle.ir_ast.specs.declared.types.Ty.TheVariants.{Int, Ptr}
use Rattle.ir_ast.specs.declared.types.Attr.{Attr}
use Rattle.ir_ast.specs.declared.hosts.HostEntry.{HostEntry}
use Rattle.ir_ast.specs.declared.program.Named.{Named}
use Rattle.ir_ast.specs.declared.program.Param.{Param}
use Rattle.ir_ast.specs.declared.program.Val.{Val}
use Rattle.ir_ast.specs.declared.program.Val.TheVariants.{Reg, Num}
use Rattle.ir_ast.specs.declared.program.TypedVal.{TypedVal}
use Rattle.ir_ast.specs.declared.program.Goal.{Goal}
use Rattle.ir_ast.specs.declared.program.Op.{Op}
use Rattle.ir_ast.specs.declared.program.Op.TheVariants as op
use Rattle.ir_ast.specs.declared.program.Inst.{Inst}
use Rattle.ir_ast.specs.declared.program.Jump.{Jump}
use Rattle.ir_ast.specs.declared.program.Jump.TheVariants.{Br, CondBr, Ret, Unreachable}
use Rattle.ir_ast.specs.declared.program.Block.{Block}
use Rattle.ir_ast.specs.declared.program.Function.{Function}
use Rattle.ir_ast.specs.declared.program.Program.{Program}
use Rattle.target_code.specs.declared.line.Operand.{Operand}
use Rattle.target_code.specs.declared.line.Operand.TheVariants as operand
use Rattle.target_code.specs.declared.line.Shadow.{Shadow}
use Rattle.target_code.specs.declared.line.Shadow.TheVariants as shadow
use Rattle.target_code.specs.declared.line.Line.{Line}
use Rattle.target_code.specs.declared.line.Line.TheVariants as line
use Rattle.target_code.specs.declared.line.TargetFunction.{TargetFunction}
use Rattle.target_code.specs.declared.line.Target.{Target}

-- ---- names and their numbers

-- What the lines of a function are made of: the program's functions and the hosts; the function's registers, what joins
-- through them give, and its blocks.
pub record Scope : Type 0 where
  pub functions : List Function
  pub hosts : List HostEntry
  pub registers : List (List ℕ)
  pub attrs : List (Option Attr)
  pub blocks : List Block

-- a register's slot is its place among the registers
abbrev pub slot : Scope → Named → ℕ
slot x r = place x.registers r.name

abbrev pub function_number : Scope → Named → ℕ
function_number x f = function_place x.functions f.name

abbrev pub block_number : Scope → Named → ℕ
block_number x label = block_place x.blocks label.name

abbrev pub host_number : Scope → Named → ℕ
host_number x host = place (host_names x.hosts) host.name

-- ---- operands

abbrev pub operand_of : Scope → Val → Operand
operand_of x (Reg r) = operand.Slot (slot x r)
operand_of x (Num n) = operand.Number n

abbrev pub shadow_of : Scope → Val → Shadow
shadow_of x (Reg r) = shadow.Slot (slot x r)
shadow_of x (Num n) = shadow.Nothing

abbrev pub operands_of : Scope → List TypedVal → List Operand
operands_of x vs = map (λ v. operand_of x v.val) vs

-- a line that only a pointer has
abbrev pub for_ptr : Ty → Line → List Line → List Line
for_ptr (Int width) l ls = ls
for_ptr Ptr l ls = l ∷ ls

-- ---- arguments and goals

-- values into the row of arguments, from an index on
abbrev pub arg_lines : Scope → ℕ → List TypedVal → List Line → List Line
arg_lines x i [] ls = ls
arg_lines x i (v ∷ vs) ls =
    line.Arg i (operand_of x v.val) ∷ for_ptr v.ty (line.ShadowArg i (shadow_of x v.val)) (arg_lines x (i + 1) vs ls)

-- parameters out of the row of arguments
abbrev pub take_lines : Scope → ℕ → List Param → List Line → List Line
take_lines x i [] ls = ls
take_lines x i (p ∷ ps) ls =
    line.TakeArg (slot x p.reg) i ∷ for_ptr p.ty (line.TakeShadowArg (slot x p.reg) i) (take_lines x (i + 1) ps ls)

abbrev pub params_at : Option Block → List Param
params_at None = []
params_at (Some b) = b.params

abbrev pub goal_lines : Scope → Goal → List Line → List Line
goal_lines x g ls =
    let target = block_number x g.label in
    arg_lines x 0 g.args (take_lines x 0 (params_at (slice_get x.blocks target)) (line.Jump target ∷ ls))

-- ---- the result of a call or a join

abbrev pub retag_lines : Option ℕ → Option Attr → List Line → List Line
retag_lines to None ls = ls
retag_lines None (Some a) ls = line.RetagResult a.kind a.size ∷ ls
retag_lines (Some r) (Some a) ls = line.Retag r a.kind Free r r a.size ∷ ls

-- a result of this type, which goes to this slot or is dropped
abbrev pub result_lines : Option ℕ → Option Ty → Option Attr → List Line → List Line
result_lines to None attr ls = ls
result_lines None (Some (Int width)) attr ls = ls
result_lines None (Some Ptr) attr ls = retag_lines None attr ls
result_lines (Some r) (Some (Int width)) attr ls = line.CallResult r ∷ ls
result_lines (Some r) (Some Ptr) attr ls = line.CallResult r ∷ line.ShadowCallResult r ∷ retag_lines (Some r) attr ls

-- ---- instructions

-- the attribute of what a join through a handle gives
abbrev pub attr_of_join : Scope → Named → Option Attr
attr_of_join x handle = option_flatten (slice_get x.attrs (slot x handle))

-- the slot that an instruction writes, and 0 where it defines no register
abbrev pub written : Option ℕ → ℕ
written None = 0
written (Some r) = r

-- the lines of an operation, the slot to which its result goes, and the lines behind them
abbrev pub op_lines : Scope → Op → Option ℕ → List Line → List Line
op_lines x (op.Const width value) to ls = line.Const (written to) (Int width) value ∷ ls
op_lines x op.Null to ls = line.Const (written to) Ptr 0 ∷ line.ShadowMove (written to) shadow.Nothing ∷ ls
op_lines x (op.Make where_ size) to ls = line.Make (written to) (written to) where_ (operand_of x size) ∷ ls
op_lines x (op.Gep ptr add) to ls =
    line.Gep (written to) (slot x ptr) (operand_of x add) ∷ line.ShadowMove (written to) (shadow.Slot (slot x ptr)) ∷ ls
op_lines x (op.Load ty ptr) to ls =
    line.CheckRead (slot x ptr) (slot x ptr) (ty_bytes ty) ∷ line.Load (written to) ty (slot x ptr) ∷ for_ptr ty (line.Loaded (written to)) ls
op_lines x (op.Store ty val ptr) to ls =
    for_ptr ty (line.Stored (shadow_of x val)) (line.CheckWrite (slot x ptr) (slot x ptr) (ty_bytes ty) ∷ line.Store ty (operand_of x val) (slot x ptr) ∷ ls)
op_lines x (op.Retag kind ptr size) to ls =
    line.Retag (written to) kind Free (slot x ptr) (slot x ptr) size ∷ line.Move (written to) (slot x ptr) ∷ ls
op_lines x (op.Binary o width a b) to ls = line.Binary (written to) o width (operand_of x a) (operand_of x b) ∷ ls
op_lines x (op.Compare cond ty a b) to ls = line.Compare (written to) cond ty (operand_of x a) (operand_of x b) ∷ ls
op_lines x (op.Select ty cond a b) to ls =
    line.Select (written to) ty (operand_of x cond) (operand_of x a) (operand_of x b)
    ∷ for_ptr ty (line.ShadowSelect (written to) (operand_of x cond) (shadow_of x a) (shadow_of x b)) ls
op_lines x (op.Cast o from target val to_at) to ls = line.Cast (written to) o from (operand_of x val) target ∷ ls
op_lines x (op.PtrToInt ptr) to ls = line.PtrToInt (written to) (slot x ptr) ∷ ls
op_lines x (op.Input index) to ls = line.Input (written to) (operand_of x index) ∷ ls
op_lines x (op.Modify o width ptr val) to ls =
    line.CheckWrite (slot x ptr) (slot x ptr) (width_bytes width) ∷ line.Modify (written to) o width (slot x ptr) (operand_of x val) ∷ ls
op_lines x (op.CmpXchg width ptr expected val) to ls =
    line.CheckWrite (slot x ptr) (slot x ptr) (width_bytes width) ∷ line.CmpXchg (written to) width (slot x ptr) (operand_of x expected) (operand_of x val) ∷ ls
op_lines x (op.Copy target from len) to ls =
    line.CheckCopy (slot x target) (slot x target) (slot x from) (slot x from) (operand_of x len) ∷ line.Copy (slot x target) (slot x from) (operand_of x len) ∷ ls
op_lines x (op.Free ptr) to ls = line.CheckFree (slot x ptr) (slot x ptr) ∷ line.Free (slot x ptr) ∷ ls
op_lines x (op.Print width val) to ls = line.Print width (operand_of x val) ∷ ls
op_lines x (op.Call ty function args) to ls =
    arg_lines x 0 args (line.Call (function_number x function) ∷ result_lines to ty (attr_of_call x.functions function.name) ls)
op_lines x (op.Host ty host args) to ls = line.Host (written to) (host_number x host) (operands_of x args) ∷ for_ptr ty (line.ShadowMove (written to) shadow.Nothing) ls
op_lines x (op.Spawn function args) to ls = arg_lines x 0 args (line.Spawn (written to) (function_number x function) ∷ ls)
op_lines x (op.Join ty ty_at handle) to ls = line.Join (slot x handle) ∷ result_lines to ty (attr_of_join x handle) ls

abbrev pub slot_of_dest : Scope → Option Named → Option ℕ
slot_of_dest x None = None
slot_of_dest x (Some r) = Some (slot x r)

-- ---- terminators

abbrev pub ret_lines : Scope → Option TypedVal → List Line → List Line
ret_lines x None ls = ls
ret_lines x (Some v) ls = line.Result (operand_of x v.val) ∷ for_ptr v.ty (line.ShadowResult (shadow_of x v.val)) ls

abbrev pub jump_lines : Scope → Jump → List Line
jump_lines x (Br goal) = goal_lines x goal []
jump_lines x (CondBr cond first second) = line.Branch (operand_of x cond) ∷ goal_lines x first (goal_lines x second [])
jump_lines x (Ret val ty_at) = ret_lines x val (line.PopFrame ∷ line.Return ∷ [])
jump_lines x Unreachable = line.Unreachable ∷ []

-- ---- blocks

-- what is left of a block behind the `turn` line of its instruction n
abbrev pub body_lines : Scope → ℕ → List Inst → Jump → List Line
body_lines x n [] jump = jump_lines x jump
body_lines x n (i ∷ is) jump = op_lines x i.op (slot_of_dest x i.dest) (line.Turn (n + 1) ∷ body_lines x (n + 1) is jump)

-- the lines of a block whose first instruction has the number n
abbrev pub block_lines : Scope → ℕ → Block → List Line
block_lines x n b = line.Turn n ∷ body_lines x n b.insts b.term.jump

abbrev pub blocks_lines : Scope → ℕ → List Block → List (List Line)
blocks_lines x n [] = []
blocks_lines x n (b ∷ bs) = block_lines x n b ∷ blocks_lines x (n + block_instructions b) bs

-- ---- functions

-- the arguments that a call handed over, from an index on
abbrev pub param_lines : Scope → ℕ → List Param → List Line → List Line
param_lines x i [] ls = ls
param_lines x i (p ∷ ps) ls =
    line.Param (slot x p.reg) i ∷ for_ptr p.ty (line.ShadowParam (slot x p.reg) i) (param_lines x (i + 1) ps ls)

abbrev pub entry_retag : ℕ → Option Attr → List Line → List Line
entry_retag r None ls = ls
entry_retag r (Some a) ls = line.Retag r a.kind (guard_of a.kind) r r a.size ∷ ls

abbrev pub entry_retags : Scope → List Param → List Line → List Line
entry_retags x [] ls = ls
entry_retags x (p ∷ ps) ls = entry_retag (slot x p.reg) p.attr (entry_retags x ps ls)

abbrev pub entry_lines : Scope → List Param → List Line
entry_lines x ps = line.PushFrame ∷ param_lines x 0 ps (entry_retags x ps [])

abbrev pub scope_of : List Function → List HostEntry → Function → Scope
scope_of fs hosts f =
    let ds = definitions fs f in
    record { functions = fs; hosts = hosts; registers = registers ds; attrs = attrs ds; blocks = f.blocks }

-- the code of a function whose first instruction has the number n
abbrev pub function_code : List Function → List HostEntry → ℕ → Function → TargetFunction
function_code fs hosts n f =
    let x = scope_of fs hosts f in
    record { name = f.name.name; slots = length x.registers; entry = entry_lines x f.params; blocks = blocks_lines x n f.blocks }

abbrev pub functions_code : List Function → List HostEntry → ℕ → List Function → List TargetFunction
functions_code fs hosts n [] = []
functions_code fs hosts n (f ∷ more) = function_code fs hosts n f ∷ functions_code fs hosts (blocks_end n f.blocks) more

-- the target code of a program, whose calls of the host are of this table
abbrev pub translation : List HostEntry → Program → Target
translation hosts p = record { version = p.version; functions = functions_code p.functions hosts 0 p.functions }
