-- Programs that differ in places alone.
use Rattle.std.specs.Prelude.{◌≡◌, map}
use Rattle.std.specs.Option.{option_map}
use Rattle.ir_ast.specs.declared.program.Named.{Named}
use Rattle.ir_ast.specs.declared.program.Param.{Param}
use Rattle.ir_ast.specs.declared.program.Val.{Val}
use Rattle.ir_ast.specs.declared.program.Val.TheVariants.{Reg, Num}
use Rattle.ir_ast.specs.declared.program.TypedVal.{TypedVal}
use Rattle.ir_ast.specs.declared.program.Goal.{Goal}
use Rattle.ir_ast.specs.declared.program.Inst.{Inst}
use Rattle.ir_ast.specs.declared.program.Op.{Op}
use Rattle.ir_ast.specs.declared.program.Op.TheVariants as op
use Rattle.ir_ast.specs.declared.program.Jump.{Jump}
use Rattle.ir_ast.specs.declared.program.Jump.TheVariants.{Br, CondBr, Ret, Unreachable}
use Rattle.ir_ast.specs.declared.program.Term.{Term}
use Rattle.ir_ast.specs.declared.program.Block.{Block}
use Rattle.ir_ast.specs.declared.program.Function.{Function}
use Rattle.ir_ast.specs.declared.program.Program.{Program}

abbrev pub named_without : Named → Named
named_without r = record { name = r.name; at = 0 }

abbrev pub val_without : Val → Val
val_without (Reg r) = Reg (named_without r)
val_without (Num n) = Num n

abbrev pub typed_without : TypedVal → TypedVal
typed_without v = record { ty = v.ty; val = val_without v.val }

abbrev pub goal_without : Goal → Goal
goal_without g = record { label = named_without g.label; args = map typed_without g.args }

abbrev pub param_without : Param → Param
param_without p = record { ty = p.ty; attr = p.attr; reg = named_without p.reg }

abbrev pub op_without : Op → Op
op_without (op.Const width value) = op.Const width value
op_without op.Null = op.Null
op_without (op.Make place size) = op.Make place (val_without size)
op_without (op.Gep ptr add) = op.Gep (named_without ptr) (val_without add)
op_without (op.Load ty ptr) = op.Load ty (named_without ptr)
op_without (op.Store ty val ptr) = op.Store ty (val_without val) (named_without ptr)
op_without (op.Retag kind ptr size) = op.Retag kind (named_without ptr) size
op_without (op.Binary o width a b) = op.Binary o width (val_without a) (val_without b)
op_without (op.Compare cond ty a b) = op.Compare cond ty (val_without a) (val_without b)
op_without (op.Select ty cond a b) = op.Select ty (val_without cond) (val_without a) (val_without b)
op_without (op.Cast o from to val to_at) = op.Cast o from to (val_without val) 0
op_without (op.PtrToInt ptr) = op.PtrToInt (named_without ptr)
op_without (op.Input index) = op.Input (val_without index)
op_without (op.Modify o width ptr val) = op.Modify o width (named_without ptr) (val_without val)
op_without (op.CmpXchg width ptr expected val) = op.CmpXchg width (named_without ptr) (val_without expected) (val_without val)
op_without (op.Copy to from len) = op.Copy (named_without to) (named_without from) (val_without len)
op_without (op.Free ptr) = op.Free (named_without ptr)
op_without (op.Print width val) = op.Print width (val_without val)
op_without (op.Call result function args) = op.Call result (named_without function) (map typed_without args)
op_without (op.Host result host args) = op.Host result (named_without host) (map typed_without args)
op_without (op.Spawn function args) = op.Spawn (named_without function) (map typed_without args)
op_without (op.Join result ty_at handle) = op.Join result 0 (named_without handle)

abbrev pub inst_without : Inst → Inst
inst_without i = record { dest = option_map named_without i.dest; at = 0; op = op_without i.op }

abbrev pub jump_without : Jump → Jump
jump_without (Br goal) = Br (goal_without goal)
jump_without (CondBr cond first second) = CondBr (val_without cond) (goal_without first) (goal_without second)
jump_without (Ret val ty_at) = Ret (option_map typed_without val) 0
jump_without Unreachable = Unreachable

abbrev pub term_without : Term → Term
term_without t = record { at = 0; jump = jump_without t.jump }

abbrev pub block_without : Block → Block
block_without b = record { label = named_without b.label; params = map param_without b.params; insts = map inst_without b.insts; term = term_without b.term }

abbrev pub function_without : Function → Function
function_without f = record { name = named_without f.name; params = map param_without f.params; result = f.result; blocks = map block_without f.blocks }

-- the program with 0 for each place and for its length
abbrev pub without_places : Program → Program
without_places p = record { version = p.version; functions = map function_without p.functions; «end» = 0 }

abbrev pub SameUpToPlaces : Program → Program → Type 0
SameUpToPlaces p q = without_places p ≡ without_places q
