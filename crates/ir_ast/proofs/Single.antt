-- That a program is one that the grammar can give has one proof at most.
use Rattle.std.proofs.Common.{ℕ, ◌<◌, ◌≤◌, List, [], ◌∷◌, length, Option, Some, None}
use Rattle.std.specs.Prelude.{IfSome}
use Rattle.std.proofs.Props.{props}
use Rattle.std.specs.Coded.{×_prop, Unit-prop}
use mathlib.Core.Sum.{⊎_set}
use Rattle.perm_table.specs.declared.RetagKind.{RetagKind}
use Rattle.perm_table.specs.declared.RetagKind.TheVariants.{Mut, Cell, Shr, Boxed, ShrCell}
use Rattle.ir_ast.specs.Tokens.{Form, Asked, Each, Limit}
use Rattle.ir_ast.specs.Tokens.Form.{word, local, global}
use Rattle.ir_ast.specs.Lines.{spell}
use Rattle.ir_ast.specs.Shapes.{HasKind, IsVal, IsTyped, IsGoal, IsOp, HasType, Defines, StandsAlone, FitsDestination, IsInst, IsJump, FitsAttr, IsParam, IsBlockParam, IsBlock, IsFunction, IsShaped}
use Rattle.ir_ast.specs.Programs.{IsPossible, CanStand, IsProgram}
use Rattle.ir_ast.specs.Writable.{IsWord, IsName}
use Rattle.ir_ast.specs.declared.types.Width.TheVariants.{W64}
use Rattle.ir_ast.specs.declared.types.Ty.{Ty}
use Rattle.ir_ast.specs.declared.types.Ty.TheVariants.{Int, Ptr}
use Rattle.ir_ast.specs.declared.types.Attr.{Attr}
use Rattle.ir_ast.specs.declared.program.Named.{Named}
use Rattle.ir_ast.specs.declared.program.Val.{Val}
use Rattle.ir_ast.specs.declared.program.Val.TheVariants.{Reg, Num}
use Rattle.ir_ast.specs.declared.program.TypedVal.{TypedVal}
use Rattle.ir_ast.specs.declared.program.Goal.{Goal}
use Rattle.ir_ast.specs.declared.program.Inst.{Inst}
use Rattle.ir_ast.specs.declared.program.Op.{Op}
use Rattle.ir_ast.specs.declared.program.Op.TheVariants as op
use Rattle.ir_ast.specs.declared.program.Jump.{Jump}
use Rattle.ir_ast.specs.declared.program.Jump.TheVariants.{Br, CondBr, Ret, Unreachable}
use Rattle.ir_ast.specs.declared.program.Block.{Block}
use Rattle.ir_ast.specs.declared.program.Function.{Function}
use Rattle.ir_ast.specs.declared.program.Program.{Program}

pub each_prop : {A : Type 0} (P : A → Type 0) → ((x : A) → IsProp (P x)) → (xs : List A) → IsProp (Each P xs)
each_prop P f [] = Unit-prop
each_prop P f (x ∷ xs) = ×_prop (f x) (each_prop P f xs)

none_prop : IsProp ⊥
none_prop h k = absurd h

ty_set : IsSet (Option Ty)
ty_set = hlevel (⊎_set, props)

attr_set : IsSet (Option Attr)
attr_set = hlevel (⊎_set, props)

fault_set : IsSet (Option Limit)
fault_set = hlevel (⊎_set, props)

less_prop : (n m : ℕ) → IsProp (n < m)
less_prop n m = hlevel props

-- ---- shapes

val_prop : (ty : Ty) (v : Val) → IsProp (IsVal ty v)
val_prop ty (Reg r) = Unit-prop
val_prop (Int width) (Num n) = Unit-prop
val_prop Ptr (Num n) = none_prop

typed_prop : (v : TypedVal) → IsProp (IsTyped v)
typed_prop v = val_prop v.ty v.val

goal_prop : (g : Goal) → IsProp (IsGoal g)
goal_prop g = each_prop IsTyped typed_prop g.args

le_prop : (n m : ℕ) → IsProp (n ≤ m)
le_prop n m = hlevel props

kind_prop : (version : ℕ) (kind : RetagKind) → IsProp (HasKind version kind)
kind_prop version Mut = Unit-prop
kind_prop version Cell = Unit-prop
kind_prop version Shr = Unit-prop
kind_prop version Boxed = Unit-prop
kind_prop version ShrCell = le_prop 2 version

op_prop : (version : ℕ) (o : Op) → IsProp (IsOp version o)
op_prop version (op.Retag kind ptr size) = kind_prop version kind
op_prop version (op.Make place size) = val_prop (Int W64) size
op_prop version (op.Gep ptr add) = val_prop (Int W64) add
op_prop version (op.Store ty val ptr) = val_prop ty val
op_prop version (op.Binary o width a b) = ×_prop (val_prop (Int width) a) (val_prop (Int width) b)
op_prop version (op.Compare cond ty a b) = ×_prop (val_prop ty a) (val_prop ty b)
op_prop version (op.Select ty cond a b) = hlevel (val_prop, props)
op_prop version (op.Cast o from to val to_at) = val_prop (Int from) val
op_prop version (op.Input index) = val_prop (Int W64) index
op_prop version (op.Modify o width ptr val) = val_prop (Int width) val
op_prop version (op.CmpXchg width ptr expected val) = ×_prop (val_prop (Int width) expected) (val_prop (Int width) val)
op_prop version (op.Copy to from len) = val_prop (Int W64) len
op_prop version (op.Print width val) = val_prop (Int width) val
op_prop version (op.Call result function args) = each_prop IsTyped typed_prop args
op_prop version (op.Host result host args) = each_prop IsTyped typed_prop args
op_prop version (op.Spawn function args) = each_prop IsTyped typed_prop args
op_prop version _ = Unit-prop

type_prop : (ty : Option Ty) → IsProp (HasType ty)
type_prop None = none_prop
type_prop (Some ty) = Unit-prop

defines_prop : (o : Op) → IsProp (Defines o)
defines_prop (op.Store ty val ptr) = none_prop
defines_prop (op.Copy to from len) = none_prop
defines_prop (op.Free ptr) = none_prop
defines_prop (op.Print width val) = none_prop
defines_prop (op.Call result function args) = type_prop result
defines_prop (op.Join result ty_at handle) = type_prop result
defines_prop _ = Unit-prop

alone_prop : (o : Op) → IsProp (StandsAlone o)
alone_prop (op.Store ty val ptr) = Unit-prop
alone_prop (op.Copy to from len) = Unit-prop
alone_prop (op.Free ptr) = Unit-prop
alone_prop (op.Print width val) = Unit-prop
alone_prop (op.Call result function args) = Unit-prop
alone_prop (op.Join result ty_at handle) = Unit-prop
alone_prop _ = none_prop

destination_prop : (d : Option Named) (o : Op) → IsProp (FitsDestination d o)
destination_prop None o = alone_prop o
destination_prop (Some r) o = defines_prop o

inst_prop : (version : ℕ) (i : Inst) → IsProp (IsInst version i)
inst_prop version i = ×_prop (destination_prop i.dest i.op) (op_prop version i.op)

returned_prop : (v : Option TypedVal) → IsProp (IfSome v IsTyped)
returned_prop None = Unit-prop
returned_prop (Some v) = typed_prop v

jump_prop : (j : Jump) → IsProp (IsJump j)
jump_prop (Br goal) = goal_prop goal
jump_prop (CondBr cond first second) = hlevel (val_prop, goal_prop, props)
jump_prop (Ret val ty_at) = returned_prop val
jump_prop Unreachable = Unit-prop

attr_prop : (version : ℕ) (ty : Option Ty) (attr : Option Attr) → IsProp (FitsAttr version ty attr)
attr_prop version ty None = Unit-prop
attr_prop version ty (Some attr) = ×_prop (ty_set ty (Some Ptr)) (kind_prop version attr.kind)

block_prop : (version : ℕ) (b : Block) → IsProp (IsBlock version b)
block_prop version b p q = λ i. record {
  params = each_prop IsBlockParam (λ x. attr_set x.attr None) b.params p.params q.params i;
  insts = each_prop (IsInst version) (inst_prop version) b.insts p.insts q.insts i;
  term = jump_prop b.term.jump p.term q.term i;
}

function_prop : (version : ℕ) (f : Function) → IsProp (IsFunction version f)
function_prop version f p q = λ i. record {
  params = each_prop (IsParam version) (λ x. attr_prop version (Some x.ty) x.attr) f.params p.params q.params i;
  result = attr_prop version f.result.ty f.result.attr p.result q.result i;
  some_block = less_prop 0 (length f.blocks) p.some_block q.some_block i;
  blocks = each_prop (IsBlock version) (block_prop version) f.blocks p.blocks q.blocks i;
}

shaped_prop : (p : Program) → IsProp (IsShaped p)
shaped_prop p a b = λ i. record {
  version = ×_prop (le_prop 1 p.version) (le_prop p.version 2) a.version b.version i;
  some_function = less_prop 0 (length p.functions) a.some_function b.some_function i;
  functions = each_prop (IsFunction p.version) (function_prop p.version) p.functions a.functions b.functions i;
}

-- ---- tokens

word_prop : (w : List ℕ) → IsProp (IsWord w)
word_prop [] = none_prop
word_prop (b ∷ bs) = hlevel props

name_prop : (w : List ℕ) → IsProp (IsName w)
name_prop w = hlevel props

possible_prop : (f : Form) → IsProp (IsPossible f)
possible_prop (word text) = word_prop text
possible_prop (local name) = name_prop name
possible_prop (global name) = name_prop name
possible_prop _ = Unit-prop

stand_prop : (a : Asked) → IsProp (CanStand a)
stand_prop a = ×_prop (possible_prop a.form) (fault_set a.fault None)

pub program_prop : (p : Program) → IsProp (IsProgram p)
program_prop p a b = λ i. record {
  shaped = shaped_prop p a.shaped b.shaped i;
  spelled = each_prop CanStand stand_prop (spell p) a.spelled b.spelled i;
}
