-- What of a program the grammar asks beyond its tokens' forms: what its parts may hold.
use Rattle.std.specs.Prelude.{◌≡◌, ℕ, ◌<◌, ◌≤◌, length, Option, Some, None, IfSome}
use Rattle.perm_table.specs.declared.RetagKind.{RetagKind}
use Rattle.perm_table.specs.declared.RetagKind.TheVariants.{Mut, Cell, Shr, Boxed, ShrCell}
use Rattle.ir_ast.specs.Tokens.{Each}
use Rattle.ir_ast.specs.declared.types.Width.TheVariants.{W8, W64}
use Rattle.ir_ast.specs.declared.types.Ty.{Ty}
use Rattle.ir_ast.specs.declared.types.Ty.TheVariants.{Int, Ptr}
use Rattle.ir_ast.specs.declared.types.Attr.{Attr}
use Rattle.ir_ast.specs.declared.types.ResultTy.{ResultTy}
use Rattle.ir_ast.specs.declared.program.Named.{Named}
use Rattle.ir_ast.specs.declared.program.Param.{Param}
use Rattle.ir_ast.specs.declared.program.Val.{Val}
use Rattle.ir_ast.specs.declared.program.Val.TheVariants.{Reg, Num}
use Rattle.ir_ast.specs.declared.program.TypedVal.{TypedVal}
use Rattle.ir_ast.specs.declared.program.Goal.{Goal}
use Rattle.ir_ast.specs.declared.program.Inst.{Inst}
use Rattle.ir_ast.specs.declared.program.Op.{Op}
use Rattle.ir_ast.specs.declared.program.Op.TheVariants as op
use Rattle.ir_ast.specs.declared.program.Jump.{Jump}
use Rattle.ir_ast.specs.declared.program.Jump.TheVariants.{Br, CondBr, Ret, Unreachable}
use Rattle.ir_ast.specs.declared.program.Block.{Block}
use Rattle.ir_ast.specs.declared.program.Function.{Function}
use Rattle.ir_ast.specs.declared.program.Program.{Program}

-- the versions of the language are 1 and 2
abbrev pub IsVersion : ℕ → Type 0
IsVersion version = (1 ≤ version) × (version ≤ 2)

-- a version has this kind of retag
abbrev pub HasKind : ℕ → RetagKind → Type 0
HasKind version Mut = Unit {0}
HasKind version Cell = Unit {0}
HasKind version Shr = Unit {0}
HasKind version Boxed = Unit {0}
HasKind version ShrCell = 2 ≤ version

-- a number only where the type is an integer's
abbrev pub IsVal : Ty → Val → Type 0
IsVal ty (Reg r) = Unit {0}
IsVal (Int width) (Num n) = Unit {0}
IsVal Ptr (Num n) = ⊥

abbrev pub IsTyped : TypedVal → Type 0
IsTyped v = IsVal v.ty v.val

abbrev pub IsGoal : Goal → Type 0
IsGoal g = Each IsTyped g.args

abbrev pub IsOp : ℕ → Op → Type 0
IsOp version (op.Const width value) = Unit {0}
IsOp version op.Null = Unit {0}
IsOp version (op.Make place size) = IsVal (Int W64) size
IsOp version (op.Gep ptr add) = IsVal (Int W64) add
IsOp version (op.Load ty ptr) = Unit {0}
IsOp version (op.Store ty val ptr) = IsVal ty val
IsOp version (op.Retag kind ptr size) = HasKind version kind
IsOp version (op.Binary o width a b) = IsVal (Int width) a × IsVal (Int width) b
IsOp version (op.Compare cond ty a b) = IsVal ty a × IsVal ty b
IsOp version (op.Select ty cond a b) = IsVal (Int W8) cond × IsVal ty a × IsVal ty b
IsOp version (op.Cast o from to val to_at) = IsVal (Int from) val
IsOp version (op.PtrToInt ptr) = Unit {0}
IsOp version (op.Input index) = IsVal (Int W64) index
IsOp version (op.Modify o width ptr val) = IsVal (Int width) val
IsOp version (op.CmpXchg width ptr expected val) = IsVal (Int width) expected × IsVal (Int width) val
IsOp version (op.Copy to from len) = IsVal (Int W64) len
IsOp version (op.Free ptr) = Unit {0}
IsOp version (op.Print width val) = IsVal (Int width) val
IsOp version (op.Call result function args) = Each IsTyped args
IsOp version (op.Host result host args) = Each IsTyped args
IsOp version (op.Spawn function args) = Each IsTyped args
IsOp version (op.Join result ty_at handle) = Unit {0}

-- a call or a join with a destination names a type
abbrev pub HasType : Option Ty → Type 0
HasType None = ⊥
HasType (Some ty) = Unit {0}

-- a register and `=` may come before the operation
abbrev pub Defines : Op → Type 0
Defines (op.Store ty val ptr) = ⊥
Defines (op.Copy to from len) = ⊥
Defines (op.Free ptr) = ⊥
Defines (op.Print width val) = ⊥
Defines (op.Call result function args) = HasType result
Defines (op.Join result ty_at handle) = HasType result
Defines _ = Unit {0}

-- the operation may stand alone
abbrev pub StandsAlone : Op → Type 0
StandsAlone (op.Store ty val ptr) = Unit {0}
StandsAlone (op.Copy to from len) = Unit {0}
StandsAlone (op.Free ptr) = Unit {0}
StandsAlone (op.Print width val) = Unit {0}
StandsAlone (op.Call result function args) = Unit {0}
StandsAlone (op.Join result ty_at handle) = Unit {0}
StandsAlone _ = ⊥

abbrev pub FitsDestination : Option Named → Op → Type 0
FitsDestination None o = StandsAlone o
FitsDestination (Some r) o = Defines o

abbrev pub IsInst : ℕ → Inst → Type 0
IsInst version i = FitsDestination i.dest i.op × IsOp version i.op

abbrev pub IsJump : Jump → Type 0
IsJump (Br goal) = IsGoal goal
IsJump (CondBr cond first second) = IsVal (Int W8) cond × IsGoal first × IsGoal second
IsJump (Ret val ty_at) = IfSome val IsTyped
IsJump Unreachable = Unit {0}

-- an attribute only at `ptr`
abbrev pub FitsAttr : ℕ → Option Ty → Option Attr → Type 0
FitsAttr version ty None = Unit {0}
FitsAttr version ty (Some attr) = (ty ≡ Some Ptr) × HasKind version attr.kind

abbrev pub IsParam : ℕ → Param → Type 0
IsParam version p = FitsAttr version (Some p.ty) p.attr

-- a block's parameter has no attribute
abbrev pub IsBlockParam : Param → Type 0
IsBlockParam p = p.attr ≡ None

abbrev pub IsResult : ℕ → ResultTy → Type 0
IsResult version r = FitsAttr version r.ty r.attr

pub record IsBlock (version : ℕ) (b : Block) : Type 0 where
  pub params : Each IsBlockParam b.params
  pub insts : Each (IsInst version) b.insts
  pub term : IsJump b.term.jump

pub record IsFunction (version : ℕ) (f : Function) : Type 0 where
  pub params : Each (IsParam version) f.params
  pub result : IsResult version f.result
  pub some_block : 0 < length f.blocks
  pub blocks : Each (IsBlock version) f.blocks

pub record IsShaped (p : Program) : Type 0 where
  pub version : IsVersion p.version
  pub some_function : 0 < length p.functions
  pub functions : Each (IsFunction p.version) p.functions
