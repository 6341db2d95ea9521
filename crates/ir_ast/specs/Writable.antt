-- What of a program can stand in a text: names that tokens can have, and numbers in the range of their places.
use Rattle.std.specs.Prelude.{◌≡◌, ℕ, ◌^◌, ◌<◌, true, List, [], ◌∷◌, length, Option, IfSome}
use Rattle.std.specs.List.{list_all}
use Rattle.bsan_ids.specs.Names.{is_start, is_name}
use Rattle.ir_ast.specs.Words.{modulus}
use Rattle.ir_ast.specs.Tokens.{Each}
use Rattle.ir_ast.specs.Grammar.{numbers_of}
use Rattle.ir_ast.specs.declared.types.Width.TheVariants.{W8, W64}
use Rattle.ir_ast.specs.declared.types.Ty.{Ty}
use Rattle.ir_ast.specs.declared.types.Ty.TheVariants.{Int}
use Rattle.ir_ast.specs.declared.types.Attr.{Attr}
use Rattle.ir_ast.specs.declared.program.Named.{Named}
use Rattle.ir_ast.specs.declared.program.Param.{Param}
use Rattle.ir_ast.specs.declared.program.Val.{Val}
use Rattle.ir_ast.specs.declared.program.Val.TheVariants.{Reg, Num}
use Rattle.ir_ast.specs.declared.program.TypedVal.{TypedVal}
use Rattle.ir_ast.specs.declared.program.Goal.{Goal}
use Rattle.ir_ast.specs.declared.program.Inst.{Inst}
use Rattle.ir_ast.specs.declared.program.Op.{Op}
use Rattle.ir_ast.specs.declared.program.Op.TheVariants as op
use Rattle.ir_ast.specs.declared.program.Jump.{Jump}
use Rattle.ir_ast.specs.declared.program.Jump.TheVariants.{Br, CondBr, Ret, Unreachable}
use Rattle.ir_ast.specs.declared.program.Block.{Block}
use Rattle.ir_ast.specs.declared.program.Function.{Function}
use Rattle.ir_ast.specs.declared.program.Program.{Program}

-- a letter or `_`, and then letters, digits, `_` and `.`
abbrev pub IsWord : List ℕ → Type 0
IsWord [] = ⊥
IsWord (b ∷ bs) = (is_start b ≡ true) × (list_all is_name bs ≡ true)

-- one or more letters, digits, `_` and `.`
abbrev pub IsName : List ℕ → Type 0
IsName name = (0 < length name) × (list_all is_name name ≡ true)

-- the name of a register or a function
abbrev pub HasName : Named → Type 0
HasName n = IsName n.name

-- the name of a block
abbrev pub HasLabel : Named → Type 0
HasLabel n = IsWord n.name

-- a register, or a number of the type
abbrev pub IsWritableVal : Ty → Val → Type 0
IsWritableVal ty (Reg r) = HasName r
IsWritableVal ty (Num n) = n < numbers_of ty

abbrev pub IsWritableTyped : TypedVal → Type 0
IsWritableTyped v = IsWritableVal v.ty v.val

abbrev pub IsWritableGoal : Goal → Type 0
IsWritableGoal g = HasLabel g.label × Each IsWritableTyped g.args

-- a number of bytes
abbrev pub IsSize : ℕ → Type 0
IsSize size = size < 2 ^ 32

abbrev pub IsWritableOp : Op → Type 0
IsWritableOp (op.Const width value) = value < modulus width
IsWritableOp op.Null = Unit {0}
IsWritableOp (op.Make place size) = IsWritableVal (Int W64) size
IsWritableOp (op.Gep ptr add) = HasName ptr × IsWritableVal (Int W64) add
IsWritableOp (op.Load ty ptr) = HasName ptr
IsWritableOp (op.Store ty val ptr) = IsWritableVal ty val × HasName ptr
IsWritableOp (op.Retag kind ptr size) = HasName ptr × IsSize size
IsWritableOp (op.Binary o width a b) = IsWritableVal (Int width) a × IsWritableVal (Int width) b
IsWritableOp (op.Compare cond ty a b) = IsWritableVal ty a × IsWritableVal ty b
IsWritableOp (op.Select ty cond a b) = IsWritableVal (Int W8) cond × IsWritableVal ty a × IsWritableVal ty b
IsWritableOp (op.Cast o from to val to_at) = IsWritableVal (Int from) val
IsWritableOp (op.PtrToInt ptr) = HasName ptr
IsWritableOp (op.Input index) = IsWritableVal (Int W64) index
IsWritableOp (op.Modify o width ptr val) = HasName ptr × IsWritableVal (Int width) val
IsWritableOp (op.CmpXchg width ptr expected val) = HasName ptr × IsWritableVal (Int width) expected × IsWritableVal (Int width) val
IsWritableOp (op.Copy to from len) = HasName to × HasName from × IsWritableVal (Int W64) len
IsWritableOp (op.Free ptr) = HasName ptr
IsWritableOp (op.Print width val) = IsWritableVal (Int width) val
IsWritableOp (op.Call result function args) = HasName function × Each IsWritableTyped args
IsWritableOp (op.Host result host args) = HasName host × Each IsWritableTyped args
IsWritableOp (op.Spawn function args) = HasName function × Each IsWritableTyped args
IsWritableOp (op.Join result ty_at handle) = HasName handle

abbrev pub IsWritableInst : Inst → Type 0
IsWritableInst i = IfSome i.dest HasName × IsWritableOp i.op

abbrev pub IsWritableJump : Jump → Type 0
IsWritableJump (Br goal) = IsWritableGoal goal
IsWritableJump (CondBr cond first second) = IsWritableVal (Int W8) cond × IsWritableGoal first × IsWritableGoal second
IsWritableJump (Ret val ty_at) = IfSome val IsWritableTyped
IsWritableJump Unreachable = Unit {0}

abbrev pub IsWritableAttr : Option Attr → Type 0
IsWritableAttr attr = IfSome attr (λ a. IsSize a.size)

abbrev pub IsWritableParam : Param → Type 0
IsWritableParam p = IsWritableAttr p.attr × HasName p.reg

pub record IsWritableBlock (b : Block) : Type 0 where
  pub label : HasLabel b.label
  pub params : Each IsWritableParam b.params
  pub insts : Each IsWritableInst b.insts
  pub term : IsWritableJump b.term.jump

pub record IsWritableFunction (f : Function) : Type 0 where
  pub name : HasName f.name
  pub params : Each IsWritableParam f.params
  pub result : IsWritableAttr f.result.attr
  pub blocks : Each IsWritableBlock f.blocks

-- each name is one that a token can have, and each number is in the range of its place
abbrev pub IsWritable : Program → Type 0
IsWritable p = Each IsWritableFunction p.functions
