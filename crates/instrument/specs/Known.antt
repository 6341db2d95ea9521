-- Programs of which each name that is used is defined. The definitions of the crates above cite these facts of frames.
use Rattle.std.specs.Prelude.{◌<◌, List, length, IfSome}
use Rattle.ir_ast.specs.Tokens.{Each}
use Rattle.ir_ast.specs.Shapes.{FitsDestination}
use Rattle.ir_ast.specs.declared.hosts.HostEntry.{HostEntry}
use Rattle.ir_ast.specs.declared.program.Named.{Named}
use Rattle.ir_ast.specs.declared.program.Param.{Param}
use Rattle.ir_ast.specs.declared.program.Val.{Val}
use Rattle.ir_ast.specs.declared.program.Val.TheVariants.{Reg, Num}
use Rattle.ir_ast.specs.declared.program.TypedVal.{TypedVal}
use Rattle.ir_ast.specs.declared.program.Goal.{Goal}
use Rattle.ir_ast.specs.declared.program.Op.{Op}
use Rattle.ir_ast.specs.declared.program.Op.TheVariants as op
use Rattle.ir_ast.specs.declared.program.Inst.{Inst}
use Rattle.ir_ast.specs.declared.program.Jump.{Jump}
use Rattle.ir_ast.specs.declared.program.Jump.TheVariants.{Br, CondBr, Ret, Unreachable}
use Rattle.ir_ast.specs.declared.program.Block.{Block}
use Rattle.ir_ast.specs.declared.program.Function.{Function}
use Rattle.ir_ast.specs.declared.program.Program.{Program}
use Rattle.instrument.specs.Translation.{Scope, slot, function_number, block_number, scope_of}

abbrev pub HasRegister : Scope → Named → Type 0
HasRegister x r = slot x r < length x.registers

abbrev pub HasVal : Scope → Val → Type 0
HasVal x (Reg r) = HasRegister x r
HasVal x (Num n) = Unit {0}

abbrev pub HasVals : Scope → List TypedVal → Type 0
HasVals x vs = Each (λ v. HasVal x v.val) vs

abbrev pub HasParams : Scope → List Param → Type 0
HasParams x ps = Each (λ p. HasRegister x p.reg) ps

abbrev pub HasFunction : Scope → Named → Type 0
HasFunction x f = function_number x f < length x.functions

abbrev pub HasGoal : Scope → Goal → Type 0
HasGoal x g = (block_number x g.label < length x.blocks) × HasVals x g.args

-- what an operation uses is there
abbrev pub HasOp : Scope → Op → Type 0
HasOp x (op.Const width value) = Unit {0}
HasOp x op.Null = Unit {0}
HasOp x (op.Make place size) = HasVal x size
HasOp x (op.Gep ptr add) = HasRegister x ptr × HasVal x add
HasOp x (op.Load ty ptr) = HasRegister x ptr
HasOp x (op.Store ty val ptr) = HasRegister x ptr × HasVal x val
HasOp x (op.Retag kind ptr size) = HasRegister x ptr
HasOp x (op.Binary o width a b) = HasVal x a × HasVal x b
HasOp x (op.Compare cond ty a b) = HasVal x a × HasVal x b
HasOp x (op.Select ty cond a b) = HasVal x cond × HasVal x a × HasVal x b
HasOp x (op.Cast o from to val to_at) = HasVal x val
HasOp x (op.PtrToInt ptr) = HasRegister x ptr
HasOp x (op.Input index) = HasVal x index
HasOp x (op.Modify o width ptr val) = HasRegister x ptr × HasVal x val
HasOp x (op.CmpXchg width ptr expected val) = HasRegister x ptr × HasVal x expected × HasVal x val
HasOp x (op.Copy to from len) = HasRegister x to × HasRegister x from × HasVal x len
HasOp x (op.Free ptr) = HasRegister x ptr
HasOp x (op.Print width val) = HasVal x val
HasOp x (op.Call result function args) = HasFunction x function × HasVals x args
HasOp x (op.Host result host args) = HasVals x args
HasOp x (op.Spawn function args) = HasFunction x function × HasVals x args
HasOp x (op.Join result ty_at handle) = HasRegister x handle

-- an instruction with a destination where it may have one, of which all that it uses and defines is there
pub record HasInst (x : Scope) (i : Inst) : Type 0 where
  pub fits : FitsDestination i.dest i.op
  pub dest : IfSome i.dest (HasRegister x)
  pub uses : HasOp x i.op

abbrev pub HasJump : Scope → Jump → Type 0
HasJump x (Br goal) = HasGoal x goal
HasJump x (CondBr cond first second) = HasVal x cond × HasGoal x first × HasGoal x second
HasJump x (Ret val ty_at) = IfSome val (λ v. HasVal x v.val)
HasJump x Unreachable = Unit {0}

pub record HasBlock (x : Scope) (b : Block) : Type 0 where
  pub params : HasParams x b.params
  pub insts : Each (HasInst x) b.insts
  pub jump : HasJump x b.term.jump

pub record IsKnown (x : Scope) (f : Function) : Type 0 where
  pub some_block : 0 < length f.blocks
  pub params : HasParams x f.params
  pub blocks : Each (HasBlock x) f.blocks

-- all names that a program uses are defined
abbrev pub AllKnown : List HostEntry → Program → Type 0
AllKnown hosts p = Each (λ f. IsKnown (scope_of p.functions hosts f) f) p.functions
