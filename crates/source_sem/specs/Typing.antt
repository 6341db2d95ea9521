-- What an accepted program says of the types of its registers: each instruction's operands and its destination, each goal's arguments, each return.
use Rattle.std.specs.Prelude.{◌≡◌, ℕ, ◌<◌, ◌^◌, List, Option, Some, None, slice_get}
use Rattle.ir_ast.specs.Tokens.{Each}
use Rattle.ir_ast.specs.declared.program.Block.{Block}
use Rattle.ir_ast.specs.declared.program.Function.{Function}
use Rattle.ir_ast.specs.declared.program.Goal.{Goal}
use Rattle.ir_ast.specs.declared.program.Inst.{Inst}
use Rattle.ir_ast.specs.declared.program.Jump.{Jump}
use Rattle.ir_ast.specs.declared.program.Jump.TheVariants as jump
use Rattle.ir_ast.specs.declared.program.Named.{Named}
use Rattle.ir_ast.specs.declared.program.Op.{Op}
use Rattle.ir_ast.specs.declared.program.Op.TheVariants as op
use Rattle.ir_ast.specs.declared.program.Param.{Param}
use Rattle.ir_ast.specs.declared.program.Program.{Program}
use Rattle.ir_ast.specs.declared.program.TypedVal.{TypedVal}
use Rattle.ir_ast.specs.declared.program.Val.{Val}
use Rattle.ir_ast.specs.declared.program.Val.TheVariants.{Reg, Num}
use Rattle.ir_ast.specs.declared.types.Ty.{Ty}
use Rattle.ir_ast.specs.declared.types.Ty.TheVariants.{Int, Ptr}
use Rattle.ir_ast.specs.declared.types.Width.TheVariants.{W8}
use Rattle.ir_ast.specs.Shapes.{IsParam}
use Rattle.ir_rules.specs.Occurrences.{Holds, op_gives, function_events}
use Rattle.ir_rules.specs.Occurrences.Holds.{value, handle}
use Rattle.ir_rules.specs.Rules.{held, param_types, arg_types, ret_type}
use Rattle.ir_ast.specs.Words.{bits, word_bits}
use Rattle.ir_ast.specs.Numbers.{function_place, block_place}

-- the type of a register is that of its first definition
abbrev pub HasType : Function → List ℕ → Ty → Type 0
HasType g r ty = held (function_events g) r ≡ Some (value ty)

-- the destination's first definition is this one
abbrev pub DestHolds : Function → Option Named → Option Holds → Type 0
DestHolds g dest h = (n : Named) → dest ≡ Some n → held (function_events g) n.name ≡ h

-- a register of the type, or a number of it
abbrev pub OperandTyped : Function → Ty → Val → Type 0
OperandTyped g ty (Reg r) = HasType g r.name ty
OperandTyped g (Int w) (Num n) = n < 2 ^ bits w
OperandTyped g Ptr (Num n) = ⊥

abbrev pub ArgTyped : Function → TypedVal → Type 0
ArgTyped g v = OperandTyped g v.ty v.val

abbrev pub ParamTyped : Function → Param → Type 0
ParamTyped g p = HasType g p.reg.name p.ty

-- the name is that of a function with these parameters
abbrev pub Callee : Program → Named → List TypedVal → Function → Type 0
Callee p name args f = (slice_get p.functions (function_place p.functions name.name) ≡ Some f) × (param_types f.params ≡ arg_types args)

-- where an operation's value depends on the types of what it reads
abbrev pub OpTyped : Program → Function → Op → Type 0
OpTyped p g (op.Retag kind r n) = HasType g r.name Ptr
OpTyped p g (op.Select ty c a b) = OperandTyped g (Int W8) c × OperandTyped g ty a × OperandTyped g ty b
OpTyped p g (op.PtrToInt r) = HasType g r.name Ptr
OpTyped p g (op.Call ty name args) = Each (ArgTyped g) args × ((f : Function) × Callee p name args f × (f.result.ty ≡ ty))
OpTyped p g (op.Host ty name args) = Each (ArgTyped g) args × (word_bits ty ≡ 64)
OpTyped p g (op.Spawn name args) = Each (ArgTyped g) args × ((f : Function) × Callee p name args f)
OpTyped p g (op.Join ty at r) =
    (name : List ℕ) × (held (function_events g) r.name ≡ Some (handle name)) × ((f : Function) → slice_get p.functions (function_place p.functions name) ≡ Some f → f.result.ty ≡ ty)
OpTyped p g other = Unit {0}

pub record InstTyped (p : Program) (g : Function) (i : Inst) : Type 0 where
  pub operands : OpTyped p g i.op
  pub dest : DestHolds g i.dest (op_gives i.op)

abbrev pub GoalTyped : Function → Goal → Type 0
GoalTyped g goal =
    Each (ArgTyped g) goal.args × ((b : Block) → slice_get g.blocks (block_place g.blocks goal.label.name) ≡ Some b → param_types b.params ≡ arg_types goal.args)

abbrev pub RetTyped : Function → Option TypedVal → Type 0
RetTyped g None = Unit {0}
RetTyped g (Some v) = ArgTyped g v

abbrev pub JumpTyped : Function → Jump → Type 0
JumpTyped g (jump.Br goal) = GoalTyped g goal
JumpTyped g (jump.CondBr v first second) = GoalTyped g first × GoalTyped g second
JumpTyped g (jump.Ret v at) = RetTyped g v × (ret_type v ≡ g.result.ty)
JumpTyped g jump.Unreachable = Unit {0}

pub record BlockTyped (p : Program) (g : Function) (b : Block) : Type 0 where
  pub params : Each (ParamTyped g) b.params
  pub insts : Each (InstTyped p g) b.insts
  pub term : JumpTyped g b.term.jump

pub record FunctionTyped (p : Program) (g : Function) : Type 0 where
  pub params : Each (ParamTyped g) g.params
  pub attributes : Each (IsParam p.version) g.params
  pub blocks : Each (BlockTyped p g) g.blocks

abbrev pub ProgramTyped : Program → Type 0
ProgramTyped p = Each (FunctionTyped p) p.functions
