-- Where registers are defined and used, in the order of the text.
use Rattle.std.specs.Prelude.{ℕ, List, [], ◌∷◌, ◌++◌, map, Option, Some, None}
use Rattle.std.specs.List.{flat_map}
use Rattle.ir_ast.specs.declared.program.Named.{Named}
use Rattle.ir_ast.specs.declared.program.Param.{Param}
use Rattle.ir_ast.specs.declared.program.Val.{Val}
use Rattle.ir_ast.specs.declared.program.Val.TheVariants.{Reg, Num}
use Rattle.ir_ast.specs.declared.types.Ty.{Ty}
use Rattle.ir_ast.specs.declared.types.Ty.TheVariants.{Int, Ptr}
use Rattle.ir_ast.specs.declared.types.Width.TheVariants.{W8, W64}
use Rattle.ir_ast.specs.declared.program.TypedVal.{TypedVal}
use Rattle.ir_ast.specs.declared.program.Goal.{Goal}
use Rattle.ir_rules.specs.declared.rule.Wanted.{Wanted}
use Rattle.ir_rules.specs.declared.rule.Wanted.TheVariants.{AValue, AHandle}
use Rattle.ir_ast.specs.declared.program.Inst.{Inst}
use Rattle.ir_ast.specs.declared.program.Block.{Block}
use Rattle.ir_ast.specs.declared.program.Function.{Function}
use Rattle.ir_ast.specs.declared.program.Op.{Op}
use Rattle.ir_ast.specs.declared.program.Op.TheVariants.{Const, Null, Make, Gep, Load, Store, Retag, Binary, Compare, Select, Cast, PtrToInt, Input, Modify, CmpXchg, Copy, Free, Print, Call, Host, Spawn, Join}
use Rattle.ir_ast.specs.declared.program.Jump.{Jump}
use Rattle.ir_ast.specs.declared.program.Jump.TheVariants.{Br, CondBr, Ret, Unreachable}

-- what a register holds: a value of a type, or the handle of a thread that runs this function
pub data Holds : Type 0 where
  value : Ty → Holds
  handle : List ℕ → Holds

pub record Use : Type 0 where
  pub reg : Named
  pub wanted : Wanted

abbrev pub use_at : Ty → Named → List Use
use_at ty r = record { reg = r; wanted = AValue ty } ∷ []

abbrev pub val_uses : Ty → Val → List Use
val_uses ty (Reg r) = use_at ty r
val_uses ty (Num n) = []

abbrev pub typed_uses : TypedVal → List Use
typed_uses v = val_uses v.ty v.val

abbrev pub op_uses : Op → List Use
op_uses (Const w n) = []
op_uses Null = []
op_uses (Make place size) = val_uses (Int W64) size
op_uses (Gep p n) = use_at Ptr p ++ val_uses (Int W64) n
op_uses (Load ty p) = use_at Ptr p
op_uses (Store ty v p) = val_uses ty v ++ use_at Ptr p
op_uses (Retag kind p size) = use_at Ptr p
op_uses (Binary op w a b) = val_uses (Int w) a ++ val_uses (Int w) b
op_uses (Compare c ty a b) = val_uses ty a ++ val_uses ty b
op_uses (Select ty c a b) = val_uses (Int W8) c ++ val_uses ty a ++ val_uses ty b
op_uses (Cast op from to v at) = val_uses (Int from) v
op_uses (PtrToInt p) = use_at Ptr p
op_uses (Input n) = val_uses (Int W64) n
op_uses (Modify op w p v) = use_at Ptr p ++ val_uses (Int w) v
op_uses (CmpXchg w p e v) = use_at Ptr p ++ val_uses (Int w) e ++ val_uses (Int w) v
op_uses (Copy to from n) = use_at Ptr to ++ use_at Ptr from ++ val_uses (Int W64) n
op_uses (Free p) = use_at Ptr p
op_uses (Print w v) = val_uses (Int w) v
op_uses (Call result f args) = flat_map typed_uses args
op_uses (Host result h args) = flat_map typed_uses args
op_uses (Spawn f args) = flat_map typed_uses args
op_uses (Join result at h) = record { reg = h; wanted = AHandle } ∷ []

abbrev pub or_none : Option Ty → Option Holds
or_none None = None
or_none (Some ty) = Some (value ty)

-- what the instruction's register holds
abbrev pub op_gives : Op → Option Holds
op_gives (Const w n) = Some (value (Int w))
op_gives Null = Some (value Ptr)
op_gives (Make place size) = Some (value Ptr)
op_gives (Gep p n) = Some (value Ptr)
op_gives (Load ty p) = Some (value ty)
op_gives (Store ty v p) = None
op_gives (Retag kind p size) = Some (value Ptr)
op_gives (Binary op w a b) = Some (value (Int w))
op_gives (Compare c ty a b) = Some (value (Int W8))
op_gives (Select ty c a b) = Some (value ty)
op_gives (Cast op from to v at) = Some (value (Int to))
op_gives (PtrToInt p) = Some (value (Int W64))
op_gives (Input n) = Some (value (Int W64))
op_gives (Modify op w p v) = Some (value (Int w))
op_gives (CmpXchg w p e v) = Some (value (Int w))
op_gives (Copy to from n) = None
op_gives (Free p) = None
op_gives (Print w v) = None
op_gives (Call result f args) = or_none result
op_gives (Host result h args) = Some (value result)
op_gives (Spawn f args) = Some (handle f.name)
op_gives (Join result at h) = or_none result

abbrev pub goal_uses : Goal → List Use
goal_uses g = flat_map typed_uses g.args

abbrev pub maybe_uses : Option TypedVal → List Use
maybe_uses None = []
maybe_uses (Some v) = typed_uses v

abbrev pub jump_uses : Jump → List Use
jump_uses (Br g) = goal_uses g
jump_uses (CondBr c y n) = val_uses (Int W8) c ++ goal_uses y ++ goal_uses n
jump_uses (Ret v at) = maybe_uses v
jump_uses Unreachable = []

abbrev pub jump_goals : Jump → List Goal
jump_goals (Br g) = g ∷ []
jump_goals (CondBr c y n) = y ∷ n ∷ []
jump_goals (Ret v at) = []
jump_goals Unreachable = []

-- ---- a block is a list of these, in the order of the text

pub data Event : Type 0 where
  defines : Named → Holds → Event
  uses : Use → Event

abbrev pub param_event : Param → Event
param_event p = defines p.reg (value p.ty)

abbrev pub dest_events : Option Named → Option Holds → List Event
dest_events None h = []
dest_events (Some r) None = []
dest_events (Some r) (Some h) = defines r h ∷ []

-- an instruction's operands are used before its register is defined
abbrev pub inst_events : Inst → List Event
inst_events i = map uses (op_uses i.op) ++ dest_events i.dest (op_gives i.op)

abbrev pub block_events : Block → List Event
block_events b = map param_event b.params ++ flat_map inst_events b.insts ++ map uses (jump_uses b.term.jump)

-- the function's parameters stand before the first block's own events
abbrev pub function_events : Function → List Event
function_events f = map param_event f.params ++ flat_map block_events f.blocks
