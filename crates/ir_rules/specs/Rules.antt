-- When each rule is broken, and where; and the first broken rule.
use Rattle.std.specs.Prelude.{◌≡◌, ◌≢◌, ℕ, ◌<◌, List, [], ◌∷◌, ◌++◌, length, map, Option, Some, None, if◌then◌else◌, Contains}
use Rattle.std.specs.List.{flat_map, count_by}
use Rattle.std.specs.Str.{bytes_eq}
use Rattle.std.specs.Prelude.{codes}
use Rattle.ir_ast.specs.Tokens.{Each}
use Rattle.ir_ast.specs.Words.{bits}
use Rattle.ir_ast.specs.declared.program.Named.{Named}
use Rattle.ir_ast.specs.declared.program.Param.{Param}
use Rattle.ir_ast.specs.declared.types.Ty.{Ty}
use Rattle.ir_ast.specs.declared.types.Ty.TheVariants.{Int, Ptr}
use Rattle.ir_ast.specs.declared.types.Width.{Width}
use Rattle.ir_ast.specs.declared.types.Width.TheVariants.{W64}
use Rattle.ir_ast.specs.declared.program.TypedVal.{TypedVal}
use Rattle.ir_ast.specs.declared.program.Goal.{Goal}
use Rattle.ir_ast.specs.declared.program.Block.{Block}
use Rattle.ir_ast.specs.declared.program.Function.{Function}
use Rattle.ir_ast.specs.declared.program.Program.{Program}
use Rattle.ir_ast.specs.declared.program.Op.{Op}
use Rattle.ir_ast.specs.declared.program.Op.TheVariants.{Call, Host, Spawn, Join, Cast}
use Rattle.ir_ast.specs.declared.operators.CastOp.{CastOp}
use Rattle.ir_ast.specs.declared.operators.CastOp.TheVariants.{Zext, Sext, Trunc}
use Rattle.ir_ast.specs.declared.program.Jump.{Jump}
use Rattle.ir_ast.specs.declared.program.Jump.TheVariants.{Ret}
use Rattle.ir_rules.specs.declared.rule.Rule.{Rule}
use Rattle.ir_rules.specs.declared.rule.Rule.TheVariants.{Unknown, Twice, TypeClash, Unassigned, BadTarget, BadCall, HandleUse, NoMain}
use Rattle.ir_rules.specs.declared.rule.Wanted.{Wanted}
use Rattle.ir_rules.specs.declared.rule.Wanted.TheVariants.{AValue, AHandle}
use Rattle.ir_rules.specs.declared.rule.Fault.{Fault}
use Rattle.ir_ast.specs.declared.hosts.HostTable.{HostTable}
use Rattle.ir_ast.specs.declared.hosts.HostEntry.{HostEntry}
use Rattle.ir_rules.specs.Occurrences.{Holds, Use, Event, jump_goals, function_events}
use Rattle.ir_rules.specs.Occurrences.Holds.{value, handle}
use Rattle.ir_rules.specs.Occurrences.Event.{defines, uses}
use Rattle.ir_rules.specs.Paths.{IsUnassigned, first_named}
use Rattle.ir_rules.specs.Least.{fault, IsLeast}

-- what the first definition of the register holds
abbrev pub held : List Event → List ℕ → Option Holds
held [] r = None
held (defines d h ∷ es) r = if bytes_eq r d.name then Some h else held es r
held (uses u ∷ es) r = held es r

abbrev pub function_named : List Function → List ℕ → Option Function
function_named = first_named (λ f. f.name.name)

abbrev pub host_named : List HostEntry → List ℕ → Option HostEntry
host_named = first_named (λ e. e.name)

abbrev pub block_named : List Block → List ℕ → Option Block
block_named = first_named (λ b. b.label.name)

abbrev pub used : List Event → List Use
used [] = []
used (defines d h ∷ es) = used es
used (uses u ∷ es) = u ∷ used es

abbrev pub defined : List Event → List Named
defined [] = []
defined (defines d h ∷ es) = d ∷ defined es
defined (uses u ∷ es) = defined es

abbrev pub function_ops : Function → List Op
function_ops f = flat_map (λ b. map (λ i. i.op) b.insts) f.blocks

abbrev pub param_types : List Param → List Ty
param_types = map (λ p. p.ty)

abbrev pub arg_types : List TypedVal → List Ty
arg_types = map (λ v. v.ty)

-- ---- each rule

-- a register's use that doesn't fit what the register holds
abbrev pub UseBreaks : Rule → Option Holds → Wanted → Type 0
UseBreaks Unknown None w = Unit {0}
UseBreaks TypeClash (Some (value t)) (AValue u) = t ≢ u
UseBreaks HandleUse (Some (handle f)) (AValue u) = Unit {0}
UseBreaks HandleUse (Some (value t)) AHandle = Unit {0}
UseBreaks rule holds w = ⊥

abbrev pub IsConversion : CastOp → Width → Width → Type 0
IsConversion Zext from to = bits from < bits to
IsConversion Sext from to = bits from < bits to
IsConversion Trunc from to = bits to < bits from

abbrev pub IsHostType : Ty → Type 0
IsHostType (Int W64) = Unit {0}
IsHostType Ptr = Unit {0}
IsHostType (Int w) = ⊥

-- the function can be called with these arguments for this result, attributes aside
abbrev pub CallFits : List TypedVal → Option Ty → Function → Type 0
CallFits args result f = (param_types f.params ≡ arg_types args) × (f.result.ty ≡ result)

-- a thread can begin with the function and these arguments
abbrev pub SpawnFits : List TypedVal → Function → Type 0
SpawnFits args f = param_types f.params ≡ arg_types args

-- the host can be called with these arguments for this result
abbrev pub HostFits : List TypedVal → Ty → HostEntry → Type 0
HostFits args result e = (e.arity ≡ length args) × Each IsHostType (arg_types args) × IsHostType result

-- a name that stands for nothing, or for something that doesn't fit
abbrev pub NameBreaks : {A : Type 0} → (A → Type 0) → Option A → Named → Rule → ℕ → Type 0
NameBreaks Fits None name Unknown at = at ≡ name.at
NameBreaks Fits (Some found) name BadCall at = (at ≡ name.at) × (Fits found → ⊥)
NameBreaks Fits found name rule at = ⊥

-- a join through a handle whose function is there, but with another result
abbrev pub JoinBreaks : Option Holds → List Function → Option Ty → ℕ → Rule → ℕ → Type 0
JoinBreaks (Some (handle f)) fs result ty_at BadCall at = (g : Function) × (function_named fs f ≡ Some g) × (at ≡ ty_at) × (g.result.ty ≢ result)
JoinBreaks holds fs result ty_at rule at = ⊥

-- a call, spawn, host, join or cast that breaks a rule at a place; `es` are the events of its function
abbrev pub OpBreaks : List Function → List HostEntry → List Event → Op → Rule → ℕ → Type 0
OpBreaks fs hosts es (Call result f args) rule at = NameBreaks (CallFits args result) (function_named fs f.name) f rule at
OpBreaks fs hosts es (Spawn f args) rule at = NameBreaks (SpawnFits args) (function_named fs f.name) f rule at
OpBreaks fs hosts es (Host result h args) rule at = NameBreaks (HostFits args result) (host_named hosts h.name) h rule at
OpBreaks fs hosts es (Join result ty_at h) rule at = JoinBreaks (held es h.name) fs result ty_at rule at
OpBreaks fs hosts es (Cast op from to v to_at) TypeClash at = (at ≡ to_at) × (IsConversion op from to → ⊥)
OpBreaks fs hosts es op rule at = ⊥

abbrev pub IsFirstBlock : List Block → List ℕ → Type 0
IsFirstBlock [] label = ⊥
IsFirstBlock (b ∷ bs) label = label ≡ b.label.name

-- the first block of that label isn't the function's first block, and takes these arguments
abbrev pub GoalFits : List Block → Goal → Type 0
GoalFits blocks g = (block : Block) × (block_named blocks g.label.name ≡ Some block) × (param_types block.params ≡ arg_types g.args) × (IsFirstBlock blocks g.label.name → ⊥)

abbrev pub ret_type : Option TypedVal → Option Ty
ret_type None = None
ret_type (Some v) = Some v.ty

abbrev pub RetBreaks : Jump → Option Ty → ℕ → Type 0
RetBreaks (Ret v ty_at) result at = (at ≡ ty_at) × (ret_type v ≢ result)
RetBreaks jump result at = ⊥

-- one with the same name stands before it, and no more than one
abbrev pub SecondOf : List Named → ℕ → Type 0
SecondOf ds at = (d : Named) × (before after : List Named) × (ds ≡ before ++ d ∷ after) × (count_by (λ x. bytes_eq d.name x.name) before ≡ 1) × (at ≡ d.at)

-- `@main` has no parameters and the result i64; where it is defined more than once, the first one counts
abbrev pub HasMain : List Function → Type 0
HasMain fs = (f : Function) × (function_named fs (codes "main") ≡ Some f) × (f.params ≡ []) × (f.result.ty ≡ Some (Int W64))

pub data Broken (p : Program) (hosts : HostTable) : Rule → ℕ → Type 0 where
  of_use : (f : Function) (u : Use) (rule : Rule) → Contains p.functions f → Contains (used (function_events f)) u → UseBreaks rule (held (function_events f) u.reg.name) u.wanted → Broken p hosts rule u.reg.at
  of_op : (f : Function) (op : Op) (rule : Rule) (at : ℕ) → Contains p.functions f → Contains (function_ops f) op → OpBreaks p.functions hosts.entries (function_events f) op rule at → Broken p hosts rule at
  twice_register : (f : Function) (at : ℕ) → Contains p.functions f → SecondOf (defined (function_events f)) at → Broken p hosts Twice at
  twice_label : (f : Function) (at : ℕ) → Contains p.functions f → SecondOf (map (λ b. b.label) f.blocks) at → Broken p hosts Twice at
  twice_function : (at : ℕ) → SecondOf (map (λ f. f.name) p.functions) at → Broken p hosts Twice at
  of_ret : (f : Function) (b : Block) (at : ℕ) → Contains p.functions f → Contains f.blocks b → RetBreaks b.term.jump f.result.ty at → Broken p hosts TypeClash at
  of_path : (f : Function) (u : Use) (h : Holds) → Contains p.functions f → held (function_events f) u.reg.name ≡ Some h → IsUnassigned f u → Broken p hosts Unassigned u.reg.at
  of_goal : (f : Function) (b : Block) (g : Goal) → Contains p.functions f → Contains f.blocks b → Contains (jump_goals b.term.jump) g → (GoalFits f.blocks g → ⊥) → Broken p hosts BadTarget g.label.at
  of_first : (f : Function) (b : Block) (rest : List Block) → Contains p.functions f → f.blocks ≡ b ∷ rest → b.params ≢ [] → Broken p hosts BadTarget b.label.at
  no_main : (HasMain p.functions → ⊥) → Broken p hosts NoMain p.end

-- a use on some path to which its register is not defined
abbrev pub UnassignedFault : Program → Fault → Type 0
UnassignedFault p x = (f : Function) × (u : Use) × (h : Holds) × Contains p.functions f × (held (function_events f) u.reg.name ≡ Some h) × IsUnassigned f u × (fault Unassigned u.reg.at ≡ x)

-- accepted: no rule is broken anywhere
abbrev pub IsAccepted : Program → HostTable → Type 0
IsAccepted p hosts = (rule : Rule) (at : ℕ) → Broken p hosts rule at → ⊥

abbrev pub BrokenFault : Program → HostTable → Fault → Type 0
BrokenFault p hosts x = Broken p hosts x.rule x.at

-- the least place, and there the first rule
abbrev pub IsFirstBroken : Program → HostTable → Fault → Type 0
IsFirstBroken p hosts x = IsLeast (BrokenFault p hosts) (Some x)
