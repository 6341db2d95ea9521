-- What each check answers.
use Rattle.std.specs.Prelude.{ℕ, Bool, true, false, ◌&&◌, nat_eq, nat_lt, List, [], ◌∷◌, length, slice_get, Option, Some, None, if◌then◌else◌}
use Rattle.ir_ast.specs.declared.types.Ty.{Ty}
use Rattle.ir_ast.specs.declared.types.Ty.TheVariants.{Int, Ptr}
use Rattle.ir_ast.specs.declared.types.Width.{Width}
use Rattle.ir_ast.specs.declared.types.Width.TheVariants.{W64}
use Rattle.ir_ast.specs.declared.operators.CastOp.{CastOp}
use Rattle.ir_ast.specs.declared.operators.CastOp.TheVariants.{Zext, Sext, Trunc}
use Rattle.ir_ast.specs.declared.program.Named.{Named}
use Rattle.ir_ast.specs.declared.program.Param.{Param}
use Rattle.ir_ast.specs.declared.program.TypedVal.{TypedVal}
use Rattle.ir_ast.specs.declared.program.Goal.{Goal}
use Rattle.ir_ast.specs.declared.program.Op.{Op}
use Rattle.ir_ast.specs.declared.program.Op.TheVariants.{Call, Host, Spawn, Join, Cast}
use Rattle.ir_ast.specs.declared.program.Jump.{Jump}
use Rattle.ir_ast.specs.declared.program.Jump.TheVariants.{Ret}
use Rattle.ir_ast.specs.declared.program.Block.{Block}
use Rattle.ir_ast.specs.declared.program.Function.{Function}
use Rattle.ir_ast.specs.declared.hosts.HostEntry.{HostEntry}
use Rattle.ir_rules.specs.declared.rule.Rule.TheVariants.{Unknown, TypeClash, BadTarget, BadCall}
use Rattle.ir_rules.specs.declared.rule.Fault.{Fault}
use Rattle.ir_rules.specs.Least.{fault}
use Rattle.ir_rules.specs.Occurrences.{Holds}
use Rattle.ir_rules.specs.Occurrences.Holds.{handle}
use Rattle.ir_rules.specs.Paths.{label_place}
use Rattle.ir_ast.specs.Words.{bits}
use Rattle.ir_rules.specs.Rules.{function_named, host_named, param_types, arg_types, ret_type}
use Rattle.ir_rules.specs.Walk.{same_ty}

abbrev pub same_types : List Ty → List Ty → Bool
same_types [] [] = true
same_types (t ∷ ts) (u ∷ us) = if same_ty t u then same_types ts us else false
same_types _ _ = false

abbrev pub same_result : Option Ty → Option Ty → Bool
same_result None None = true
same_result (Some t) (Some u) = same_ty t u
same_result _ _ = false

-- the fault, unless the test holds
abbrev pub unless : Bool → Fault → Option Fault
unless true x = None
unless false x = Some x

abbrev pub takes : List Param → List TypedVal → Bool
takes params args = same_types (param_types params) (arg_types args)

abbrev pub call_fits : List TypedVal → Option Ty → Function → Bool
call_fits args result f = takes f.params args && same_result f.result.ty result

abbrev pub spawn_fits : List TypedVal → Function → Bool
spawn_fits args f = takes f.params args

abbrev pub is_host_type : Ty → Bool
is_host_type (Int W64) = true
is_host_type Ptr = true
is_host_type (Int w) = false

abbrev pub all_host_types : List TypedVal → Bool
all_host_types [] = true
all_host_types (arg ∷ args) = if is_host_type arg.ty then all_host_types args else false

abbrev pub host_fits : List TypedVal → Ty → HostEntry → Bool
host_fits args result e = nat_eq e.arity (length args) && (all_host_types args && is_host_type result)

abbrev pub name_fault : {A : Type 0} → (A → Bool) → Option A → Named → Option Fault
name_fault fits None name = Some (fault Unknown name.at)
name_fault fits (Some found) name = unless (fits found) (fault BadCall name.at)

-- the function that a join's thread runs, by what the register holds
abbrev pub joined : List Function → Option Holds → Option Function
joined fs (Some (handle f)) = function_named fs f
joined fs holds = None

abbrev pub join_fault : Option Function → Option Ty → ℕ → Option Fault
join_fault None result ty_at = None
join_fault (Some f) result ty_at = unless (same_result f.result.ty result) (fault BadCall ty_at)

abbrev pub is_conversion : CastOp → Width → Width → Bool
is_conversion Zext from to = nat_lt (bits from) (bits to)
is_conversion Sext from to = nat_lt (bits from) (bits to)
is_conversion Trunc from to = nat_lt (bits to) (bits from)

-- `look` says what a register holds
abbrev pub op_fault : List Function → List HostEntry → (List ℕ → Option Holds) → Op → Option Fault
op_fault fs hosts look (Call result f args) = name_fault (call_fits args result) (function_named fs f.name) f
op_fault fs hosts look (Spawn f args) = name_fault (spawn_fits args) (function_named fs f.name) f
op_fault fs hosts look (Host result h args) = name_fault (host_fits args result) (host_named hosts h.name) h
op_fault fs hosts look (Join result ty_at h) = join_fault (joined fs (look h.name)) result ty_at
op_fault fs hosts look (Cast op from to v to_at) = unless (is_conversion op from to) (fault TypeClash to_at)
op_fault fs hosts look op = None

abbrev pub ret_fault : Option Ty → Jump → Option Fault
ret_fault result (Ret v ty_at) = unless (same_result (ret_type v) result) (fault TypeClash ty_at)
ret_fault result jump = None

abbrev pub takes_at : Option Block → List TypedVal → Bool
takes_at None args = false
takes_at (Some b) args = takes b.params args

-- a goal to the first block doesn't fit
abbrev pub fits_at : List Block → Option ℕ → List TypedVal → Bool
fits_at blocks None args = false
fits_at blocks (Some place) args = if nat_eq place 0 then false else takes_at (slice_get blocks place) args

abbrev pub goal_fits : List Block → Goal → Bool
goal_fits blocks g = fits_at blocks (label_place blocks g.label.name) g.args

abbrev pub goal_fault : List Block → Goal → Option Fault
goal_fault blocks g = unless (goal_fits blocks g) (fault BadTarget g.label.at)

abbrev pub first_block_fault : List Block → Option Fault
first_block_fault [] = None
first_block_fault (b ∷ rest) = unless (nat_eq (length b.params) 0) (fault BadTarget b.label.at)

abbrev pub is_main : Option Function → Bool
is_main None = false
is_main (Some f) = nat_eq (length f.params) 0 && same_result f.result.ty (Some (Int W64))
