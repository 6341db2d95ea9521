-- What the tie asks of a program: its registers are typed and known.
use Rattle.std.specs.Prelude.{◌≡◌, ℕ, List, Option, Some, None, slice_get}
use Rattle.ir_ast.specs.declared.types.Attr.{Attr}
use Rattle.ir_ast.specs.declared.types.Ty.{Ty}
use Rattle.ir_ast.specs.declared.types.Ty.TheVariants.{Ptr}
use Rattle.ir_ast.specs.declared.hosts.HostEntry.{HostEntry}
use Rattle.ir_ast.specs.declared.program.Function.{Function}
use Rattle.ir_ast.specs.declared.program.Inst.{Inst}
use Rattle.ir_ast.specs.declared.program.Jump.{Jump}
use Rattle.ir_ast.specs.declared.program.Param.{Param}
use Rattle.ir_ast.specs.declared.program.Program.{Program}
use Rattle.source_sem.specs.Typing.{InstTyped, JumpTyped, ParamTyped, FunctionTyped}
use Rattle.instrument.specs.Translation.{Scope, scope_of}
use Rattle.instrument.specs.Known.{HasRegister, HasInst, HasJump, IsKnown}

abbrev pub InstFits : Program → Scope → Function → Inst → Type 0
InstFits p x g i = InstTyped p g i × HasInst x i

abbrev pub JumpFits : Scope → Function → Jump → Type 0
JumpFits x g j = JumpTyped g j × HasJump x j

-- the parameter's register is there, with its type
abbrev pub ParamKnown : Scope → Function → Param → Type 0
ParamKnown x g q = ParamTyped g q × HasRegister x q.reg

-- an attribute is that of a pointer
abbrev pub IsPointerAttr : Ty → Option Attr → Type 0
IsPointerAttr ty None = Unit {0}
IsPointerAttr ty (Some a) = ty ≡ Ptr

abbrev pub ParamFits : Scope → Function → Param → Type 0
ParamFits x g q = ParamKnown x g q × IsPointerAttr q.ty q.attr

pub record FunctionFits (p : Program) (hosts : List HostEntry) (g : Function) : Type 0 where
  pub typed : FunctionTyped p g
  pub known : IsKnown (scope_of p.functions hosts g) g

abbrev pub ProgramFits : Program → List HostEntry → Type 0
ProgramFits p hosts = (k : ℕ) (g : Function) → slice_get p.functions k ≡ Some g → FunctionFits p hosts g
