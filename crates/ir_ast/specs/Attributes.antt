-- The attributes of what calls and joins give, the registers of a function, and what guards its parameters.
use Rattle.std.specs.Prelude.{ℕ, List, [], ◌∷◌, ◌++◌, Option, Some, None, map, slice_get}
use Rattle.std.specs.List.{flat_map}
use Rattle.std.specs.Option.{option_and_then, option_flatten}
use Rattle.perm_table.specs.declared.RetagKind.{RetagKind}
use Rattle.perm_table.specs.declared.RetagKind.TheVariants.{Mut, Cell, Shr, Boxed, ShrCell}
use Rattle.perm_table.specs.declared.Guard.{Guard}
use Rattle.perm_table.specs.declared.Guard.TheVariants.{Weak, Strong}
use Rattle.ir_ast.specs.Numbers.{place, function_place}
use Rattle.ir_ast.specs.declared.types.Attr.{Attr}
use Rattle.ir_ast.specs.declared.program.Named.{Named}
use Rattle.ir_ast.specs.declared.program.Param.{Param}
use Rattle.ir_ast.specs.declared.program.Op.{Op}
use Rattle.ir_ast.specs.declared.program.Op.TheVariants as op
use Rattle.ir_ast.specs.declared.program.Inst.{Inst}
use Rattle.ir_ast.specs.declared.program.Block.{Block}
use Rattle.ir_ast.specs.declared.program.Function.{Function}

-- what guards a parameter while its function runs
abbrev pub guard_of : RetagKind → Guard
guard_of Mut = Strong
guard_of Cell = Strong
guard_of Shr = Strong
guard_of Boxed = Weak
guard_of ShrCell = Weak

abbrev pub result_attr : Function → Option Attr
result_attr f = f.result.attr

-- the attribute of the result of the function of this name
abbrev pub attr_of_call : List Function → List ℕ → Option Attr
attr_of_call fs name = option_and_then result_attr (slice_get fs (function_place fs name))

-- A register that a function defines. A join through it gives a result of this attribute.
pub record Definition : Type 0 where
  pub name : List ℕ
  pub attr : Option Attr

abbrev pub definition : Named → Option Attr → Definition
definition r attr = record { name = r.name; attr = attr }

abbrev pub param_definitions : Param → List Definition
param_definitions p = definition p.reg None ∷ []

abbrev pub params_definitions : List Param → List Definition
params_definitions ps = flat_map param_definitions ps

-- the attribute of what a spawned function gives back
abbrev pub spawned_attr : List Function → Op → Option Attr
spawned_attr fs (op.Spawn function args) = attr_of_call fs function.name
spawned_attr fs other = None

abbrev pub dest_definitions : Option Named → Option Attr → List Definition
dest_definitions None attr = []
dest_definitions (Some r) attr = definition r attr ∷ []

abbrev pub inst_definitions : List Function → Inst → List Definition
inst_definitions fs i = dest_definitions i.dest (spawned_attr fs i.op)

abbrev pub block_definitions : List Function → Block → List Definition
block_definitions fs b = params_definitions b.params ++ flat_map (inst_definitions fs) b.insts

-- the registers of a function, in the order of their definitions
abbrev pub definitions : List Function → Function → List Definition
definitions fs f = params_definitions f.params ++ flat_map (block_definitions fs) f.blocks

abbrev pub registers : List Definition → List (List ℕ)
registers ds = map (λ d. d.name) ds

abbrev pub attrs : List Definition → List (Option Attr)
attrs ds = map (λ d. d.attr) ds

-- the attribute of what a join through the register of this name gives
abbrev pub attr_of_handle : List Definition → List ℕ → Option Attr
attr_of_handle ds name = option_flatten (slice_get (attrs ds) (place (registers ds) name))
