-- The layouts of types, and of those that have names.
use Rattle.std.specs.Prelude.{ℕ, zero, suc, Bool, true, false, List, map, take, slice_get, Option, Some, None, Result, Err}
use Rattle.ll_ast.specs.declared.types.Type.{«Type», fold-Type}
use Rattle.ll_ast.specs.declared.types.Type.TheOpen.{Type-F}
use Rattle.ll_ast.specs.declared.module.NamedType.{NamedType}
use Rattle.ll_layout.specs.declared.layout.Front.{Front}
use Rattle.ll_layout.specs.declared.layout.Target.{Target}
use Rattle.ll_layout.specs.declared.layout.LayoutFault.{LayoutFault}
use Rattle.ll_layout.specs.declared.layout.LayoutFault.TheVariants.{NoSize, Endless}
use Rattle.ll_layout.specs.Layout.{Outcome, ◌>>=◌}
use Rattle.ll_layout.specs.Scalars.{integer, float, pointer, array_of, vector_of}
use Rattle.ll_layout.specs.Structs.{struct_of, all_placed, no_fields, offset_of}

abbrev pub told : Option Outcome → Outcome
told None = Err NoSize
told (Some outcome) = outcome

-- the layout of a named type in a table of them
abbrev pub named_in : List Outcome → ℕ → Outcome
named_in table name = told (slice_get table name)

-- a vector of so many components, or of a multiple of them that isn't known
abbrev pub vector_in : Bool → ℕ → Outcome → Outcome
vector_in true count item = Err NoSize
vector_in false count item = item >>= vector_of count

-- one type, with the layout of each type inside in its place
abbrev pub layout_step : Target → List Outcome → Type-F Outcome → Outcome
layout_step target table (Type-F.Int bits) = integer target bits
layout_step target table (Type-F.Float kind) = float kind
layout_step target table (Type-F.Pointer space) = pointer space
layout_step target table (Type-F.PointerTo item space) = pointer space
layout_step target table (Type-F.Named name) = named_in table name
layout_step target table (Type-F.Array count item) = item.value >>= array_of count
layout_step target table (Type-F.Vector scalable count item) = vector_in scalable count item.value
layout_step target table (Type-F.Struct packed fields) = struct_of packed fields.items
layout_step target table Type-F.Void = Err NoSize
layout_step target table (Type-F.Function output inputs variadic) = Err NoSize
layout_step target table Type-F.Label = Err NoSize
layout_step target table Type-F.Metadata = Err NoSize
layout_step target table Type-F.Token = Err NoSize
layout_step target table Type-F.Opaque = Err NoSize

-- the layout of a type, where those of the named types are these
abbrev pub layout_in : Target → List Outcome → «Type» → Outcome
layout_in target table = fold-Type Outcome (layout_step target table)

-- fields one after the other
abbrev pub front_in : Target → List Outcome → Bool → List «Type» → Result Front LayoutFault
front_in target table packed fields = all_placed packed no_fields (map (layout_in target table) fields)

-- what the named types name, laid out where the names inside have these layouts
abbrev pub round_of : Target → List NamedType → List Outcome → List Outcome
round_of target types table = map (λ t. layout_in target table t.ty) types

-- no name has a layout
abbrev pub none_of : List NamedType → List Outcome
none_of types = map (λ t. Err Endless) types

-- the layouts of the named types where names nest at most so deep: with no depth left each is endless
unfoldable pub table_of : Target → List NamedType → ℕ → List Outcome
table_of target types zero = none_of types
table_of target types (suc deep) = round_of target types (table_of target types deep)

-- the layout of a field, if there is one
abbrev pub field_in : Target → List Outcome → Option «Type» → Outcome
field_in target table None = Err NoSize
field_in target table (Some ty) = layout_in target table ty

-- the offset of a field in a structure
abbrev pub offset_in : Target → List Outcome → Bool → List «Type» → ℕ → Result ℕ LayoutFault
offset_in target table packed fields index =
    offset_of packed (front_in target table packed (take index fields)) (field_in target table (slice_get fields index))
