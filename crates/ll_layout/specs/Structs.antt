-- Where the fields of a structure lie.
use Rattle.std.specs.Prelude.{ℕ, ◌+◌, max, Bool, false, if◌then◌else◌, List, [], ◌∷◌, Result, Ok}
use Rattle.std.specs.Int.{next_multiple_of}
use Rattle.ll_layout.specs.declared.layout.Front.{Front}
use Rattle.ll_layout.specs.declared.layout.Layout.{Layout}
use Rattle.ll_layout.specs.declared.layout.LayoutFault.{LayoutFault}
use Rattle.ll_layout.specs.Layout.{Outcome, ◌>>=◌, bounded, sized}

-- where a field begins that follows what ends at `end`: at the least multiple of its alignment that is not below that, or
-- right there in a packed structure
abbrev pub field_start : Bool → ℕ → ℕ → ℕ
field_start packed end align = if packed then end else next_multiple_of end align

abbrev pub with_field : Bool → Front → Layout → ℕ → Front
with_field packed front field end = record { end = end; align = if packed then front.align else max front.align field.align }

-- a field behind those in front
abbrev pub placed : Bool → Front → Layout → Result Front LayoutFault
placed packed front field = bounded (field_start packed front.end field.align + field.size) >>= λ end. Ok (with_field packed front field end)

-- fields behind those in front, up to the first without a layout
abbrev pub all_placed : Bool → Front → List Outcome → Result Front LayoutFault
all_placed packed front [] = Ok front
all_placed packed front (field ∷ fields) = field >>= λ l. placed packed front l >>= λ next. all_placed packed next fields

-- no field
abbrev pub no_fields : Front
no_fields = record { end = 0; align = 1 }

-- the size is the least multiple of the alignment that is not below the end of the last field
abbrev pub finished : Front → Outcome
finished front = sized (field_start false front.end front.align) front.align

abbrev pub struct_of : Bool → List Outcome → Outcome
struct_of packed fields = all_placed packed no_fields fields >>= finished

-- where the field begins that follows those in front, if they have layouts
abbrev pub offset_of : Bool → Result Front LayoutFault → Outcome → Result ℕ LayoutFault
offset_of packed front field = front >>= λ f. field >>= λ l. bounded (field_start packed f.end l.align)
