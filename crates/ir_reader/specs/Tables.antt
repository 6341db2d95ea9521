-- Words that stand for a value each.
use Rattle.std.specs.Prelude.{ℕ, Bool, true, false, nat_le, List, [], ◌∷◌, map, Option, Some, None, if◌then◌else◌}
use Rattle.std.specs.Str.{bytes_eq}
use Rattle.perm_table.specs.declared.RetagKind.{RetagKind}
use Rattle.perm_table.specs.declared.RetagKind.TheVariants.{Mut, Cell, Shr, Boxed, ShrCell}
use Rattle.ir_ast.specs.Keywords.{width_word, type_word, result_word, kind_word, cond_word, modify_word}
use Rattle.ir_ast.specs.declared.types.Width.{Width}
use Rattle.ir_ast.specs.declared.types.Width.TheVariants.{W8, W16, W32, W64}
use Rattle.ir_ast.specs.declared.types.Ty.{Ty}
use Rattle.ir_ast.specs.declared.types.Ty.TheVariants.{Int, Ptr}
use Rattle.ir_ast.specs.declared.operators.Cond.{Cond}
use Rattle.ir_ast.specs.declared.operators.Cond.TheVariants.{Eq, Ne, Ult, Ule, Ugt, Uge, Slt, Sle, Sgt, Sge}
use Rattle.ir_ast.specs.declared.operators.ModifyOp.{ModifyOp}
use Rattle.ir_ast.specs.declared.operators.ModifyOp.TheVariants.{Add, Sub, And, Or, Xor, Xchg, Umin, Umax}

-- the first value whose word it is
abbrev pub lookup : {A : Type 0} → List (List ℕ × A) → List ℕ → Option A
lookup [] w = None
lookup (row ∷ rows) w = if bytes_eq w row.0 then Some row.1 else lookup rows w

-- these values, each with its word
abbrev pub worded : {A : Type 0} → (A → List ℕ) → List A → List (List ℕ × A)
worded word values = map (λ a. (word a, a)) values

abbrev pub widths : List (List ℕ × Width)
widths = worded width_word (W8 ∷ W16 ∷ W32 ∷ W64 ∷ [])

abbrev pub types : List (List ℕ × Ty)
types = worded type_word (Int W8 ∷ Int W16 ∷ Int W32 ∷ Int W64 ∷ Ptr ∷ [])

-- types, and `void`
abbrev pub results : List (List ℕ × Option Ty)
results = worded result_word (Some (Int W8) ∷ Some (Int W16) ∷ Some (Int W32) ∷ Some (Int W64) ∷ Some Ptr ∷ None ∷ [])

-- the kinds of retags that begin with version 2
abbrev pub newer_kinds : Bool → List RetagKind
newer_kinds true = ShrCell ∷ []
newer_kinds false = []

-- the kinds of retags of a version
abbrev pub kinds : ℕ → List (List ℕ × RetagKind)
kinds version = worded kind_word (Mut ∷ Cell ∷ Shr ∷ Boxed ∷ newer_kinds (nat_le 2 version))

abbrev pub conds : List (List ℕ × Cond)
conds = worded cond_word (Eq ∷ Ne ∷ Ult ∷ Ule ∷ Ugt ∷ Uge ∷ Slt ∷ Sle ∷ Sgt ∷ Sge ∷ [])

abbrev pub modifiers : List (List ℕ × ModifyOp)
modifiers = worded modify_word (Add ∷ Sub ∷ And ∷ Or ∷ Xor ∷ Xchg ∷ Umin ∷ Umax ∷ [])
