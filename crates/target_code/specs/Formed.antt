-- What it is for target code to be well formed.
use Rattle.std.specs.Prelude.{◌≡◌, ℕ, ◌<◌, Bool, true, false, List, [], ◌∷◌, ◌++◌, length, slice_get, drop, Option, Some, None, IfSome}
use Rattle.std.specs.Option.{option_and_then, option_map_or}
use Rattle.ir_ast.specs.Tokens.{Each}
use Rattle.ir_ast.specs.Words.{ty_bytes, width_bytes}
use Rattle.ir_ast.specs.Shapes.{IsVersion}
use Rattle.ir_ast.specs.declared.types.Ty.TheVariants.{Ptr}
use Rattle.target_code.specs.declared.line.Operand.{Operand}
use Rattle.target_code.specs.declared.line.Operand.TheVariants as operand
use Rattle.target_code.specs.declared.line.Shadow.{Shadow}
use Rattle.target_code.specs.declared.line.Shadow.TheVariants as shadow
use Rattle.target_code.specs.declared.line.Line.{Line}
use Rattle.target_code.specs.declared.line.Line.TheVariants as line
use Rattle.target_code.specs.declared.line.TargetFunction.{TargetFunction}
use Rattle.target_code.specs.declared.line.Target.{Target}

-- ---- stretches of lines and neighbours in them

-- the entry lines of a function, and the lines of each block
abbrev pub stretches : TargetFunction → List (List Line)
stretches f = f.entry ∷ f.blocks

-- Two neighbours are a line and the line directly after it, nothing and the first line, or the last line and nothing.
-- This holds of each two neighbours, where `before` is directly before the lines.
abbrev pub EachTwo : (Option Line → Option Line → Type 0) → Option Line → List Line → Type 0
EachTwo Fits before [] = Fits before None
EachTwo Fits before (l ∷ ls) = Fits before (Some l) × EachTwo Fits (Some l) ls

abbrev pub EachNeighbours : (Option Line → Option Line → Type 0) → Target → Type 0
EachNeighbours Fits t = Each (λ f. Each (EachTwo Fits None) (stretches f)) t.functions

-- ---- checks

-- the check that a line wants: through the same pointers, with their shadows, and of as many bytes
abbrev pub check_of : Line → Option Line
check_of (line.Load slot ty ptr) = Some (line.CheckRead ptr ptr (ty_bytes ty))
check_of (line.Store ty value ptr) = Some (line.CheckWrite ptr ptr (ty_bytes ty))
check_of (line.Modify slot op width ptr value) = Some (line.CheckWrite ptr ptr (width_bytes width))
check_of (line.CmpXchg slot width ptr expected value) = Some (line.CheckWrite ptr ptr (width_bytes width))
check_of (line.Copy to from len) = Some (line.CheckCopy to to from from len)
check_of (line.Free ptr) = Some (line.CheckFree ptr ptr)
check_of _ = None

-- the check that a line is
abbrev pub check_made : Line → Option Line
check_made (line.CheckRead ptr ptr_shadow bytes) = Some (line.CheckRead ptr ptr_shadow bytes)
check_made (line.CheckWrite ptr ptr_shadow bytes) = Some (line.CheckWrite ptr ptr_shadow bytes)
check_made (line.CheckCopy to to_shadow from from_shadow len) = Some (line.CheckCopy to to_shadow from from_shadow len)
check_made (line.CheckFree ptr ptr_shadow) = Some (line.CheckFree ptr ptr_shadow)
check_made _ = None

-- An access is directly after the check that it wants, and a check directly before an access that wants it.
abbrev pub IsChecked : Option Line → Option Line → Type 0
IsChecked before after = option_and_then check_of after ≡ option_and_then check_made before

-- ---- shadows of pointers

-- the slot into which a line puts a pointer whose shadow the line after it is to give
abbrev pub unshadowed : Line → Option ℕ
unshadowed (line.Const slot Ptr value) = Some slot
unshadowed (line.Gep slot ptr add) = Some slot
unshadowed (line.Load slot Ptr ptr) = Some slot
unshadowed (line.Select slot Ptr cond a b) = Some slot
unshadowed _ = None

-- the shadow slot that a line gives
abbrev pub shadow_given : Line → Option ℕ
shadow_given (line.ShadowParam slot index) = Some slot
shadow_given (line.ShadowMove slot from) = Some slot
shadow_given (line.Make slot slot_shadow place size) = Some slot_shadow
shadow_given (line.Loaded slot) = Some slot
shadow_given (line.Retag slot kind guard ptr ptr_shadow size) = Some slot
shadow_given (line.ShadowSelect slot cond a b) = Some slot
shadow_given (line.TakeShadowArg slot index) = Some slot
shadow_given (line.ShadowCallResult slot) = Some slot
shadow_given _ = None

-- A pointer that a constant, `gep`, `load` or `select` puts into a slot is directly followed by its shadow.
abbrev pub IsShadowed : Option Line → Option Line → Type 0
IsShadowed before after = IfSome (option_and_then unshadowed before) (λ slot. option_and_then shadow_given after ≡ Some slot)

-- ---- returns

abbrev pub is_pop : Line → Bool
is_pop line.PopFrame = true
is_pop _ = false

abbrev pub is_return : Line → Bool
is_return line.Return = true
is_return _ = false

-- A return is directly after `popframe`, and `popframe` directly before a return.
abbrev pub IsReturned : Option Line → Option Line → Type 0
IsReturned before after = option_map_or is_return after false ≡ option_map_or is_pop before false

-- ---- the heads of stretches

abbrev pub is_turn : Line → Bool
is_turn (line.Turn number) = true
is_turn _ = false

abbrev pub is_push : Line → Bool
is_push line.PushFrame = true
is_push _ = false

-- the first line is such a one
abbrev pub Begins : (Line → Bool) → List Line → Type 0
Begins test lines = option_map_or test (slice_get lines 0) false ≡ true

-- There is a block, and each block begins with an instruction.
pub record HasBlocks (f : TargetFunction) : Type 0 where
  pub some_block : 0 < length f.blocks
  pub begun : Each (Begins is_turn) f.blocks

abbrev pub NoPush : List Line → Type 0
NoPush lines = Each (λ l. is_push l ≡ false) lines

-- The entry lines begin with `pushframe`, which is nowhere else.
pub record PushesOnce (f : TargetFunction) : Type 0 where
  pub entry : Begins is_push f.entry
  pub rest : NoPush (drop 1 f.entry)
  pub blocks : Each NoPush f.blocks

-- ---- numbers

abbrev pub operand_slots : Operand → List ℕ
operand_slots (operand.Slot slot) = slot ∷ []
operand_slots (operand.Number number) = []

abbrev pub shadow_slots : Shadow → List ℕ
shadow_slots (shadow.Slot slot) = slot ∷ []
shadow_slots shadow.Nothing = []

abbrev pub args_slots : List Operand → List ℕ
args_slots [] = []
args_slots (a ∷ more) = operand_slots a ++ args_slots more

-- the slots and shadow slots that a line names
abbrev pub slots : Line → List ℕ
slots (line.Param slot index) = slot ∷ []
slots (line.ShadowParam shadow index) = shadow ∷ []
slots (line.Const slot ty value) = slot ∷ []
slots (line.Move slot from) = slot ∷ from ∷ []
slots (line.ShadowMove shadow from) = shadow ∷ shadow_slots from
slots (line.Make slot shadow place size) = slot ∷ shadow ∷ operand_slots size
slots (line.Gep slot ptr add) = slot ∷ ptr ∷ operand_slots add
slots (line.CheckRead ptr ptr_shadow bytes) = ptr ∷ ptr_shadow ∷ []
slots (line.Load slot ty ptr) = slot ∷ ptr ∷ []
slots (line.Loaded shadow) = shadow ∷ []
slots (line.Stored from) = shadow_slots from
slots (line.CheckWrite ptr ptr_shadow bytes) = ptr ∷ ptr_shadow ∷ []
slots (line.Store ty value ptr) = ptr ∷ operand_slots value
slots (line.Retag shadow kind guard ptr ptr_shadow size) = shadow ∷ ptr ∷ ptr_shadow ∷ []
slots (line.Binary slot op width a b) = slot ∷ operand_slots a ++ operand_slots b
slots (line.Compare slot cond ty a b) = slot ∷ operand_slots a ++ operand_slots b
slots (line.Select slot ty cond a b) = slot ∷ operand_slots cond ++ (operand_slots a ++ operand_slots b)
slots (line.ShadowSelect shadow cond a b) = shadow ∷ operand_slots cond ++ (shadow_slots a ++ shadow_slots b)
slots (line.Cast slot op from value to) = slot ∷ operand_slots value
slots (line.PtrToInt slot ptr) = slot ∷ ptr ∷ []
slots (line.Input slot index) = slot ∷ operand_slots index
slots (line.Modify slot op width ptr value) = slot ∷ ptr ∷ operand_slots value
slots (line.CmpXchg slot width ptr expected value) = slot ∷ ptr ∷ operand_slots expected ++ operand_slots value
slots (line.CheckCopy to to_shadow from from_shadow len) = to ∷ to_shadow ∷ from ∷ from_shadow ∷ operand_slots len
slots (line.Copy to from len) = to ∷ from ∷ operand_slots len
slots (line.CheckFree ptr ptr_shadow) = ptr ∷ ptr_shadow ∷ []
slots (line.Free ptr) = ptr ∷ []
slots (line.Print width value) = operand_slots value
slots (line.Arg index value) = operand_slots value
slots (line.ShadowArg index from) = shadow_slots from
slots (line.TakeArg slot index) = slot ∷ []
slots (line.TakeShadowArg shadow index) = shadow ∷ []
slots (line.CallResult slot) = slot ∷ []
slots (line.ShadowCallResult shadow) = shadow ∷ []
slots (line.Spawn slot function) = slot ∷ []
slots (line.Join handle) = handle ∷ []
slots (line.Host slot host args) = slot ∷ args_slots args
slots (line.Branch cond) = operand_slots cond
slots (line.Result value) = operand_slots value
slots (line.ShadowResult from) = shadow_slots from
slots (line.Turn number) = []
slots line.PushFrame = []
slots (line.Call function) = []
slots (line.RetagResult kind size) = []
slots (line.Jump block) = []
slots line.PopFrame = []
slots line.Return = []
slots line.Unreachable = []

-- the block that a line names
abbrev pub block_named : Line → Option ℕ
block_named (line.Jump block) = Some block
block_named _ = None

-- the function that a line names
abbrev pub function_named : Line → Option ℕ
function_named (line.Call function) = Some function
function_named (line.Spawn slot function) = Some function
function_named _ = None

-- the slots, the block and the function that a line names exist in code with so many
pub record NamesKnown (slot_count block_count function_count : ℕ) (l : Line) : Type 0 where
  pub slots : Each (λ slot. slot < slot_count) (slots l)
  pub block : IfSome (block_named l) (λ block. block < block_count)
  pub function : IfSome (function_named l) (λ function. function < function_count)

-- all slot, block and function numbers exist
abbrev pub NumbersExist : Target → Type 0
NumbersExist t = Each (λ f. Each (Each (NamesKnown f.slots (length f.blocks) (length t.functions))) (stretches f)) t.functions

-- ---- the whole

pub record IsWellFormed (t : Target) : Type 0 where
  pub checked : EachNeighbours IsChecked t
  pub shadowed : EachNeighbours IsShadowed t
  pub returned : EachNeighbours IsReturned t
  pub blocks : Each HasBlocks t.functions
  pub pushes : Each PushesOnce t.functions
  pub numbers : NumbersExist t
  pub version : IsVersion t.version
