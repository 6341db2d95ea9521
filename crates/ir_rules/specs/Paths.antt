-- A use that a path of blocks reaches without a definition.
use Rattle.std.specs.Prelude.{◌≡◌, ◌≢◌, ℕ, ◌<◌, nat_lt, List, [], ◌∷◌, ◌++◌, map, length, slice_get, Option, Some, None, Contains, if◌then◌else◌}
use Rattle.std.specs.Str.{bytes_eq}
use Rattle.ir_ast.specs.Numbers.{block_place, place}
use Rattle.ir_ast.specs.declared.program.Block.{Block}
use Rattle.ir_ast.specs.declared.program.Goal.{Goal}
use Rattle.ir_ast.specs.declared.program.Function.{Function}
use Rattle.ir_rules.specs.Occurrences.{Use, Event, block_events, param_event, jump_goals}
use Rattle.ir_rules.specs.Occurrences.Event.{defines, uses}

-- none of the events defines the register
abbrev pub Avoids : List ℕ → List Event → Type 0
Avoids r [] = Unit {0}
Avoids r (defines d h ∷ es) = (d.name ≢ r) × Avoids r es
Avoids r (uses u ∷ es) = Avoids r es

-- the first of these that has the name
abbrev pub first_named : {A : Type 0} → (A → List ℕ) → List A → List ℕ → Option A
first_named named [] q = None
first_named named (x ∷ xs) q = if bytes_eq q (named x) then Some x else first_named named xs q

-- the number, where it is less than the bound
abbrev pub below : ℕ → ℕ → Option ℕ
below bound n = if nat_lt n bound then Some n else None

-- the place of the first that has the name, where one has it
abbrev pub place_named : {A : Type 0} → (A → List ℕ) → List A → List ℕ → Option ℕ
place_named named xs q = below (length xs) (place (map named xs) q)

-- the place of the first block of a label, where one has it
abbrev pub label_place : List Block → List ℕ → Option ℕ
label_place = place_named (λ b. b.label.name)

-- a label stands for the first block that has it
abbrev pub GoesTo : Function → ℕ → ℕ → Type 0
GoesTo f b c = (block : Block) × (goal : Goal) × (slice_get f.blocks b ≡ Some block) × Contains (jump_goals block.term.jump) goal × (block_place f.blocks goal.label.name ≡ c) × (c < length f.blocks)

-- the whole block doesn't define the register
abbrev pub AvoidsBlock : Function → List ℕ → ℕ → Type 0
AvoidsBlock f r b = (block : Block) × (slice_get f.blocks b ≡ Some block) × Avoids r (block_events block)

-- a path of blocks, from its last block back to the first, on which the blocks before the last don't define the register
abbrev pub IsPath : Function → List ℕ → List ℕ → Type 0
IsPath f r [] = ⊥
IsPath f r (b ∷ []) = b ≡ 0
IsPath f r (c ∷ b ∷ path) = GoesTo f b c × AvoidsBlock f r b × IsPath f r (b ∷ path)

-- the use stands in this block, and what stands before it there doesn't define the register, nor does the path
pub record IsUnassigned (f : Function) (u : Use) : Type 0 where
  pub at_entry : Avoids u.reg.name (map param_event f.params)
  pub path : List ℕ
  pub last : ℕ
  pub is_path : IsPath f u.reg.name (last ∷ path)
  pub block : Block
  pub is_block : slice_get f.blocks last ≡ Some block
  pub before : List Event
  pub after : List Event
  pub stands : block_events block ≡ before ++ uses u ∷ after
  pub avoids : Avoids u.reg.name before
