-- The programs that the grammar can give, places aside.
use Rattle.std.specs.Prelude.{◌≡◌, ℕ, ◌+◌, ◌≤◌, length, None}
use Rattle.std.specs.List.{sum_by}
use Rattle.ir_ast.specs.Tokens.{Form, Asked, Each}
use Rattle.ir_ast.specs.Tokens.Form.{word, local, global}
use Rattle.ir_ast.specs.Lines.{most_functions, most_instructions, most_registers, block_instructions, block_registers, spell}
use Rattle.ir_ast.specs.Shapes.{IsShaped}
use Rattle.ir_ast.specs.Writable.{IsWord, IsName}
use Rattle.ir_ast.specs.declared.program.Function.{Function}
use Rattle.ir_ast.specs.declared.program.Program.{Program}

-- a text can have such a token
abbrev pub IsPossible : Form → Type 0
IsPossible (word text) = IsWord text
IsPossible (local name) = IsName name
IsPossible (global name) = IsName name
IsPossible _ = Unit {0}

-- a text can have the token, and nothing is past its limit there
abbrev pub CanStand : Asked → Type 0
CanStand a = IsPossible a.form × (a.fault ≡ None)

pub record IsProgram (p : Program) : Type 0 where
  pub shaped : IsShaped p
  pub spelled : Each CanStand (spell p)

-- how many instructions and registers a function has
abbrev pub function_instructions : Function → ℕ
function_instructions f = sum_by block_instructions f.blocks

abbrev pub function_registers : Function → ℕ
function_registers f = length f.params + sum_by block_registers f.blocks

pub record KeepsLimits (p : Program) : Type 0 where
  pub functions : length p.functions ≤ most_functions
  pub instructions : sum_by function_instructions p.functions ≤ most_instructions
  pub registers : Each (λ f. function_registers f ≤ most_registers) p.functions
