-- The places of a program's instructions in its text, terminators among them, in text order.
use Rattle.std.specs.Prelude.{◌≡◌, ℕ, ◌+◌, ◌∷◌, ◌++◌, [], List, length, map, slice_get, Some}
use Rattle.std.specs.List.{flat_map}
use Rattle.ir_ast.specs.Numbers.{number_of_block, number_of_function}
use Rattle.ir_ast.specs.declared.program.Inst.{Inst}
use Rattle.ir_ast.specs.declared.program.Block.{Block}
use Rattle.ir_ast.specs.declared.program.Function.{Function}
use Rattle.ir_ast.specs.declared.program.Program.{Program}

abbrev pub block_places : Block → List ℕ
block_places b = map (λ inst. inst.at) b.insts ++ b.term.at ∷ []

abbrev pub function_places : Function → List ℕ
function_places f = flat_map block_places f.blocks

abbrev pub instruction_places : Program → List ℕ
instruction_places p = flat_map function_places p.functions

-- a block of a program: block j of function k
pub record IsBlockAt (p : Program) (k j : ℕ) (f : Function) (b : Block) : Type 0 where
  pub function : slice_get p.functions k ≡ Some f
  pub block : slice_get f.blocks j ≡ Some b

-- the number of the first instruction of block j of a function that is function k
abbrev pub first_number : Program → ℕ → ℕ → Function → ℕ
first_number p k j f = number_of_block (number_of_function 0 p.functions k) f.blocks j

-- each instruction's place stands at the instruction's number, which is the site of a thread that stands at it
pub record StandAtNumbers (p : Program) : Type 0 where
  pub instructions : (k j i : ℕ) (f : Function) (b : Block) (inst : Inst) → IsBlockAt p k j f b → slice_get b.insts i ≡ Some inst
      → slice_get (instruction_places p) (first_number p k j f + i) ≡ Some inst.at
  pub terminators : (k j : ℕ) (f : Function) (b : Block) → IsBlockAt p k j f b
      → slice_get (instruction_places p) (first_number p k j f + length b.insts) ≡ Some b.term.at
