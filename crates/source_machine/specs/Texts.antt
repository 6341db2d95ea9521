-- Numbers of instructions, and which names are defined.
use Rattle.std.specs.Prelude.{ℕ, Bool, false, List, [], ◌∷◌, Option, Some, None}
use Rattle.std.specs.List.{list_any}
use Rattle.std.specs.Str.{bytes_eq}
use Rattle.ir_ast.specs.declared.program.Function.{Function}
use Rattle.ir_ast.specs.declared.program.Named.{Named}
use Rattle.ir_ast.specs.declared.program.Param.{Param}
use Rattle.ir_ast.specs.Numbers.{blocks_end}

-- the number of each function's first instruction, from this number on
abbrev pub function_numbers : ℕ → List Function → List ℕ
function_numbers n [] = []
function_numbers n (f ∷ fs) = n ∷ function_numbers (blocks_end n f.blocks) fs

-- the number after that of the last instruction of these functions, where the first has the number n
abbrev pub program_end : ℕ → List Function → ℕ
program_end n [] = n
program_end n (f ∷ fs) = program_end (blocks_end n f.blocks) fs

-- is the register that an instruction gives a value to of this name
abbrev pub is_dest : Option Named → List ℕ → Bool
is_dest None name = false
is_dest (Some r) name = bytes_eq r.name name

-- is one of the parameters the register of this name
abbrev pub has_param : List Param → List ℕ → Bool
has_param ps name = list_any (λ p. bytes_eq p.reg.name name) ps
