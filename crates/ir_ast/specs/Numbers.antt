-- The numbers of functions, blocks, registers and hosts, which are their places in their lists, and those of instructions,
-- which are counted over the whole program, terminators among them. All begin at 0.
use Rattle.std.specs.Prelude.{ℕ, zero, suc, ◌+◌, List, [], ◌∷◌, map, if◌then◌else◌}
use Rattle.std.specs.Str.{bytes_eq}
use Rattle.ir_ast.specs.Lines.{block_instructions}
use Rattle.ir_ast.specs.declared.hosts.HostEntry.{HostEntry}
use Rattle.ir_ast.specs.declared.program.Block.{Block}
use Rattle.ir_ast.specs.declared.program.Function.{Function}

-- the place of a name in a list, and the list's length where it isn't there
abbrev pub place : List (List ℕ) → List ℕ → ℕ
place [] name = 0
place (n ∷ ns) name = if bytes_eq n name then 0 else suc (place ns name)

abbrev pub function_names : List Function → List (List ℕ)
function_names fs = map (λ f. f.name.name) fs

abbrev pub labels : List Block → List (List ℕ)
labels bs = map (λ b. b.label.name) bs

abbrev pub host_names : List HostEntry → List (List ℕ)
host_names hs = map (λ h. h.name) hs

abbrev pub function_place : List Function → List ℕ → ℕ
function_place fs name = place (function_names fs) name

abbrev pub block_place : List Block → List ℕ → ℕ
block_place bs label = place (labels bs) label

-- the number after that of the last instruction of these blocks, where the first has the number n
abbrev pub blocks_end : ℕ → List Block → ℕ
blocks_end n [] = n
blocks_end n (b ∷ bs) = blocks_end (n + block_instructions b) bs

-- the number of the first instruction of block k
abbrev pub number_of_block : ℕ → List Block → ℕ → ℕ
number_of_block n bs zero = n
number_of_block n [] (suc k) = n
number_of_block n (b ∷ bs) (suc k) = number_of_block (n + block_instructions b) bs k

-- the number of the first instruction of function k
abbrev pub number_of_function : ℕ → List Function → ℕ → ℕ
number_of_function n [] k = n
number_of_function n (f ∷ fs) zero = n
number_of_function n (f ∷ fs) (suc k) = number_of_function (blocks_end n f.blocks) fs k
