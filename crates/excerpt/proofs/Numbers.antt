-- An instruction's place stands at its number among the places of all instructions.
use Rattle.std.proofs.Common.{◌≡◌, ℕ, zero, suc, ◌+◌, ◌<◌, List, [], ◌∷◌, ◌++◌, length, get_or, take, map, sym, ap, ◌∙◌, subst, arith, Some, slice_get}
use Rattle.std.specs.List.{flat_map}
use Rattle.std.proofs.lemmas.List.{length-append, length-map, get_or_append_left, get_or-map}
use Rattle.std.proofs.Math.Seq.{get_or-append_seam}
use Rattle.std.proofs.lemmas.List.Concat.{get_or-flat_map}
use Rattle.std.proofs.lemmas.List.Folds.{length-flat_map-take}
use Rattle.std.proofs.lemmas.Option.{slice_get-get_or, slice_get_within, get_or_from_slice_get}
use Rattle.ir_ast.specs.Lines.{block_instructions}
use Rattle.ir_ast.specs.Numbers.{blocks_end, number_of_block, number_of_function}
use Rattle.ir_ast.specs.declared.program.Inst.{Inst}
use Rattle.ir_ast.specs.declared.program.Block.{Block}
use Rattle.ir_ast.specs.declared.program.Function.{Function}
use Rattle.ir_ast.specs.declared.program.Program.{Program}
use Rattle.excerpt.specs.Places.{block_places, function_places, instruction_places, first_number, IsBlockAt, StandAtNumbers}

-- ---- numbers count places

length-block_places : (b : Block) → length (block_places b) ≡ block_instructions b
length-block_places b =
    length-append (map (λ (inst : Inst). inst.at) b.insts) (b.term.at ∷ []) ∙ ap (λ (n : ℕ). n + 1) (length-map b.insts (λ (inst : Inst). inst.at))

blocks_end_by_places : (n : ℕ) (bs : List Block) → blocks_end n bs ≡ n + length (flat_map block_places bs)
blocks_end_by_places n [] = omega arith
blocks_end_by_places n (b ∷ bs) =
    omega (arith, blocks_end_by_places (n + block_instructions b) bs, length-block_places b, length-append (block_places b) (flat_map block_places bs))

block_by_places : (n : ℕ) (bs : List Block) (j : ℕ) → number_of_block n bs j ≡ n + length (flat_map block_places (take j bs))
block_by_places n [] zero = omega arith
block_by_places n (b ∷ bs) zero = omega arith
block_by_places n [] (suc j) = omega arith
block_by_places n (b ∷ bs) (suc j) =
    omega (arith, block_by_places (n + block_instructions b) bs j, length-block_places b, length-append (block_places b) (flat_map block_places (take j bs)))

function_by_places : (n : ℕ) (fs : List Function) (k : ℕ) → number_of_function n fs k ≡ n + length (flat_map function_places (take k fs))
function_by_places n [] zero = omega arith
function_by_places n [] (suc k) = omega arith
function_by_places n (f ∷ fs) zero = omega arith
function_by_places n (f ∷ fs) (suc k) =
    omega (arith, function_by_places (blocks_end n f.blocks) fs k, blocks_end_by_places n f.blocks, length-append (function_places f) (flat_map function_places (take k fs)))

-- ---- item i of piece k stands after the pieces before it

record StandsIn {A : Type 0} (f : A → List ℕ) (xs : List A) (k i at : ℕ) : Type 0 where
  within : length (flat_map f (take k xs)) + i < length (flat_map f xs)
  reads : get_or (flat_map f xs) (length (flat_map f (take k xs)) + i) at ≡ at

stands_in : {A : Type 0} (f : A → List ℕ) (xs : List A) (k i at : ℕ) (x : A) → slice_get xs k ≡ Some x
    → i < length (f x) → get_or (f x) i at ≡ at → StandsIn f xs k i at
stands_in {A} f xs k i at x here low is =
    let k_low : k < length xs = slice_get_within xs k x here in
    let same : get_or xs k x ≡ x = get_or_from_slice_get xs k x x here in
    let i_low : i < length (f (get_or xs k x)) = subst (λ (y : A). i < length (f y)) (sym same) low in
    let room = length-flat_map-take f xs k x k_low in
    record {
      within = omega arith;
      reads = get_or-flat_map f xs k i x at k_low i_low ∙ ap (λ (y : A). get_or (f y) i at) same ∙ is;
    }

place_stands : (p : Program) (k j i at : ℕ) (f : Function) (b : Block) → IsBlockAt p k j f b → i < length (block_places b)
    → get_or (block_places b) i at ≡ at → slice_get (instruction_places p) (first_number p k j f + i) ≡ Some at
place_stands p k j i at f b here low is =
    let inner = stands_in block_places f.blocks j i at b here.block low is in
    let before_blocks : ℕ = length (flat_map block_places (take j f.blocks)) in
    let outer = stands_in function_places p.functions k (before_blocks + i) at f here.function inner.within inner.reads in
    let before_functions : ℕ = length (flat_map function_places (take k p.functions)) in
    let number : first_number p k j f + i ≡ before_functions + (before_blocks + i) =
    omega (arith, block_by_places (number_of_function 0 p.functions k) f.blocks j, function_by_places 0 p.functions k) in
    ap (slice_get (instruction_places p)) number
    ∙ slice_get-get_or (instruction_places p) (before_functions + (before_blocks + i)) at outer.within
    ∙ ap (λ (n : ℕ). Some n) outer.reads

instruction_in_block : (b : Block) (i : ℕ) (inst : Inst) → slice_get b.insts i ≡ Some inst
    → (i < length (block_places b)) × (get_or (block_places b) i inst.at ≡ inst.at)
instruction_in_block b i inst here =
    let at : Inst → ℕ = λ (x : Inst). x.at in
    let low : i < length b.insts = slice_get_within b.insts i inst here in
    let mapped : length (map at b.insts) ≡ length b.insts = length-map b.insts at in
    let all = length-block_places b in (
      omega arith,
      get_or_append_left (map at b.insts) (b.term.at ∷ []) inst.at i (omega arith)
          ∙ get_or-map at b.insts i inst inst.at low
          ∙ ap at (get_or_from_slice_get b.insts i inst inst here),
    )

terminator_in_block : (b : Block) → (length b.insts < length (block_places b)) × (get_or (block_places b) (length b.insts) b.term.at ≡ b.term.at)
terminator_in_block b =
    let at : Inst → ℕ = λ (x : Inst). x.at in
    let all = length-block_places b in (
      omega arith,
      ap (λ (n : ℕ). get_or (block_places b) n b.term.at) (sym (length-map b.insts at))
          ∙ get_or-append_seam (map at b.insts) b.term.at [] b.term.at,
    )

pub stand_at_numbers : (p : Program) → StandAtNumbers p
stand_at_numbers p = record {
  instructions = λ k j i f b inst here is.
      let found = instruction_in_block b i inst is in
      place_stands p k j i inst.at f b here found.0 found.1;
  terminators = λ k j f b here.
      let found = terminator_in_block b in
      place_stands p k j (length b.insts) b.term.at f b here found.0 found.1;
}
