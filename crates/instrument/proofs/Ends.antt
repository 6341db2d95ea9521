-- Numbers of instructions stay below the program's end; what is left of lists.
use Rattle.std.proofs.Common.{◌≡◌, ℕ, zero, suc, ◌+◌, ◌^◌, ◌<◌, ◌≤◌, List, [], ◌∷◌, length, drop, get_or, Some, subst, arith}
use Rattle.std.specs.Prelude.{slice_get}
use Rattle.ir_ast.specs.Tokens.{Each}
use Rattle.ir_ast.specs.declared.program.Block.{Block}
use Rattle.ir_ast.specs.declared.program.Function.{Function}
use Rattle.ir_ast.specs.Lines.{block_instructions}
use Rattle.ir_ast.specs.Numbers.{blocks_end}
use Rattle.instrument.specs.Names.{program_end}
use Rattle.instrument.proofs.Sets.{cut}

blocks_grow : (n : ℕ) (bs : List Block) → n ≤ blocks_end n bs
blocks_grow n [] = omega arith
blocks_grow n (b ∷ bs) = let more : n + block_instructions b ≤ blocks_end (n + block_instructions b) bs = blocks_grow (n + block_instructions b) bs in omega arith

pub block_room : (blocks : List Block) (i : ℕ) (b : Block) (n e : ℕ) → i < length blocks → b ≡ get_or blocks i b → blocks_end n (drop i blocks) ≡ e → e < 2 ^ 32 → n + block_instructions b < 2 ^ 32
block_room blocks i b n e lt is h small =
    let end : blocks_end (n + block_instructions b) (drop (i + 1) blocks) ≡ e = subst (λ (z : List Block). blocks_end n z ≡ e) (cut blocks i b lt is) h in
    let grow : n + block_instructions b ≤ blocks_end (n + block_instructions b) (drop (i + 1) blocks) = blocks_grow (n + block_instructions b) (drop (i + 1) blocks) in
    omega arith

program_grow : (n : ℕ) (fs : List Function) → n ≤ program_end n fs
program_grow n [] = omega arith
program_grow n (f ∷ fs) =
    let here : n ≤ blocks_end n f.blocks = blocks_grow n f.blocks in
    let more : blocks_end n f.blocks ≤ program_end (blocks_end n f.blocks) fs = program_grow (blocks_end n f.blocks) fs in omega arith

pub function_room : (fs : List Function) (i : ℕ) (f : Function) (n e : ℕ) → i < length fs → f ≡ get_or fs i f → program_end n (drop i fs) ≡ e → e < 2 ^ 32 → blocks_end n f.blocks < 2 ^ 32
function_room fs i f n e lt is h small =
    let end : program_end (blocks_end n f.blocks) (drop (i + 1) fs) ≡ e = subst (λ (z : List Function). program_end n z ≡ e) (cut fs i f lt is) h in
    let grow : blocks_end n f.blocks ≤ program_end (blocks_end n f.blocks) (drop (i + 1) fs) = program_grow (blocks_end n f.blocks) (drop (i + 1) fs) in
    omega arith

pub each_here : {A : Type 0} (P : A → Type 0) (xs : List A) (i : ℕ) (x : A) → i < length xs → x ≡ get_or xs i x → Each P (drop i xs) → P x
each_here {A = A} P xs i x lt is h = (subst (λ (z : List A). Each P z) (cut xs i x lt is) h).0

pub each_rest : {A : Type 0} (P : A → Type 0) (xs : List A) (i : ℕ) (x : A) → i < length xs → x ≡ get_or xs i x → Each P (drop i xs) → Each P (drop (i + 1) xs)
each_rest {A = A} P xs i x lt is h = (subst (λ (z : List A). Each P z) (cut xs i x lt is) h).1

pub each_got : {A : Type 0} (P : A → Type 0) (xs : List A) (i : ℕ) (x : A) → slice_get xs i ≡ Some x → Each P xs → P x
each_got P [] zero x e h = absurd cc
each_got P [] (suc i) x e h = absurd cc
each_got {A = A} P (y ∷ xs) zero x e h = let same : y ≡ x = cc in subst P same h.0
each_got P (y ∷ xs) (suc i) x e h = each_got P xs i x e h.1

pub ruleset end_steps = (block_room, function_room, each_here, each_rest)

pub ruleset got_steps = (each_got)
