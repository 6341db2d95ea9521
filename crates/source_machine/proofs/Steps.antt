-- The instruction at which a frame stands, and the block in which it stands.
use Rattle.std.proofs.Common.{◌≡◌, ℕ, zero, suc, ◌+◌, ◌<◌, ◌≤◌, List, [], ◌∷◌, length, drop, Option, Some, None, IsSome, refl, sym, ap, ◌∙◌, subst, arith}
use Rattle.std.specs.Prelude.{slice_get}
use Rattle.std.specs.Borrow.{Bor}
use Rattle.std.specs.Option.{option_copied}
use Rattle.ir_ast.specs.Lines.{most_instructions}
use Rattle.ir_ast.specs.declared.program.Block.{Block}
use Rattle.ir_ast.specs.declared.program.Inst.{Inst}
use Rattle.ir_ast.specs.Numbers.{blocks_end}
use Rattle.ir_ast.specs.Lines.{block_instructions}
use Rattle.source_sem.specs.Source.{first_insts, first_term}
use Rattle.source_machine.specs.Positions.{insts_left, term_left, rest_of, IsWithinLimit}

pub slice_get-drop : (is : List Inst) (at : ℕ) → slice_get is at ≡ slice_get (drop at is) 0
slice_get-drop [] zero = refl
slice_get-drop [] (suc at) = refl
slice_get-drop (i ∷ is) zero = refl
slice_get-drop (i ∷ is) (suc at) = slice_get-drop is at

pub ruleset inst_steps = (slice_get-drop)

-- ---- the beginning of a block

pub insts_left-first : (b : Option (Bor Block)) → insts_left b 0 ≡ first_insts (option_copied b)
insts_left-first None = refl
insts_left-first (Some b) = refl

pub term_left-first : (b : Option (Bor Block)) → term_left b ≡ first_term (option_copied b)
term_left-first None = refl
term_left-first (Some b) = refl

blocks_grow : (n : ℕ) (bs : List Block) → n ≤ blocks_end n bs
blocks_grow n [] = omega arith
blocks_grow n (b ∷ bs) = let more : n + block_instructions b ≤ blocks_end (n + block_instructions b) bs = blocks_grow (n + block_instructions b) bs in omega arith

pub first_stands : (n : ℕ) (bs : List Block) → blocks_end n bs ≤ most_instructions → IsWithinLimit n (slice_get bs 0)
first_stands n [] le = omega (arith, le)
first_stands n (b ∷ bs) le = let more : n + block_instructions b ≤ blocks_end (n + block_instructions b) bs = blocks_grow (n + block_instructions b) bs in omega (arith, le, more)

pub left_stands : (b : Option (Bor Block)) (n : ℕ) → IsWithinLimit n (option_copied b) → n + length (insts_left b 0) ≤ most_instructions
left_stands b n h = subst (λ (z : List Inst). n + length z ≤ most_instructions) (sym (insts_left-first b)) h

pub ruleset begin_steps = (insts_left-first, term_left-first, first_stands, left_stands)

-- ---- the next instruction of a block

rest_of-drop : (is : List Inst) (at : ℕ) → drop (at + 1) is ≡ rest_of (drop at is)
rest_of-drop [] zero = refl
rest_of-drop [] (suc at) = let next : suc at + 1 ≡ suc (at + 1) = omega arith in ap (λ (k : ℕ). drop k []) next
rest_of-drop (i ∷ is) zero = refl
rest_of-drop (i ∷ is) (suc at) = let next : suc at + 1 ≡ suc (at + 1) = omega arith in ap (λ (k : ℕ). drop k (i ∷ is)) next ∙ rest_of-drop is at

pub insts_left-rest : (b : Option (Bor Block)) (at : ℕ) → insts_left b (at + 1) ≡ rest_of (insts_left b at)
insts_left-rest None at = refl
insts_left-rest (Some b) at = rest_of-drop b.now.insts at

rest_shorter : (is : List Inst) → IsSome (slice_get is 0) → length (rest_of is) + 1 ≡ length is
rest_shorter [] h = absurd cc
rest_shorter (i ∷ is) h = omega arith

pub length-insts_left : (b : Option (Bor Block)) (at : ℕ) → IsSome (slice_get (insts_left b at) 0) → length (insts_left b (at + 1)) + 1 ≡ length (insts_left b at)
length-insts_left b at h = ap (λ (z : List Inst). length z + 1) (insts_left-rest b at) ∙ rest_shorter (insts_left b at) h

pub ruleset step_steps = (insts_left-rest, length-insts_left)
