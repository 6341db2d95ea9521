-- Lists of instructions and blocks as the code reads them.
use Rattle.std.proofs.Common.{◌≡◌, ℕ, suc, ◌+◌, List, [], ◌∷◌, ◌++◌, length, length-append, Ok, Err, refl, ap, ◌∙◌, arith}
use Rattle.std.specs.List.{sum_by}
use Rattle.std.proofs.lemmas.List.Sums.{sum_by-cons, sum_by-append}
use Rattle.phrase.specs.Reading.{Got}
use Rattle.phrase.specs.declared.Cause.{Cause}
use Rattle.ir_ast.specs.Tokens.{Lex}
use Rattle.ir_ast.specs.Lines.{definitions}
use Rattle.ir_ast.specs.declared.program.Inst.{Inst}
use Rattle.ir_ast.specs.declared.program.Block.{Block}
use Rattle.ir_ast.specs.declared.program.Function.{Function}
use Rattle.ir_reader.specs.View.{lexes, Fails, with_front}
use Rattle.ir_reader.specs.declared.stop.Stop.{Stop}
use Rattle.ir_reader.specs.declared.stop.Stop.TheVariants.{Memory, At}
use Rattle.ir_reader.specs.Behind.{after_insts}
use Rattle.ir_reader.specs.Blocks.{after_inst, block_at, after_block, more_blocks_at, blocks_at, function_at, after_function, more_functions_at, functions_at}
use Rattle.ir_reader.proofs.ValueSteps.{by_more}

abbrev pair_of : ℕ → ℕ → ℕ × ℕ
pair_of a b = (a, b)

pub pairs : (a b c d : ℕ) → a ≡ c → b ≡ d → pair_of a b ≡ pair_of c d
pairs a b c d e f = ap (λ (z : ℕ). pair_of z b) e ∙ ap (λ (z : ℕ). pair_of c z) f

-- nothing was read before
pub no_front : {A : Type 0} (r : Got (List A)) → with_front [] r ≡ r
no_front (Ok x) = refl
no_front (Err d) = refl

pub none_after : (n : ℕ × ℕ) → n ≡ after_insts n []
none_after n = pairs n.0 n.1 (n.0 + 0) (n.1 + 0) (omega arith) (omega arith)

pub sum_one : {A : Type 0} (f : A → ℕ) (xs : List A) (x : A) → sum_by f (xs ++ x ∷ []) ≡ sum_by f xs + f x
sum_one f xs x =
    let last : sum_by f (x ∷ []) ≡ f x + sum_by f [] = sum_by-cons f x [] in
    omega (arith, sum_by-append f xs (x ∷ []), last)

pub one_after : (n : ℕ × ℕ) (is : List Inst) (i : Inst) → after_inst (after_insts n is) i ≡ after_insts n (is ++ i ∷ [])
one_after n is i = pairs (suc (n.0 + length is)) ((n.1 + sum_by definitions is) + definitions i) (n.0 + length (is ++ i ∷ [])) (n.1 + sum_by definitions (is ++ i ∷ []))
    (omega (arith, length-append is (i ∷ [])))
    (omega (arith, sum_one definitions is i))

-- ---- blocks

pub blocks_is : (version : ℕ) (n : ℕ × ℕ) (ts : List Lex) (b : Block) (rest : List Lex) → block_at version n ts ≡ Ok (b, rest) → blocks_at version n ts ≡ with_front (b ∷ []) (more_blocks_at version (after_block n b) rest)
unfolding blocks_at
blocks_is version n ts b rest e = rw e (by_more b (more_blocks_at version (after_block n b) rest))

blocks_fails : (version : ℕ) (n : ℕ × ℕ) (ts : List Lex) (d : Cause × List Lex) → block_at version n ts ≡ Err d → blocks_at version n ts ≡ Err d
unfolding blocks_at
blocks_fails version n ts d e = rw e refl

pub blocks_fail_as : (version : ℕ) (n : ℕ × ℕ) (text : List ℕ) (s : Stop) (ts : List Lex) → Fails text s (block_at version n ts) → Fails text s (blocks_at version n ts)
blocks_fail_as version n text Memory ts h = tt
blocks_fail_as version n text (At c rest) ts h = blocks_fails version n ts (c, lexes text rest.now) h

-- ---- functions

pub functions_is : (version : ℕ) (ts : List Lex) (f : Function) (rest : List Lex) → function_at version (0, 0) ts ≡ Ok (f, rest) → functions_at version ts ≡ with_front (f ∷ []) (more_functions_at version (after_function (0, 0) f) rest)
unfolding functions_at
functions_is version ts f rest e = rw e (by_more f (more_functions_at version (after_function (0, 0) f) rest))

functions_fails : (version : ℕ) (ts : List Lex) (d : Cause × List Lex) → function_at version (0, 0) ts ≡ Err d → functions_at version ts ≡ Err d
unfolding functions_at
functions_fails version ts d e = rw e refl

pub functions_fail_as : (version : ℕ) (text : List ℕ) (s : Stop) (ts : List Lex) → Fails text s (function_at version (0, 0) ts) → Fails text s (functions_at version ts)
functions_fail_as version text Memory ts h = tt
functions_fail_as version text (At c rest) ts h = functions_fails version ts (c, lexes text rest.now) h
