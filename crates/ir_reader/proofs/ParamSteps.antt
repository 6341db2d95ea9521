-- Attributes and lists of parameters as the code reads them.
use Rattle.std.proofs.Common.{◌≡◌, ℕ, suc, Bool, true, false, List, [], ◌∷◌, Option, Some, None, Ok, Err, refl}
use Rattle.phrase.specs.declared.Cause.{Cause}
use Rattle.ir_ast.specs.Tokens.{Lex}
use Rattle.ir_ast.specs.declared.program.Param.{Param}
use Rattle.ir_reader.specs.View.{lexes, Fails, begins, with_front}
use Rattle.ir_reader.specs.declared.stop.Stop.{Stop}
use Rattle.ir_reader.specs.declared.stop.Stop.TheVariants.{Memory, At}
use Rattle.ir_ast.specs.declared.mark.Mark.TheVariants.{OpenRound}
use Rattle.ir_reader.specs.Wants.{begins_if, is_mark, is_any_word}
use Rattle.ir_reader.specs.Blocks.{some_attr_at, optional_attr_at, param_at, more_params_at, params_at, some_params_at, round_params_at, block_params_at}
use Rattle.ir_reader.proofs.ValueSteps.{by_more, by_listed}

pub attr_taken : (version : ℕ) (ts : List Lex) → begins (begins_if is_any_word) ts ≡ true → optional_attr_at version ts ≡ (some_attr_at version) ts
unfolding optional_attr_at some_attr_at
attr_taken version [] e = absurd cc
attr_taken version (l ∷ ls) e = rw e refl

pub attr_left : (version : ℕ) (ts : List Lex) → begins (begins_if is_any_word) ts ≡ false → optional_attr_at version ts ≡ Ok (None, ts)
unfolding optional_attr_at
attr_left version [] e = refl
attr_left version (l ∷ ls) e = rw e refl

pub params_is : (attrs : Option ℕ) (n : ℕ) (ts : List Lex) (p : Param) (rest : List Lex) → param_at attrs n ts ≡ Ok (p, rest) → params_at attrs n ts ≡ with_front (p ∷ []) (more_params_at attrs (suc n) rest)
unfolding params_at
params_is attrs n ts p rest e = rw e (by_more p (more_params_at attrs (suc n) rest))

params_fails : (attrs : Option ℕ) (n : ℕ) (ts : List Lex) (d : Cause × List Lex) → param_at attrs n ts ≡ Err d → params_at attrs n ts ≡ Err d
unfolding params_at
params_fails attrs n ts d e = rw e refl

pub params_fail_as : (attrs : Option ℕ) (n : ℕ) (text : List ℕ) (s : Stop) (ts : List Lex) → Fails text s (param_at attrs n ts) → Fails text s (params_at attrs n ts)
params_fail_as attrs n text Memory ts h = tt
params_fail_as attrs n text (At c rest) ts h = params_fails attrs n ts (c, lexes text rest.now) h

pub params_some : (version : ℕ) (ts : List Lex) → begins (begins_if is_any_word) ts ≡ true → some_params_at version ts ≡ params_at (Some version) 0 ts
unfolding some_params_at
params_some version [] e = absurd cc
params_some version (l ∷ ls) e = rw e (by_listed (params_at (Some version) 0 (l ∷ ls)))

pub params_none : (version : ℕ) (ts : List Lex) → begins (begins_if is_any_word) ts ≡ false → some_params_at version ts ≡ Ok ([], ts)
unfolding some_params_at
params_none version [] e = refl
params_none version (l ∷ ls) e = rw e refl

pub block_params_round : (n : ℕ) (ts : List Lex) → begins (begins_if (is_mark OpenRound)) ts ≡ true → block_params_at n ts ≡ round_params_at n ts
unfolding block_params_at
block_params_round n [] e = absurd cc
block_params_round n (l ∷ ls) e = rw e (by_listed (round_params_at n (l ∷ ls)))

pub block_params_none : (n : ℕ) (ts : List Lex) → begins (begins_if (is_mark OpenRound)) ts ≡ false → block_params_at n ts ≡ Ok ([], ts)
unfolding block_params_at
block_params_none n [] e = refl
block_params_none n (l ∷ ls) e = rw e refl
