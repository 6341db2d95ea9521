-- What is known of the blocks to which a goal goes.
use Rattle.std.proofs.Common.{ℕ, zero, suc, List, [], ◌∷◌, lit<}
use Rattle.std.specs.Prelude.{slice_get}
use Rattle.ir_ast.specs.Tokens.{Each}
use Rattle.ir_ast.specs.declared.program.Block.{Block}
use Rattle.instrument.specs.Translation.{params_at}
use Rattle.instrument.specs.Names.{Numbered, BlockNumbered}

pub few_params : (bs : List Block) (n : ℕ) → Each BlockNumbered bs → Numbered (params_at (slice_get bs n))
few_params [] zero h = lit< tt
few_params [] (suc n) h = lit< tt
few_params (b ∷ bs) zero h = h.0.params
few_params (b ∷ bs) (suc n) h = few_params bs n h.1
