use Rattle.std.proofs.Common.{drop, length}
use Rattle.std.specs.Prelude.{◌↔◌}
use Rattle.ir_ast.specs.Tokens.{Each}
use Rattle.target_check.specs.Stretches.{BlockFits}
use Rattle.target_check.proofs.whole.blocks_fit.Given as goal

abbrev pub invariant-loop-block : goal.invariant-loop-block
invariant-loop-block l = Each (BlockFits l.slots (length l.all) l.functions) (drop l.block-index l.all) ↔ Each (BlockFits l.slots (length l.all) l.functions) l.all
