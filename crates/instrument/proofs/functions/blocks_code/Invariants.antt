use Rattle.std.proofs.Common.{◌≡◌, ◌++◌, drop}
use Rattle.ir_ast.specs.Tokens.{Each}
use Rattle.ir_ast.specs.Numbers.{blocks_end}
use Rattle.instrument.specs.Translation.{blocks_lines}
use Rattle.instrument.specs.Names.{BlockNumbered}
use Rattle.instrument.proofs.functions.blocks_code.Given as goal

abbrev pub invariant-loop-block : goal.invariant-loop-block
invariant-loop-block l = record {
  rest : Each BlockNumbered (drop l.block-index l.blocks);
  end : blocks_end l.number (drop l.block-index l.blocks) ≡ blocks_end l.first l.blocks;
  so_far : l.code ++ blocks_lines l.scope l.number (drop l.block-index l.blocks) ≡ blocks_lines l.scope l.first l.blocks;
}
