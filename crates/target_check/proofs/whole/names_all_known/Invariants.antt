use Rattle.std.proofs.Common.{drop}
use Rattle.std.specs.Prelude.{◌↔◌}
use Rattle.ir_ast.specs.Tokens.{Each}
use Rattle.target_code.specs.Formed.{NamesKnown}
use Rattle.target_check.proofs.whole.names_all_known.Given as goal

abbrev pub invariant-loop-line : goal.invariant-loop-line
invariant-loop-line l = Each (NamesKnown l.slots l.blocks l.functions) (drop l.line-index l.lines) ↔ Each (NamesKnown l.slots l.blocks l.functions) l.lines
