use Rattle.std.proofs.Common.{◌≡◌, false, drop}
use Rattle.std.specs.Prelude.{◌↔◌}
use Rattle.ir_ast.specs.Tokens.{Each}
use Rattle.target_code.specs.Formed.{is_push}
use Rattle.target_check.proofs.whole.no_push.Given as goal

abbrev pub invariant-loop-line : goal.invariant-loop-line
invariant-loop-line l = Each (λ m. is_push m ≡ false) (drop l.line-index l.lines) ↔ Each (λ m. is_push m ≡ false) l.lines
