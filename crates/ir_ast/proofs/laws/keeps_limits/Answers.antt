use Rattle.ir_ast.proofs.Limits.{keeps_limits}
use Rattle.ir_ast.proofs.laws.keeps_limits.Goals as goal

pub returns : goal.returns
returns c = keeps_limits
