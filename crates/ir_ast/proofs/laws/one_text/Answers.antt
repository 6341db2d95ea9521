use Rattle.ir_ast.proofs.Placed.{one_text}
use Rattle.ir_ast.proofs.laws.one_text.Goals as goal

pub returns : goal.returns
returns c = one_text
