use Rattle.ir_ast.proofs.Writable.{is_program}
use Rattle.ir_ast.proofs.laws.given_by_parts.Goals as goal

pub returns : goal.returns
returns c = is_program
