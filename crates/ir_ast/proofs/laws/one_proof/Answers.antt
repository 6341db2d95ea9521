use Rattle.ir_ast.proofs.Single.{program_prop}
use Rattle.ir_ast.proofs.laws.one_proof.Goals as goal

pub returns : goal.returns
returns c = program_prop
