use Rattle.ir_verify.proofs.Ways.{assigned}
use Rattle.ir_verify.proofs.laws.uses_are_assigned.Goals as goal

pub returns : goal.returns
returns c = assigned
