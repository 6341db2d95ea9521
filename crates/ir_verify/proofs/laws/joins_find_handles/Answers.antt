use Rattle.ir_verify.proofs.Ways.{found}
use Rattle.ir_verify.proofs.laws.joins_find_handles.Goals as goal

pub returns : goal.returns
returns c = found
