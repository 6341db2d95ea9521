use Rattle.workload.proofs.Grammar.{instructions}
use Rattle.workload.proofs.laws.made_instructions.Goals as goal

pub returns : goal.returns
returns c = instructions
