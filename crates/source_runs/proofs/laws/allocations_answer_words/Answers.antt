use Rattle.source_runs.proofs.Bytes.{allocation_law}
use Rattle.source_runs.proofs.laws.allocations_answer_words.Goals as goal

pub returns : goal.returns
returns c = allocation_law
