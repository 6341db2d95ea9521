use Rattle.ir_reader.proofs.CanonicalText.{reads_canonical}
use Rattle.ir_reader.proofs.laws.reads_canonical.Goals as goal

pub returns : goal.returns
returns c = reads_canonical
