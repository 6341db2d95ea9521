use Rattle.instrument.proofs.Answered.{accepted_formed}
use Rattle.instrument.proofs.laws.translation_is_formed.Goals as goal

pub returns : goal.returns
returns c = accepted_formed
