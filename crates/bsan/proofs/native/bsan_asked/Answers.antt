use Rattle.bsan.proofs.TopCall.{top_call}
use Rattle.bsan.proofs.native.bsan_asked.Goals as goal

pub returns : goal.returns
returns g c = λ words is. top_call _ _ _ words _ _ (c.answer.ensures words is)
