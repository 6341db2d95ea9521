use Rattle.bsan.proofs.TopCall.{top_call}
use Rattle.bsan.proofs.top.bsan_alone.Goals as goal

pub returns : goal.returns
returns g c = top_call _ _ _ _ _ _ c.answer.ensures
